use Rattle.std.proofs.Common.{[], ◌∷◌, inl, inr}
use Rattle.mach_load.specs.Variants.{command_of}
use Rattle.goblin_mach.specs.Image.{IsUnreadable, segment, library, id, run_path, table}
use Rattle.goblin_mach.specs.OpenImage.{IsOnceRefused}
use Rattle.goblin_mach.specs.Subjects.{segment_by, table_by, id_by, library_by, run_path_by, trie_by, binds_by}
use Rattle.goblin_mach.proofs.Exits.{exit_in, ok_then, ok_with, refused_in}
use Rattle.goblin_mach.proofs.CommandReadings.{kept_more, last_kept, refused_one}
use Rattle.goblin_mach.proofs.fields.Fields.take.Goals as goal

pub returns-in_err-add-clause-refused : goal.returns-in_err-add-clause-refused
returns-in_err-add-clause-refused g c =
    exit_in _ (IsUnreadable c.args.ctx c.args.bytes.now (command_of c.args.command.now ∷ [])) _ _ c.from_residual.ensures.1
    (λ f e. segment f (refused_one (segment_by c.args.ctx c.args.bytes.now) (command_of c.args.command.now) f e)) c.in_err-add.ensures.refused

pub returns-in_err-add_text-clause-refused : goal.returns-in_err-add_text-clause-refused
returns-in_err-add_text-clause-refused g c =
    exit_in _ (IsUnreadable c.args.ctx c.args.bytes.now (command_of c.args.command.now ∷ [])) _ _ c.from_residual-in_err-add_text.ensures.1
    (λ f e. library f (refused_one (library_by c.args.bytes.now) (command_of c.args.command.now) f e)) c.in_err-add_text.ensures.refused

pub returns-in_err-add_text-2-clause-refused : goal.returns-in_err-add_text-2-clause-refused
returns-in_err-add_text-2-clause-refused g c =
    exit_in _ (IsUnreadable c.args.ctx c.args.bytes.now (command_of c.args.command.now ∷ [])) _ _ c.from_residual-in_err-add_text-2.ensures.1
    (λ f e. run_path f (refused_one (run_path_by c.args.bytes.now) (command_of c.args.command.now) f e)) c.in_err-add_text-2.ensures.refused

pub returns-clause-refused : goal.returns-clause-refused
returns-clause-refused g c =
    let command = command_of c.args.command.now in
    refused_in (IsOnceRefused c.args.ctx c.args.bytes.now command) (IsUnreadable c.args.ctx c.args.bytes.now (command ∷ [])) c.take.result (λ f e. elim e [
      | inl table_e ↦ table f (refused_one (table_by c.args.ctx c.args.bytes.now) command f table_e)
      | inr id_e ↦ id f (refused_one (id_by c.args.bytes.now) command f id_e)
    ]) c.take.ensures.refused

pub returns-clause-all : goal.returns-clause-all
returns-clause-all g c =
    ok_with c.take.result (λ tables ids. record {
      segments = (c.in_ok-add.ensures.read, tt);
      libraries = (c.in_ok-add_text.ensures.read, tt);
      ids = (ids, tt);
      run_paths = (c.in_ok-add_text-2.ensures.read, tt);
      tables = (tables, tt);
    }) c.take.ensures.tables c.take.ensures.ids

pub returns-clause-found : goal.returns-clause-found
returns-clause-found g c = λ cs was.
    let bytes = c.args.bytes.now in
    let command = command_of c.args.command.now in
    ok_then c.take.result (λ once. record {
      segments = kept_more (segment_by c.args.ctx bytes) cs command _ _ was.segments c.in_ok-add.ensures.kept;
      libs_are = kept_more (library_by bytes) cs command _ _ was.libs_are c.in_ok-add_text.ensures.kept;
      rpaths = kept_more (run_path_by bytes) cs command _ _ was.rpaths c.in_ok-add_text-2.ensures.kept;
      symbols = last_kept (table_by c.args.ctx bytes) cs command _ _ was.symbols once.symbols;
      name = last_kept (id_by bytes) cs command _ _ was.name once.name;
      trie = last_kept (trie_by bytes) cs command _ _ was.trie once.trie;
      binds = last_kept (binds_by bytes) cs command _ _ was.binds once.binds;
    }) c.take.ensures.found
