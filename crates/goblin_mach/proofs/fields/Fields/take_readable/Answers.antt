use Rattle.mach_load.specs.Variants.{command_of}
use Rattle.goblin_mach.specs.Subjects.{lossy_segment_by, table_by, id_by, library_by, run_path_by, trie_by, binds_by}
use Rattle.goblin_mach.proofs.CommandReadings.{kept_more, last_kept}
use Rattle.goblin_mach.proofs.fields.Fields.take_readable.Goals as goal

pub returns-clause-found : goal.returns-clause-found
returns-clause-found g c = λ cs was.
    let bytes = c.args.bytes.now in
    let command = command_of c.args.command.now in
    let once = c.take_readable.ensures.found in
    record {
      segments = kept_more (lossy_segment_by c.args.ctx bytes) cs command _ _ was.segments c.in_ok-add_readable.ensures.kept;
      libs_are = kept_more (library_by bytes) cs command _ _ was.libs_are c.in_ok-add_readable_text.ensures.kept;
      rpaths = kept_more (run_path_by bytes) cs command _ _ was.rpaths c.in_ok-add_readable_text-2.ensures.kept;
      symbols = last_kept (table_by c.args.ctx bytes) cs command _ _ was.symbols once.symbols;
      name = last_kept (id_by bytes) cs command _ _ was.name once.name;
      trie = last_kept (trie_by bytes) cs command _ _ was.trie once.trie;
      binds = last_kept (binds_by bytes) cs command _ _ was.binds once.binds;
    }
