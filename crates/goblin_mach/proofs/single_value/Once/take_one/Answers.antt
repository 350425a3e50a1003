use Rattle.std.proofs.Common.{inl, inr}
use Rattle.mach_load.specs.Variants.{command_of}
use Rattle.goblin_mach.specs.OpenImage.{IsOnceRefused}
use Rattle.goblin_mach.specs.Readings.{IsRefused}
use Rattle.goblin_mach.specs.Subjects.{table_by, id_by}
use Rattle.goblin_mach.proofs.Exits.{exit_in}
use Rattle.goblin_mach.proofs.CommandReadings.{put_itself}
use Rattle.goblin_mach.proofs.single_value.Once.take_one.Goals as goal

pub returns-clause-found : goal.returns-clause-found
returns-clause-found c = record {
  symbols = c.in_ok-put.ensures.kept;
  name = c.in_ok-put_text.ensures.kept;
  trie = put_itself _ _ _ c.put_readable.ensures;
  binds = put_itself _ _ _ c.put_readable-2.ensures;
}

pub returns-in_err-put-clause-refused : goal.returns-in_err-put-clause-refused
returns-in_err-put-clause-refused c =
    exit_in (IsRefused (table_by c.args.ctx c.args.bytes.now (command_of c.args.command.now)))
    (IsOnceRefused c.args.ctx c.args.bytes.now (command_of c.args.command.now)) _ _ c.from_residual.ensures.1 (λ f e. inl e) c.in_err-put.ensures.refused

pub returns-in_err-put_text-clause-refused : goal.returns-in_err-put_text-clause-refused
returns-in_err-put_text-clause-refused c =
    exit_in (IsRefused (id_by c.args.bytes.now (command_of c.args.command.now)))
    (IsOnceRefused c.args.ctx c.args.bytes.now (command_of c.args.command.now)) _ _ c.from_residual-in_err-put_text.ensures.1 (λ f e. inr e)
    c.in_err-put_text.ensures.refused
