use Rattle.std.proofs.Common.{refl}
use Rattle.std.proofs.lemmas.Result.{IfOk-weaker}
use Rattle.mach_cli.specs.ShownCalls.{read_file, unread_file}
use Rattle.mach_cli.proofs.files.Run.show_file.Goals as goal

pub returns-in-Ok-clause-shown : goal.returns-in-Ok-clause-shown
returns-in-Ok-clause-shown g c = IfOk-weaker c.show_bytes.result _ _ (λ status shown. read_file _ status shown) c.show_bytes.ensures.shown

pub returns-in-Err-clause-shown : goal.returns-in-Err-clause-shown
returns-in-Err-clause-shown g c = unread_file c.in-Err.status c.in-Err.ensures refl
