-- What a run of the program writes, and its exit status.
use Rattle.std.specs.Prelude.{◌≡◌, ◌≤◌, ℕ, Bool, List, [], codes, Option, if◌then◌else◌}
use Rattle.std.specs.Io.KnownBytes.{Appends}
use Rattle.mach_cli.specs.declared.cpu.Cpu.{Cpu}
use Rattle.mach_resolve.specs.Given.{GivenFile}
use Rattle.machresolve.specs.Lines.{printed, message_line, messages_of_report}
use Rattle.machresolve.specs.Report.{Report, IsProgramReport, answers_in, all_whole}

-- the exit status: 0 if all is answered and settled and nothing was refused, else 1
abbrev pub run_status : Bool → ℕ
run_status whole = if whole then 0 else 1

-- the report of a program was written on the two outputs, and this is the status; at most `limit` bindings are answered
pub record Runs (wanted : Option Cpu) (limit : ℕ) (program : GivenFile) (libraries : List GivenFile) (status : ℕ)
    (out_old out_new err_old err_new : Option (List ℕ)) : Type 0 where
  pub report : Report
  pub is_report : IsProgramReport limit program libraries wanted report
  pub few : answers_in report ≤ limit
  pub status_is : status ≡ run_status (all_whole report)
  pub text : Appends out_old out_new (printed (record { limit = limit; program = program; libraries = libraries }) report)
  pub reported : Appends err_old err_new (messages_of_report (record { limit = limit; program = program; libraries = libraries }) report)

-- What a run writes, and its status: the report of a program, or only that an allocation was refused.
pub data IsRun (wanted : Option Cpu) (limit : ℕ) (program : GivenFile) (libraries : List GivenFile) (status : ℕ)
    (out_old out_new err_old err_new : Option (List ℕ)) : Type 0 where
  resolved : Runs wanted limit program libraries status out_old out_new err_old err_new
      → IsRun wanted limit program libraries status out_old out_new err_old err_new
  memory_refused : status ≡ 1 → Appends out_old out_new [] → Appends err_old err_new (message_line (codes "out of memory"))
      → IsRun wanted limit program libraries status out_old out_new err_old err_new
