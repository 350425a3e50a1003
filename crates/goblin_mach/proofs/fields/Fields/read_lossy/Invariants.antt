use Rattle.std.proofs.Common.{◌≡◌, map, take}
use Rattle.mach_base.specs.KeptText.{kept_bytes}
use Rattle.mach_load.specs.Variants.{command_of}
use Rattle.goblin_mach.specs.OpenImage.{AreTaken}
use Rattle.goblin_mach.specs.Subjects.{lossy_segment_by}
use Rattle.goblin_mach.proofs.fields.Fields.read_lossy.Given as goal

abbrev pub invariant-loop-command : goal.invariant-loop-command
invariant-loop-command g l =
    let cs = take l.command-index (map command_of l.commands) in
    record { found : AreTaken l.ctx l.bytes (lossy_segment_by l.ctx l.bytes) cs l.fields; names : kept_bytes l.names ≡ l.bytes }
