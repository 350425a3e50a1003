use Rattle.std.proofs.Common.{take}
use Rattle.std.specs.Fmt.{HasWritten, IsPlainFormatter}
use Rattle.std.specs.List.{flat_map}
use Rattle.mach_signature.specs.RequirementTexts.{dot_text}
use Rattle.mach_signature.proofs.requirements.text.DottedTextDisplay.fmt.Given as goal

abbrev pub invariant-bytes : goal.invariant-bytes
invariant-bytes g l =
    IsPlainFormatter l.initial.f → HasWritten g.W.Write.write_str_gives l.initial.f (flat_map dot_text (take l.byte-index l.byte-items)) l.f
