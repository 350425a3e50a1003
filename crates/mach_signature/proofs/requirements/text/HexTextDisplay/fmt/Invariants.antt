use Rattle.std.proofs.Common.{take}
use Rattle.std.specs.Fmt.{HasWritten, IsPlainFormatter}
use Rattle.std.specs.List.{flat_map}
use Rattle.mach_signature.specs.RequirementTexts.{two_digits}
use Rattle.mach_signature.proofs.requirements.text.HexTextDisplay.fmt.Given as goal

abbrev pub invariant-bytes : goal.invariant-bytes
invariant-bytes g l =
    IsPlainFormatter l.initial.f → HasWritten g.W.Write.write_str_gives l.initial.f (flat_map two_digits (take l.byte-index l.byte-items)) l.f
