use Rattle.std.proofs.Common.{◌≡◌, take}
use Rattle.std.specs.List.{list_all}
use Rattle.machinfo.specs.Words.{is_small_letter}
use Rattle.machinfo.proofs.selection.has_small_letters.Given as goal

abbrev pub invariant-loop-byte : goal.invariant-loop-byte
invariant-loop-byte l = l.all ≡ list_all is_small_letter (take l.byte-index l.text)
