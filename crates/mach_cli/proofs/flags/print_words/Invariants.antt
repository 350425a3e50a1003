use Rattle.std.proofs.Common.{◌≡◌, ◌++◌, ℕ, List, map, drop, true}
use Rattle.std.specs.Io.KnownBytes.{Appends}
use Rattle.mach_records.specs.FlagNames.{flag_named}
use Rattle.mach_cli.specs.Flags.{flag_words_text}
use Rattle.mach_cli.proofs.flags.print_words.Given as goal

abbrev pub invariant-words : goal.invariant-words
invariant-words g l =
    (text : List ℕ) × Appends (g.O.Write.contents l.fn.out) (g.O.Write.contents l.out) text
    × (flag_words_text true (map flag_named l.words) l.flags
    ≡ text ++ flag_words_text l.left.is_first (map flag_named (drop l.flag-index l.words)) l.left.rest)
