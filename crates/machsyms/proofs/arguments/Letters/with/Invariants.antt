use Rattle.std.proofs.Common.{◌≡◌, drop}
use Rattle.machsyms.specs.LetterWords as defined
use Rattle.machsyms.proofs.arguments.Letters.with.Given as goal

abbrev pub invariant-letters : goal.invariant-letters
invariant-letters l = defined.letters_taken l.fn.self l.letters ≡ defined.letters_taken l.taken (drop l.letter-index l.letters)
