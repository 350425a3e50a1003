use Rattle.std.proofs.Common.{ℕ, length, min, refl}
use Rattle.std.proofs.lemmas.List.{drop-replicate}
use Rattle.goblin_mach_c.proofs.errors.text_of.Goals as goal

pub returns-clause-words : goal.returns-clause-words
returns-clause-words c = rw (c.copy_from_slice.ensures.after, c.min-end.ensures, drop-replicate {X = ℕ} (min (length c.args.words.now) 123) 124 0) refl
