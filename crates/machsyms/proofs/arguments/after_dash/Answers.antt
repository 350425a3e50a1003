use Rattle.std.proofs.Common.{◌≡◌, ◌≢◌, ℕ, List, [], ◌∷◌, refl, ap, lit<}
use Rattle.std.proofs.lemmas.Bool.{ne_eqb}
use Rattle.std.proofs.lemmas.Str.Pattern.{strip_prefix_char}
use Rattle.machsyms.specs.LetterWords as defined
use Rattle.machsyms.proofs.arguments.after_dash.Goals as goal

nothing_after : (option : List ℕ) → ((rest : List ℕ) → option ≢ 0x2d ∷ rest) → [] ≡ defined.after_dash option
nothing_after [] other = refl
nothing_after (c ∷ cs) other = rw (ne_eqb c 0x2d (λ is. other cs (ap (λ d. d ∷ cs) is))) refl

pub returns-in-None : goal.returns-in-None
returns-in-None c =
    nothing_after c.args.option.now (rw c.in-None.is at (strip_prefix_char 0x2d c.args.option.now c.strip_prefix.result c.strip_prefix.ensures.cases (lit< tt)))
