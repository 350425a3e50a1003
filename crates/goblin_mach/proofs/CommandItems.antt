-- The commands of a chain one by one.
use Rattle.std.proofs.Common.{◌≡◌, ℕ, ◌+◌, List, [], ◌∷◌, map, length, Ok, refl, sym, ap, ◌∙◌}
use Rattle.mach_base.specs.declared.context.Endian.{Endian}
use Rattle.mach_load.specs.Command.{Command, cmdsize_of, command_at}
use Rattle.goblin_mach.specs.Chain.{IsChain}
unfoldable use Rattle.goblin_mach.specs.CommandItems.{commands_from}

-- what follows the first command is a chain
following : (le : Endian) (bytes : List ℕ) (s : ℕ) (c : Command) (cs : List Command) → IsChain le bytes s (c ∷ cs) → IsChain le bytes (s + cmdsize_of c) cs
following le bytes s c [] chain = record { there = tt; begins = tt; linked = tt }
following le bytes s c (d ∷ ds) chain = record {
  there = chain.there.1;
  begins = chain.linked.0 ∙ ap (λ (n : ℕ). n + cmdsize_of c) chain.begins;
  linked = chain.linked.1;
}

pub one_by_one : (le : Endian) (bytes : List ℕ) (s : ℕ) (cs : List Command) → IsChain le bytes s cs → commands_from le bytes s (length cs) ≡ map Ok cs
unfolding commands_from
one_by_one le bytes s [] chain = refl
one_by_one le bytes s (c ∷ cs) chain =
    let there : command_at le bytes s ≡ Ok c = ap (λ (n : ℕ). command_at le bytes n) (sym chain.begins) ∙ chain.there.0 in
    rw there (ap (λ others. Ok c ∷ others) (one_by_one le bytes (s + cmdsize_of c) cs (following le bytes s c cs chain)))
