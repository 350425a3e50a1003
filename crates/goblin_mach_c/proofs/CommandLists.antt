-- The commands from a place on, one by one.
use Rattle.std.proofs.Common.{◌≡◌, ◌<◌, ◌+◌, ◌-◌, ◌∙◌, ◌∷◌, [], ℕ, zero, suc, List, Ok, Err, refl, sym, ap, arith}
use Rattle.mach_base.specs.declared.context.Endian.{Endian}
use Rattle.mach_base.specs.Fault.{Fault}
use Rattle.mach_load.specs.Command.{Command, cmdsize_of, command_at}
use Rattle.goblin_mach_c.specs.CommandRows.{readable_commands_from, with_those_following}

pub first_command : (le : Endian) (bytes : List ℕ) (place count : ℕ) (c : Command) → 0 < count → command_at le bytes place ≡ Ok c
    → readable_commands_from le bytes place count ≡ c ∷ readable_commands_from le bytes (place + cmdsize_of c) (count - 1)
unfolding readable_commands_from
first_command le bytes place zero c some there = absurd (omega (arith, some))
first_command le bytes place (suc count) c some there =
    let one_less : suc count - 1 ≡ count = omega arith in
    ap (λ found. with_those_following found (λ d. readable_commands_from le bytes (place + cmdsize_of d) count)) there
    ∙ ap (λ n. c ∷ readable_commands_from le bytes (place + cmdsize_of c) n) (sym one_less)

pub no_command : (le : Endian) (bytes : List ℕ) (place count : ℕ) (f : Fault) → command_at le bytes place ≡ Err f
    → readable_commands_from le bytes place count ≡ []
unfolding readable_commands_from
no_command le bytes place zero f there = refl
no_command le bytes place (suc count) f there =
    ap (λ found. with_those_following found (λ d. readable_commands_from le bytes (place + cmdsize_of d) count)) there

pub none_from : (le : Endian) (bytes : List ℕ) (place count : ℕ) → count ≡ 0 → readable_commands_from le bytes place count ≡ []
unfolding readable_commands_from
none_from le bytes place zero none = refl
none_from le bytes place (suc count) none = absurd (omega (arith, none))
