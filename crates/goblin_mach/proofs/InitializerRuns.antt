-- The first initializer that is left of a section.
use Rattle.std.proofs.Common.{◌≡◌, ◌%◌, ◌^◌, ◌+◌, ◌*◌, ◌/◌, ◌∷◌, ℕ, List, Ok, Some, ap, drop, length, nat_lt, ◌∙◌}
use Rattle.std.proofs.lemmas.Bool.{ltb-true}
use Rattle.std.proofs.lemmas.Option.{cond_some}
use Rattle.mach_base.specs.Number.{number}
use Rattle.mach_base.proofs.ItemLists.{items_from-first}
use Rattle.mach_parts.specs.declared.segment.numbered.NumberedSection.{NumberedSection}
use Rattle.goblin_mach.specs.Initializers.{InitializerInput, init_slot, initializer_at, initializer_target, initializers_from}

pub first_left : (x : InitializerInput) (n : NumberedSection) (held : List ℕ) (size k place stored : ℕ)
    → init_slot x.ctx.le held size k ≡ Some (place, stored)
    → initializers_from x n held size k
    ≡ Ok (record { section = n; slot = (n.section.addr + place) % 2 ^ 64; target = initializer_target x n.section.flags stored })
    ∷ initializers_from x n held size (k + 1)
first_left x n held size k place stored e =
    let found = cond_some (nat_lt k (length held / size)) (k * size, number x.ctx.le size (drop (k * size) held)) (place, stored) e in
    items_from-first (initializer_at x n held size) k (length held / size) (ltb-true k (length held / size) found.0)
    ∙ ap (λ (p : ℕ × ℕ).
    Ok (record { section = n; slot = (n.section.addr + p.0) % 2 ^ 64; target = initializer_target x n.section.flags p.1 })
    ∷ initializers_from x n held size (k + 1)) found.1
