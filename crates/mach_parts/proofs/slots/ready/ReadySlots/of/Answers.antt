use Rattle.std.proofs.Common.{ℕ, ◌≡◌, ◌≤◌, ◌+◌, ◌-◌, ◌*◌, ◌∙◌, ◌++◌, List, Result, ap, arith, drop, length, refl, subst, sym, take}
use Rattle.mach_base.specs.Fault.{Fault}
use Rattle.mach_parts.specs.IndirectSymbols.{IndirectTable}
use Rattle.mach_parts.specs.ReadySlots.{ready_count, ready_slots}
use Rattle.mach_parts.specs.Slots.{Slot, slots_from}
use Rattle.mach_parts.proofs.ReadyLists.{none_ready, ready_first}
use Rattle.mach_parts.proofs.slots.ready.ReadySlots.of.Goals as goal

pub returns-in_default-clause-slots : goal.returns-in_default-clause-slots
returns-in_default-clause-slots c t is =
    let r = c.args.run.now in
    let s = c.none.result in
    let count = ready_count s in
    let none = c.none.ensures in
    let whole : r.count - count ≡ r.count = omega (arith, none) in
    ap (λ (many : ℕ). ready_slots t s.run many s.entries.now s.address s.index ++ slots_from t r (r.count - count) count) none
    ∙ (ap (λ (ready : List (Result Slot Fault)). ready ++ slots_from t r (r.count - count) count) (none_ready t s.run s.entries.now s.address s.index)
    ∙ (ap (λ (n : ℕ). slots_from t r n count) whole ∙ ap (λ (j : ℕ). slots_from t r r.count j) none))

pub returns-clause-slots : goal.returns-clause-slots
returns-clause-slots c t is =
    let r = c.args.run.now in
    let n = c.count_ready-count.result in
    let rest = c.in-Some.entries.now in
    let entries = take (4 * n) rest in
    let known = c.count_ready-count.ensures in
    let count = ap (λ (table : IndirectTable). table.count) is in
    let made = ready_first t r n rest entries known.within known.addresses (omega (arith, count, c.len.ensures, known.entries))
    (omega (arith, count, c.len.ensures, c.len.type_inv))
    (subst (λ (table : IndirectTable). table.start + 4 * r.first ≤ length table.bytes) (sym is) c.in-Some.ensures.there) known.bytes
    (subst (λ (table : IndirectTable). rest ≡ drop (table.start + 4 * r.first) table.bytes) (sym is) c.in-Some.ensures.bytes) refl in
    subst (λ (k : ℕ). ready_slots t r k entries r.address r.first ++ slots_from t r (r.count - k) k ≡ slots_from t r r.count 0) (sym made.0) made.1
