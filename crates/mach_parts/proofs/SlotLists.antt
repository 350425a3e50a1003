-- The slots of a section, one by one.
use Rattle.std.proofs.Common.{◌≡◌, ◌<◌, ◌≤◌, ℕ, suc, ◌+◌, ◌-◌, [], ◌∷◌, Result, Ok, Err, refl, ap, ◌∙◌, arith}
use Rattle.mach_base.specs.Fault.{Fault}
use Rattle.mach_parts.specs.Slots.{SlotTables, entry_then, slot_entry, slot_of_entry, slots_from}
use Rattle.mach_parts.specs.declared.slots.kind.SlotRun.{SlotRun}
use Rattle.mach_parts.specs.declared.slot.SlotEntry.{SlotEntry}

module _ (t : SlotTables) (r : SlotRun) where
  -- no slots, or the first and then the others
  pub none_more : (j : ℕ) → slots_from t r 0 j ≡ []
  unfolding slots_from
  none_more j = refl

  pub one_more : (most j : ℕ) → slots_from t r (suc most) j ≡ entry_then (slot_entry t r j) (slot_of_entry t r) (slots_from t r most (j + 1))
  unfolding slots_from
  one_more most j = refl

  -- after the last there is none
  pub no_slots : (j : ℕ) → r.count ≤ j → slots_from t r (r.count - j) j ≡ []
  no_slots j past =
      let none : r.count - j ≡ 0 = omega arith in
      ap (λ (most : ℕ). slots_from t r most j) none ∙ none_more j

  from_number : (j : ℕ) → j < r.count
      → slots_from t r (r.count - j) j ≡ entry_then (slot_entry t r j) (slot_of_entry t r) (slots_from t r (r.count - (j + 1)) (j + 1))
  from_number j inside =
      let more : r.count - j ≡ suc (r.count - (j + 1)) = omega arith in
      ap (λ (most : ℕ). slots_from t r most j) more ∙ one_more (r.count - (j + 1)) j

  -- the next slot is that of its entry
  pub next_slot : (j : ℕ) (e : SlotEntry) → j < r.count → slot_entry t r j ≡ Ok e
      → slots_from t r (r.count - j) j ≡ slot_of_entry t r e ∷ slots_from t r (r.count - (j + 1)) (j + 1)
  next_slot j e inside there =
      from_number j inside
      ∙ ap (λ (found : Result SlotEntry Fault). entry_then found (slot_of_entry t r) (slots_from t r (r.count - (j + 1)) (j + 1))) there

  -- if it has no entry, that fault is the last item
  pub last_slot : (j : ℕ) (f : Fault) → j < r.count → slot_entry t r j ≡ Err f → slots_from t r (r.count - j) j ≡ Err f ∷ []
  last_slot j f inside there =
      from_number j inside
      ∙ ap (λ (found : Result SlotEntry Fault). entry_then found (slot_of_entry t r) (slots_from t r (r.count - (j + 1)) (j + 1))) there
