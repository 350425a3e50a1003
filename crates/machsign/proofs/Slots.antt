-- At most eleven special slots are shown, and those that are left are visited in order.
use Rattle.std.proofs.Common.{◌≡◌, ◌≤◌, ◌+◌, ◌∙◌, ◌∷◌, [], ℕ, suc, List, Option, Some, None, length, map, take, ap, arith}
use Rattle.std.proofs.lemmas.List.{take_all}
use Rattle.std.proofs.lemmas.List.FromFn.{length-range_with_len}
use Rattle.std.specs.Prelude.{filter_map}
use Rattle.std.specs.List.{range_with_len, cons_option}
use Rattle.mach_signature.specs.AsSigned.{SignedImage}
use Rattle.mach_signature.specs.Directories.{Directory}
use Rattle.mach_signature.specs.Special.{SlotView}
use Rattle.machsign.specs.Special.{slot_in, slots_in, slot_reported}
use Rattle.machsign.specs.SpecialLeft.{slots_yet, slot_rows_left}
use Rattle.machsign.specs.declared.form.Form.{Form}
use Rattle.machsign.specs.declared.special.SpecialSlots.{SpecialSlots}
use Rattle.machsign.proofs.Rows.{row}

one_at_most : {V : Type 0} (o : Option V) (ys : List V) (n : ℕ) → length ys ≤ n → length (cons_option o ys) ≤ suc n
one_at_most None ys n few = omega (arith, few)
one_at_most (Some y) ys n few = omega (arith, few)

no_more : {V : Type 0} (f : ℕ → Option V) (xs : List ℕ) → length (filter_map f xs) ≤ length xs
no_more f [] = omega arith
no_more f (x ∷ xs) = one_at_most (f x) (filter_map f xs) (length xs) (no_more f xs)

pub few_slots : (form : Form) (x : SignedImage) (d : Directory) → length (slots_in form x d) ≤ 11
few_slots form x d = omega (arith, no_more (λ k. slot_in form x d (k + 1)) (range_with_len 0 11), length-range_with_len 0 11)

pub all_slots : (form : Form) (x : SignedImage) (d : Directory) → take 11 (slots_in form x d) ≡ slots_in form x d
all_slots form x d = take_all 11 (slots_in form x d) (few_slots form x d)

-- the rows of the slots that are left to print, in a form
pub slot_rows_are : (it : SpecialSlots) (form : Form) (slots : List SlotView) → slots_yet it ≡ slots → it.form ≡ form
    → slot_rows_left it ≡ map (row (slot_reported form)) slots
slot_rows_are it form slots are is = ap (λ (xs : List SlotView). map (row (slot_reported it.form)) xs) are
    ∙ ap (λ (f : Form). map (row (slot_reported f)) slots) is
