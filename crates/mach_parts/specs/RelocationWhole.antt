-- A relocation is determined by its values, which its record must prove. The
-- proof is in specs, because a record's own facts may cite only what is in specs.
use Rattle.std.specs.Prelude.{◌≡◌, ℕ, ◌+◌, ◌-◌, ◌^◌, true, ℤ, pos, negsuc, [], ◌∷◌, nat_lt, if◌then◌else◌}
use Rattle.std.proofs.Common.{◌≤◌, ◌∙◌, ap, inl, inr, lt-ltb, le-ltb, le_trans, le-add_right, pred, add-one, subst, sym}
use Rattle.std.proofs.Math.Nat.{sub-suc, sub-le-sub_left}
use Rattle.std.proofs.Math.Arith.{sub-sub_self}
use Rattle.std.proofs.lemmas.Bool.{cases_lt}
use Rattle.mach_base.specs.Record.{number_is, bytes_are}
use Rattle.mach_parts.specs.Relocation.{value_of_signed, signed_of, relocation_values, relocation_of_values}
use Rattle.mach_parts.specs.declared.relocation.RelocationInfo.{RelocationInfo}

whole_pos : (n : ℕ) → signed_of (value_of_signed (pos n)) ≡ pos n
whole_pos n = elim (cases_lt n (2 ^ 31)) [
  | inl low ↦
      let fits : nat_lt n (2 ^ 31) ≡ true = lt-ltb n (2 ^ 31) low in
      ap (λ small. signed_of (if small then number_is n else bytes_are (n ∷ []))) fits
      ∙ ap (λ small. if small then pos n else negsuc (2 ^ 32 - (n + 1))) fits
  | inr high ↦ ap (λ small. signed_of (if small then number_is n else bytes_are (n ∷ []))) (le-ltb n (2 ^ 31) high)
]

whole_negsuc : (n : ℕ) → signed_of (value_of_signed (negsuc n)) ≡ negsuc n
whole_negsuc n = elim (cases_lt n (2 ^ 31)) [
  | inl low ↦
      let fits : nat_lt n (2 ^ 31) ≡ true = lt-ltb n (2 ^ 31) low in
      let less : n + 1 ≤ 2 ^ 31 = subst (λ (m : ℕ). m ≤ 2 ^ 31) (sym (add-one n)) low in
      let above : 2 ^ 31 ≤ 2 ^ 32 - (n + 1) = sub-le-sub_left less (2 ^ 32) in
      let back : 2 ^ 32 - (2 ^ 32 - (n + 1) + 1) ≡ n =
      ap (λ (m : ℕ). 2 ^ 32 - m) (add-one (2 ^ 32 - (n + 1))) ∙ sub-suc (2 ^ 32) (2 ^ 32 - (n + 1))
      ∙ ap pred (sub-sub_self (le_trans less (le-add_right (2 ^ 31) (2 ^ 31))) ∙ add-one n) in
      ap (λ small. signed_of (if small then number_is (2 ^ 32 - (n + 1)) else bytes_are (n ∷ n ∷ []))) fits
      ∙ ap (λ small. if small then pos (2 ^ 32 - (n + 1)) else negsuc (2 ^ 32 - (2 ^ 32 - (n + 1) + 1))) (le-ltb (2 ^ 32 - (n + 1)) (2 ^ 31) above)
      ∙ ap negsuc back
  | inr high ↦ ap (λ small. signed_of (if small then number_is (2 ^ 32 - (n + 1)) else bytes_are (n ∷ n ∷ []))) (le-ltb n (2 ^ 31) high)
]

-- a signed number is determined by its value
signed_whole : (z : ℤ) → signed_of (value_of_signed z) ≡ z
signed_whole (pos n) = whole_pos n
signed_whole (negsuc n) = whole_negsuc n

-- a relocation is determined by its values
pub relocation_whole : (r : RelocationInfo) → relocation_of_values (relocation_values r) ≡ r
relocation_whole r =
    ap (λ (z : ℤ). let made : RelocationInfo = record { r_address = z; r_info = r.r_info } in made) (signed_whole r.r_address)
