-- The special slots have no fault exactly when each seals what is there.
use Rattle.std.proofs.Common.{◌≡◌, ◌≤◌, ◌<◌, ◌⊎◌, ℕ, zero, suc, ◌+◌, ◌-◌, Bool, true, false, cond, List, [], ◌∷◌, ◌++◌, Option, Some, None, Result, Ok, Err}
use Rattle.std.proofs.Common.{refl, sym, ap, subst, ◌∙◌, inl, inr, arith}
use Rattle.std.specs.Prelude.{nat_lt, nat_le, ◌==◌, ◌&&◌, if◌then◌else◌, IsTrue}
use Rattle.std.specs.Str.{bytes_eq}
use Rattle.std.proofs.lemmas.Bool.{ltb-false, ltb-true, leb-true, leb-false, lt-ltb, le-ltb, le-leb, lt-leb, and_parts, cases_Bool, cases_lt}
use Rattle.std.proofs.lemmas.Slice.Eq.{bytes_eq-Decides}
use Rattle.mach_base.specs.Fault.{Fault}
use Rattle.mach_signature.specs.Directories.{Directory, special_slot_of, special_slot_bytes}
use Rattle.mach_signature.specs.Hashes.{hash_of}
use Rattle.mach_signature.specs.Slots.{is_outside}
use Rattle.mach_signature.specs.SpecialFaults.{component_of, is_unsealing, sealed_fault, special_fault_by, special_fault, unsealed_entry, special_faults_of}
use Rattle.mach_signature.specs.SpecialFaults.{IsSealed, IsSpecialAsSigned}
use Rattle.mach_signature.specs.SuperBlob.{SuperBlob, slot_at}
use Rattle.mach_signature.specs.declared.fault.SpecialFault.{SpecialFault}
use Rattle.mach_signature.specs.declared.fault.SpecialFault.TheVariants.{Unknown, Unsealed, Changed, Absent}
use Rattle.mach_signature.proofs.ReportedNone.{none_if, some_if, reported_of-none, none-reported_of, both_empty, empty_both}

pub true_from : (b : Bool) → b ≡ true → IsTrue b
true_from b e = e

pub from_true : (b : Bool) → IsTrue b → b ≡ true
from_true b h = h

not_true_from : (b : Bool) → b ≡ false → IsTrue b → ⊥
not_true_from b e h = absurd (cc)

from_not_true : (b : Bool) → (IsTrue b → ⊥) → b ≡ false
from_not_true true h = absurd (h refl)
from_not_true false h = refl

-- ---- a known slot

two_tests : (zero same : Bool) (a b : SpecialFault) → cond zero (Some a) (cond same None (Some b)) ≡ None → (zero ≡ false) × (same ≡ true)
two_tests true same a b e = absurd (cc)
two_tests false true a b e = (refl, refl)
two_tests false false a b e = absurd (cc)

either_test : (zero out : Bool) (a : SpecialFault) → cond zero None (cond out None (Some a)) ≡ None → (zero ≡ true) ⊎ (out ≡ true)
either_test true out a e = inl refl
either_test false true a e = inr refl
either_test false false a e = absurd (cc)

sealed : (d : Directory) (k : ℕ) (slot : List ℕ) (there : Result (Option (List ℕ)) Fault) → sealed_fault d k slot there ≡ None → IsSealed d k slot there
sealed d k slot (Err f) e = tt
sealed d k slot (Ok (Some bytes)) e =
    let tests = two_tests (is_unsealing slot) (bytes_eq (hash_of d.hash bytes) slot) (Unsealed k) (Changed k) e in
    (not_true_from (is_unsealing slot) tests.0, sym ((bytes_eq-Decides (hash_of d.hash bytes) slot).0 tests.1))
sealed d k slot (Ok None) e = elim (either_test (is_unsealing slot) (is_outside k) (Absent k) e) [
  | inl z ↦ inl (true_from (is_unsealing slot) z)
  | inr o ↦ inr (true_from (is_outside k) o)
]

unsealed_none : (zero out : Bool) (a : SpecialFault) → (zero ≡ true) ⊎ (out ≡ true) → cond zero None (cond out None (Some a)) ≡ None
unsealed_none true out a h = refl
unsealed_none false true a h = refl
unsealed_none false false a h = elim h [ inl e ↦ absurd (cc) | inr e ↦ absurd (cc) ]

unreported : (d : Directory) (k : ℕ) (slot : List ℕ) (there : Result (Option (List ℕ)) Fault) → IsSealed d k slot there → sealed_fault d k slot there ≡ None
unreported d k slot (Err f) s = refl
unreported d k slot (Ok (Some bytes)) s =
    let z : is_unsealing slot ≡ false = from_not_true (is_unsealing slot) s.0 in
    let same : bytes_eq (hash_of d.hash bytes) slot ≡ true = (bytes_eq-Decides (hash_of d.hash bytes) slot).1 (sym s.1) in
    ap (λ (b : Bool). cond b (Some (Unsealed k)) (cond (bytes_eq (hash_of d.hash bytes) slot) None (Some (Changed k)))) z
    ∙ ap (λ (b : Bool). cond b None (Some (Changed k))) same
unreported d k slot (Ok None) s = unsealed_none (is_unsealing slot) (is_outside k) (Absent k) (elim s [
  | inl z ↦ inl (from_true (is_unsealing slot) z)
  | inr o ↦ inr (from_true (is_outside k) o)
])

-- ---- all slots

slot_number : (d : Directory) (k : ℕ) (slot : List ℕ) → special_slot_of d k ≡ Some slot → (1 ≤ k) × (k ≤ d.head.n_special_slots)
slot_number d k slot e = elim (cases_Bool (nat_le 1 k && nat_le k d.head.n_special_slots)) [
  | inl inside ↦ let parts = and_parts (nat_le 1 k) (nat_le k d.head.n_special_slots) inside in
      (leb-true 1 k parts.0, leb-true k d.head.n_special_slots parts.1)
  | inr outside ↦ absurd (let wrong = rw outside at e in cc)
]

none_of_slot : (d : Directory) (s : SuperBlob) (plist : Option (List ℕ)) (k : ℕ) (slot : List ℕ)
    → special_fault d s plist k ≡ None → special_slot_of d k ≡ Some slot → special_fault_by d s plist k (Some slot) ≡ None
unfolding special_fault
none_of_slot d s plist k slot e there = ap (special_fault_by d s plist k) (sym there) ∙ e

known_slot : (d : Directory) (s : SuperBlob) (plist : Option (List ℕ)) (k : ℕ) (slot : List ℕ)
    → special_fault_by d s plist k (Some slot) ≡ None → k ≤ 11 → sealed_fault d k slot (component_of s plist k) ≡ None
known_slot d s plist k slot e low = let test : nat_lt 11 k ≡ false = le-ltb 11 k low in
    sym (ap (λ (b : Bool). cond b (cond (is_unsealing slot) None (Some (Unknown k))) (sealed_fault d k slot (component_of s plist k))) test) ∙ e

unknown_slot : (d : Directory) (s : SuperBlob) (plist : Option (List ℕ)) (k : ℕ) (slot : List ℕ)
    → special_fault_by d s plist k (Some slot) ≡ None → 11 < k → is_unsealing slot ≡ true
unknown_slot d s plist k slot e high = let test : nat_lt 11 k ≡ true = lt-ltb 11 k high in
    none_if (is_unsealing slot) (Unknown k)
    (sym (ap (λ (b : Bool). cond b (cond (is_unsealing slot) None (Some (Unknown k))) (sealed_fault d k slot (component_of s plist k))) test) ∙ e)

slot_unreported : (d : Directory) (s : SuperBlob) (plist : Option (List ℕ)) (k : ℕ) → IsSpecialAsSigned d s plist
    → (slot : Option (List ℕ)) → special_slot_of d k ≡ slot → special_fault_by d s plist k slot ≡ None
slot_unreported d s plist k whole None e = refl
slot_unreported d s plist k whole (Some slot) e = elim (cases_lt 11 k) [
  | inl high ↦
      let test : nat_lt 11 k ≡ true = lt-ltb 11 k high in
      let z : is_unsealing slot ≡ true = from_true (is_unsealing slot) (whole.unknown k slot e high) in
      ap (λ (b : Bool). cond b (cond (is_unsealing slot) None (Some (Unknown k))) (sealed_fault d k slot (component_of s plist k))) test
      ∙ ap (λ (b : Bool). cond b None (Some (Unknown k))) z
  | inr low ↦
      let test : nat_lt 11 k ≡ false = le-ltb 11 k low in
      ap (λ (b : Bool). cond b (cond (is_unsealing slot) None (Some (Unknown k))) (sealed_fault d k slot (component_of s plist k))) test
      ∙ unreported d k slot (component_of s plist k) (whole.known k slot e low)
]

special_unreported : (d : Directory) (s : SuperBlob) (plist : Option (List ℕ)) (k : ℕ) → IsSpecialAsSigned d s plist → special_fault d s plist k ≡ None
unfolding special_fault
special_unreported d s plist k whole = slot_unreported d s plist k whole (special_slot_of d k) refl

-- ---- blobs

entry_tests : (a b : Bool) (x y : SpecialFault) → cond a (Some x) (cond b (Some y) None) ≡ None → (a ≡ false) × (b ≡ false)
entry_tests true b x y e = absurd (cc)
entry_tests false true x y e = absurd (cc)
entry_tests false false x y e = (refl, refl)

tests_entry : (a b : Bool) (x y : SpecialFault) → a ≡ false → b ≡ false → cond a (Some x) (cond b (Some y) None) ≡ None
tests_entry true b x y e f = absurd (cc)
tests_entry false true x y e f = absurd (cc)
tests_entry false false x y e f = refl

abbrev unknown_test : ℕ → Bool
unknown_test slot = nat_le 12 slot && nat_le slot 0xfff

abbrev unsealed_test : Directory → ℕ → Bool
unsealed_test d slot = nat_le 1 slot && nat_le slot 11 && nat_lt d.head.n_special_slots slot

entry_known : (d : Directory) (slot : ℕ) → unsealed_entry d slot ≡ None → 12 ≤ slot → slot ≤ 0xfff → ⊥
entry_known d slot e low high =
    let tests = entry_tests (unknown_test slot) (unsealed_test d slot) (Unknown slot) (Unsealed slot) e in
    let a : nat_le 12 slot ≡ true = le-leb 12 slot low in
    let b : nat_le slot 0xfff ≡ true = le-leb slot 0xfff high in
    let t : unknown_test slot ≡ true = rw (a, b) refl in
    cc (tests.0)

entry_sealed : (d : Directory) (slot : ℕ) → unsealed_entry d slot ≡ None → 1 ≤ slot → slot ≤ 11 → slot ≤ d.head.n_special_slots
entry_sealed d slot e low high = elim (cases_lt d.head.n_special_slots slot) [
  | inr within ↦ within
  | inl above ↦ absurd (
      let tests = entry_tests (unknown_test slot) (unsealed_test d slot) (Unknown slot) (Unsealed slot) e in
      let a : nat_le 1 slot ≡ true = le-leb 1 slot low in
      let b : nat_le slot 11 ≡ true = le-leb slot 11 high in
      let c : nat_lt d.head.n_special_slots slot ≡ true = lt-ltb d.head.n_special_slots slot above in
      let t : unsealed_test d slot ≡ true = rw (a, b, c) refl in
      cc (tests.1))
]

no_unknown : (slot : ℕ) → (12 ≤ slot → slot ≤ 0xfff → ⊥) → unknown_test slot ≡ false
no_unknown slot not = elim (cases_Bool (unknown_test slot)) [
  | inr fails ↦ fails
  | inl holds ↦ absurd (let parts = and_parts (nat_le 12 slot) (nat_le slot 0xfff) holds in not (leb-true 12 slot parts.0) (leb-true slot 0xfff parts.1))
]

no_unsealed : (d : Directory) (slot : ℕ) → (1 ≤ slot → slot ≤ 11 → slot ≤ d.head.n_special_slots) → unsealed_test d slot ≡ false
no_unsealed d slot has = elim (cases_Bool (unsealed_test d slot)) [
  | inr fails ↦ fails
  | inl holds ↦ absurd (
      let outer = and_parts (nat_le 1 slot && nat_le slot 11) (nat_lt d.head.n_special_slots slot) holds in
      let parts = and_parts (nat_le 1 slot) (nat_le slot 11) outer.0 in
      let within = has (leb-true 1 slot parts.0) (leb-true slot 11 parts.1) in
      let above = ltb-true d.head.n_special_slots slot outer.1 in
      omega (arith, within, above))
]

entry_unreported : (d : Directory) (slot : ℕ) → (12 ≤ slot → slot ≤ 0xfff → ⊥) → (1 ≤ slot → slot ≤ 11 → slot ≤ d.head.n_special_slots)
    → unsealed_entry d slot ≡ None
entry_unreported d slot not has =
    tests_entry (unknown_test slot) (unsealed_test d slot) (Unknown slot) (Unsealed slot) (no_unknown slot not) (no_unsealed d slot has)

-- ---- both directions

before : (k : ℕ) → 1 ≤ k → (k - 1) + 1 ≡ k
before k low = omega (arith, low)

pub special_as_signed : (d : Directory) (s : SuperBlob) (plist : Option (List ℕ)) → special_faults_of d s plist ≡ [] → IsSpecialAsSigned d s plist
special_as_signed d s plist e =
    let parts = both_empty _ _ e in
    let slots = reported_of-none (λ k. special_fault d s plist (k + 1)) d.head.n_special_slots parts.0 in
    let entries = reported_of-none (λ k. unsealed_entry d (slot_at s k)) s.count parts.1 in
    let none : (k : ℕ) (slot : List ℕ) → special_slot_of d k ≡ Some slot → special_fault_by d s plist k (Some slot) ≡ None =
    (λ k slot there.
    let number = slot_number d k slot there in
    let same = before k number.0 in
    let at : special_fault d s plist ((k - 1) + 1) ≡ None = slots (k - 1) (omega (arith, number.0, number.1)) in
    none_of_slot d s plist k slot (ap (special_fault d s plist) (sym same) ∙ at) there) in
    record {
      known = λ k slot there low. sealed d k slot (component_of s plist k) (known_slot d s plist k slot (none k slot there) low);
      unknown = λ k slot there high. true_from (is_unsealing slot) (unknown_slot d s plist k slot (none k slot there) high);
      blobs_known = λ k below. entry_known d (slot_at s k) (entries k below);
      blobs_sealed = λ k below. entry_sealed d (slot_at s k) (entries k below);
    }

pub as_signed_special : (d : Directory) (s : SuperBlob) (plist : Option (List ℕ)) → IsSpecialAsSigned d s plist → special_faults_of d s plist ≡ []
as_signed_special d s plist whole = empty_both _ _
    (none-reported_of (λ k. special_fault d s plist (k + 1)) d.head.n_special_slots (λ k below. special_unreported d s plist (k + 1) whole))
    (none-reported_of (λ k. unsealed_entry d (slot_at s k)) s.count
    (λ k below. entry_unreported d (slot_at s k) (whole.blobs_known k below) (whole.blobs_sealed k below)))
