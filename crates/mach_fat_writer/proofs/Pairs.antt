-- Two equal numbers in a list: once it is sorted they are neighbours.
use Rattle.std.proofs.Common.{◌≡◌, ◌==◌, ◌||◌, ℕ, suc, ◌+◌, ◌*◌, ◌^◌, ◌<◌, ◌≤◌, Bool, true}
use Rattle.std.proofs.Common.{false, cond, List, [], ◌∷◌, length, map, get_or, None, Some, inl, inr}
use Rattle.std.proofs.Common.{refl, sym, ap, ◌∙◌, subst, arith}
use Rattle.std.specs.List.{list_any, sum_by}
use Rattle.std.specs.List.Sorted.{IsPermutation, IsNonDecreasingBy}
use Rattle.std.proofs.lemmas.Bool.{cases_Bool, cases_lt, eqb-true, eqb-false, eq-eqb, ne_eqb, or_cases, or_left, or_right, and_parts, and_from}
use Rattle.std.proofs.lemmas.List.Sorted.{sum_by-IsPermutation, IsNonDecreasingBy-drop}
use Rattle.std.proofs.lemmas.List.Sums.{sum_by-cons}
use Rattle.std.proofs.Math.Nat.{mod-lt}
use Rattle.mach_parts.specs.Cpu.{kind_of_cpu}
use Rattle.mach_fat_writer.specs.Entries.{FatEntryView, are_of_one_cpu, any_two, any_again, cpu_number}

-- 1 if two numbers are equal, else 0: summed, it counts how often a number occurs
abbrev one_at : ℕ → ℕ → ℕ
one_at k n = cond (k == n) 1 0

abbrev times : ℕ → List ℕ → ℕ
times k ns = sum_by (one_at k) ns

times_more : (k n : ℕ) (ns : List ℕ) → times k (n ∷ ns) ≡ one_at k n + times k ns
times_more k n ns = sum_by-cons (one_at k) n ns

same_bools : (a b : Bool) → (a ≡ true → b ≡ true) → (b ≡ true → a ≡ true) → a ≡ b
same_bools true b to back = sym (to refl)
same_bools false true to back = back refl
same_bools false false to back = refl

once : (k : ℕ) (ns : List ℕ) → list_any (λ n. k == n) ns ≡ true → 1 ≤ times k ns
once k [] e = absurd (cc)
once k (n ∷ ns) e = elim (cases_Bool (k == n)) [
  | inl here ↦ let one : one_at k n ≡ 1 = rw here refl in let sum = times_more k n ns in omega (arith, one, sum)
  | inr other ↦
      let later : list_any (λ m. k == m) ns ≡ true = sym (ap (λ (b : Bool). b || list_any (λ m. k == m) ns) other) ∙ e in
      let more = once k ns later in let sum = times_more k n ns in omega (arith, more, sum)
]

from_once : (k : ℕ) (ns : List ℕ) → 1 ≤ times k ns → list_any (λ n. k == n) ns ≡ true
from_once k [] some = absurd (omega arith)
from_once k (n ∷ ns) some = elim (cases_Bool (k == n)) [
  | inl here ↦ or_left (k == n) (list_any (λ m. k == m) ns) here
  | inr other ↦
      let none : one_at k n ≡ 0 = rw other refl in
      or_right (k == n) (list_any (λ m. k == m) ns) (from_once k ns (let sum = times_more k n ns in omega (arith, none, sum)))
]

abbrev any_same : List ℕ → Bool
any_same ns = any_two (λ m n. m == n) ns

twice : (ns : List ℕ) → any_same ns ≡ true → (k : ℕ) × (2 ≤ times k ns)
twice [] e = absurd (cc)
twice (n ∷ ns) e = elim (or_cases (list_any (λ m. n == m) ns) (any_same ns) e) [
  | inl here ↦
      let one : one_at n n ≡ 1 = rw (eq-eqb n n refl) refl in
      let more = once n ns here in
      (n, let sum = times_more n n ns in omega (arith, one, more, sum))
  | inr later ↦ let found = twice ns later in let sum = times_more found.0 n ns in (found.0, omega (arith, found.1, sum))
]

from_twice : (k : ℕ) (ns : List ℕ) → 2 ≤ times k ns → any_same ns ≡ true
from_twice k [] some = absurd (omega arith)
from_twice k (n ∷ ns) some = elim (cases_Bool (k == n)) [
  | inl here ↦
      let one : one_at k n ≡ 1 = rw here refl in
      let same : k ≡ n = eqb-true k n here in
      or_left (list_any (λ m. n == m) ns) (any_same ns)
      (subst (λ (j : ℕ). list_any (λ m. j == m) ns ≡ true) same (from_once k ns (let sum = times_more k n ns in omega (arith, one, sum))))
  | inr other ↦
      let none : one_at k n ≡ 0 = rw other refl in
      or_right (list_any (λ m. n == m) ns) (any_same ns) (from_twice k ns (let sum = times_more k n ns in omega (arith, none, sum)))
]

-- another order has the same repetitions
any_same-moved : (ms ns : List ℕ) → IsPermutation ms ns → any_same ns ≡ any_same ms
any_same-moved ms ns moved =
    same_bools (any_same ns) (any_same ms)
    (λ e. let found = twice ns e in from_twice found.0 ms (omega (arith, found.1, sum_by-IsPermutation (one_at found.0) ms ns moved)))
    (λ e. let found = twice ms e in from_twice found.0 ns (omega (arith, found.1, sum_by-IsPermutation (one_at found.0) ms ns moved)))

-- a number below all others doesn't occur among them
apart : (k : ℕ) (ns : List ℕ) → ((i : ℕ) → i < length ns → k < get_or ns i 0) → list_any (λ n. k == n) ns ≡ false
apart k [] below = refl
apart k (n ∷ ns) below =
    let first : k < n = below 0 (omega arith) in
    let test : (k == n) ≡ false = ne_eqb k n (λ same. omega (arith, same, first)) in
    rw test (apart k ns (λ i inside. below (suc i) (omega (arith, inside))))

-- in a sorted list a repeated number follows its equal
again_after : (last : ℕ) (ns : List ℕ) → IsNonDecreasingBy (λ n. n) (last ∷ ns)
    → any_again (Some last) ns ≡ (list_any (λ n. last == n) ns || any_same ns)
again_after last [] up = refl
again_after last (n ∷ ns) up =
    let later : IsNonDecreasingBy (λ m. m) (n ∷ ns) = IsNonDecreasingBy-drop (λ m. m) 1 (last ∷ n ∷ ns) up in
    let step = again_after n ns later in
    elim (cases_Bool (last == n)) [
      | inl same ↦ rw same refl
      | inr other ↦
          let first : last ≤ n = up 0 1 0 (omega arith) (omega arith) in
          let less : last < n = let distinct = eqb-false last n other in elim_le last n first distinct in
          let none : list_any (λ m. last == m) ns ≡ false =
          apart last ns (λ i inside. let next : n ≤ get_or ns i 0 = later 0 (suc i) 0 (omega arith) (omega (arith, inside)) in omega (arith, less, next)) in
          rw (other, none) step
    ]
  where
    elim_le : (a b : ℕ) → a ≤ b → (a ≡ b → ⊥) → a < b
    elim_le a b most distinct = elim (cases_lt a b) [
      | inl below ↦ below
      | inr above ↦ absurd (distinct (omega (arith, most, above)))
    ]

again_first : (ns : List ℕ) → IsNonDecreasingBy (λ n. n) ns → any_again None ns ≡ any_same ns
again_first [] up = refl
again_first (n ∷ ns) up = again_after n ns up

-- so a sort decides it
pub sort_reports : (ms ns : List ℕ) → IsPermutation ms ns → IsNonDecreasingBy (λ n. n) ns → any_again None ns ≡ any_two (λ m n. m == n) ms
sort_reports ms ns moved up = again_first ns up ∙ any_same-moved ms ns moved

-- equal numbers come from equal cpus
one_number : (a b k l : ℕ) → k < 2 ^ 24 → l < 2 ^ 24 → a * 2 ^ 24 + k ≡ b * 2 ^ 24 + l → (a ≡ b) × (k ≡ l)
one_number a b k l low lower e = (omega (arith, low, lower, e), omega (arith, low, lower, e))

cpu_numbers_report : (e f : FatEntryView) → (cpu_number e == cpu_number f) ≡ are_of_one_cpu e f
cpu_numbers_report e f =
    let low : kind_of_cpu e.cpusubtype < 2 ^ 24 = mod-lt e.cpusubtype (omega arith) in
    let lower : kind_of_cpu f.cpusubtype < 2 ^ 24 = mod-lt f.cpusubtype (omega arith) in
    same_bools (cpu_number e == cpu_number f) (are_of_one_cpu e f)
    (λ same. let both = one_number e.cputype f.cputype (kind_of_cpu e.cpusubtype) (kind_of_cpu f.cpusubtype) low lower (eqb-true (cpu_number e)
    (cpu_number f) same) in
    and_from (e.cputype == f.cputype) (kind_of_cpu e.cpusubtype == kind_of_cpu f.cpusubtype) (eq-eqb e.cputype f.cputype both.0)
    (eq-eqb (kind_of_cpu e.cpusubtype) (kind_of_cpu f.cpusubtype) both.1))
    (λ same. let both = and_parts (e.cputype == f.cputype) (kind_of_cpu e.cpusubtype == kind_of_cpu f.cpusubtype) same in
    eq-eqb (cpu_number e) (cpu_number f) (let type = eqb-true e.cputype f.cputype both.0 in
    let kind = eqb-true (kind_of_cpu e.cpusubtype) (kind_of_cpu f.cpusubtype) both.1 in omega (arith, type, kind)))

any_number : (e : FatEntryView) (es : List FatEntryView) → list_any (λ n. cpu_number e == n) (map cpu_number es) ≡ list_any (are_of_one_cpu e) es
any_number e [] = refl
any_number e (f ∷ es) = rw (cpu_numbers_report e f, any_number e es) refl

pub any_two_numbers : (es : List FatEntryView) → any_two (λ m n. m == n) (map cpu_number es) ≡ any_two are_of_one_cpu es
any_two_numbers [] = refl
any_two_numbers (e ∷ es) = rw (any_number e es, any_two_numbers es) refl
