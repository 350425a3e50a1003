-- The functions from a place on.
use Rattle.std.proofs.Common.{◌≡◌, ◌≢◌, ℕ, zero, suc, ◌+◌, ◌-◌, ◌<◌, ◌≤◌, ◌==◌, true, false, List, [], ◌∷◌, Option, Some, None, Result, Ok, Err, nat_le, nat_lt}
use Rattle.std.proofs.Common.{inl, inr, refl, sym, ap, ◌∙◌, arith, ◌^◌, length}
use Rattle.std.proofs.lemmas.Bool.{cases_lt, le-leb, lt-leb}
use Rattle.std.specs.Prelude.{unwrap_or}
use Rattle.mach_base.specs.Answer.{◌>>=◌}
use Rattle.mach_base.specs.Fault.{Fault, malformed}
use Rattle.mach_base.specs.Leb128.{uleb_at}
use Rattle.mach_base.specs.Sums.{sum_of}
use Rattle.mach_base.proofs.Binds.{bind_ok, chosen, same_ok}
use Rattle.mach_base.proofs.Unsigned.{uleb_at-moves}
use Rattle.mach_load.specs.FunctionStarts.{start_after, function_start_at, start_then, starts_from, starts_after, AreStartsAfter}

same_pair : (a b c d : ℕ) → ◌≡◌ {A = Option (ℕ × ℕ)} (Some (a, c)) (Some (b, d)) → (a ≡ b) × (c ≡ d)
same_pair a b c d e = (ap (λ (o : Option (ℕ × ℕ)). (unwrap_or o (0, 0)).0) e, ap (λ (o : Option (ℕ × ℕ)). (unwrap_or o (0, 0)).1) e)

-- a number other than 0 is there, and the start is the address plus this number
pub number_of : (bytes : List ℕ) (place address start next : ℕ) → function_start_at bytes place address ≡ Ok (Some (start, next))
    → (n : ℕ) × (uleb_at bytes place ≡ Ok (n, next)) × (n ≢ 0) × (start ≡ address + n)
unfolding function_start_at
number_of bytes place address start next e =
    let read = bind_ok (uleb_at bytes place) (start_after address) (Some (start, next)) e in
    let found = read.0 in
    let is : uleb_at bytes place ≡ Ok found = read.1 in
    elim (chosen (found.0 == 0) (Ok None) (sum_of address found.0 >>= (λ (s : ℕ). Ok (Some (s, found.1)))) (Ok (Some (start, next))) read.2) [
      | inl zero_is ↦ absurd (let wrong = zero_is.1 in cc)
      | inr some ↦
          let summed = bind_ok (sum_of address found.0) (λ (s : ℕ). Ok (Some (s, found.1))) (Some (start, next)) some.1 in
          let whole : ◌≡◌ {A = Option (ℕ × ℕ)} (Some (summed.0, found.1)) (Some (start, next)) = same_ok summed.2 in
          let same = same_pair summed.0 start found.1 next whole in
          let start_is : summed.0 ≡ start = same.0 in
          let next_is : found.1 ≡ next = same.1 in
          elim (chosen (nat_lt (address + found.0) (2 ^ 64)) (Ok (address + found.0)) (Err malformed) (Ok summed.0) summed.1) [
            | inl there ↦
                let sum_is : address + found.0 ≡ summed.0 = same_ok there.1 in (
                  found.0,
                  is ∙ ap (λ (m : ℕ). Ok (found.0, m)) next_is,
                  (λ none. absurd (let yes : (found.0 == 0) ≡ true = ap (λ (m : ℕ). m == 0) none in let no_it = some.0 in cc)),
                  sym start_is ∙ sym sum_is,
                )
            | inr wrapped ↦ absurd (let wrong = wrapped.1 in cc)
          ]
    ]

-- so the place and the address grow
pub goes_on : (bytes : List ℕ) (place address start next : ℕ) → function_start_at bytes place address ≡ Ok (Some (start, next))
    → (place < next) × (address < start)
goes_on bytes place address start next e =
    let number = number_of bytes place address start next e in
    let n = number.0 in
    let is_some : n ≢ 0 = number.2 in
    let start_is : start ≡ address + n = number.3 in (
      uleb_at-moves bytes place n next number.1,
      elim (cases_lt 0 n) [
        | inl more ↦ omega (arith, more, start_is)
        | inr none ↦ absurd (is_some (omega (arith, none)))
      ],
    )

module _ (bytes : List ℕ) (upto : ℕ) where
  -- after the end there is none
  pub starts_from-past : (most place address : ℕ) → upto ≤ place → starts_from bytes upto most place address ≡ []
  unfolding starts_from
  starts_from-past zero place address past = refl
  starts_from-past (suc most) place address past = let test : nat_le upto place ≡ true = le-leb upto place past in rw test refl

  -- before the end they are those that the first number gives
  pub starts_from-first : (most place address : ℕ) → place < upto
      → starts_from bytes upto (suc most) place address
      ≡ start_then (function_start_at bytes place address) (λ start. starts_from bytes upto most start.1 start.0)
  unfolding starts_from
  starts_from-first most place address inside = let test : nat_le upto place ≡ false = lt-leb upto place inside in rw test refl

  -- a start, followed by equal lists
  same_following : (place address m n : ℕ)
      → ((k a : ℕ) → place < k → starts_from bytes upto m k a ≡ starts_from bytes upto n k a)
      → (r : Result (Option (ℕ × ℕ)) Fault) → function_start_at bytes place address ≡ r
      → start_then r (λ start. starts_from bytes upto m start.1 start.0) ≡ start_then r (λ start. starts_from bytes upto n start.1 start.0)
  same_following place address m n same (Err f) e = refl
  same_following place address m n same (Ok None) e = refl
  same_following place address m n same (Ok (Some start)) e =
      ap (λ (items : List (Result ℕ Fault)). Ok start.0 ∷ items) (same start.1 start.0 (goes_on bytes place address start.0 start.1 e).0)

  -- the bound does not matter if it is large enough
  pub starts_from-enough : (m n place address : ℕ) → upto - place ≤ m → upto - place ≤ n
      → starts_from bytes upto m place address ≡ starts_from bytes upto n place address
  starts_from-enough zero n place address a b =
      starts_from-past zero place address (omega arith) ∙ sym (starts_from-past n place address (omega arith))
  starts_from-enough (suc m) zero place address a b =
      starts_from-past (suc m) place address (omega arith) ∙ sym (starts_from-past zero place address (omega arith))
  starts_from-enough (suc m) (suc n) place address a b =
      let same : (k c : ℕ) → place < k → starts_from bytes upto m k c ≡ starts_from bytes upto n k c =
      λ k c on. starts_from-enough m n k c (omega arith) (omega arith)
      in
      elim (cases_lt place upto) [
        | inr past ↦ starts_from-past (suc m) place address past ∙ sym (starts_from-past (suc n) place address past)
        | inl inside ↦
            starts_from-first m place address inside
            ∙ (same_following place address m n same (function_start_at bytes place address) refl ∙ sym (starts_from-first n place address inside))
      ]

  -- a start, followed by the others
  are_after : (place address most : ℕ) → place < upto
      → ((k a : ℕ) → place < k → AreStartsAfter bytes upto k a (starts_from bytes upto most k a))
      → (r : Result (Option (ℕ × ℕ)) Fault) → function_start_at bytes place address ≡ r
      → AreStartsAfter bytes upto place address (start_then r (λ start. starts_from bytes upto most start.1 start.0))
  are_after place address most inside are (Err f) e = (inside, e, refl)
  are_after place address most inside are (Ok None) e = inr e
  are_after place address most inside are (Ok (Some start)) e =
      (inside, (start.1, e, are start.1 start.0 (goes_on bytes place address start.0 start.1 e).0))

  -- these are the functions
  are_from : (most place address : ℕ) → upto - place ≤ most → AreStartsAfter bytes upto place address (starts_from bytes upto most place address)
  are_from zero place address a =
      let past : upto ≤ place = omega arith in rw (starts_from-past zero place address past) (inl past)
  are_from (suc most) place address a =
      let are : (k c : ℕ) → place < k → AreStartsAfter bytes upto k c (starts_from bytes upto most k c) =
      λ k c on. are_from most k c (omega arith)
      in
      elim (cases_lt place upto) [
        | inr past ↦ rw (starts_from-past (suc most) place address past) (inl past)
        | inl inside ↦
            rw (starts_from-first most place address inside) (are_after place address most inside are (function_start_at bytes place address) refl)
      ]

  pub starts_are : (place address : ℕ) → AreStartsAfter bytes upto place address (starts_after bytes upto place address)
  starts_are place address = are_from (upto - place) place address (omega arith)

  -- what is left at a place
  pub none_left : (place address : ℕ) → upto ≤ place → starts_after bytes upto place address ≡ []
  none_left place address past = starts_from-past (upto - place) place address past

  one_left : (place address : ℕ) → place < upto
      → starts_after bytes upto place address
      ≡ start_then (function_start_at bytes place address) (λ start. starts_from bytes upto (upto - place - 1) start.1 start.0)
  one_left place address inside =
      let more : upto - place ≡ suc (upto - place - 1) = omega arith in
      ap (λ (n : ℕ). starts_from bytes upto n place address) more ∙ starts_from-first (upto - place - 1) place address inside

  pub first_left : (place address start next : ℕ) → place < upto → function_start_at bytes place address ≡ Ok (Some (start, next))
      → starts_after bytes upto place address ≡ Ok start ∷ starts_after bytes upto next start
  first_left place address start next inside e =
      let on = (goes_on bytes place address start next e).0 in
      one_left place address inside
      ∙ (ap (λ (r : Result (Option (ℕ × ℕ)) Fault). start_then r (λ s. starts_from bytes upto (upto - place - 1) s.1 s.0)) e
      ∙ ap (λ (items : List (Result ℕ Fault)). Ok start ∷ items)
      (starts_from-enough (upto - place - 1) (upto - next) next start (omega arith) (omega arith)))

  pub end_left : (place address : ℕ) → place < upto → function_start_at bytes place address ≡ Ok None → starts_after bytes upto place address ≡ []
  end_left place address inside e =
      one_left place address inside
      ∙ ap (λ (r : Result (Option (ℕ × ℕ)) Fault). start_then r (λ s. starts_from bytes upto (upto - place - 1) s.1 s.0)) e

  pub fault_left : (place address : ℕ) (f : Fault) → place < upto → function_start_at bytes place address ≡ Err f
      → starts_after bytes upto place address ≡ Err f ∷ starts_after bytes upto upto address
  fault_left place address f inside e =
      one_left place address inside
      ∙ (ap (λ (r : Result (Option (ℕ × ℕ)) Fault). start_then r (λ s. starts_from bytes upto (upto - place - 1) s.1 s.0)) e
      ∙ ap (λ (items : List (Result ℕ Fault)). Err f ∷ items) (sym (none_left upto address (omega arith))))

-- after the first there are fewer
pub fewer_after : {A : Type 0} (x : A) (xs ys : List A) → xs ≡ x ∷ ys → length ys < length xs
fewer_after x xs ys e = omega (arith, ap length e)
