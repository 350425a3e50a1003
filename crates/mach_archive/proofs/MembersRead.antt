-- The members from a place on.
use Rattle.std.proofs.Common.{◌≡◌, ℕ, zero, suc, ◌+◌, ◌-◌, ◌<◌, ◌≤◌, true, false, List, [], ◌∷◌, length, Result, Ok, Err, nat_le, inl, inr, refl, sym}
use Rattle.std.proofs.Common.{ap, ◌∙◌, arith}
use Rattle.std.proofs.lemmas.Bool.{cases_lt, le-leb, lt-leb}
use Rattle.mach_base.specs.Fault.{Fault}
use Rattle.mach_archive.specs.MemberHeaders.{MemberHeader, member_header_at, next_header}
use Rattle.mach_archive.specs.Members.{LongNames, MemberView, member_of, then_items, members_from, AreMembers}
use Rattle.mach_archive.proofs.HeadersRead.{further}

module _ (bytes : List ℕ) (names : LongNames) where
  -- after the end there is none
  pub members_from-past : (most from : ℕ) → length bytes ≤ from → members_from bytes names most from ≡ []
  unfolding members_from
  members_from-past zero from past = refl
  members_from-past (suc most) from past = let test : nat_le (length bytes) from ≡ true = le-leb (length bytes) from past in rw test refl

  -- before the end there is the first, followed by the others
  pub members_from-first : (most from : ℕ) → from < length bytes
      → members_from bytes names (suc most) from
      ≡ then_items (member_header_at bytes from) (member_of bytes names) (λ h. members_from bytes names most (next_header h))
  unfolding members_from
  members_from-first most from inside = let test : nat_le (length bytes) from ≡ false = lt-leb (length bytes) from inside in rw test refl

  -- a member, followed by equal lists
  same_following : (from m n : ℕ) → ((k : ℕ) → from + 60 ≤ k → members_from bytes names m k ≡ members_from bytes names n k)
      → (r : Result MemberHeader Fault) → member_header_at bytes from ≡ r
      → then_items r (member_of bytes names) (λ h. members_from bytes names m (next_header h))
      ≡ then_items r (member_of bytes names) (λ h. members_from bytes names n (next_header h))
  same_following from m n same (Err f) e = refl
  same_following from m n same (Ok h) e =
      ap (λ (items : List (Result MemberView Fault)). Ok (member_of bytes names h) ∷ items) (same (next_header h) (further bytes from h e))

  -- the bound does not matter if it is large enough
  pub members_from-enough : (m n from : ℕ) → length bytes - from ≤ m → length bytes - from ≤ n
      → members_from bytes names m from ≡ members_from bytes names n from
  members_from-enough zero n from a b = members_from-past zero from (omega arith) ∙ sym (members_from-past n from (omega arith))
  members_from-enough (suc m) zero from a b = members_from-past (suc m) from (omega arith) ∙ sym (members_from-past zero from (omega arith))
  members_from-enough (suc m) (suc n) from a b =
      let same : (k : ℕ) → from + 60 ≤ k → members_from bytes names m k ≡ members_from bytes names n k =
      λ k on. members_from-enough m n k (omega arith) (omega arith)
      in
      elim (cases_lt from (length bytes)) [
        | inr past ↦ members_from-past (suc m) from past ∙ sym (members_from-past (suc n) from past)
        | inl inside ↦
            members_from-first m from inside
            ∙ (same_following from m n same (member_header_at bytes from) refl ∙ sym (members_from-first n from inside))
      ]

  -- a member, followed by the others
  are_after : (from most : ℕ) → from < length bytes
      → ((k : ℕ) → from + 60 ≤ k → AreMembers bytes names k (members_from bytes names most k)) → (r : Result MemberHeader Fault)
      → member_header_at bytes from ≡ r
      → AreMembers bytes names from (then_items r (member_of bytes names) (λ h. members_from bytes names most (next_header h)))
  are_after from most inside are (Err f) e = (inside, e, refl)
  are_after from most inside are (Ok h) e = (inside, (h, e, refl, are (next_header h) (further bytes from h e)))

  -- these are the members
  pub members_are : (most from : ℕ) → length bytes - from ≤ most → AreMembers bytes names from (members_from bytes names most from)
  members_are zero from a = let past : length bytes ≤ from = omega arith in rw (members_from-past zero from past) past
  members_are (suc most) from a =
      let are : (k : ℕ) → from + 60 ≤ k → AreMembers bytes names k (members_from bytes names most k) =
      λ k on. members_are most k (omega arith)
      in
      elim (cases_lt from (length bytes)) [
        | inr past ↦ rw (members_from-past (suc most) from past) past
        | inl inside ↦ rw (members_from-first most from inside) (are_after from most inside are (member_header_at bytes from) refl)
      ]

  -- what is left at a place
  abbrev left_at : ℕ → List (Result MemberView Fault)
  left_at from = members_from bytes names (length bytes - from) from

  pub none_left : (from : ℕ) → length bytes ≤ from → left_at from ≡ []
  none_left from past = members_from-past (length bytes - from) from past

  one_left : (from : ℕ) → from < length bytes
      → left_at from ≡ then_items (member_header_at bytes from) (member_of bytes names) (λ h. members_from bytes names (length bytes - from - 1)
      (next_header h))
  one_left from inside =
      let more : length bytes - from ≡ suc (length bytes - from - 1) = omega arith in
      ap (λ (n : ℕ). members_from bytes names n from) more ∙ members_from-first (length bytes - from - 1) from inside

  pub first_left : (from : ℕ) (h : MemberHeader) → from < length bytes → member_header_at bytes from ≡ Ok h
      → left_at from ≡ Ok (member_of bytes names h) ∷ left_at (next_header h)
  first_left from h inside e =
      let on = further bytes from h e in
      one_left from inside
      ∙ (ap (λ (r : Result MemberHeader Fault). then_items r (member_of bytes names) (λ x. members_from bytes names (length bytes - from - 1)
      (next_header x))) e
      ∙ ap (λ (items : List (Result MemberView Fault)). Ok (member_of bytes names h) ∷ items)
      (members_from-enough (length bytes - from - 1) (length bytes - next_header h) (next_header h) (omega arith) (omega arith)))

  pub fault_left : (from : ℕ) (f : Fault) → from < length bytes → member_header_at bytes from ≡ Err f → left_at from ≡ Err f ∷ left_at (length bytes)
  fault_left from f inside e =
      one_left from inside
      ∙ (ap (λ (r : Result MemberHeader Fault). then_items r (member_of bytes names) (λ x. members_from bytes names (length bytes - from - 1)
      (next_header x))) e
      ∙ ap (λ (items : List (Result MemberView Fault)). Err f ∷ items) (sym (none_left (length bytes) (omega arith))))
