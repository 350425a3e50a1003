-- Faults that are printed up to a limit.
use Rattle.std.proofs.Common.{◌≡◌, ◌≤◌, ◌<◌, ◌+◌, ◌-◌, ◌++◌, ◌∷◌, [], ◌∙◌, ◌⊎◌, inl, inr, ℕ, List, Bool, true, false, cond, refl, sym, ap, length, map, take}
use Rattle.std.proofs.Common.{arith}
use Rattle.std.specs.Prelude.{◌&&◌, ◌||◌, not, nat_lt, filter}
use Rattle.std.proofs.lemmas.Bool.{cases_lt, le-ltb, lt-ltb}
use Rattle.std.proofs.lemmas.List.{append-nil, append_assoc, length-append, length-map, map-append, take-append-le, take_all}
use Rattle.mach_cli.specs.declared.listing.ListProgress.{ListProgress}
use Rattle.mach_signature.specs.AsSigned.{SignatureFaultView}
use Rattle.mach_signature.specs.FaultViews.{signature_fault_view}
use Rattle.mach_signature.specs.declared.fault.SignatureFault.{SignatureFault}
use Rattle.machsign.specs.Faults.{has_none, CountsFaults}

none_of_two : (b : Bool) → (b && false) ≡ false
none_of_two true = refl
none_of_two false = refl

and_true : (b : Bool) → (b && true) ≡ b
and_true true = refl
and_true false = refl

filter-first : {A : Type 0} (p : A → Bool) (x : A) (xs : List A) → p x ≡ true → filter p (x ∷ xs) ≡ x ∷ filter p xs
filter-first p x xs is = ap (λ (b : Bool). cond b (x ∷ filter p xs) (filter p xs)) is

filter-later : {A : Type 0} (p : A → Bool) (x : A) (xs : List A) → p x ≡ false → filter p (x ∷ xs) ≡ filter p xs
filter-later p x xs is = ap (λ (b : Bool). cond b (x ∷ filter p xs) (filter p xs)) is

-- Of some faults those that are shown begin with those that were printed; `rest` comes after them, and `left` more may be printed.
-- It is whole as long as no fault was visited.
pub record Passes (p : SignatureFaultView → Bool) (limit : ℕ) (faults rest : List SignatureFaultView) (left : ℕ) (whole : Bool) (done : List SignatureFault)
    : Type 0 where
  pub are : filter p faults ≡ map signature_fault_view done ++ filter p rest
  pub count : left + length done ≡ limit
  pub is_whole : has_none faults ≡ (whole && has_none rest)

module _ (p : SignatureFaultView → Bool) (limit : ℕ) (faults : List SignatureFaultView) where
  pub none_passed : (rest : List SignatureFaultView) → faults ≡ rest → Passes p limit faults rest limit true []
  none_passed rest same = record { are = ap (filter p) same; count = omega arith; is_whole = ap has_none same }

  module _ (all rest : List SignatureFaultView) (left : ℕ) (whole : Bool) (done : List SignatureFault) (fault : SignatureFaultView)
      (passed : Passes p limit faults all left whole done) (is : all ≡ fault ∷ rest) where
    not_none : has_none faults ≡ false
    not_none = passed.is_whole ∙ ap (λ (xs : List SignatureFaultView). whole && has_none xs) is ∙ none_of_two whole

    -- a fault that isn't shown was passed
    pub one_skipped : p fault ≡ false → Passes p limit faults rest left false done
    one_skipped other = record {
      are = passed.are ∙ ap (λ (back : List SignatureFaultView). map signature_fault_view done ++ filter p back) is
          ∙ ap (λ back. map signature_fault_view done ++ back) (filter-later p fault rest other);
      count = passed.count;
      is_whole = not_none;
    }

    -- a fault was printed
    pub one_passed : (printed : SignatureFault) → signature_fault_view printed ≡ fault → p fault ≡ true → 1 ≤ left
        → Passes p limit faults rest (left - 1) false (done ++ printed ∷ [])
    one_passed printed same shown some =
        let front = map signature_fault_view done in record {
          are = passed.are ∙ ap (λ (back : List SignatureFaultView). front ++ filter p back) is
              ∙ ap (λ back. front ++ back) (filter-first p fault rest shown)
              ∙ ap (λ (x : SignatureFaultView). front ++ x ∷ filter p rest) (sym same)
              ∙ sym (append_assoc front (signature_fault_view printed ∷ []) (filter p rest))
              ∙ ap (λ (seen : List SignatureFaultView). seen ++ filter p rest) (sym (map-append signature_fault_view done (printed ∷ [])));
          count = omega (arith, passed.count, some, length-append done (printed ∷ []));
          is_whole = not_none;
        }

    -- the list was visited to the limit, and a fault that is shown comes after it
    pub passed_cut : (t : ListProgress) → p fault ≡ true → left ≡ 0 → (t.left ≡ 0) × (t.whole ≡ false) × (t.more ≡ true)
        → (map signature_fault_view done ≡ take limit (filter p faults)) × CountsFaults limit faults (filter p faults) t
    passed_cut t shown none said =
        let seen = map signature_fault_view done in
        let are : filter p faults ≡ seen ++ fault ∷ filter p rest =
        passed.are ∙ ap (λ (back : List SignatureFaultView). seen ++ filter p back) is ∙ ap (λ back. seen ++ back) (filter-first p fault rest shown) in
        let many : length (filter p faults) ≡ length seen + length (fault ∷ filter p rest) = ap length are ∙ length-append seen (fault ∷ filter p rest) in
        let front : length seen ≡ limit = omega (arith, passed.count, none, length-map done signature_fault_view) in
        let reported : take limit (filter p faults) ≡ seen =
        ap (λ xs. take limit xs) are ∙ take-append-le limit seen (fault ∷ filter p rest) (omega (arith, front))
        ∙ take_all limit seen (omega (arith, front)) in (
          sym reported,
          record {
            whole = said.1 ∙ sym not_none;
            rest = said.0 ∙ omega (arith, many, front);
            more = said.2 ∙ sym (lt-ltb limit (length (filter p faults)) (omega (arith, many, front)));
          },
        )

  -- the list was visited to its end
  pub passed_over : (rest : List SignatureFaultView) (left : ℕ) (whole : Bool) (done : List SignatureFault) (t : ListProgress)
      → Passes p limit faults rest left whole done → rest ≡ [] → (t.left ≡ left) × (t.whole ≡ whole) × (t.more ≡ false)
      → (map signature_fault_view done ≡ take limit (filter p faults)) × CountsFaults limit faults (filter p faults) t
  passed_over rest left whole done t passed none is =
      let seen = map signature_fault_view done in
      let all : filter p faults ≡ seen =
      passed.are ∙ ap (λ (back : List SignatureFaultView). seen ++ filter p back) none ∙ append-nil seen in
      let many : length (filter p faults) ≡ length done = ap length all ∙ length-map done signature_fault_view in
      let few : length (filter p faults) ≤ limit = omega (arith, passed.count, many) in (
        sym (take_all limit (filter p faults) few ∙ all),
        record {
          whole = is.1 ∙ sym (passed.is_whole ∙ ap (λ (xs : List SignatureFaultView). whole && has_none xs) none ∙ and_true whole);
          rest = is.0 ∙ omega (arith, passed.count, many);
          more = is.2 ∙ sym (le-ltb limit (length (filter p faults)) few);
        },
      )

-- ---- blobs and faults together

cut_by : (left b f : ℕ) → (left < b) ⊎ (b ≤ left) → (left - b < f) ⊎ (f ≤ left - b) → (nat_lt left b || nat_lt (left - b) f) ≡ nat_lt left (b + f)
cut_by left b f (inl less) other = rw (lt-ltb left b less, lt-ltb left (b + f) (omega (arith, less))) refl
cut_by left b f (inr most) (inl less) =
    rw (le-ltb left b most, lt-ltb (left - b) f less, lt-ltb left (b + f) (omega (arith, most, less))) refl
cut_by left b f (inr most) (inr few) =
    rw (le-ltb left b most, le-ltb (left - b) f few, le-ltb left (b + f) (omega (arith, most, few))) refl

pub cut_both : (left b f : ℕ) → (nat_lt left b || nat_lt (left - b) f) ≡ nat_lt left (b + f)
cut_both left b f = cut_by left b f (cases_lt left b) (cases_lt (left - b) f)

-- whether there are more than are printed, whether there is no fault and all is printed, and how many are left
pub counted : (left b : ℕ) (faults shown : List SignatureFaultView) (rest : ℕ) (more : Bool) (t : ListProgress) → rest ≡ left - b → more ≡ nat_lt left b
    → CountsFaults rest faults shown t
    → ((more || t.more) ≡ nat_lt left (b + length shown))
    × ((t.whole && not (more || t.more)) ≡ (has_none faults && not (nat_lt left (b + length shown))))
    × (t.left ≡ left - (b + length shown))
counted left b faults shown rest more t is cut c =
    let over : (more || t.more) ≡ nat_lt left (b + length shown) =
    ap (λ (m : Bool). m || t.more) cut ∙ ap (λ (m : Bool). nat_lt left b || m) (c.more ∙ ap (λ (n : ℕ). nat_lt n (length shown)) is)
    ∙ cut_both left b (length shown) in (
      over,
      ap (λ (w : Bool). w && not (more || t.more)) c.whole ∙ ap (λ (m : Bool). has_none faults && not m) over,
      c.rest ∙ ap (λ (n : ℕ). n - length shown) is ∙ omega arith,
    )
