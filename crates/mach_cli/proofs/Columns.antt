-- Where the fields of each column of a line are.
use Rattle.std.proofs.Common.{◌≡◌, ◌∙◌, ◌⊎◌, ◌≤◌, ◌<◌, ◌+◌, ◌-◌, ◌==◌, ℕ, suc, List, [], ◌∷◌, ◌++◌, cond, inl, inr, false}
use Rattle.std.proofs.Common.{append-nil, drop-drop, get_or, length, length-drop, set}
use Rattle.std.proofs.Common.{Option, None, Some, MatchOption, unwrap_or, map, take, drop, ⊎_elim, refl, sym, ap, subst, arith}
use Rattle.std.proofs.lemmas.Bool.{ne_eqb}
use Rattle.std.proofs.lemmas.Bool.Decides.{eqb_tells}
use Rattle.std.proofs.lemmas.Grind.{flat_map-append, get_or-set_at}
use Rattle.std.proofs.lemmas.List.{drop-map, get_or-drop, get_or-set_other, get_or-take, length-set, length-take, take-append-drop, take-map}
use Rattle.mach_cli.specs.Fields.{FieldView, column_field, column_text}

-- ---- spans

-- The first fields, so many, are in their spans.
pub record IsSpanned (columns : List ℕ) (count : ℕ) (starts ends : List ℕ) : Type 0 where
  pub starts_len : length starts ≡ 11
  pub ends_len : length ends ≡ 11
  pub low : (column : ℕ) → column < 10 → get_or starts column 0 ≤ count
  pub lies : (column index : ℕ) → column < 10 → index < count → get_or columns index 0 ≡ column
      → (get_or starts column 0 ≤ index) × (index < get_or ends column 0)

start_is : (end i old start : ℕ) → start ≡ cond (end == 0) i old → ((end ≡ 0) × (start ≡ i)) ⊎ ((0 < end) × (start ≡ old))
start_is end i old start is =
    ⊎_elim (λ none. inl (none.1, is ∙ ap (λ b. cond b i old) none.0)) (λ some. inr (omega (arith, some.1), is ∙ ap (λ b. cond b i old) some.0))
    (eqb_tells end 0)

module _ (columns starts ends : List ℕ) (i slot start : ℕ) (old : IsSpanned columns i starts ends) (within : slot < 11)
    (same : get_or columns i 0 < 10 → slot ≡ get_or columns i 0) (is : start ≡ cond (get_or ends slot 0 == 0) i (get_or starts slot 0)) where
  start_at : (c : ℕ) → c ≡ slot → get_or (set starts slot start) c 0 ≡ start
  start_at c at = get_or-set_at starts slot c start 0 at (omega (arith, within, old.starts_len))

  end_at : (c : ℕ) → c ≡ slot → get_or (set ends slot (i + 1)) c 0 ≡ i + 1
  end_at c at = get_or-set_at ends slot c (i + 1) 0 at (omega (arith, within, old.ends_len))

  low_at : (c : ℕ) → c < 10 → c ≡ slot → start ≤ i
  low_at c few at =
      ⊎_elim (λ none. omega (arith, none.1)) (λ some. omega (arith, some.1, old.low slot (omega (arith, few, at))))
      (start_is (get_or ends slot 0) i (get_or starts slot 0) start is)

  low_more : (c : ℕ) → c < 10 → get_or (set starts slot start) c 0 ≤ i + 1
  low_more c few =
      ⊎_elim (λ at. omega (arith, start_at c at.1, low_at c few at.1))
      (λ other. omega (arith, get_or-set_other starts slot c start 0 other.1, old.low c few)) (eqb_tells c slot)

  -- a field that was there before is not before the start
  starts_before : (c index : ℕ) → c < 10 → c ≡ slot → index < i → get_or columns index 0 ≡ c → start ≤ index
  starts_before c index few at before of_c =
      let lies = old.lies slot index (omega (arith, few, at)) before (of_c ∙ at) in
      ⊎_elim (λ none. absurd (omega (arith, none.0, lies.1))) (λ some. omega (arith, some.1, lies.0))
      (start_is (get_or ends slot 0) i (get_or starts slot 0) start is)

  lies_at : (c index : ℕ) → c < 10 → c ≡ slot → index < i + 1 → get_or columns index 0 ≡ c → start ≤ index
  lies_at c index few at inside of_c =
      ⊎_elim (λ new. omega (arith, new.1, low_at c few at)) (λ before. starts_before c index few at (omega (arith, inside, before.1)) of_c)
      (eqb_tells index i)

  lies_other : (c index : ℕ) → c < 10 → ¬ (c ≡ slot) → index < i + 1 → get_or columns index 0 ≡ c → index < i
  lies_other c index few other inside of_c =
      ⊎_elim (λ new. absurd (let here : get_or columns i 0 ≡ c = ap (λ (k : ℕ). get_or columns k 0) (sym new.1) ∙ of_c in
      other (sym here ∙ sym (same (omega (arith, here, few)))))) (λ before. omega (arith, inside, before.1)) (eqb_tells index i)

  lies_more : (c index : ℕ) → c < 10 → index < i + 1 → get_or columns index 0 ≡ c
      → (get_or (set starts slot start) c 0 ≤ index) × (index < get_or (set ends slot (i + 1)) c 0)
  lies_more c index few inside of_c =
      ⊎_elim (λ at. (omega (arith, start_at c at.1, lies_at c index few at.1 inside of_c), omega (arith, end_at c at.1, inside)))
      (λ other. let lies = old.lies c index few (lies_other c index few other.1 inside of_c) of_c in
      (omega (arith, get_or-set_other starts slot c start 0 other.1, lies.0), omega (arith, get_or-set_other ends slot c (i + 1) 0 other.1, lies.1)))
      (eqb_tells c slot)

  -- so is one more
  pub spanned_more : IsSpanned columns (i + 1) (set starts slot start) (set ends slot (i + 1))
  spanned_more = record {
    starts_len = length-set starts slot start ∙ old.starts_len;
    ends_len = length-set ends slot (i + 1) ∙ old.ends_len;
    low = low_more;
    lies = lies_more;
  }

-- ---- fields of a column

-- fields of other columns have no text in this one
pub none_of_column : (fs : List FieldView) (c : ℕ) → ((k : ℕ) → k < length fs → get_or (map (λ f. f.column) fs) k 0 ≡ c → ⊥) → column_text fs c ≡ []
none_of_column [] c none = refl
none_of_column (f ∷ fs) c none =
    let other : (f.column == c) ≡ false = ne_eqb f.column c (λ e. none 0 (omega arith) e) in
    let rest : column_text fs c ≡ [] = none_of_column fs c (λ k inside e. none (suc k) (omega (arith, inside)) e) in
    rw (other) rest

module _ (fs : List FieldView) (c start end : ℕ) (few : c < 10)
    (lies : (k : ℕ) → k < length fs → get_or (map (λ f. f.column) fs) k 0 ≡ c → (start ≤ k) × (k < end)) where
  none_before : column_text (take start fs) c ≡ []
  none_before =
      none_of_column (take start fs) c (λ k inside e.
      let len = length-take start fs in
      let low : k < start = omega (arith, inside, len) in
      let here : get_or (map (λ (f : FieldView). f.column) fs) k 0 ≡ c =
      sym (get_or-take start (map (λ (f : FieldView). f.column) fs) k 0 low)
      ∙ ap (λ (xs : List ℕ). get_or xs k 0) (take-map (λ (f : FieldView). f.column) start fs) ∙ e in
      omega (arith, low, lies k (omega (arith, inside, len)) here))

  none_after : column_text (drop end fs) c ≡ []
  none_after =
      none_of_column (drop end fs) c (λ k inside e.
      let len = length-drop end fs in
      let here : get_or (map (λ (f : FieldView). f.column) fs) (end + k) 0 ≡ c =
      sym (get_or-drop end (map (λ (f : FieldView). f.column) fs) k 0)
      ∙ ap (λ (xs : List ℕ). get_or xs k 0) (drop-map (λ (f : FieldView). f.column) end fs) ∙ e in
      omega (arith, lies (end + k) (omega (arith, inside, len)) here))

  -- all of a column are in its span
  pub column_in_span : start ≤ end → column_text (take (end - start) (drop start fs)) c ≡ column_text fs c
  column_in_span order =
      let after = drop start fs in
      let same : start + (end - start) ≡ end = omega (arith, order) in
      let rest : drop (end - start) after ≡ drop end fs = drop-drop (end - start) start fs ∙ ap (λ (k : ℕ). drop k fs) same in
      let front : column_text fs c ≡ column_text after c =
      ap (λ xs. column_text xs c) (sym (take-append-drop start fs)) ∙ flat_map-append (column_field c) (take start fs) after
      ∙ ap (λ text. text ++ column_text after c) none_before in
      let back : column_text after c ≡ column_text (take (end - start) after) c =
      ap (λ xs. column_text xs c) (sym (take-append-drop (end - start) after))
      ∙ flat_map-append (column_field c) (take (end - start) after) (drop (end - start) after)
      ∙ ap (λ text. column_text (take (end - start) after) c ++ text) (ap (λ xs. column_text xs c) rest ∙ none_after)
      ∙ append-nil (column_text (take (end - start) after) c) in
      sym (front ∙ back)

-- what holds of a part that was found, and of all that it is taken from, holds of the one that is taken
pub for_either : {R : Type 0} (Q P : R → Type 0) (N : Type 0) (found : Option R) (all taken : R) → MatchOption found N P → ((part : R) → P part → Q part)
    → Q all → taken ≡ unwrap_or found all → Q taken
for_either Q P N None all taken match part whole is = subst Q (sym is) whole
for_either Q P N (Some x) all taken match part whole is = subst Q (sym is) (part x match)
