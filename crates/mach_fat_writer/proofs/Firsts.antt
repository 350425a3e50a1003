-- The first entry of a cputype and an alignment, already found or not.
use Rattle.std.proofs.Common.{◌≡◌, ◌==◌, ◌&&◌, ℕ, suc, ◌+◌, ◌<◌, Bool, true, false, cond, if◌then◌else◌, List, [], ◌∷◌, ◌++◌, length, take, get_or}
use Rattle.std.proofs.Common.{Option, Some, None, is_some, unwrap_or}
use Rattle.std.proofs.Common.{inl, inr, refl, sym, ap, ◌∙◌, arith, ltb}
use Rattle.std.specs.List.{list_any, position_or_len}
use Rattle.std.specs.Ordering.{is_eq, nat_cmp, ordering_then}
use Rattle.std.specs.declared.cmp.Ordering.{Ordering}
use Rattle.std.specs.declared.cmp.Ordering.TheVariants as ordering
use Rattle.std.proofs.lemmas.Bool.{cases_Bool, eqb-true, ltb-true, ne_eqb, and_parts, or_parts}
use Rattle.std.proofs.lemmas.List.{take_more, length-take-le, length-map, map-append}
use Rattle.mach_fat_writer.specs.Entries.{FatEntryView, fat_entry_view, entry_views}
use Rattle.mach_fat_writer.specs.declared.entry.FatEntry.{FatEntry}
use Rattle.mach_fat_writer.specs.CreatedOrder.{FatRank, fat_rank, fat_rank_by, alike_cmp, is_keyed, first_keyed}

-- a key is found if a map's order says that it is equal
eq_of_cmp : (a b : ℕ) → is_eq (nat_cmp a b) ≡ (a == b)
eq_of_cmp a b = elim (cases_Bool (ltb a b)) [
  | inl less ↦
      let low = ltb-true a b less in
      let other : (a == b) ≡ false = ne_eqb a b (λ same. omega (arith, same, low)) in
      rw (less, other) refl
  | inr not_less ↦ rw not_less (equal (a == b) refl)
]
  where
    equal : (t : Bool) → (a == b) ≡ t → is_eq (cond (a == b) ordering.Equal ordering.Greater) ≡ (a == b)
    equal true e = rw e refl
    equal false e = rw e refl

of_both : (o p : Ordering) → is_eq (ordering_then o p) ≡ (is_eq o && is_eq p)
of_both ordering.Less p = refl
of_both ordering.Equal p = refl
of_both ordering.Greater p = refl

keyed_by_cmp : (e : FatEntryView) (key : ℕ × ℕ) → is_eq (alike_cmp (e.cputype, e.align) key) ≡ is_keyed key e
keyed_by_cmp e key = of_both (nat_cmp e.cputype key.0) (nat_cmp e.align key.1) ∙ rw (eq_of_cmp e.cputype key.0, eq_of_cmp e.align key.1) refl

-- the first, or one after them
abbrev first_or : Option ℕ → Bool → ℕ → Option ℕ
first_or (Some i) b n = Some i
first_or None true n = Some n
first_or None false n = None

abbrev first_at : (FatEntryView → Bool) → List FatEntryView → Option ℕ
first_at test es = if list_any test es then Some (position_or_len test es) else None

abbrev one_later : Option ℕ → Option ℕ
one_later None = None
one_later (Some i) = Some (1 + i)

following_one : (test : FatEntryView → Bool) (e : FatEntryView) (es : List FatEntryView) → test e ≡ false
    → first_at test (e ∷ es) ≡ one_later (first_at test es)
following_one test e es no_match = elim (cases_Bool (list_any test es)) [
  | inl there ↦ rw (no_match, there) refl
  | inr none ↦ rw (no_match, none) refl
]

later_or : (o : Option ℕ) (b : Bool) (n : ℕ) → one_later (first_or o b n) ≡ first_or (one_later o) b (1 + n)
later_or None true n = refl
later_or None false n = refl
later_or (Some i) b n = refl

first_more : (test : FatEntryView → Bool) (es : List FatEntryView) (e : FatEntryView)
    → first_at test (es ++ e ∷ []) ≡ first_or (first_at test es) (test e) (length es)
first_more test [] e = elim (cases_Bool (test e)) [
  | inl there ↦ rw there refl
  | inr none ↦ rw none refl
]
first_more test (x ∷ es) e = elim (cases_Bool (test x)) [
  | inl there ↦ rw there refl
  | inr none ↦
      following_one test x (es ++ e ∷ []) none
      ∙ (ap one_later (first_more test es e)
      ∙ (later_or (first_at test es) (test e) (length es)
      ∙ (ap (λ (o : Option ℕ). first_or o (test e) (1 + length es)) (sym (following_one test x es none))
      ∙ ap (first_or (first_at test (x ∷ es)) (test e)) (let one : 1 + length es ≡ suc (length es) = omega arith in one))))
]

-- the first entries with one entry more, whose key is new or isn't
keyed_more : (es : List FatEntry) (i : ℕ) (d : FatEntry) (key : ℕ × ℕ) → i < length es
    → first_keyed (entry_views (take (i + 1) es)) key
    ≡ first_or (first_keyed (entry_views (take i es)) key) (is_keyed key (fat_entry_view (get_or es i d))) i
keyed_more es i d key inside =
    let len : length (entry_views (take i es)) ≡ i = length-map (take i es) fat_entry_view ∙ length-take-le i es (omega (arith, inside)) in
    ap (λ (xs : List FatEntry). first_keyed (entry_views xs) key) (take_more es i d inside)
    ∙ (ap (λ (vs : List FatEntryView). first_keyed vs key) (map-append fat_entry_view (take i es) (get_or es i d ∷ []))
    ∙ (first_more (is_keyed key) (entry_views (take i es)) (fat_entry_view (get_or es i d))
    ∙ ap (first_or (first_keyed (entry_views (take i es)) key) (is_keyed key (fat_entry_view (get_or es i d)))) len))

kept_or : (o : Option ℕ) (b : Bool) (n : ℕ) → (b ≡ true → is_some o ≡ true) → first_or o b n ≡ o
kept_or (Some i) b n there = refl
kept_or None false n there = refl
kept_or None true n there = absurd (let wrong = there refl in cc)

added_or : (o : Option ℕ) (b : Bool) (n : ℕ) → (b ≡ true → is_some o ≡ false) → first_or o b n ≡ cond b (Some n) o
added_or None false n none = refl
added_or None true n none = refl
added_or (Some i) false n none = refl
added_or (Some i) true n none = absurd (let wrong = none refl in cc)

-- an entry that passes the test of a key has that key
same_key : (e : FatEntryView) (key : ℕ × ℕ) → is_keyed key e ≡ true → (e.cputype, e.align) ≡ key
same_key e key both =
    let parts = and_parts (e.cputype == key.0) (e.align == key.1) both in
    let type = eqb-true e.cputype key.0 parts.0 in
    let align = eqb-true e.align key.1 parts.1 in ap (λ (n : ℕ). (n, e.align)) type ∙ ap (λ (n : ℕ). (key.0, n)) align

abbrev key_at : List FatEntry → ℕ → FatEntry → ℕ × ℕ
key_at es i d = ((get_or es i d).cputype, (get_or es i d).align)

-- the first entries stay if the key of the entry is among them; else it is added
pub firsts_kept : (es : List FatEntry) (i : ℕ) (d : FatEntry) (old : ℕ × ℕ → Option ℕ) → i < length es
    → ((key : ℕ × ℕ) → old key ≡ first_keyed (entry_views (take i es)) key) → is_some (old (key_at es i d)) ≡ true → (key : ℕ × ℕ)
    → old key ≡ first_keyed (entry_views (take (i + 1) es)) key
firsts_kept es i d old inside was there key =
    let e = fat_entry_view (get_or es i d) in
    let some : is_keyed key e ≡ true → is_some (old key) ≡ true =
    λ is. ap (λ (k : ℕ × ℕ). is_some (old k)) (sym (same_key e key is)) ∙ there
    in
    sym (kept_or (old key) (is_keyed key e) i some)
    ∙ (ap (λ (o : Option ℕ). first_or o (is_keyed key e) i) (was key) ∙ sym (keyed_more es i d key inside))

pub firsts_added : (es : List FatEntry) (i : ℕ) (d : FatEntry) (old new : ℕ × ℕ → Option ℕ) → i < length es
    → ((key : ℕ × ℕ) → old key ≡ first_keyed (entry_views (take i es)) key) → is_some (old (key_at es i d)) ≡ false
    → ((key : ℕ × ℕ) → new key ≡ cond (is_eq (alike_cmp (key_at es i d) key)) (Some i) (old key)) → (key : ℕ × ℕ)
    → new key ≡ first_keyed (entry_views (take (i + 1) es)) key
firsts_added es i d old new inside was not_there is key =
    let e = fat_entry_view (get_or es i d) in
    let none : is_keyed key e ≡ true → is_some (old key) ≡ false =
    λ same. ap (λ (k : ℕ × ℕ). is_some (old k)) (sym (same_key e key same)) ∙ not_there
    in
    is key
    ∙ (ap (λ (b : Bool). cond b (Some i) (old key)) (keyed_by_cmp e key)
    ∙ (sym (added_or (old key) (is_keyed key e) i none)
    ∙ (ap (λ (o : Option ℕ). first_or o (is_keyed key e) i) (was key) ∙ sym (keyed_more es i d key inside))))

no_first : (test : FatEntryView → Bool) (es : List FatEntryView) → list_any test es ≡ false → position_or_len test es ≡ length es
no_first test [] none = refl
no_first test (e ∷ es) none =
    let both = or_parts (test e) (list_any test es) none in
    let one : 1 + length es ≡ suc (length es) = omega arith in rw both.0 (ap (λ (n : ℕ). 1 + n) (no_first test es both.1) ∙ one)

first_is : (test : FatEntryView → Bool) (es : List FatEntryView) → unwrap_or (first_at test es) (length es) ≡ position_or_len test es
first_is test es = elim (cases_Bool (list_any test es)) [
  | inl there ↦ rw there refl
  | inr none ↦ rw none (sym (no_first test es none))
]

pub ranks_are : (given : List FatEntry) (first : ℕ × ℕ → Option ℕ) (e : FatEntryView) → ((key : ℕ × ℕ) → first key ≡ first_keyed (entry_views given) key)
    → fat_rank_by first (length given) e ≡ fat_rank (entry_views given) e
ranks_are given first e are =
    let key : ℕ × ℕ = (e.cputype, e.align) in
    let at : unwrap_or (first key) (length given) ≡ position_or_len (is_keyed key) (entry_views given) =
    ap (λ (o : Option ℕ). unwrap_or o (length given)) (are key)
    ∙ (ap (unwrap_or (first_keyed (entry_views given) key)) (sym (length-map given fat_entry_view)) ∙ first_is (is_keyed key) (entry_views given))
    in
    ap (λ (n : ℕ). cond {A = FatRank} (e.cputype == 0x100_000c) (true, 0, 0, e.cpusubtype) (false, e.align, n, e.cpusubtype)) at
