-- Entries one after the other: what holds for those from one on holds for it and for those after it.
use Rattle.std.proofs.Common.{◌≡◌, ◌&&◌, ◌||◌, ℕ, ◌+◌, ◌^◌, ◌<◌, ◌≤◌, Bool, true, false, List}
use Rattle.std.proofs.Common.{[], ◌∷◌, ◌++◌, length, drop, replicate, get_or, refl, sym, ap, ◌∙◌, append_assoc}
use Rattle.std.specs.List.{list_any}
use Rattle.std.proofs.lemmas.Bool.{and_parts, or_parts, leb-true, ltb-true, ltb-false, and_left}
use Rattle.std.proofs.lemmas.List.{at_drop_more, drop_all}
use Rattle.mach_base.specs.Record.{spelling}
use Rattle.mach_base.specs.declared.context.Endian.TheVariants.{Big}
use Rattle.mach_fat_writer.specs.declared.entry.FatEntry.{FatEntry}
use Rattle.mach_fat_writer.specs.Entries.{FatEntryView, fat_entry_view, entry_views}
use Rattle.mach_fat_writer.specs.FatForms.{FatForm, gap_after, fat_place_after, end_after, fat_end, fat_records, fat_contents}
use Rattle.mach_fat_writer.specs.FatWrites.{is_far_aligned, can_lie, all_can_lie}

-- the entries from index i on
abbrev pub left_at : List FatEntry → ℕ → List FatEntryView
left_at es i = entry_views (drop i es)

pub none_left : {Y : Type 0} (F : List FatEntryView → Y) (es : List FatEntry) (i : ℕ) → length es ≤ i → F (left_at es i) ≡ F []
none_left F es i past = ap (λ (xs : List FatEntry). F (entry_views xs)) (drop_all i es past)

-- an entry whose place and length fit
pub record Lies (form : FatForm) (from : ℕ) (e : FatEntryView) : Type 0 where
  pub place : fat_place_after from e ≤ form.most
  pub len : length e.bytes ≤ form.most
  pub end : end_after from e < 2 ^ 64

lies : (form : FatForm) (from : ℕ) (e : FatEntryView) → can_lie form from e ≡ true → Lies form from e
lies form from e can =
    let both = and_parts _ _ can in
    let numbers = and_parts _ _ both.0 in
    record { place = leb-true _ _ numbers.0; len = leb-true _ _ numbers.1; end = ltb-true _ _ both.1 }

pub aligned_first : (es : List FatEntry) (i : ℕ) (d : FatEntry) → i < length es → list_any is_far_aligned (left_at es i) ≡ false
    → ((get_or es i d).align ≤ 15) × (list_any is_far_aligned (left_at es (i + 1)) ≡ false)
aligned_first es i d inside none =
    let e = fat_entry_view (get_or es i d) in
    let step = at_drop_more (λ (xs : List FatEntry). list_any is_far_aligned (entry_views xs)) es i d inside in
    let both = or_parts (is_far_aligned e) (list_any is_far_aligned (left_at es (i + 1))) (sym step ∙ none) in
    (ltb-false 15 (get_or es i d).align both.0, both.1)

pub lie_first : (form : FatForm) (from : ℕ) (es : List FatEntry) (i : ℕ) (d : FatEntry) → i < length es → all_can_lie form from (left_at es i) ≡ true
    → Lies form from (fat_entry_view (get_or es i d))
    × (all_can_lie form (end_after from (fat_entry_view (get_or es i d))) (left_at es (i + 1)) ≡ true)
lie_first form from es i d inside all =
    let e = fat_entry_view (get_or es i d) in
    let step = at_drop_more (λ (xs : List FatEntry). all_can_lie form from (entry_views xs)) es i d inside in
    let both = and_parts (can_lie form from e) (all_can_lie form (end_after from e) (left_at es (i + 1))) (sym step ∙ all) in
    (lies form from e both.0, both.1)

pub within_more : (form : FatForm) (from : ℕ) (es : List FatEntry) (i : ℕ) (d : FatEntry) → i < length es
    → can_lie form from (fat_entry_view (get_or es i d)) ≡ true
    → all_can_lie form from (left_at es i) ≡ all_can_lie form (end_after from (fat_entry_view (get_or es i d))) (left_at es (i + 1))
within_more form from es i d inside can =
    at_drop_more (λ (xs : List FatEntry). all_can_lie form from (entry_views xs)) es i d inside
    ∙ ap (λ (b : Bool). b && all_can_lie form (end_after from (fat_entry_view (get_or es i d))) (left_at es (i + 1))) can

pub within_not : (form : FatForm) (from : ℕ) (es : List FatEntry) (i : ℕ) (d : FatEntry) → i < length es
    → can_lie form from (fat_entry_view (get_or es i d)) ≡ false → all_can_lie form from (left_at es i) ≡ false
within_not form from es i d inside not_there =
    at_drop_more (λ (xs : List FatEntry). all_can_lie form from (entry_views xs)) es i d inside
    ∙ and_left _ _ not_there

pub ends_more : (from : ℕ) (es : List FatEntry) (i : ℕ) (d : FatEntry) → i < length es
    → fat_end from (left_at es i) ≡ fat_end (end_after from (fat_entry_view (get_or es i d))) (left_at es (i + 1))
ends_more from es i d inside = at_drop_more (λ (xs : List FatEntry). fat_end from (entry_views xs)) es i d inside

pub records_more : (form : FatForm) (from : ℕ) (es : List FatEntry) (i : ℕ) (d : FatEntry) (out : List ℕ) → i < length es
    → let e = fat_entry_view (get_or es i d) in
    out ++ fat_records form from (left_at es i)
    ≡ (out ++ spelling Big form.fields (form.values e (fat_place_after from e))) ++ fat_records form (end_after from e) (left_at es (i + 1))
records_more form from es i d out inside =
    let e = fat_entry_view (get_or es i d) in
    ap (λ (xs : List ℕ). out ++ xs) (at_drop_more (λ (xs : List FatEntry). fat_records form from (entry_views xs)) es i d inside)
    ∙ sym (append_assoc out (spelling Big form.fields (form.values e (fat_place_after from e))) (fat_records form (end_after from e) (left_at es (i + 1))))

pub contents_more : (from : ℕ) (es : List FatEntry) (i : ℕ) (d : FatEntry) (out : List ℕ) → i < length es
    → let e = fat_entry_view (get_or es i d) in
    out ++ fat_contents from (left_at es i)
    ≡ ((out ++ replicate (gap_after from e.align) 0) ++ e.bytes) ++ fat_contents (end_after from e) (left_at es (i + 1))
contents_more from es i d out inside =
    let e = fat_entry_view (get_or es i d) in
    let zeros = replicate (gap_after from e.align) 0 in
    let following = fat_contents (end_after from e) (left_at es (i + 1)) in
    ap (λ (xs : List ℕ). out ++ xs) (at_drop_more (λ (xs : List FatEntry). fat_contents from (entry_views xs)) es i d inside)
    ∙ (sym (append_assoc out zeros (e.bytes ++ following)) ∙ sym (append_assoc (out ++ zeros) e.bytes following))

-- a test of entries, and of their views
pub any_of_views : (test : FatEntryView → Bool) (es : List FatEntry) → list_any (λ e. test (fat_entry_view e)) es ≡ list_any test (entry_views es)
any_of_views test [] = refl
any_of_views test (e ∷ es) = ap (λ (b : Bool). test (fat_entry_view e) || b) (any_of_views test es)
