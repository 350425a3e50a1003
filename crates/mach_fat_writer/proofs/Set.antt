-- Bytes that are set one after the other.
use Rattle.std.proofs.Common.{◌≡◌, ℕ, ◌+◌, ◌*◌, ◌≤◌, ◌<◌, ◌++◌, List, length, take, drop, get_or, replicate, false, true, sym, subst, ap, ◌∙◌, arith}
use Rattle.std.proofs.Math.ListN.{take-append-drop}
use Rattle.std.specs.List.{list_any}
use Rattle.std.proofs.lemmas.List.{length-map}
use Rattle.mach_base.specs.Record.{Field, size, spelling}
use Rattle.mach_base.specs.declared.context.Endian.TheVariants.{Big}
use Rattle.mach_fat_writer.specs.declared.entry.FatEntry.{FatEntry}
use Rattle.mach_fat_writer.specs.Entries.{FatEntryView, fat_entry_view, entry_views}
use Rattle.mach_fat_writer.specs.FatForms.{FatForm, gap_after, end_after, fat_place_after, fat_end, fat_contents, fat_records, table_end, fat_front}
use Rattle.mach_fat_writer.specs.FatForms.{fat_bytes}
use Rattle.mach_fat_writer.specs.FatWrites.{is_far_aligned, all_can_lie}
use Rattle.mach_fat_writer.proofs.Files.{bytes_are}
use Rattle.mach_fat_writer.proofs.Laid.{left_at, aligned_first, lie_first, ends_more, contents_more, records_more}
use Rattle.mach_fat_writer.proofs.Places.{ends_following}

-- the buffer after bytes were set up to a place: they follow what came before, and nothing after them changed
pub record Sets (old : List ℕ) (from : ℕ) (bytes new : List ℕ) (to : ℕ) : Type 0 where
  pub front : take to new ≡ take from old ++ bytes
  pub rest : (n : ℕ) → to ≤ n → drop n new ≡ drop n old
  pub long : length new ≡ length old

-- ---- the entries' bytes: the first i are set, and end at a place
pub record Setting (form : FatForm) (es : List FatEntry) (from : ℕ) (old : List ℕ) (end i : ℕ) (out : List ℕ) : Type 0 where
  pub aligned : list_any is_far_aligned (left_at es i) ≡ false
  pub within : all_can_lie form end (left_at es i) ≡ true
  pub ends : fat_end end (left_at es i) ≡ fat_end from (entry_views es)
  pub room : fat_end end (left_at es i) ≤ length out
  pub written : take end out ++ fat_contents end (left_at es i) ≡ take from old ++ fat_contents from (entry_views es)
  pub rest : (n : ℕ) → fat_end from (entry_views es) ≤ n → drop n out ≡ drop n old
  pub long : length out ≡ length old

-- the first of the entries left ends within what all of them take
pub first_within : (from : ℕ) (es : List FatEntry) (i most : ℕ) (d : FatEntry) → i < length es → fat_end from (left_at es i) ≤ most
    → end_after from (fat_entry_view (get_or es i d)) ≤ most
first_within from es i most d inside room =
    let same = ends_more from es i d inside in
    let later = ends_following (end_after from (fat_entry_view (get_or es i d))) (left_at es (i + 1)) in
    omega (arith, same, later, room)

pub zeros_fit : (end : ℕ) (es : List FatEntry) (i most : ℕ) (d : FatEntry) (gap : ℕ) → i < length es → fat_end end (left_at es i) ≤ most
    → gap ≡ gap_after end (get_or es i d).align → end + gap ≤ most
zeros_fit end es i most d gap inside room is = let all = first_within end es i most d inside room in omega (arith, all, is)

pub bytes_fit : (end : ℕ) (es : List FatEntry) (i most : ℕ) (d : FatEntry) (gap middle long : ℕ) → i < length es → fat_end end (left_at es i) ≤ most
    → gap ≡ gap_after end (get_or es i d).align → middle ≡ end + gap → long ≡ most → middle + length (get_or es i d).bytes.now ≤ long
bytes_fit end es i most d gap middle long inside room is_gap is_middle is_long =
    let all = first_within end es i most d inside room in
    omega (arith, all, is_gap, is_middle, is_long)

-- one more: its zeros, and its bytes
pub set_more : (form : FatForm) (es : List FatEntry) (from : ℕ) (old : List ℕ) (end i : ℕ) (out : List ℕ) (d : FatEntry) (gap middle to : ℕ)
    (between new : List ℕ) → i < length es → Setting form es from old end i out → gap ≡ gap_after end (get_or es i d).align → middle ≡ end + gap
    → Sets out end (replicate gap 0) between middle → to ≡ middle + length (get_or es i d).bytes.now
    → Sets between middle (get_or es i d).bytes.now new to → Setting form es from old to (i + 1) new
set_more form es from old end i out d gap middle to between new inside s is_gap is_middle zeros is_to bytes =
    let e = fat_entry_view (get_or es i d) in
    let left = left_at es (i + 1) in
    let at : to ≡ end_after end e = is_to ∙ ap (λ n. n + length e.bytes) (is_middle ∙ ap (λ g. end + g) is_gap) in
    let ends : fat_end to left ≡ fat_end from (entry_views es) = ap (λ n. fat_end n left) at ∙ (sym (ends_more end es i d inside) ∙ s.ends) in
    let before = s.ends in
    let room = s.room in
    let one = zeros.long in
    let two = bytes.long in
    let later = ends_following to left in
    record {
      aligned = (aligned_first es i d inside s.aligned).1;
      within = subst (λ (n : ℕ). all_can_lie form n left ≡ true) (sym at) (lie_first form end es i d inside s.within).1;
      ends = ends;
      room = omega (arith, ends, before, room, one, two);
      written =
          ap (λ (xs : List ℕ). xs ++ fat_contents to left)
          (bytes.front ∙ ap (λ (xs : List ℕ). xs ++ e.bytes) (zeros.front ∙ ap (λ (g : ℕ). take end out ++ replicate g 0) is_gap))
          ∙ (ap (λ (n : ℕ). ((take end out ++ replicate (gap_after end e.align) 0) ++ e.bytes) ++ fat_contents n left) at
          ∙ (sym (contents_more end es i d (take end out) inside) ∙ s.written));
      rest = λ n less.
          let following : to ≤ n = omega (arith, ends, later, less) in
          bytes.rest n following ∙ (zeros.rest n (omega (arith, following, is_to)) ∙ s.rest n less);
      long = two ∙ (one ∙ s.long);
    }

-- ---- records: the first i are set, and end at a place
pub record Recording (form : FatForm) (width : ℕ) (es : List FatEntry) (begin from : ℕ) (old : List ℕ) (at end i : ℕ) (out : List ℕ) : Type 0 where
  pub aligned : list_any is_far_aligned (left_at es i) ≡ false
  pub within : all_can_lie form end (left_at es i) ≡ true
  pub place : at ≡ begin + width * i
  pub written : take at out ++ fat_records form end (left_at es i) ≡ take begin old ++ fat_records form from (entry_views es)
  pub rest : (n : ℕ) → at ≤ n → drop n out ≡ drop n old
  pub long : length out ≡ length old

-- one more
pub record_more : (form : FatForm) (width : ℕ) (es : List FatEntry) (begin from : ℕ) (old : List ℕ) (at end i : ℕ) (out : List ℕ) (d : FatEntry)
    (place last to : ℕ) (new : List ℕ) → i < length es → Recording form width es begin from old at end i out
    → place ≡ fat_place_after end (fat_entry_view (get_or es i d)) → last ≡ place + length (get_or es i d).bytes.now → to ≡ at + width
    → Sets out at (spelling Big form.fields (form.values (fat_entry_view (get_or es i d)) place)) new to
    → Recording form width es begin from old to last (i + 1) new
record_more form width es begin from old at end i out d place last to new inside s is_place is_last is_to set =
    let e = fat_entry_view (get_or es i d) in
    let left = left_at es (i + 1) in
    let ends : last ≡ end_after end e = is_last ∙ ap (λ n. n + length e.bytes) is_place in
    let at_is = s.place in
    record {
      aligned = (aligned_first es i d inside s.aligned).1;
      within = subst (λ (n : ℕ). all_can_lie form n left ≡ true) (sym ends) (lie_first form end es i d inside s.within).1;
      place = next width begin at to i is_to at_is;
      written =
          ap (λ (xs : List ℕ). xs ++ fat_records form last left)
          (set.front ∙ ap (λ (p : ℕ). take at out ++ spelling Big form.fields (form.values e p)) is_place)
          ∙ (ap (λ (n : ℕ). (take at out ++ spelling Big form.fields (form.values e (fat_place_after end e))) ++ fat_records form n left) ends
          ∙ (sym (records_more form end es i d (take at out) inside) ∙ s.written));
      rest = λ n less. set.rest n less ∙ s.rest n (omega (arith, is_to, less));
      long = set.long ∙ s.long;
    }
  where
    next : (width begin at to i : ℕ) → to ≡ at + width → at ≡ begin + width * i → to ≡ begin + width * (i + 1)
    next width begin at to i one two = grind (arith, one, two)

-- ---- the file: its header, its records, its entries' bytes
pub all_set : (form : FatForm) (es : List FatEntryView) (from : ℕ) (old one two new : List ℕ) (first second last : ℕ) → from ≡ table_end form (length es)
    → take first one ≡ fat_front form (length es) → ((n : ℕ) → first ≤ n → drop n one ≡ drop n old) → Sets one first (fat_records form from es) two second
    → second ≡ from → first ≤ second → Sets two from (fat_contents from es) new last → last ≡ fat_end from es
    → new ≡ fat_bytes form es ++ drop (fat_end from es) old
all_set form es from old one two new first second last table front rest records is_second less contents is_last =
    let later = ends_following from es in
    let whole : take last new ≡ fat_bytes form es =
    contents.front
    ∙ (ap (λ (n : ℕ). take n two ++ fat_contents from es) (sym is_second)
    ∙ (ap (λ (xs : List ℕ). xs ++ fat_contents from es) (records.front ∙ ap (λ (xs : List ℕ). xs ++ fat_records form from es) front)
    ∙ bytes_are form es from table))
    in
    let following : drop last new ≡ drop (fat_end from es) old =
    contents.rest last (omega arith)
    ∙ (records.rest last (omega (arith, is_second, is_last, later))
    ∙ (rest last (omega (arith, is_second, is_last, later, less)) ∙ ap (λ (n : ℕ). drop n old) is_last))
    in
    sym (take-append-drop last new) ∙ (ap (λ (xs : List ℕ). xs ++ drop last new) whole ∙ ap (λ (xs : List ℕ). fat_bytes form es ++ xs) following)

-- where the table ends, by the size of a record
pub table_is : (form : FatForm) (width : ℕ) (fields : List Field) (es : List FatEntry) (from : ℕ) → width ≡ size fields → fields ≡ form.fields
    → from ≡ table_end form (length (entry_views es)) → from ≡ 8 + width * length es
table_is form width fields es from wide same table =
    table ∙ (ap (λ (n : ℕ). 8 + size form.fields * n) (length-map es fat_entry_view)
    ∙ ap (λ (n : ℕ). 8 + n * length es) (sym (wide ∙ ap size same)))
