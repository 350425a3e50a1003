-- A written file holds the entries that it was written from.
use Rattle.std.proofs.Common.{◌≡◌, ℕ, suc, ◌+◌, ◌*◌, ◌^◌, ◌<◌, Bool, true, false, cond, List, [], ◌∷◌, ◌++◌, length, drop, take, replicate, Result, Ok, Err}
use Rattle.std.proofs.Common.{nat_le, nat_lt, ◌⊎◌, inl, inr, refl, sym, ap, ◌∙◌, subst, append_assoc, arith}
use Rattle.std.specs.List.{list_any}
use Rattle.std.proofs.lemmas.Bool.{and_parts, or_parts, ltb-true, ltb-false, leb-true, le-leb}
use Rattle.std.proofs.lemmas.List.{length-append, length-replicate, drop_at, take_at}
use Rattle.std.proofs.Math.Nat.{mul-suc}
use Rattle.mach_base.specs.Items.{items_from, all_read}
use Rattle.mach_base.specs.Number.{number}
use Rattle.mach_base.specs.Record.{Value, number_is, number_among, values_in, AllFit, spelling, record_at, size}
use Rattle.mach_base.specs.declared.context.Endian.TheVariants.{Big}
use Rattle.mach_base.proofs.Spelled.{length-spelling, record_at-spelling, values-back}
use Rattle.mach_parts.specs.Fat.{part_of, fat_header_fields}
use Rattle.mach_fat_writer.specs.Entries.{FatEntryView, are_of_one_cpu, any_two}
use Rattle.mach_fat_writer.specs.FatForms.{FatForm, gap_after, fat_place_after, end_after, table_end, fat_front, fat_records, fat_contents, fat_bytes}
use Rattle.mach_fat_writer.specs.FatForms.{fat_end}
use Rattle.mach_fat_writer.specs.FatReads.{HaveNumbers, declared_record, declared_records, records_of, entry_of_record, entries_of_records}
use Rattle.mach_fat_writer.specs.FatWrites.{far_aligned, one_cpu_twice, too_far, is_far_aligned, can_lie, all_can_lie, is_encodable, fat_file_of}
use Rattle.mach_fat_writer.proofs.Forms.{HoldsEntries}
use Rattle.mach_fat_writer.proofs.Places.{length-contents}

-- each record holds what it says
abbrev AllSay : FatForm → ℕ → List FatEntryView → Type 0
AllSay form from [] = Unit {0}
AllSay form from (e ∷ es) = AllFit form.fields (form.values e (fat_place_after from e)) × AllSay form (end_after from e) es

abbrev made_of : ℕ → ℕ → ℕ → List ℕ → FatEntryView
made_of a b c ds = record { cputype = a; cpusubtype = b; align = c; bytes = ds }

same_entry : (e f : FatEntryView) → e.cputype ≡ f.cputype → e.cpusubtype ≡ f.cpusubtype → e.align ≡ f.align → e.bytes ≡ f.bytes → e ≡ f
same_entry e f type subtype align bytes =
    ap (λ (n : ℕ). made_of n e.cpusubtype e.align e.bytes) type
    ∙ (ap (λ (n : ℕ). made_of f.cputype n e.align e.bytes) subtype
    ∙ (ap (λ (n : ℕ). made_of f.cputype f.cpusubtype n e.bytes) align ∙ ap (made_of f.cputype f.cpusubtype f.align) bytes))

part_is : (front bytes rest : List ℕ) (s n : ℕ) → length front ≡ s → length bytes ≡ n → part_of (front ++ (bytes ++ rest)) s n ≡ bytes
part_is front bytes rest s n start len =
    let lies : nat_le (s + n) (length (front ++ (bytes ++ rest))) ≡ true =
    le-leb (s + n) (length (front ++ (bytes ++ rest))) (omega (arith, start, len, length-append front (bytes ++ rest), length-append bytes rest))
    in
    rw lies (ap (take n) (drop_at front (bytes ++ rest) s start) ∙ take_at bytes rest n len)

module _ (form : FatForm) (holds : HoldsEntries form) where
  all_say : (from : ℕ) (es : List FatEntryView) → HaveNumbers es → list_any is_far_aligned es ≡ false → all_can_lie form from es ≡ true
      → AllSay form from es
  all_say from [] numbers near lie = tt
  all_say from (e ∷ es) numbers near lie =
      let aligned = or_parts (is_far_aligned e) (list_any is_far_aligned es) near in
      let both = and_parts (can_lie form from e) (all_can_lie form (end_after from e) es) lie in
      let parts = and_parts _ _ both.0 in
      let most = and_parts _ _ parts.0 in (
        holds.fits e (fat_place_after from e) numbers.0 numbers.1 (ltb-false 15 e.align aligned.0) (leb-true _ _ most.0) (leb-true _ _ most.1),
        all_say (end_after from e) es numbers.2 aligned.1 both.1,
      )

  length-records : (from : ℕ) (es : List FatEntryView) → AllSay form from es → length (fat_records form from es) ≡ size form.fields * length es
  length-records from [] say = omega arith
  length-records from (e ∷ es) say =
      let vs = form.values e (fat_place_after from e) in
      let later = length-records (end_after from e) es say.1 in
      let more : size form.fields * suc (length es) ≡ size form.fields * length es + size form.fields = mul-suc (size form.fields) (length es) in
      omega (
        arith,
        later,
        more,
        length-append (spelling Big form.fields vs) (fat_records form (end_after from e) es),
        length-spelling Big form.fields vs say.0,
      )

  -- the records, read one after the other
  records_back : (whole : List ℕ) (k from : ℕ) (front rest : List ℕ) (es : List FatEntryView) → whole ≡ front ++ (fat_records form from es ++ rest)
      → length front ≡ 8 + size form.fields * k → AllSay form from es
      → all_read (items_from (declared_record form whole) k (length es)) ≡ Ok (records_of form from es)
  records_back whole k from front rest [] is len say = refl
  records_back whole k from front rest (e ∷ es) is len say =
      let vs = form.values e (fat_place_after from e) in
      let spelled = spelling Big form.fields vs in
      let later = fat_records form (end_after from e) es in
      let at : whole ≡ front ++ (spelled ++ (later ++ rest)) = is ∙ ap (λ (xs : List ℕ). front ++ xs) (append_assoc spelled later rest) in
      let here : declared_record form whole k ≡ Ok vs =
      ap (λ (xs : List ℕ). record_at Big form.fields xs (8 + size form.fields * k)) at
      ∙ record_at-spelling Big form.fields vs (8 + size form.fields * k) front (later ++ rest) len say.0 holds.some
      in
      let more : size form.fields * suc k ≡ size form.fields * k + size form.fields = mul-suc (size form.fields) k in
      let one : k + 1 ≡ suc k = omega arith in
      let next_len : length (front ++ spelled) ≡ 8 + size form.fields * (k + 1) =
      rw one (omega (arith, more, len, length-append front spelled, length-spelling Big form.fields vs say.0))
      in
      let next = records_back whole (k + 1) (end_after from e) (front ++ spelled) rest es (at ∙ sym (append_assoc front spelled (later ++ rest)))
      next_len say.1 in
      rw (here, next) refl

  -- the entries of these records
  entries_back : (whole : List ℕ) (from : ℕ) (before : List ℕ) (es : List FatEntryView) → whole ≡ before ++ fat_contents from es
      → length before ≡ from → entries_of_records whole (records_of form from es) ≡ es
  entries_back whole from before [] is len = refl
  entries_back whole from before (e ∷ es) is len =
      let place = fat_place_after from e in
      let vs = form.values e place in
      let zeros : List ℕ = replicate (gap_after from e.align) 0 in
      let later = fat_contents (end_after from e) es in
      let at : whole ≡ (before ++ zeros) ++ (e.bytes ++ later) = is ∙ sym (append_assoc before zeros (e.bytes ++ later)) in
      let start : length (before ++ zeros) ≡ place = omega (arith, len, length-append before zeros, length-replicate {A = ℕ} (gap_after from e.align) 0) in
      let part : part_of whole place (length e.bytes) ≡ e.bytes =
      ap (λ (xs : List ℕ). part_of xs place (length e.bytes)) at ∙ part_is (before ++ zeros) e.bytes later place (length e.bytes) start refl
      in
      let bytes : part_of whole (number_among vs 2) (number_among vs 3) ≡ e.bytes =
      ap (λ (s : ℕ). part_of whole s (number_among vs 3)) (holds.place e place) ∙ (ap (part_of whole place) (holds.len e place) ∙ part)
      in
      let here : entry_of_record whole vs ≡ e =
      same_entry (entry_of_record whole vs) e (holds.cputype e place) (holds.cpusubtype e place) (holds.align e place) bytes
      in
      let next : length ((before ++ zeros) ++ e.bytes) ≡ end_after from e = omega (arith, start, length-append (before ++ zeros) e.bytes) in
      let others = entries_back whole (end_after from e) ((before ++ zeros) ++ e.bytes) es (at ∙ sym (append_assoc (before ++ zeros) e.bytes later))
      next in
      rw (here, others) refl

  front_fits : (n : ℕ) → n < 2 ^ 32 → AllFit fat_header_fields (number_is form.magic ∷ number_is n ∷ [])
  front_fits n low = (holds.magic, (low, tt))

  -- what a written file holds
  file_says : (es : List FatEntryView) → HaveNumbers es → list_any is_far_aligned es ≡ false → is_encodable form es ≡ true
      → (number Big 4 (fat_bytes form es) ≡ form.magic) × (length (fat_bytes form es) ≡ fat_end (table_end form (length es)) es)
      × (declared_records form (fat_bytes form es) ≡ Ok (records_of form (table_end form (length es)) es))
      × (entries_of_records (fat_bytes form es) (records_of form (table_end form (length es)) es) ≡ es)
  unfolding fat_bytes
  file_says es numbers near encodable =
      let n = length es in
      let from = table_end form n in
      let both = and_parts (nat_lt n (2 ^ 32)) (all_can_lie form from es) encodable in
      let low : n < 2 ^ 32 = ltb-true n (2 ^ 32) both.0 in
      let say = all_say from es numbers near both.1 in
      let front = fat_front form n in
      let records = fat_records form from es in
      let contents = fat_contents from es in
      let eight : length front ≡ 8 = length-spelling Big fat_header_fields (number_is form.magic ∷ number_is n ∷ []) (front_fits n low) in
      let table = length-records from es say in
      let first_message : values_in Big fat_header_fields 0 (front ++ (records ++ contents)) ≡ number_is form.magic ∷ number_is n ∷ [] =
      values-back Big fat_header_fields (number_is form.magic ∷ number_is n ∷ []) (records ++ contents) (front_fits n low)
      in
      let magic : number Big 4 (front ++ (records ++ contents)) ≡ form.magic = ap (λ (vs : List Value). number_among vs 0) first_message in
      let count : number Big 4 (drop 4 (front ++ (records ++ contents))) ≡ n = ap (λ (vs : List Value). number_among vs 1) first_message in
      let start : length front ≡ 8 + size form.fields * 0 = omega (arith, eight) in
      let ends : length (front ++ records) ≡ from = omega (arith, eight, table, length-append front records) in (
        magic,
        omega (
          arith,
          ends,
          length-append front (records ++ contents),
          length-append front records,
          length-append records contents,
          length-contents from es,
        ),
        ap (λ (m : ℕ). all_read (items_from (declared_record form (front ++ (records ++ contents))) 0 m)) count
            ∙ records_back (front ++ (records ++ contents)) 0 from front contents es refl start say,
        entries_back (front ++ (records ++ contents)) from (front ++ records) es (sym (append_assoc front records contents)) ends,
      )

-- which of two answers it is
chosen_of : {A E : Type 0} (b : Bool) (x y z : Result A E) → cond b x y ≡ z → ((b ≡ true) × (x ≡ z)) ⊎ ((b ≡ false) × (y ≡ z))
chosen_of true x y z e = inl (refl, e)
chosen_of false x y z e = inr (refl, e)

-- if there is a file, no test refuses its entries
record WasWritten (form : FatForm) (es : List FatEntryView) (file : List ℕ) : Type 0 where
  pub near : list_any is_far_aligned es ≡ false
  pub encodable : is_encodable form es ≡ true
  pub is : fat_bytes form es ≡ file

was_written : (form : FatForm) (es : List FatEntryView) (file : List ℕ) → fat_file_of form es ≡ Ok file → WasWritten form es file
was_written form es file e =
    let last = cond (is_encodable form es) (Ok (fat_bytes form es)) (Err too_far) in
    elim (chosen_of (list_any is_far_aligned es) (Err far_aligned) (cond (any_two are_of_one_cpu es) (Err one_cpu_twice) last) (Ok file) e) [
      | inl far ↦ absurd (let wrong = far.1 in cc)
      | inr near ↦ elim (chosen_of (any_two are_of_one_cpu es) (Err one_cpu_twice) last (Ok file) near.1) [
        | inl two ↦ absurd (let wrong = two.1 in cc)
        | inr apart ↦ elim (chosen_of (is_encodable form es) (Ok (fat_bytes form es)) (Err too_far) (Ok file) apart.1) [
          | inl encodable ↦ record { near = near.0; encodable = encodable.0; is = let same = encodable.1 in cc }
          | inr past ↦ absurd (let wrong = past.1 in cc)
        ]
      ]
    ]

-- the whole list of entries is read back from a written file
pub read_back : (form : FatForm) → HoldsEntries form → (es : List FatEntryView) (file : List ℕ) → HaveNumbers es → fat_file_of form es ≡ Ok file
    → (number Big 4 file ≡ form.magic) × (length file ≡ fat_end (table_end form (length es)) es)
    × (declared_records form file ≡ Ok (records_of form (table_end form (length es)) es))
    × (entries_of_records file (records_of form (table_end form (length es)) es) ≡ es)
read_back form holds es file numbers e =
    let was = was_written form es file e in
    subst (λ (xs : List ℕ). (number Big 4 xs ≡ form.magic) × (length xs ≡ fat_end (table_end form (length es)) es)
    × (declared_records form xs ≡ Ok (records_of form (table_end form (length es)) es))
    × (entries_of_records xs (records_of form (table_end form (length es)) es) ≡ es))
    was.is (file_says form holds es numbers was.near was.encodable)

-- and the entries of its records are written as the same file
pub written_again : (form : FatForm) → HoldsEntries form → (es : List FatEntryView) (file : List ℕ) (records : List (List Value)) → HaveNumbers es
    → fat_file_of form es ≡ Ok file → declared_records form file ≡ Ok records → fat_file_of form (entries_of_records file records) ≡ Ok file
written_again form holds es file records numbers e encodable =
    let back = read_back form holds es file numbers e in
    let same : records_of form (table_end form (length es)) es ≡ records = let there = sym back.2 ∙ encodable in cc in
    ap (λ (rs : List (List Value)). fat_file_of form (entries_of_records file rs)) (sym same) ∙ (ap (fat_file_of form) back.3 ∙ e)
