-- Files that are sound, and what they open as.
use Rattle.std.proofs.Common.{◌++◌, below_more, nat_lt, length, min, ◌≡◌, ◌<◌, ◌≤◌, ◌+◌, ◌∙◌, ◌∷◌, [], ℕ, zero, suc, Bool, true, false, List}
use Rattle.std.proofs.Common.{Result, Ok, Err, refl, sym, subst, arith, inl, inr}
use Rattle.std.proofs.Math.Dec.{eqb-suc-zero}
use Rattle.std.proofs.lemmas.Bool.{ltb-true, ltb-false}
use Rattle.std.specs.Borrow.{Bor}
use Rattle.std.specs.Prelude.{◌⊎◌, ◌==◌, if◌then◌else◌, IsOk}
use Rattle.mach_base.proofs.Binds.{same_ok}
use Rattle.mach_base.specs.Answer.{ErrorMeets, FailsAs}
use Rattle.mach_base.specs.Fault.{Fault, fault_of}
use Rattle.mach_base.specs.declared.error.Error.TheVariants as errors
use Rattle.mach_base.specs.declared.error.Error.{Error}
use Rattle.mach_archive.specs.Archives.{archive_in}
use Rattle.goblin_mach.proofs.Files.{fat-excludes_image}
use Rattle.goblin_mach.proofs.WholeFiles.{view_fault-excludes, entries_of_image}
use Rattle.goblin_mach.specs.FatEntry.{FatEntry, archive, image, arch_entry_in, entries_of, EntryOpens, IsEntry}
use Rattle.goblin_mach.specs.OpenImage.{IsImage}
use Rattle.goblin_mach.specs.declared.fat_file.entry.SingleArch.TheVariants as arches
use Rattle.goblin_mach.specs.declared.macho.MachO.{MachO}
use Rattle.mach_parts.specs.ArchForms.{ArchForm, arch_form_32}
use Rattle.mach_layout.specs.Containers.{AreContainerFaults}
use Rattle.goblin_mach.specs.FatFile.{FatFile, fat_file_in, arch_table_in}
use Rattle.goblin_mach.specs.Image.{Opens, LossyOpens, ImageFault}
use Rattle.goblin_mach.specs.File.{HasFatMagic, MachFault}
use Rattle.goblin_mach.specs.View.{HasEntries, fat_table, of_file, IsReported}
use Rattle.mach_audit.proofs.EntryBytes.{arches_count}
use Rattle.mach_audit.proofs.Goes.{error_meets}
use Rattle.mach_audit.proofs.GoneOver.{overlaid_by, not_overlaid}
use Rattle.mach_audit.proofs.Judgements.{all_push, sound_judged, cut_judged, faulty_judged, both_judged, both_faulty, judged_as}
use Rattle.mach_audit.specs.Overlaid.{AreGoneOver, AreOverlaid, every}
use Rattle.mach_audit.specs.Sound as sound
use Rattle.mach_audit.specs.Sound.{IsSound, IsSoundArchive, IsSoundImage, IsSoundFat, IsSoundEntry, IsLongArchive, IsLongEntry, IsLong, IsLongFat, HasLongList}
use Rattle.mach_audit.specs.Verdicts.{Judges, verdict_of_all, verdict_of_both, verdict_of_cut, verdict_of_entry}
use Rattle.mach_audit.specs.declared.report.EntryReport.{EntryReport}
use Rattle.mach_audit.specs.declared.verdict.Soundness.TheVariants.{Sound, Faulty}
use Rattle.mach_audit.specs.declared.verdict.Soundness.{Soundness}

-- an image that opens is no fat file
pub no_fat : (bytes : List ℕ) → Opens bytes 0 → HasFatMagic bytes → ⊥
no_fat bytes opens fat = fat-excludes_image bytes fat (opens.0, opens.1, opens.2.lossy)

-- a sound file has entries
pub sound_entries : (bytes : List ℕ) → IsSound bytes → (entries : List (Result FatEntry Fault)) × HasEntries bytes entries
sound_entries bytes (sound.one_image s) = (Ok (image bytes) ∷ [], entries_of_image bytes s.opens)
sound_entries bytes (sound.fat_file file fat is table s) = (entries_of file, fat_table file fat is s.table)

-- a refused file isn't sound
pub refused_judged : (limit : ℕ) (bytes : List ℕ) (e : Error) → ErrorMeets (MachFault ImageFault bytes) e → IsReported e
    → Judges (IsSound bytes) (IsLong limit bytes) Faulty
refused_judged limit bytes e occurs reported = faulty_judged (λ s.
    let has = sound_entries bytes s in
    view_fault-excludes bytes _ has.0 (of_file _ (error_meets (MachFault ImageFault bytes) e reported occurs)) has.1)

-- the file of one image
pub image_judged : (limit : ℕ) (bytes : List ℕ) (v : Soundness) → Opens bytes 0 → Judges (IsSoundImage bytes) (HasLongList (min limit (length bytes)) bytes) v
    → Judges (IsSound bytes) (IsLong limit bytes) v
image_judged limit bytes v opens j = judged_as v (λ s. sound.one_image s) back (λ l. sound.of_image l) shorter j
  where
    shorter : IsLong limit bytes → HasLongList (min limit (length bytes)) bytes
    shorter (sound.of_image l) = l
    shorter (sound.of_fat file fat is l) = absurd (no_fat bytes opens fat)

    back : IsSound bytes → IsSoundImage bytes
    back (sound.one_image s) = s
    back (sound.fat_file file fat is table s) = absurd (no_fat bytes opens fat)

-- a long list belongs to an image that opens
long_opens : (limit : ℕ) (bytes : List ℕ) → HasLongList limit bytes → LossyOpens bytes 0
long_opens limit bytes (sound.of_sections items has l) = (has.ctx, has.cs, has.opens)
long_opens limit bytes (sound.of_relocations items has l) = (has.ctx, has.cs, has.opens)
long_opens limit bytes (sound.of_symbols items has l) = (has.ctx, has.cs, has.opens)
long_opens limit bytes (sound.of_exports items has l) = (has.ctx, has.cs, has.opens)
long_opens limit bytes (sound.of_imports items has l) = (has.ctx, has.cs, has.opens)
long_opens limit bytes (sound.of_fixups items has l) = (has.ctx, has.cs, has.opens)
long_opens limit bytes (sound.of_bindings items has l) = (has.ctx, has.cs, has.opens)

-- a fat file
pub fat_judged : (limit : ℕ) (bytes : List ℕ) (file : FatFile) (v : Soundness) → HasFatMagic bytes → fat_file_in bytes ≡ Ok file
    → Judges (AreContainerFaults arch_form_32 bytes [] × IsSoundFat arch_form_32 file) (IsLongFat arch_form_32 limit file) v
    → Judges (IsSound bytes) (IsLong limit bytes) v
fat_judged limit bytes file v fat is j = judged_as v (λ s. sound.fat_file file fat is s.0 s.1) back (λ l. sound.of_fat file fat is l) shorter j
  where
    shorter : IsLong limit bytes → IsLongFat arch_form_32 limit file
    shorter (sound.of_image l) = absurd (fat-excludes_image bytes fat (long_opens (min limit (length bytes)) bytes l))
    shorter (sound.of_fat other f other_is l) = subst (λ (x : FatFile). IsLongFat arch_form_32 limit x) (same_ok (sym other_is ∙ is)) l

    back : IsSound bytes → AreContainerFaults arch_form_32 bytes [] × IsSoundFat arch_form_32 file
    back (sound.one_image s) = absurd (no_fat bytes s.opens fat)
    back (sound.fat_file other f other_is none s) = (none, subst (λ (x : FatFile). IsSoundFat arch_form_32 x) (same_ok (sym other_is ∙ is)) s)

-- ---- entries

-- what each entry before number n is
abbrev pub AllSound : {R : Type 0} → ArchForm R → FatFile → ℕ → Type 0
AllSound form file n = (k : ℕ) → k < n → IsSoundEntry (arch_entry_in form file k)

abbrev pub SomeLong : {R : Type 0} → ArchForm R → ℕ → FatFile → ℕ → Type 0
SomeLong form limit file n = (k : ℕ) × (k < n) × IsLongEntry limit (arch_entry_in form file k)

pub archive_judged : (A : Type 0) (limit : ℕ) (entry : Result FatEntry Fault) (e : FatEntry) (bytes : Bor (List ℕ)) (v : Soundness) → entry ≡ Ok e
    → IsEntry {A = A} e (arches.Archive bytes) → Judges (IsSoundArchive (archive_in bytes.now)) (IsLongArchive limit (archive_in bytes.now)) v
    → Judges (IsSoundEntry entry) (IsLongEntry limit entry) v
archive_judged A limit entry (archive slice) bytes v is same judged =
    rw is (subst (λ (xs : List ℕ). Judges (IsSoundArchive (archive_in xs)) (IsLongArchive limit (archive_in xs)) v) same judged)
archive_judged A limit entry (image slice) bytes v is same judged = absurd same

pub entry_judged : {A : Type 0} (limit : ℕ) (entry : Result FatEntry Fault) (e : FatEntry) (m : MachO A) (v : Soundness) → entry ≡ Ok e
    → IsEntry e (arches.MachO m) → ((slice : List ℕ) → IsImage slice 0 m → Judges (IsSoundImage slice) (HasLongList (min limit (length slice)) slice) v)
    → Judges (IsSoundEntry entry) (IsLongEntry limit entry) v
entry_judged limit entry (archive slice) m v is entry_is judged = absurd entry_is
entry_judged limit entry (image slice) m v is entry_is judged =
    subst (λ (x : Result FatEntry Fault). Judges (IsSoundEntry x) (IsLongEntry limit x) v) (sym is) (judged slice entry_is)

pub entry_opens : (entry : Result FatEntry Fault) → IsSoundEntry entry → EntryOpens entry
entry_opens (Ok (archive slice)) s = tt
entry_opens (Ok (image slice)) s = s.opens
entry_opens (Err f) s = s

-- what doesn't open isn't sound
pub unopened_judged : {S O L : Type 0} (e : Error) → (S → O) → (O → ErrorMeets (λ _. ⊥) e) → IsReported e → Judges S L Faulty
unopened_judged e opens only reported = faulty_judged (λ s. error_meets (λ _. ⊥) e reported (only (opens s)))

-- ---- all entries

module _ {R : Type 0} (form : ArchForm R) where
  pub no_entries_judged : (limit : ℕ) (file : FatFile) → Judges (AllSound form file 0) (SomeLong form limit file 0) Sound
  no_entries_judged limit file = sound_judged (λ k less. absurd (omega (arith, less))) (λ l. let less = l.1 in omega (arith, less))

  pub entries_more : {A : Type 0} (limit : ℕ) (file : FatFile) (n : ℕ) (es : List (EntryReport A)) (e : EntryReport A)
      → Judges (AllSound form file n) (SomeLong form limit file n) (verdict_of_all verdict_of_entry es)
      → Judges (IsSoundEntry (arch_entry_in form file n)) (IsLongEntry limit (arch_entry_in form file n)) (verdict_of_entry e)
      → Judges (AllSound form file (n + 1)) (SomeLong form limit file (n + 1)) (verdict_of_all verdict_of_entry (es ++ e ∷ []))
  entries_more limit file n es e before here =
      subst (λ (v : Soundness). Judges (AllSound form file (n + 1)) (SomeLong form limit file (n + 1)) v) (sym (all_push verdict_of_entry es e))
      (judged_as (verdict_of_both (verdict_of_all verdict_of_entry es) (verdict_of_entry e)) (λ s. below_more _ _ s.0 s.1)
      (λ s. ((λ k less. s k (omega (arith, less))), s n (omega arith))) longer (λ l. nearer l (nat_lt l.0 n) refl) (both_judged _ _ before here))
    where
      nearer : (l : SomeLong form limit file (n + 1)) (b : Bool) → nat_lt l.0 n ≡ b → SomeLong form limit file n ⊎ IsLongEntry limit (arch_entry_in form file n)
      nearer l true e = inl (l.0, ltb-true l.0 n e, l.2)
      nearer l false e =
          let less = l.1 in
          let last : l.0 ≡ n = omega (arith, less, ltb-false l.0 n e) in
          inr (subst (λ (k : ℕ). IsLongEntry limit (arch_entry_in form file k)) last l.2)

      longer : SomeLong form limit file n ⊎ IsLongEntry limit (arch_entry_in form file n) → SomeLong form limit file (n + 1)
      longer (inl l) = let less = l.1 in (l.0, omega (arith, less), l.2)
      longer (inr l) = (n, omega arith, l)

  -- a fat file whose table can be read, of which n entries were audited
  pub fat_file_judged : (limit : ℕ) (file : FatFile) (archs : List R) (n : ℕ) (cut : Bool) (v : Soundness) → arch_table_in form file ≡ Ok archs
      → AreGoneOver form every limit file.bytes archs n → cut ≡ nat_lt n file.narches → Judges (AllSound form file n) (SomeLong form limit file n) v
      → Judges (IsSoundFat form file) (IsLongFat form limit file) (if file.narches == 0 then Faulty else verdict_of_both (verdict_of_cut cut) v)
  fat_file_judged limit file archs n cut v table gone cut_is judged = by_count file.narches cut refl refl
    where
      count : length archs ≡ file.narches
      count = arches_count form file archs table

      long_of : SomeLong form limit file n → IsLongFat form limit file
      long_of l = let less = l.1 in sound.of_entry l.0 (omega (arith, less, gone.few, count)) l.2

      shorter : file.narches ≤ n → IsLongFat form limit file → SomeLong form limit file n
      shorter short (sound.of_entries less) = absurd (omega (arith, less, short, gone.few))
      shorter short (sound.of_overlaid others is overlaid) =
          let same : others ≡ archs = same_ok (sym is ∙ table) in
          absurd (not_overlaid form every file.bytes archs limit n gone (omega (arith, count, short))
          (subst (λ (xs : List R). AreOverlaid form every file.bytes xs) same overlaid))
      shorter short (sound.of_entry k less l) = (k, omega (arith, less, short), l)

      fewer : IsSoundFat form file → AllSound form file n
      fewer s k less = s.entries k (omega (arith, less, gone.few, count))

      longer : n < file.narches → (under : Bool) → nat_lt n limit ≡ under → IsLongFat form limit file
      longer more true e =
          sound.of_overlaid archs table (overlaid_by form every file.bytes archs limit n gone (omega (arith, more, count)) (ltb-true n limit e))
      longer more false e = sound.of_entries (omega (arith, more, ltb-false n limit e))

      by_count : (count : ℕ) (c : Bool) → file.narches ≡ count → cut ≡ c
          → Judges (IsSoundFat form file) (IsLongFat form limit file) (if count == 0 then Faulty else verdict_of_both (verdict_of_cut c) v)
      by_count zero c e f = faulty_judged (λ s. let some = s.some in omega (arith, some, e))
      by_count (suc k) true e f = rw (eqb-suc-zero k) (cut_judged v judged fewer (longer (ltb-true n file.narches (sym cut_is ∙ f)) (nat_lt n limit) refl))
      by_count (suc k) false e f =
          let short = ltb-false n file.narches (sym cut_is ∙ f) in
          rw (eqb-suc-zero k) (judged_as v
          (λ s. record { some = omega (arith, e); table = rw table refl; entries = λ j less. s j (omega (arith, less, short)) })
          fewer long_of (shorter short) judged)

  -- a fat file whose table can't be read
  pub no_table_judged : {L : Type 0} (file : FatFile) (e : Error) → FailsAs e (arch_table_in form file) → IsReported e → Judges (IsSoundFat form file) L Faulty
  no_table_judged file e fails reported = faulty_judged (λ s. not_both (arch_table_in form file) (fault_of e) s.table (fault_by e fails reported))
    where
      not_both : (r : Result (List R) Fault) (f : Fault) → IsOk r → r ≡ Err f → ⊥
      not_both (Ok x) f ok is = cc
      not_both (Err g) f ok is = cc

      fault_by : (d : Error) → FailsAs d (arch_table_in form file) → IsReported d → arch_table_in form file ≡ Err (fault_of d)
      fault_by (errors.Malformed msg) h t = h
      fault_by (errors.BadMagic n) h t = h
      fault_by (errors.Scroll x) h t = h
      fault_by (errors.BufferTooShort n what) h t = h
      fault_by (errors.Memory a) h t = absurd t

  -- the same, with the faults of its table
  pub refused_table_judged : {S L : Type 0} (v : Soundness) (file : FatFile) (e : Error) → FailsAs e (arch_table_in form file) → IsReported e
      → Judges (S × IsSoundFat form file) L (verdict_of_both v Faulty)
  refused_table_judged {S = S} {L = L} v file e fails reported =
      subst (λ (w : Soundness). Judges (S × IsSoundFat form file) L w) (sym (both_faulty v))
      (faulty_judged (λ s. (no_table_judged {L = L} file e fails reported).faulty refl s.1))
