-- How the entries of a fat file open.
use Rattle.std.proofs.Common.{◌≡◌, ℕ, Bool, true, false, cond, List, length, take, nat_le, nat_lt, Option, Some, None, Result, Ok, Err, refl, sym, ap, subst}
use Rattle.std.proofs.Common.{◌∙◌}
use Rattle.std.specs.Prelude.{option_map}
use Rattle.std.specs.Borrow.{Bor}
use Rattle.mach_base.specs.declared.error.Error.{Error}
use Rattle.mach_base.specs.declared.hint.Hint.{Hint}
use Rattle.mach_base.specs.Answer.{◌>>=◌, ErrorMeets}
use Rattle.mach_base.specs.Fault.{Fault, malformed, fault_of}
use Rattle.mach_base.proofs.Faults.{ErrorMeets-reported, ErrorMeets-in}
use Rattle.mach_parts.specs.Fat.{part_of}
use Rattle.mach_parts.specs.ArchForms.{ArchForm, arch_in}
use Rattle.goblin_mach.specs.FatFile.{FatFile}
use Rattle.goblin_mach.specs.FatEntry.{FatEntry, archive, image, entry_by, fat_entry_of, arch_entry_in, FatEntryFault, no_entry, no_image, OpensEntry}
use Rattle.goblin_mach.specs.Image.{ImageFault}
use Rattle.goblin_mach.specs.OpenImage.{IsImage}
use Rattle.mach_parts.specs.Magic.{hint_in}
use Rattle.goblin_mach.specs.declared.fat_file.entry.SingleArch.{SingleArch}
use Rattle.goblin_mach.specs.declared.fat_file.entry.SingleArch.TheVariants.{MachO, Archive}
use Rattle.goblin_mach.specs.declared.macho.MachO as held
use Rattle.goblin_mach.proofs.OpenedImages.{ok_where_opens}

-- an error for the reason why there is no entry
pub OpensEntry-refused : {A : Type 0} (entry : Result FatEntry Fault) (e : Error) → entry ≡ Err (fault_of e) → OpensEntry {A = A} entry (Err e)
OpensEntry-refused {A} entry e none =
    subst (λ (x : Result FatEntry Fault). OpensEntry {A = A} x (Err e)) (sym none)
    (record { opened = tt; only = λ opens. absurd opens; refused = ErrorMeets-reported (FatEntryFault (Err (fault_of e))) e (no_entry (fault_of e)) })

-- the bytes of an archive
pub OpensEntry-archive : {A : Type 0} (entry : Result FatEntry Fault) (bytes : Bor (List ℕ)) → entry ≡ Ok (archive bytes.now)
    → OpensEntry {A = A} entry (Ok (Archive bytes))
OpensEntry-archive entry bytes is =
    record { opened = (archive bytes.now, is, refl); only = λ opens. tt; refused = tt }

-- an image that opened
pub OpensEntry-image : {A : Type 0} (entry : Result FatEntry Fault) (slice : List ℕ) (m : held.MachO A) → entry ≡ Ok (image slice) → IsImage slice 0 m
    → OpensEntry {A = A} entry (Ok (MachO m))
OpensEntry-image entry slice m is opened = record { opened = (image slice, is, opened); only = λ opens. tt; refused = tt }

-- an image that did not open
pub OpensEntry-no_image : {A : Type 0} (entry : Result FatEntry Fault) (slice : List ℕ) (e : Error) → entry ≡ Ok (image slice)
    → ErrorMeets (ImageFault slice 0) e
    → OpensEntry {A = A} entry (Err e)
OpensEntry-no_image {A} entry slice e is occurs =
    subst (λ (x : Result FatEntry Fault). OpensEntry {A = A} x (Err e)) (sym is)
    (record {
      opened = tt;
      only = ok_where_opens {X = SingleArch A} (Err e) slice 0 occurs;
      refused = ErrorMeets-in (ImageFault slice 0) (FatEntryFault (Ok (image slice))) e (no_image slice) occurs;
    })

not_hinted : (b : Bool) (front : List ℕ) (found : Result FatEntry Fault) → None ≡ cond b (Some front) None → cond b found (Err malformed) ≡ Err malformed
not_hinted true front found e = absurd (cc)
not_hinted false front found e = refl

hinted : (b : Bool) (front there : List ℕ) (bytes : List ℕ) → Some there ≡ cond b (Some front) None
    → cond b (entry_by (hint_in front) bytes) (Err malformed) ≡ entry_by (hint_in there) bytes
hinted true front there bytes e = let same : there ≡ front = cc in ap (λ (x : List ℕ). entry_by (hint_in x) bytes) (sym same)
hinted false front there bytes e = absurd (cc)

-- fewer than 16 bytes are no entry
pub entry-short : (bytes : List ℕ) (r : Option (Bor (List ℕ))) → option_map (λ front. front.now) r ≡ cond (nat_le 16 (length bytes)) (Some (take 16 bytes)) None
    → r ≡ None → fat_entry_of bytes ≡ Err malformed
entry-short bytes r front none =
    not_hinted (nat_le 16 (length bytes)) (take 16 bytes) (entry_by (hint_in (take 16 bytes)) bytes)
    (sym (ap (option_map (λ (x : Bor (List ℕ)). x.now)) none) ∙ front)

-- otherwise the first 16 bytes give its kind
pub entry-hinted : (bytes : List ℕ) (r : Option (Bor (List ℕ))) (there : Bor (List ℕ)) (hint : Hint)
    → option_map (λ front. front.now) r ≡ cond (nat_le 16 (length bytes)) (Some (take 16 bytes)) None → r ≡ Some there → hint_in there.now ≡ hint
    → fat_entry_of bytes ≡ entry_by hint bytes
entry-hinted bytes r there hint front some is =
    hinted (nat_le 16 (length bytes)) (take 16 bytes) there.now bytes (sym (ap (option_map (λ (x : Bor (List ℕ)). x.now)) some) ∙ front)
    ∙ ap (λ (h : Hint). entry_by h bytes) is

-- an entry below the count has a record
pub arch_entry_in-none : {R : Type 0} (form : ArchForm R) (file : FatFile) (i : ℕ) → nat_lt i file.narches ≡ false → arch_entry_in form file i ≡ Err malformed
arch_entry_in-none form file i out =
    ap (λ (b : Bool). cond b (arch_in form file.bytes i >>= λ arch. fat_entry_of (part_of file.bytes (form.offset arch) (form.size arch))) (Err malformed)) out

pub arch_entry_in-record : {R : Type 0} (form : ArchForm R) (file : FatFile) (i : ℕ) (found : Result R Fault) → nat_lt i file.narches ≡ true
    → arch_in form file.bytes i ≡ found
    → arch_entry_in form file i ≡ (found >>= λ arch. fat_entry_of (part_of file.bytes (form.offset arch) (form.size arch)))
arch_entry_in-record {R} form file i found inside is =
    ap (λ (b : Bool). cond b (arch_in form file.bytes i >>= λ arch. fat_entry_of (part_of file.bytes (form.offset arch) (form.size arch))) (Err malformed))
    inside
    ∙ ap (λ (r : Result R Fault). r >>= λ arch. fat_entry_of (part_of file.bytes (form.offset arch) (form.size arch))) is
