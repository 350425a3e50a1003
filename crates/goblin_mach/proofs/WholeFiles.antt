-- No fault occurs if a whole file has entries.
use Rattle.std.proofs.Common.{◌≡◌, ℕ, ◌≤◌, inl, inr, List, [], ◌∷◌, length, Result, Ok, Err, IsOk, nat_le, Bool, true, false, refl, sym, subst, ◌∙◌, arith}
use Rattle.std.proofs.lemmas.Bool.{leb-true}
use Rattle.std.specs.Prelude.{IfErr}
use Rattle.mach_base.specs.declared.error.Error.{Error}
use Rattle.mach_base.specs.Answer.{ErrorMeets, IsOkUnlessMemory}
use Rattle.mach_base.specs.Fault.{Fault}
use Rattle.mach_base.proofs.Binds.{same_ok}
use Rattle.mach_base.proofs.Faults.{ErrorMeets-in}
use Rattle.mach_parts.specs.declared.fat.FatArch.{FatArch}
use Rattle.goblin_mach.specs.FatEntry.{FatEntry, image}
use Rattle.goblin_mach.specs.FatFile.{FatFile, fat_file_in, arches_in}
use Rattle.goblin_mach.specs.Image.{Opens}
use Rattle.goblin_mach.specs.View.{HasEntries, one_image, fat_table, ViewFault, of_file, of_table}
use Rattle.goblin_mach.proofs.Files.{fault-excludes_mach, fat-excludes_image}

-- fewer than 8 bytes are not a fat file
too_few : (bytes : List ℕ) (file : FatFile) (none : Bool) → nat_le (length bytes) 0 ≡ none → nat_le 8 (length bytes) ≡ false → fat_file_in bytes ≡ Ok file → ⊥
too_few bytes file true none few is = let wrong = rw none at is in cc
too_few bytes file false none few is = let wrong = rw (none, few) at is in cc

header_by : (bytes : List ℕ) (file : FatFile) (whole : Bool) → nat_le 8 (length bytes) ≡ whole → fat_file_in bytes ≡ Ok file → 8 ≤ length bytes
header_by bytes file true whole is = leb-true 8 (length bytes) whole
header_by bytes file false few is = absurd (too_few bytes file (nat_le (length bytes) 0) refl few is)

-- a fat file has 8 bytes or more
pub header_of_fat : (bytes : List ℕ) (file : FatFile) → fat_file_in bytes ≡ Ok file → 8 ≤ length bytes
header_of_fat bytes file is = header_by bytes file (nat_le 8 (length bytes)) refl is

-- a result that is Ok is not a fault
not_both : (r : Result (List FatArch) Fault) (f : Fault) → IsOk r → r ≡ Err f → ⊥
not_both (Ok x) f ok is = cc
not_both (Err e) f ok is = cc

pub view_fault-excludes : (bytes : List ℕ) (f : Fault) (entries : List (Result FatEntry Fault)) → ViewFault bytes f → HasEntries bytes entries → ⊥
view_fault-excludes bytes _ entries (of_file f fault) (one_image opens other) =
    fault-excludes_mach bytes f fault (record { magic = let h = opens.2.lossy.header.room in omega arith; file = inr opens })
view_fault-excludes bytes _ entries (of_file f fault) (fat_table file fat is table) =
    let room = header_of_fat bytes file is in
    fault-excludes_mach bytes f fault (record { magic = omega (arith, room); file = inl (record { magic = fat; header = room }) })
view_fault-excludes bytes _ entries (of_table file f fat is bad) (one_image opens other) = other fat
view_fault-excludes bytes _ entries (of_table file f fat is bad) (fat_table other fat_2 is_2 table) =
    let same : other ≡ file = same_ok (sym is_2 ∙ is) in
    not_both (arches_in file) f (subst (λ (x : FatFile). IsOk (arches_in x)) same table) bad

pub ok_where_viewed : {X : Type 0} (r : Result X Error) (bytes : List ℕ) (entries : List (Result FatEntry Fault)) → IfErr r (ErrorMeets (ViewFault bytes))
    → HasEntries bytes entries → IsOkUnlessMemory r
ok_where_viewed (Ok x) bytes entries h has = tt
ok_where_viewed (Err e) bytes entries h has = ErrorMeets-in (ViewFault bytes) (λ _. ⊥) e (λ f k. view_fault-excludes bytes f entries k has) h

-- an image that opens at the start has another magic than a fat file
pub entries_of_image : (bytes : List ℕ) → Opens bytes 0 → HasEntries bytes (Ok (image bytes) ∷ [])
entries_of_image bytes opens = one_image opens (λ fat. fat-excludes_image bytes fat (opens.0, opens.1, opens.2.lossy))
