-- No fault occurs if a file opens.
use Rattle.std.proofs.Common.{◌≡◌, ℕ, ◌≤◌, inl, inr, List, length, Result, Ok, Err, true, false, nat_le, ap}
use Rattle.std.proofs.Common.{arith}
use Rattle.std.proofs.lemmas.Bool.{le-leb, lt-leb}
use Rattle.mach_base.specs.Answer.{◌>>=◌}
use Rattle.mach_base.specs.Fault.{Fault}
use Rattle.goblin_mach.specs.Image.{Opens, LossyOpens, ImageFault}
use Rattle.mach_parts.specs.Magic.{ctx_of}
use Rattle.goblin_mach.proofs.OpenedImages.{not_other, fault-excludes_image}
use Rattle.goblin_mach.specs.FatFile.{fat_file_in}
use Rattle.goblin_mach.specs.File.{HasFatMagic, MachOpens, MachFault, no_room, of_fat, of_image}

-- a fat file is not an image
pub fat-excludes_image : (bytes : List ℕ) → HasFatMagic bytes → LossyOpens bytes 0 → ⊥
fat-excludes_image bytes fat opens =
    not_other bytes 0 0xcafe_babe opens.2.header.magic opens.0 (ap (λ (r : Result ℕ Fault). r >>= λ magic. Ok (magic, ctx_of magic)) fat)
    opens.2.header.magic_is

-- 8 bytes have a header
pub header-there : (bytes : List ℕ) (f : Fault) → 8 ≤ length bytes → fat_file_in bytes ≡ Err f → ⊥
header-there bytes f room e =
    let inside : nat_le (length bytes) 0 ≡ false = lt-leb (length bytes) 0 (omega (arith, room)) in
    let whole : nat_le 8 (length bytes) ≡ true = le-leb 8 (length bytes) room in
    let wrong = rw (inside, whole) at e in
    cc

pub fault-excludes_mach : (bytes : List ℕ) (f : Fault) → MachFault ImageFault bytes f → MachOpens Opens bytes → ⊥
fault-excludes_mach bytes _ (no_room lt) opens = let h = opens.magic in omega arith
fault-excludes_mach bytes _ (of_fat f fat e) opens = elim opens.file [
  | inl is ↦ header-there bytes f is.header e
  | inr image ↦ fat-excludes_image bytes fat (image.0, image.1, image.2.lossy)
]
fault-excludes_mach bytes _ (of_image f other fault) opens = elim opens.file [
  | inl is ↦ other is.magic
  | inr image ↦ fault-excludes_image bytes 0 f fault image
]
