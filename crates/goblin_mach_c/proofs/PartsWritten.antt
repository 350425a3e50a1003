-- What is written for C from a fat file of parts, by whether it fits.
use Rattle.std.proofs.Common.{◌≡◌, ◌≤◌, ◌<◌, ◌++◌, ℕ, List, length, drop, nat_le, true, false, refl, sym, ap, subst, ◌∙◌, arith}
use Rattle.std.proofs.lemmas.Bool.{le-leb, lt-leb}
use Rattle.mach_fat_writer.specs.FatForms.{FatForm}
use Rattle.mach_fat_writer.specs.Placed.{with_file}
use Rattle.mach_fat_writer.specs.Parts.{MakesFat}
use Rattle.mach_fat_writer.specs.declared.part.FatPart.{FatPart}
use Rattle.goblin_mach_c.specs.FatWrites.{IsFatFileOf, LacksRoom, WritesFat}

module _ (bytes : List ℕ) (parts : List FatPart) (form : FatForm) (len : ℕ) (old new : List ℕ) (m : MakesFat bytes parts form len old new) where
  is_file : IsFatFileOf bytes parts form m.made.file len
  is_file = record { entries = m.entries; are = m.are; made = m.made.is_there; long = m.made.is_long }

  pub fits : len ≤ length old → WritesFat bytes parts form old new len
  fits room =
      let long = m.made.is_long in
      let test : nat_le (length m.made.file) (length old) ≡ true = le-leb (length m.made.file) (length old) (omega (arith, long, room)) in
      let whole : with_file m.made.file old ≡ m.made.file ++ drop (length m.made.file) old = rw test refl in
      record {
        file = m.made.file;
        is = is_file;
        room = room;
        written = m.made.written ∙ (whole ∙ ap (λ (n : ℕ). m.made.file ++ drop n old) (sym long));
      }

  pub lacks : length old < len → LacksRoom bytes parts form (length old) len
  lacks less = record { file = m.made.file; is = is_file; less = less }

  pub stays : length old < len → new ≡ old
  stays less =
      let long = m.made.is_long in
      let test : nat_le (length m.made.file) (length old) ≡ false = lt-leb (length m.made.file) (length old) (omega (arith, long, less)) in
      let same : with_file m.made.file old ≡ old = rw test refl in
      m.made.written ∙ same
