use Rattle.std.proofs.Common.{◌≡◌, ◌∙◌, ℕ, Bool, true, false, Option, Some, None, Result, Ok, Err, ap, sym}
use Rattle.std.specs.Prelude.{◌==◌, if◌then◌else◌}
use Rattle.mach_base.specs.Fault.{Fault}
use Rattle.mach_base.specs.Number.{number_at}
use Rattle.mach_base.specs.declared.context.Endian.TheVariants.{Big}
use Rattle.goblin_mach.proofs.FatNumbers.{file_is}
use Rattle.goblin_mach.specs.FatFile.{FatFile, fat_file_in, file_view}
use Rattle.mach_audit.specs.Inputs.{wide_by}
use Rattle.mach_audit.proofs.input.audit.Goals as goal

-- a fat file of 64 bits is the one in the bytes
found_there : (magic : Result ℕ Fault) (there : Result FatFile Fault) (file : FatFile) → wide_by magic there ≡ Some file → there ≡ Ok file
found_there (Ok magic) (Ok other) file is = ap Ok (by_magic (magic == 0xcafe_babf) is)
  where
    by_magic : (b : Bool) → (if b then Some other else None) ≡ Some file → other ≡ file
    by_magic true here = cc
    by_magic false here = absurd (cc)
found_there (Ok magic) (Err f) file is = absurd (cc)
found_there (Err f) there file is = absurd (cc)

pub returns-in_ok-fat-in-Some-clause-reported : goal.returns-in_ok-fat-in-Some-clause-reported
returns-in_ok-fat-in-Some-clause-reported g c =
    let bytes = c.args.bytes.now in
    let file = file_view c.in-Some.container in
    let there = found_there (number_at Big 4 bytes 0) (fat_file_in bytes) file c.in-Some.ensures in
    let same = ap (λ (f : FatFile). f.bytes) (sym (file_is bytes file there)) in
    rw (sym c.begins_archive.ensures ∙ c.if-begins_archive.false, c.in-Some.ensures) (rw c.in_ok-fat-in-Some.was at (c.audit_fat.ensures.reported same))

pub returns-in_ok-fat-in-Some-clause-judged : goal.returns-in_ok-fat-in-Some-clause-judged
returns-in_ok-fat-in-Some-clause-judged g c =
    rw (sym c.begins_archive.ensures ∙ c.if-begins_archive.false, c.in-Some.ensures) c.in_ok-fat-in-Some.ensures.judged
