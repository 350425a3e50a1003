-- Files of any kind: images, fat files of either width, and archives (`ar.h`). When one is sound, and its report.
use Rattle.std.specs.Prelude.{◌==◌, ℕ, List, [], Bool, true, false, Option, Some, None, Result, Ok, Err, if◌then◌else◌}
use Rattle.mach_base.specs.Fault.{Fault}
use Rattle.mach_base.specs.Number.{number_at}
use Rattle.mach_base.specs.declared.context.Endian.TheVariants.{Big}
use Rattle.mach_archive.specs.Archives.{archive_in}
use Rattle.mach_parts.specs.ArchForms.{arch_form_64}
use Rattle.mach_layout.specs.Containers.{AreContainerFaults}
use Rattle.goblin_mach.specs.FatFile.{FatFile, fat_file_in}
use Rattle.goblin_mach.specs.Inputs.{begins_any_archive}
use Rattle.mach_audit.specs.Report.{IsArchiveReport, IsFatReport, IsFileReport}
use Rattle.mach_audit.specs.Sound.{IsLong, IsLongArchive, IsLongFat, IsSound, IsSoundArchive, IsSoundFat}
use Rattle.mach_audit.specs.declared.report.InputReport.{InputReport}
use Rattle.mach_audit.specs.declared.report.InputReport.TheVariants.{Mach, Fat64, Archive}

-- the fat file, if the magic is that of one of 64 bits
abbrev pub wide_by : (magic : Result ℕ Fault) → Result FatFile Fault → Option FatFile
wide_by (Ok magic) (Ok file) = if magic == 0xcafe_babf then Some file else None
wide_by (Ok magic) (Err f) = None
wide_by (Err f) there = None

-- the fat file of 64 bits that the bytes are, if they are one
abbrev pub wide_file_in : List ℕ → Option FatFile
wide_file_in bytes = wide_by (number_at Big 4 bytes 0) (fat_file_in bytes)

-- ---- soundness

-- An archive is sound; or a fat file of 64 bits is, and its table has no fault; or else an image or a fat file of 32 bits is sound.
abbrev pub IsSoundByKind : (is_archive : Bool) → Option FatFile → List ℕ → Type 0
IsSoundByKind true wide bytes = IsSoundArchive (archive_in bytes)
IsSoundByKind false (Some file) bytes = AreContainerFaults arch_form_64 bytes [] × IsSoundFat arch_form_64 file
IsSoundByKind false None bytes = IsSound bytes

-- a file is sound, whatever its kind
abbrev pub IsSoundInput : List ℕ → Type 0
IsSoundInput bytes = IsSoundByKind (begins_any_archive bytes) (wide_file_in bytes) bytes

-- one of these has a list of more than `limit` items
abbrev pub IsLongByKind : (is_archive : Bool) → Option FatFile → ℕ → List ℕ → Type 0
IsLongByKind true wide limit bytes = IsLongArchive limit (archive_in bytes)
IsLongByKind false (Some file) limit bytes = IsLongFat arch_form_64 limit file
IsLongByKind false None limit bytes = IsLong limit bytes

-- a file has such a list, whatever its kind
abbrev pub IsLongInput : ℕ → List ℕ → Type 0
IsLongInput limit bytes = IsLongByKind (begins_any_archive bytes) (wide_file_in bytes) limit bytes

-- ---- the report

-- the report of a file of a kind
abbrev pub IsReportByKind : {A : Type 0} → (is_archive : Bool) → Option FatFile → ℕ → List ℕ → InputReport A → Type 0
IsReportByKind true wide limit bytes (Archive r) = IsArchiveReport limit (archive_in bytes) r
IsReportByKind true wide limit bytes (Fat64 r) = ⊥
IsReportByKind true wide limit bytes (Mach r) = ⊥
IsReportByKind false (Some file) limit bytes (Fat64 r) = IsFatReport arch_form_64 limit bytes file r
IsReportByKind false (Some file) limit bytes (Archive r) = ⊥
IsReportByKind false (Some file) limit bytes (Mach r) = ⊥
IsReportByKind false None limit bytes (Mach r) = IsFileReport limit bytes r
IsReportByKind false None limit bytes (Archive r) = ⊥
IsReportByKind false None limit bytes (Fat64 r) = ⊥

-- The report of a file of any kind: that of an archive, of a fat file of 64 bits, or else of an image or a fat file of 32 bits.
abbrev pub IsInputReport : {A : Type 0} → ℕ → List ℕ → InputReport A → Type 0
IsInputReport limit bytes r = IsReportByKind (begins_any_archive bytes) (wide_file_in bytes) limit bytes r
