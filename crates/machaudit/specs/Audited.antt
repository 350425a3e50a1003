-- What an audit of a file writes.
use Rattle.std.specs.Prelude.{◌≡◌, ◌<◌, ℕ, List, [], ◌++◌, codes, true, false, Option, length, take}
use Rattle.std.specs.Fmt.{decimal}
use Rattle.std.specs.Io.Buffered.{writer_buffer, writer_contents}
use Rattle.std.specs.Io.KnownBytes.{Appends}
use Rattle.std.specs.List.{enumerate_from}
use Rattle.std.specs.declared.io.buffered.BufWriter.{BufWriter}
use Rattle.mach_parts.specs.ArchForms.{arch_form_32}
use Rattle.mach_parts.specs.Fat.{part_of}
use Rattle.mach_parts.specs.declared.fat.FatArch.{FatArch}
use Rattle.goblin_mach.specs.FatFile.{FatFile}
use Rattle.mach_audit.specs.Overlaid.{AreGoneOver}
use Rattle.mach_audit.specs.Sound.{IsSound, IsLong}
use Rattle.mach_audit.specs.Verdicts.{Judges}
use Rattle.mach_audit.specs.declared.verdict.Soundness.{Soundness}
use Rattle.mach_cli.specs.Cpus.{is_selected, misses}
use Rattle.mach_cli.specs.Escapes.{IsOneLine}
use Rattle.mach_cli.specs.InOrder.{InOrder}
use Rattle.mach_cli.specs.Shown.{IsFatTable}
use Rattle.mach_cli.specs.declared.cpu.Cpu.{Cpu}
use Rattle.mach_cli.specs.declared.options.Format.TheVariants as formats
use Rattle.machaudit.specs.Quiet.{quiet_line, status_of}
use Rattle.machaudit.specs.Selected.{IsSoundFor, MissesAll, SelectsWhole}
use Rattle.machaudit.specs.declared.options.Options.{Options}

-- A file was audited under a name, or an entry as a file of its own: the status is that of its verdict. With `--quiet` the line of
-- the verdict was written, and nothing else. All is written out.
pub record AuditsFile {W B : Type 0} (contents : W → Option (List ℕ)) (options : Options) (name bytes : List ℕ) (old new : BufWriter W B) (status : ℕ)
    : Type 0 where
  pub verdict : Soundness
  pub is_status : status ≡ status_of verdict
  pub judges : Judges (IsSound bytes) (IsLong options.limit bytes) verdict
  pub one_line : IsOneLine (quiet_line name verdict)
  pub quiet : options.format ≡ formats.Quiet → Appends (writer_contents contents old) (writer_contents contents new) (quiet_line name verdict)
  pub flushed : writer_buffer new ≡ []

-- the name under which an entry of a file is audited
abbrev pub audited_name : (file : List ℕ) → (index : ℕ) → List ℕ
audited_name file index = file ++ (codes ": arch " ++ decimal index)

-- What is written of an entry of a fat file, by its index and its record: it is audited if it is for the cpu, else nothing is written.
pub data AuditsEntry {W B : Type 0} (contents : W → Option (List ℕ)) (options : Options) (cpu : Cpu) (file bytes : List ℕ) (entry : ℕ × FatArch)
    (old new : BufWriter W B) : (status : ℕ) → Type 0 where
  for_cpu : (status : ℕ) → is_selected cpu entry.1 ≡ true
      → AuditsFile contents options (audited_name file entry.0) (part_of bytes entry.1.offset entry.1.size) old new status
      → AuditsEntry contents options cpu file bytes entry old new status
  for_other : is_selected cpu entry.1 ≡ false → new ≡ old → AuditsEntry contents options cpu file bytes entry old new 0

-- The entries with these records are audited in order. The status is the worst of theirs.
abbrev pub AuditsAll : {W B : Type 0} → (contents : W → Option (List ℕ)) → Options → Cpu → (file bytes : List ℕ) → List FatArch
    → (old new : BufWriter W B) → (worst : ℕ) → Type 0
AuditsAll contents options cpu file bytes archs = InOrder (AuditsEntry contents options cpu file bytes) (enumerate_from 0 archs)

-- Memory ran out when some first entries of these were audited.
abbrev pub AuditsSome : {W B : Type 0} → (contents : W → Option (List ℕ)) → Options → Cpu → (file bytes : List ℕ) → List FatArch
    → (old new : BufWriter W B) → Type 0
AuditsSome contents options cpu file bytes archs old new =
    (n worst : ℕ) × InOrder (AuditsEntry contents options cpu file bytes) (take n (enumerate_from 0 archs)) old new worst

-- The first n entries with these records are audited: as many as those for the cpu have no more bytes together than the file.
abbrev pub AreAudited : Cpu → (bytes : List ℕ) → List FatArch → ℕ → Type 0
AreAudited cpu bytes archs n = AreGoneOver arch_form_32 (is_selected cpu) (length archs) bytes archs n

-- What is written of the entries of a fat file with these records. The status is 1 at least if some are left out.
pub data AuditsEntries {W B : Type 0} (contents : W → Option (List ℕ)) (options : Options) (cpu : Cpu) (file bytes : List ℕ) (archs : List FatArch)
    (old new : BufWriter W B) : (status : ℕ) → Type 0 where
  all_entries : (worst : ℕ) → AreAudited cpu bytes archs (length archs) → AuditsAll contents options cpu file bytes archs old new worst
      → AuditsEntries contents options cpu file bytes archs old new worst
  first_entries : (n worst : ℕ) → n < length archs → AreAudited cpu bytes archs n → AuditsAll contents options cpu file bytes (take n archs) old new worst
      → AuditsEntries contents options cpu file bytes archs old new 1

-- What is written of a file: of all of it, if it is selected; of its entries for the cpu; or nothing, since nothing of it is for the cpu.
pub data WritesAudited {W B : Type 0} (contents : W → Option (List ℕ)) (options : Options) (cpu : Cpu) (name bytes : List ℕ) (old new : BufWriter W B)
    : (status : ℕ) → Type 0 where
  of_file : (status : ℕ) → SelectsWhole cpu bytes → AuditsFile contents options name bytes old new status
      → WritesAudited contents options cpu name bytes old new status
  of_entries : (file : FatFile) (archs : List FatArch) (status : ℕ) → IsFatTable bytes file archs → misses cpu archs ≡ false
      → AuditsEntries contents options cpu name bytes archs old new status → WritesAudited contents options cpu name bytes old new status
  of_nothing : MissesAll cpu bytes → new ≡ old → WritesAudited contents options cpu name bytes old new 1

-- What was written of a file when memory ran out: nothing, or what some first entries of those that are audited have.
pub data WritesUntilMemory {W B : Type 0} (contents : W → Option (List ℕ)) (options : Options) (cpu : Cpu) (name bytes : List ℕ) (old new : BufWriter W B)
    : Type 0 where
  no_audit : new ≡ old → WritesUntilMemory contents options cpu name bytes old new
  some_entries : (file : FatFile) (archs : List FatArch) (n : ℕ) → IsFatTable bytes file archs → misses cpu archs ≡ false → AreAudited cpu bytes archs n
      → AuditsSome contents options cpu name bytes (take n archs) old new → WritesUntilMemory contents options cpu name bytes old new

-- A file is audited. With status 0 what is for the cpu of it is sound. If memory runs out the status is 1.
pub data ShowsAudit {W B : Type 0} (contents : W → Option (List ℕ)) (options : Options) (cpu : Cpu) (name bytes : List ℕ) (old new : BufWriter W B)
    : (status : ℕ) → Type 0 where
  audits : (status : ℕ) → (status ≡ 0 → IsSoundFor cpu bytes) → WritesAudited contents options cpu name bytes old new status
      → ShowsAudit contents options cpu name bytes old new status
  out_of_memory : WritesUntilMemory contents options cpu name bytes old new → ShowsAudit contents options cpu name bytes old new 1
