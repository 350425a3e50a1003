-- What of a file is audited, given the selected cpu.
use Rattle.std.specs.Prelude.{◌≡◌, ◌<◌, ◌⊎◌, ℕ, List, length, true, false, Some, slice_get}
use Rattle.mach_base.specs.Answer.{ErrorMeets}
use Rattle.mach_base.specs.declared.error.Error.{Error}
use Rattle.mach_parts.specs.ArchForms.{arch_form_32}
use Rattle.mach_parts.specs.Fat.{part_of}
use Rattle.mach_parts.specs.declared.fat.FatArch.{FatArch}
use Rattle.goblin_mach.specs.FatFile.{FatFile}
use Rattle.goblin_mach.specs.View.{ViewFault}
use Rattle.mach_cli.specs.Cpus.{IsTaken, is_selected, misses}
use Rattle.mach_cli.specs.Shown.{IsFatTable}
use Rattle.mach_cli.specs.declared.cpu.Cpu.{Cpu}
use Rattle.mach_cli.specs.declared.cpu.Cpu.TheVariants.{Any}
use Rattle.mach_audit.specs.Overlaid.{AreOverlaid}
use Rattle.mach_audit.specs.Sound.{IsSound, IsLong}
use Rattle.machaudit.specs.declared.selection.Selected.{Selected}
use Rattle.machaudit.specs.declared.selection.Selected.TheVariants.{Whole, Other, Entries}

-- The whole file is selected: any cpu is; or it is one image for the cpu; or it doesn't open, or its table can't be read.
pub data SelectsWhole (cpu : Cpu) (bytes : List ℕ) : Type 0 where
  of_any : cpu ≡ Any → SelectsWhole cpu bytes
  of_image : IsTaken cpu bytes true → SelectsWhole cpu bytes
  of_refused : (e : Error) → ErrorMeets (ViewFault bytes) e → SelectsWhole cpu bytes

-- what of the file is selected
abbrev pub IsSelectedFor : {A : Type 0} → Cpu → List ℕ → Selected A → Type 0
IsSelectedFor cpu bytes Whole = SelectsWhole cpu bytes
IsSelectedFor cpu bytes Other = IsTaken cpu bytes false
IsSelectedFor cpu bytes (Entries archs) = (file : FatFile) × IsFatTable bytes file archs.items

-- The bytes are no sound file, or have a list of more than `limit` items.
abbrev pub IsFailing : ℕ → List ℕ → Type 0
IsFailing limit bytes = (IsSound bytes → ⊥) ⊎ IsLong limit bytes

-- Of the first n records, each that is for the cpu names bytes that are a sound file.
abbrev pub SoundBefore : Cpu → List ℕ → List FatArch → ℕ → Type 0
SoundBefore cpu bytes archs n =
    (k : ℕ) (arch : FatArch) → k < n → slice_get archs k ≡ Some arch → is_selected cpu arch ≡ true → IsSound (part_of bytes arch.offset arch.size)

abbrev pub EntriesSound : Cpu → List ℕ → List FatArch → Type 0
EntriesSound cpu bytes archs = SoundBefore cpu bytes archs (length archs)

-- A record that is for the cpu names bytes that are no sound file, or have a list of more than `limit` items.
pub record EntriesFail (cpu : Cpu) (limit : ℕ) (bytes : List ℕ) (archs : List FatArch) : Type 0 where
  pub index : ℕ
  pub arch : FatArch
  pub is_record : slice_get archs index ≡ Some arch
  pub selected : is_selected cpu arch ≡ true
  pub fails : IsFailing limit (part_of bytes arch.offset arch.size)

-- The whole file is selected and sound; or it is a fat file that has an entry for the cpu, and the bytes of each such entry are a
-- sound file.
pub data IsSoundFor (cpu : Cpu) (bytes : List ℕ) : Type 0 where
  sound_file : SelectsWhole cpu bytes → IsSound bytes → IsSoundFor cpu bytes
  sound_entries : (file : FatFile) (archs : List FatArch) → IsFatTable bytes file archs → misses cpu archs ≡ false → EntriesSound cpu bytes archs
      → IsSoundFor cpu bytes

-- The whole file is selected and fails; or the bytes of an entry for the cpu fail; or the entries for the cpu have more bytes
-- together than the file. Bytes fail if they are no sound file, or have a list of more than `limit` items.
pub data FailsFor (cpu : Cpu) (limit : ℕ) (bytes : List ℕ) : Type 0 where
  failing_file : SelectsWhole cpu bytes → IsFailing limit bytes → FailsFor cpu limit bytes
  failing_entry : (file : FatFile) (archs : List FatArch) → IsFatTable bytes file archs → EntriesFail cpu limit bytes archs → FailsFor cpu limit bytes
  overlaid_entries : (file : FatFile) (archs : List FatArch) → IsFatTable bytes file archs → AreOverlaid arch_form_32 (is_selected cpu) bytes archs
      → FailsFor cpu limit bytes

-- Nothing of the file is for the cpu.
pub data MissesAll (cpu : Cpu) (bytes : List ℕ) : Type 0 where
  other_image : IsTaken cpu bytes false → MissesAll cpu bytes
  no_entry : (file : FatFile) (archs : List FatArch) → IsFatTable bytes file archs → misses cpu archs ≡ true → MissesAll cpu bytes
