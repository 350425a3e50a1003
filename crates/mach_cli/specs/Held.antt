-- What a file opened as, to be shown.
use Rattle.std.specs.Prelude.{◌≡◌, ℕ, List}
use Rattle.goblin_mach.specs.FatFile.{FatFile}
use Rattle.goblin_mach.specs.Items.{items_in}
use Rattle.goblin_mach.specs.ItemsLeft.{input_items_left}
use Rattle.goblin_mach.specs.OpenImage.{IsImage}
use Rattle.mach_cli.specs.Shown.{IsFatTable}
use Rattle.mach_cli.specs.declared.document.Subject.{Subject}
use Rattle.mach_cli.specs.declared.document.Subject.TheVariants.{Image, Fat}

-- it is what the bytes open as
abbrev pub IsSubject : List ℕ → Subject → Type 0
IsSubject bytes (Image m) = IsImage bytes 0 m
IsSubject bytes (Fat images records) = (file : FatFile) × IsFatTable bytes file records.items × (input_items_left images ≡ items_in bytes)
