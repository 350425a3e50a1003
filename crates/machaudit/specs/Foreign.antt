-- The line about a file that is not Mach-O.
use Rattle.std.specs.Prelude.{◌≡◌, ℕ, List, [], codes, Option, Some, None, Ok, IsOk}
use Rattle.std.specs.Io.KnownBytes.{Appends}
use Rattle.mach_base.specs.Answer.{ErrorMeets, FailsAs}
use Rattle.mach_base.specs.declared.error.Error.{Error}
use Rattle.mach_parts.specs.Segment.{SegmentView}
use Rattle.goblin_mach.specs.Facts.{HasSegments}
use Rattle.goblin_mach.specs.Image.{Opens, ImageFault, LossyOpens}
use Rattle.goblin_mach.specs.FatFile.{FatFile, fat_file_in, arches_in}
use Rattle.goblin_mach.specs.File.{HasFatMagic, MachFault}
use Rattle.goblin_mach.specs.View.{IsReported}
use Rattle.goblin_mach.specs.FirstBytes.{foreign_words}
use Rattle.mach_cli.specs.Foreigners.{refused_kind}
use Rattle.mach_cli.specs.Names.{names_text}
use Rattle.mach_cli.specs.Refusals.{complaint}
use Rattle.mach_cli.specs.declared.entries.OutOfFile.{OutOfFile}
use Rattle.goblin_mach.specs.declared.first_bytes.Foreign.{Foreign}

-- the line with the kind of a file, if the kind is known
abbrev pub kind_message : (file : List ℕ) → Option Foreign → List ℕ
kind_message file None = []
kind_message file (Some kind) = complaint (names_text (codes "machaudit") file) (foreign_words kind)

-- the line about a file by the error that refuses it: its kind, if it is not Mach-O
abbrev pub foreign_message : (file bytes : List ℕ) → Option Error → List ℕ
foreign_message file bytes None = []
foreign_message file bytes (Some e) = kind_message file (refused_kind bytes e)

-- there is none about an entry that is out of its fat file: it has no bytes, and the report says why
abbrev pub message_about : Option OutOfFile → (file bytes : List ℕ) → Option Error → List ℕ
message_about None file bytes refusal = foreign_message file bytes refusal
message_about (Some outside) file bytes refusal = []

-- The error for which a whole file is refused, if it is: no image opens in any mode, and it is no fat file whose table can be
-- read.
pub data IsWholeRefusal (bytes : List ℕ) : Option Error → Type 0 where
  opens : Opens bytes 0 → IsWholeRefusal bytes None
  opens_lossily : (segments : List SegmentView) → HasSegments bytes 0 segments → IsWholeRefusal bytes None
  has_table : (file : FatFile) → HasFatMagic bytes → fat_file_in bytes ≡ Ok file → IsOk (arches_in file) → IsWholeRefusal bytes None
  unopened : (e : Error) → IsReported e → ErrorMeets (MachFault ImageFault bytes) e → (LossyOpens bytes 0 → ⊥) → IsWholeRefusal bytes (Some e)
  unread_table : (file : FatFile) (e : Error) → HasFatMagic bytes → fat_file_in bytes ≡ Ok file → IsReported e → FailsAs e (arches_in file)
      → IsWholeRefusal bytes (Some e)

-- The line about a file, or about an entry that may be out of it, was written.
pub record SaysForeign (outside : Option OutOfFile) (file bytes : List ℕ) (err_old err_new : Option (List ℕ)) : Type 0 where
  pub refusal : Option Error
  pub is_refusal : IsWholeRefusal bytes refusal
  pub message : Appends err_old err_new (message_about outside file bytes refusal)
