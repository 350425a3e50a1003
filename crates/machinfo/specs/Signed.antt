-- The lines that print whether an image is signed, and what the code directory says that is used.
use Rattle.std.specs.Prelude.{◌≡◌, ◌==◌, ◌&&◌, ℕ, List, ◌++◌, codes, Bool, true, false, bit_and, if◌then◌else◌, Option, Some, None, Result, Ok, Err}
use Rattle.std.specs.Io.KnownBytes.{Appends}
use Rattle.std.specs.Option.{option_map}
use Rattle.std.specs.Result.{is_ok}
use Rattle.mach_base.specs.Answer.{Reads}
use Rattle.mach_base.specs.Fault.{Fault}
use Rattle.mach_base.specs.Words.{words_of}
use Rattle.mach_base.specs.declared.error.Error.{Error}
use Rattle.mach_signature.specs.Directories.{Directory, identifier_of, team_of}
use Rattle.mach_signature.specs.DirectoryViews.{directory_view}
use Rattle.mach_signature.specs.declared.directory.CodeDirectory.{CodeDirectory}
use Rattle.mach_records.specs.FlagNames.{code_flags}
use Rattle.mach_cli.specs.Flags.{worded_flags_text}
use Rattle.mach_cli.specs.SignatureNames.{name_text}

-- the image is signed, and ad hoc if that flag is set (`cs_blobs.h`, CS_ADHOC)
abbrev pub signed_line : (flags : ℕ) → List ℕ
signed_line flags = if bit_and flags 2 == 0 then codes "signed: yes\n" else codes "signed: yes, ad hoc\n"

-- a line of a label and a name, if there is one
abbrev pub said_name : (label : List ℕ) → Result (Option (List ℕ)) Fault → List ℕ
said_name label name = label ++ (codes ": " ++ (name_text name ++ codes "\n"))

-- the flags, as a number and in words
abbrev pub signature_flags_line : (flags : ℕ) → List ℕ
signature_flags_line flags = codes "signature flags: " ++ (worded_flags_text code_flags flags ++ codes "\n")

abbrev pub directory_summary : Directory → List ℕ
directory_summary d =
    signed_line d.head.flags
    ++ (said_name (codes "identifier") (identifier_of d) ++ (said_name (codes "team") (team_of d) ++ signature_flags_line d.head.flags))

-- the text of an answer: there is no signature, or what the directory says, or the error
abbrev pub signature_answer_text : Result (Option CodeDirectory) Error → List ℕ
signature_answer_text (Ok None) = codes "signed: no\n"
signature_answer_text (Ok (Some d)) = directory_summary (directory_view d)
signature_answer_text (Err e) = codes "signed: refused: " ++ (words_of e ++ codes "\n")

-- whether the directory and its names can be read, or there is none
abbrev pub is_readable : Result (Option Directory) Fault → Bool
is_readable (Ok None) = true
is_readable (Ok (Some d)) = is_ok (identifier_of d) && is_ok (team_of d)
is_readable (Err f) = false

-- The text is that of an answer which reads as `there`: the directory, or an error that reports its fault.
pub record AreSignatureLinesOf (there : Result (Option Directory) Fault) (text : List ℕ) : Type 0 where
  pub answer : Result (Option CodeDirectory) Error
  pub reads : Reads (option_map directory_view) answer there
  pub is_text : text ≡ signature_answer_text answer

-- These lines were written.
pub record WritesSignedLines (there : Result (Option Directory) Fault) (old new : Option (List ℕ)) : Type 0 where
  pub text : List ℕ
  pub lines : AreSignatureLinesOf there text
  pub written : Appends old new text
