-- The lines of a signature.
use Rattle.std.specs.Prelude.{◌≡◌, ◌+◌, ◌-◌, ◌&&◌, ℕ, List, [], ◌++◌, codes, length, flat_map, nat_lt, Bool, false, not, Option, Some, None, Result, Ok, Err}
use Rattle.std.specs.Io.KnownBytes.{Appends}
use Rattle.mach_base.specs.Fault.{Fault, fault_of}
use Rattle.mach_base.specs.Words.{words_of}
use Rattle.mach_base.specs.declared.error.Error.{Error}
use Rattle.mach_parts.specs.Segment.{SegmentView}
use Rattle.mach_signature.specs.AsSigned.{SignedImage, signature_faults_of}
use Rattle.mach_signature.specs.Chosen.{directories_of, directory_of}
use Rattle.mach_signature.specs.Directories.{Directory}
use Rattle.mach_cli.specs.Listings.{cut_line}
use Rattle.machsign.specs.AgreementTexts.{agreement_line}
use Rattle.machsign.specs.Blobs.{blobs_lines, other_blobs_of}
use Rattle.machsign.specs.Blocks.{slot_directory_lines}
use Rattle.mach_signature.specs.EntitlementAgreement.{agreement_in, is_agreed}
use Rattle.machsign.specs.Faults.{has_none, ReportsFaults}
use Rattle.machsign.specs.Kinds.{kind_line, unchecked_line}
use Rattle.mach_signature.specs.Kinds.{cms_of, kind_of}
use Rattle.mach_signature.specs.Pages.{shown_faults}
use Rattle.mach_signature.specs.RequirementTypes.{has_readable_requirements}
use Rattle.machsign.specs.RequirementLines.{requirement_lines}
use Rattle.machsign.specs.declared.form.Form.TheVariants.{Lines}

-- the line of its kind, the lines of its directories, in the order of the index, and those of its requirements; if no directory is
-- used, there is no such line
abbrev pub directories_front : SignedImage → Result Directory Fault → List ℕ
directories_front x (Ok d) =
    kind_line (kind_of x d) ++ (flat_map (slot_directory_lines x) (directories_of x.signature) ++ requirement_lines x.signature)
directories_front x (Err f) = []

abbrev pub front_lines : SignedImage → List ℕ
front_lines x = directories_front x (directory_of x.signature)

-- the line of whether the entitlements say the same, the line that says that there is more than the limit, if so, and the line of
-- what isn't checked
abbrev pub back_lines : SignedImage → (limit : ℕ) → (more : Bool) → List ℕ
back_lines x limit more = agreement_line (agreement_in x.signature) ++ (cut_line limit more ++ unchecked_line (cms_of x))

-- how many blobs that are no directories a signature has, and how many of its faults are shown
abbrev pub blobs_counted : SignedImage → ℕ
blobs_counted x = length (other_blobs_of x.signature)

abbrev pub limited_count : SignedImage → ℕ
limited_count x = blobs_counted x + length (shown_faults x)

-- whether these are more than may be printed
abbrev pub is_cut : (left : ℕ) → SignedImage → Bool
is_cut left x = nat_lt left (limited_count x)

-- whether the entitlements say the same if they are there in XML and in DER, and the requirements can be read
abbrev pub has_sound_parts : SignedImage → Bool
has_sound_parts x = is_agreed (agreement_in x.signature) && has_readable_requirements x.signature

-- whether there is no fault, and all is printed
abbrev pub is_unfaulted_whole : (left : ℕ) → SignedImage → Bool
is_unfaulted_whole left x = (has_none (signature_faults_of x) && not (is_cut left x)) && has_sound_parts x

-- The text is the lines of its kind and of the directories, of the other blobs, and of all that differs from what was signed. Of blobs and faults
-- together these are the first ones, no more than `left`. A line says whether the entitlements in XML and in DER say the same, one
-- follows if there are more blobs and faults, and the last says what isn't checked. It is whole if there is no fault, and all is
-- printed.
pub record AreSignedLines (limit left : ℕ) (segments : List SegmentView) (x : SignedImage) (text : List ℕ) (whole : Bool) (rest : ℕ) : Type 0 where
  pub faults : List ℕ
  pub are_faults : ReportsFaults Lines segments (left - blobs_counted x) (shown_faults x) faults
  pub is_text : text ≡ front_lines x ++ (blobs_lines left x.signature ++ (faults ++ back_lines x limit (is_cut left x)))
  pub is_whole : whole ≡ is_unfaulted_whole left x
  pub is_rest : rest ≡ left - limited_count x

-- The text is the lines of a signature, of a missing one, or of one that can't be read.
pub data AreSignatureLines (limit left : ℕ) (segments : List SegmentView)
    : Result (Option SignedImage) Fault → (text : List ℕ) → (whole : Bool) → (rest : ℕ) → Type 0 where
  unsigned : AreSignatureLines limit left segments (Ok None) (codes "not signed\n") false left
  unreadable : (e : Error) → AreSignatureLines limit left segments (Err (fault_of e)) (codes "refused: " ++ (words_of e ++ codes "\n")) false left
  signed : (x : SignedImage) (text : List ℕ) (whole : Bool) (rest : ℕ) → AreSignedLines limit left segments x text whole rest
      → AreSignatureLines limit left segments (Ok (Some x)) text whole rest

-- Such lines were written.
pub record WritesSignature (limit left : ℕ) (segments : List SegmentView) (there : Result (Option SignedImage) Fault) (whole : Bool) (rest : ℕ)
    (old new : Option (List ℕ)) : Type 0 where
  pub text : List ℕ
  pub lines : AreSignatureLines limit left segments there text whole rest
  pub written : Appends old new text

-- the same, of a signature that can be read
pub record WritesSigned (limit left : ℕ) (segments : List SegmentView) (x : SignedImage) (whole : Bool) (rest : ℕ) (old new : Option (List ℕ))
    : Type 0 where
  pub text : List ℕ
  pub lines : AreSignedLines limit left segments x text whole rest
  pub written : Appends old new text
