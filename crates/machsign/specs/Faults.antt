-- The faults of a signature as they are printed: the first ones that are shown, up to a limit.
use Rattle.std.specs.Prelude.{◌≡◌, ◌==◌, ◌-◌, ℕ, List, [], ◌∷◌, ◌++◌, codes, length, take, map, flat_map, nat_lt, Bool, true, false, Option, Some, None}
use Rattle.std.specs.Prelude.{Result, Ok, if◌then◌else◌}
use Rattle.std.specs.Fmt.{decimal}
use Rattle.std.specs.Io.KnownBytes.{Appends}
use Rattle.mach_base.specs.Answer.{◌>>=◌}
use Rattle.mach_base.specs.Fault.{Fault}
use Rattle.mach_base.specs.Text.{text_at}
use Rattle.mach_cli.specs.JsonArrays.{comma_before, with_commas}
use Rattle.mach_cli.specs.SignatureNames.{name_text}
use Rattle.mach_cli.specs.declared.listing.ListProgress.{ListProgress}
use Rattle.mach_parts.specs.Segment.{SegmentView}
use Rattle.mach_signature.specs.AsSigned.{SignatureFaultView, SignedImage, signature_faults_of}
use Rattle.mach_signature.specs.FaultViews.{signature_fault_view}
use Rattle.mach_signature.specs.SignWords.{hexadecimal, signature_fault_words, slot_words}
use Rattle.mach_signature.specs.declared.fault.SignatureFault.{SignatureFault}
use Rattle.machsign.specs.JsonNames.{json_name}
use Rattle.mach_signature.specs.Pages.{page_in_fault, place_of, shown_faults}
use Rattle.machsign.specs.Special.{by_form}
use Rattle.machsign.specs.declared.form.Form.{Form}
use Rattle.mach_signature.specs.declared.page.ChangedPage.{ChangedPage}
use Rattle.mach_signature.specs.declared.page.Place.{Place}

-- ---- names of segments and sections

-- the name in a field of a record, if there is one
abbrev pub name_in : Option (List ℕ) → Result (Option (List ℕ)) Fault
name_in None = Ok None
name_in (Some field) = text_at field 0 >>= (λ name. Ok (Some name))

-- a name in a line
abbrev pub part_text : Option (List ℕ) → List ℕ
part_text None = []
part_text (Some field) = codes " " ++ name_text (name_in (Some field))

-- ---- the texts of a fault

-- the slot of an alternate directory
abbrev pub slot_front : ℕ → List ℕ
slot_front slot = if slot == 0 then [] else slot_words slot ++ codes ": "

-- the number and the place of a page
abbrev pub page_front : ChangedPage → List ℕ
page_front page =
    slot_front page.slot ++ (codes "page " ++ (decimal page.index ++ (codes ": 0x" ++ (hexadecimal page.start ++ (codes "..0x" ++ hexadecimal page.end)))))

-- the line of a page, with the segment and the section that it is in
abbrev pub page_line : ChangedPage → Place → List ℕ
page_line page place =
    (codes "fault: " ++ page_front page) ++ (part_text place.segment ++ (part_text place.section ++ codes " is not what was signed\n"))

abbrev pub line_by : List SegmentView → Option ChangedPage → SignatureFault → List ℕ
line_by segments None fault = codes "fault: " ++ (signature_fault_words fault ++ codes "\n")
line_by segments (Some page) fault = page_line page (place_of segments (Some page))

-- the line of a fault
abbrev pub fault_line : List SegmentView → SignatureFault → List ℕ
fault_line segments fault = line_by segments (page_in_fault (signature_fault_view fault)) fault

-- the object of a fault; its words consist of fixed texts and numbers, so nothing in them is escaped
abbrev pub object_by : Place → SignatureFault → List ℕ
object_by place fault =
    codes "{\"section\":" ++ (json_name (name_in place.section) ++ (codes ",\"segment\":" ++ (json_name (name_in place.segment)
    ++ (codes ",\"words\":\"" ++ (signature_fault_words fault ++ codes "\"}")))))

abbrev pub fault_object : List SegmentView → SignatureFault → List ℕ
fault_object segments fault = object_by (place_of segments (page_in_fault (signature_fault_view fault))) fault

-- a fault in a form, and faults
abbrev pub shown_fault_text : Form → List SegmentView → (is_first : Bool) → SignatureFault → List ℕ
shown_fault_text form segments is_first fault = by_form form (fault_line segments fault) (comma_before is_first ++ fault_object segments fault)

abbrev pub faults_text : Form → List SegmentView → List SignatureFault → List ℕ
faults_text form segments faults = by_form form (flat_map (fault_line segments) faults) (with_commas (map (fault_object segments) faults))

abbrev pub has_none : {A : Type 0} → List A → Bool
has_none [] = true
has_none (x ∷ xs) = false

-- The text has the first of these faults, no more than `left`, in order, each with the words of an error that reports its fault.
pub record ReportsFaults (form : Form) (segments : List SegmentView) (left : ℕ) (faults : List SignatureFaultView) (text : List ℕ) : Type 0 where
  pub answers : List SignatureFault
  pub are_faults : map signature_fault_view answers ≡ take left faults
  pub is_text : text ≡ faults_text form segments answers

-- What is known of faults of which some are shown, and of these the first ones were printed, no more than `left`: whether there is
-- none, how many more may be printed, and whether there are more.
pub record CountsFaults (left : ℕ) (faults shown : List SignatureFaultView) (t : ListProgress) : Type 0 where
  pub whole : t.whole ≡ has_none faults
  pub rest : t.left ≡ left - length shown
  pub more : t.more ≡ nat_lt left (length shown)

-- Such a text of the faults of an image was written.
pub record WritesFaults (form : Form) (segments : List SegmentView) (left : ℕ) (x : SignedImage) (old new : Option (List ℕ)) (t : ListProgress)
    : Type 0 where
  pub text : List ℕ
  pub reports : ReportsFaults form segments left (shown_faults x) text
  pub counts : CountsFaults left (signature_faults_of x) (shown_faults x) t
  pub written : Appends old new text
