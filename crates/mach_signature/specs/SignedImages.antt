-- The signature of an image (`mach-o/loader.h`, LC_CODE_SIGNATURE), the section that it seals as its Info.plist, and the promise that the
-- image is as it was signed.
use Rattle.std.specs.Prelude.{◌≡◌, ℕ, List, [], ◌∷◌, find, codes, Bool, true, false, if◌then◌else◌}
use Rattle.std.specs.Prelude.{Option, Some, None, option_map, Result, Ok, Err}
use Rattle.std.specs.Result.{result_ok}
use Rattle.std.specs.Str.{bytes_eq}
use Rattle.mach_base.specs.Answer.{◌>>=◌}
use Rattle.mach_base.specs.Fault.{Fault}
use Rattle.mach_base.specs.Number.{slice_at}
use Rattle.mach_base.specs.Record.{Value, number_among}
use Rattle.mach_base.specs.Text.{text_at}
use Rattle.mach_load.specs.Command.{Command}
use Rattle.mach_load.specs.Commands.{Kind, code_signature}
use Rattle.mach_parts.specs.SectionRecord.{readable_sections}
use Rattle.mach_parts.specs.Segment.{SegmentView}
use Rattle.mach_parts.specs.declared.segment.numbered.NumberedSection.{NumberedSection}
use Rattle.goblin_mach.specs.EntryPoint.{is_text_name}
use Rattle.goblin_mach.specs.Readings.{Reading, read_of, first_of}
use Rattle.mach_signature.specs.AsSigned.{SignedImage, SignatureFaultView, signature_in, faults_in, IsAsSigned}
use Rattle.mach_signature.specs.Chosen.{directory_of}
use Rattle.mach_signature.specs.Directories.{Directory}
use Rattle.mach_signature.specs.SuperBlob.{SuperBlob}

-- ---- where the signature lies

-- the offset and the size that a command gives the signature (struct linkedit_data_command, dataoff and datasize)
abbrev pub signature_place_of : Kind → List Value → Option (ℕ × ℕ)
signature_place_of code_signature values = Some (number_among values 2, number_among values 3)
signature_place_of _ values = None

-- the reading of a signature's place; it never fails
abbrev pub signature_place_by : Reading (ℕ × ℕ)
signature_place_by c = option_map (λ place. Ok place) (signature_place_of c.kind c.values)

-- the place in an image: that of the first such command
abbrev pub signature_place_in : List Command → Option (ℕ × ℕ)
signature_place_in cs = first_of (read_of signature_place_by cs)

-- the signature at the place, if there is one, or why it can't be read
abbrev pub signature_there : List ℕ → Option (ℕ × ℕ) → Result (Option SuperBlob) Fault
signature_there bytes None = Ok None
signature_there bytes (Some place) = signature_in bytes place.0 place.1 >>= (λ s. Ok (Some s))

abbrev pub image_signature : List ℕ → List Command → Result (Option SuperBlob) Fault
image_signature bytes cs = signature_there bytes (signature_place_in cs)

-- the code directory that counts, if there is a signature
abbrev pub directory_there : Option SuperBlob → Result (Option Directory) Fault
directory_there None = Ok None
directory_there (Some s) = directory_of s >>= (λ d. Ok (Some d))

abbrev pub image_directory : List ℕ → List Command → Result (Option Directory) Fault
image_directory bytes cs = image_signature bytes cs >>= directory_there

-- ---- the section that is sealed as Info.plist

-- whether a name can be read and is `__info_plist`
abbrev pub is_named_plist : Result (List ℕ) Fault → Bool
is_named_plist (Ok name) = bytes_eq name (codes "__info_plist")
is_named_plist (Err f) = false

-- whether a section is `__info_plist` of `__TEXT`, by its own names
abbrev pub is_info_plist : NumberedSection → Bool
is_info_plist n = if is_text_name n.section.segname then is_named_plist (text_at n.section.sectname 0) else false

-- the bytes of the section; none if they are not in the file
abbrev pub plist_bytes : List ℕ → Option NumberedSection → Option (List ℕ)
plist_bytes bytes None = None
plist_bytes bytes (Some n) = result_ok (slice_at n.section.size bytes n.section.offset)

-- the section of an image: the first among those in their segment's command and in the bytes
abbrev pub plist_of : List ℕ → List SegmentView → Option (List ℕ)
plist_of bytes segments = plist_bytes bytes (find is_info_plist (readable_sections segments))

-- ---- the faults of an image

abbrev pub faults_there : List ℕ → Option (ℕ × ℕ) → List SegmentView → Result (Option (List SignatureFaultView)) Fault
faults_there bytes None segments = Ok None
faults_there bytes (Some place) segments = faults_in bytes place.0 place.1 (plist_of bytes segments) >>= (λ faults. Ok (Some faults))

abbrev pub image_faults : List ℕ → List Command → List SegmentView → Result (Option (List SignatureFaultView)) Fault
image_faults bytes cs segments = faults_there bytes (signature_place_in cs) segments

-- An image is as it was signed: a command places a signature, it can be read, and everything is as it says.
pub record IsImageAsSigned (bytes : List ℕ) (cs : List Command) (segments : List SegmentView) : Type 0 where
  pub place : ℕ × ℕ
  pub placed : signature_place_in cs ≡ Some place
  pub signature : SuperBlob
  pub reads : signature_in bytes place.0 place.1 ≡ Ok signature
  pub holds : IsAsSigned (record { bytes = bytes; dataoff = place.0; signature = signature; plist = plist_of bytes segments })

-- whether there is a signature, and it has no fault
abbrev pub are_unreported : Option (List SignatureFaultView) → Bool
are_unreported None = false
are_unreported (Some []) = true
are_unreported (Some (f ∷ fs)) = false

abbrev pub is_as_signed : Result (Option (List SignatureFaultView)) Fault → Result Bool Fault
is_as_signed faults = faults >>= (λ faults. Ok (are_unreported faults))
