-- The members of an image's object: its signature.
use Rattle.std.specs.Prelude.{◌≡◌, ◌==◌, ◌^◌, ◌-◌, ℕ, List, ◌++◌, codes, Bool, true, false, if◌then◌else◌, Option, Some, None, Result, Ok, Err, ◌↔◌, IsTrue}
use Rattle.std.specs.Fmt.{decimal}
use Rattle.std.specs.Io.KnownBytes.{Appends}
use Rattle.mach_base.specs.Fault.{Fault, fault_of}
use Rattle.mach_base.specs.Items.{read_as}
use Rattle.mach_base.specs.Words.{words_of}
use Rattle.mach_base.specs.declared.error.Error.{Error}
use Rattle.goblin_mach.specs.Image.{LossyOpens}
use Rattle.mach_cli.specs.JsonArrays.{error_end}
use Rattle.mach_cli.specs.JsonText.{json_bool}
use Rattle.mach_cli.specs.SignatureNames.{bytes_text}
use Rattle.mach_parts.specs.Segment.{SegmentView}
use Rattle.mach_signature.specs.AsSigned.{SignedImage}
use Rattle.mach_signature.specs.Chosen.{directory_of}
use Rattle.mach_signature.specs.Directories.{Directory, cdhash_of, code_limit_of, full_cdhash_of, identifier_of, page_count_of, team_of}
use Rattle.mach_signature.specs.DirectoryViews.{directory_view}
use Rattle.mach_signature.specs.Kinds.{has_cms, has_hardened_runtime, has_library_validation, is_ad_hoc, is_linker_signed, kind_of}
use Rattle.mach_signature.specs.SignedFacts.{HoldsAsSigned}
use Rattle.mach_signature.specs.SuperBlob.{SuperBlob}
use Rattle.mach_signature.specs.declared.directory.CodeDirectory.{CodeDirectory}
use Rattle.mach_signature.specs.declared.kind.Kind.{Kind}
use Rattle.mach_signature.specs.declared.records.ExecutableSegment.{ExecutableSegment}
use Rattle.mach_signature.specs.declared.records.RuntimeFields.{RuntimeFields}
use Rattle.machsign.specs.AgreementTexts.{agreement_object}
use Rattle.machsign.specs.Blobs.{blobs_array}
use Rattle.mach_signature.specs.EntitlementAgreement.{agreement_in}
use Rattle.machsign.specs.Faults.{ReportsFaults}
use Rattle.machsign.specs.ImageLines.{HasSigned, is_there_cut, is_there_sound}
use Rattle.machsign.specs.JsonNames.{json_name}
use Rattle.machsign.specs.RequirementLines.{requirements_object}
use Rattle.machsign.specs.Signatures.{blobs_counted, is_cut, is_unfaulted_whole, limited_count}
use Rattle.mach_signature.specs.Pages.{shown_faults}
use Rattle.machsign.specs.Special.{slots_array}
use Rattle.machsign.specs.Texts.{runtime_text}
use Rattle.mach_signature.specs.declared.entitlements.agreement.Agreement.{Agreement}
use Rattle.machsign.specs.declared.form.Form.TheVariants.{Objects}

-- the page size, by its power of 2; 0 is any size
abbrev pub page_size_text : ℕ → List ℕ
page_size_text power = if power == 0 then codes "null" else decimal (2 ^ power)

-- the executable segment, if the version has it
abbrev pub executable_object : Option ExecutableSegment → List ℕ
executable_object None = codes "null"
executable_object (Some s) =
    codes "{\"base\":" ++ (decimal s.base ++ (codes ",\"flags\":" ++ (decimal s.flags ++ (codes ",\"limit\":" ++ (decimal s.limit ++ codes "}")))))

-- the version of the runtime, if the directory has it
abbrev pub runtime_object : Option RuntimeFields → List ℕ
runtime_object None = codes "null"
runtime_object (Some r) = codes "\"" ++ (runtime_text r.version ++ codes "\"")

-- ---- the members of a directory

-- its flags, what they and the CMS message say, and its hash
abbrev pub kind_members : Kind → (hash_type : ℕ) → List ℕ
kind_members k hash_type =
    codes "],\"flags\":" ++ (decimal k.flags ++ (codes ",\"has_cms\":" ++ (json_bool (has_cms k.cms)
    ++ (codes ",\"has_hardened_runtime\":" ++ (json_bool (has_hardened_runtime k)
    ++ (codes ",\"has_library_validation\":" ++ (json_bool (has_library_validation k)
    ++ (codes ",\"hash_type\":" ++ (decimal hash_type ++ codes ",\"identifier\":")))))))))

abbrev pub origin_members : Kind → List ℕ
origin_members k = codes ",\"is_ad_hoc\":" ++ (json_bool (is_ad_hoc k) ++ (codes ",\"is_linker_signed\":" ++ json_bool (is_linker_signed k)))

abbrev pub identifier_text : Directory → List ℕ
identifier_text d = json_name (identifier_of d)

abbrev pub covered_members : (more : Bool) → (limit power pages : ℕ) → List ℕ
covered_members more limit power pages =
    codes ",\"limit\":" ++ (decimal limit ++ (codes ",\"limit_met\":" ++ (json_bool more ++ (codes ",\"page_size\":" ++ (page_size_text power
    ++ (codes ",\"pages\":" ++ decimal pages))))))

abbrev pub pages_members : (more : Bool) → Directory → List ℕ
pages_members more d = covered_members more (code_limit_of d) d.head.page_size (page_count_of d)

abbrev pub platform_member : (platform : ℕ) → List ℕ
platform_member platform = codes ",\"platform\":" ++ (decimal platform ++ codes ",\"requirements\":")

abbrev pub runtime_member : Option RuntimeFields → List ℕ
runtime_member runtime = codes ",\"runtime\":" ++ (runtime_object runtime ++ codes ",\"special_slots\":")

abbrev pub running_members : SuperBlob → (platform : ℕ) → Option RuntimeFields → List ℕ
running_members s platform runtime = platform_member platform ++ (requirements_object s ++ runtime_member runtime)

abbrev pub special_members : SignedImage → Directory → List ℕ
special_members x d = slots_array x d ++ codes ",\"team\":"

abbrev pub team_text : Directory → List ℕ
team_text d = json_name (team_of d)

abbrev pub naming_members : Directory → List ℕ
naming_members d = team_text d ++ (codes ",\"version\":" ++ (decimal d.head.version ++ codes "}"))

-- the members after the faults
abbrev pub directory_members : SignedImage → (more : Bool) → Directory → List ℕ
directory_members x more d =
    (kind_members (kind_of x d) d.head.hash_type ++ (identifier_text d ++ (origin_members (kind_of x d) ++ pages_members more d)))
    ++ (running_members x.signature d.head.platform d.runtime ++ (special_members x d ++ naming_members d))

-- the members before the faults
abbrev pub cdhash_members : Option Agreement → Directory → List ℕ
cdhash_members agreement d =
    codes ",\"cdhash\":\"" ++ (bytes_text (cdhash_of d) ++ (codes "\",\"cdhash_full\":\"" ++ (bytes_text (full_cdhash_of d)
    ++ (codes "\",\"entitlements_compared\":" ++ (agreement_object agreement
    ++ (codes ",\"executable\":" ++ (executable_object d.executable ++ codes ",\"faults\":[")))))))

-- ---- the object

-- the members between the blobs and the faults: the hash of the directory that is used and its executable segment, or why none is
-- used; and whether the entitlements in XML and in DER say the same
abbrev pub before_faults : Option Agreement → Result CodeDirectory Error → List ℕ
before_faults agreement (Ok d) = cdhash_members agreement (directory_view d)
before_faults agreement (Err e) =
    codes ",\"entitlements_compared\":" ++ (agreement_object agreement ++ (codes ",\"error\":\"" ++ (words_of e ++ codes "\",\"faults\":[")))

-- the members after the faults: the fields of that directory
abbrev pub after_faults : SignedImage → (more : Bool) → Result CodeDirectory Error → List ℕ
after_faults x more (Ok d) = directory_members x more (directory_view d)
after_faults x more (Err e) = codes "],\"limit_met\":" ++ (json_bool more ++ codes "}")

-- the object of a signature that can't be read
abbrev pub refused_object : List ℕ → List ℕ
refused_object words = codes "{" ++ error_end words

-- The text is the object of a signature that can be read: its blobs; its directory that is used, or why none is; and all that
-- differs from what was signed. Of blobs and faults together these are the first ones, no more than `left`, and whether there are
-- more. It is whole if there is no fault, and all is written.
pub record IsSignedObject (left : ℕ) (segments : List SegmentView) (x : SignedImage) (text : List ℕ) (whole : Bool) (rest : ℕ) : Type 0 where
  pub directory : Result CodeDirectory Error
  pub is_directory : read_as directory_view directory ≡ directory_of x.signature
  pub faults : List ℕ
  pub are_faults : ReportsFaults Objects segments (left - blobs_counted x) (shown_faults x) faults
  pub is_text : text
      ≡ (codes "{\"blobs\":" ++ blobs_array left x.signature)
      ++ (before_faults (agreement_in x.signature) directory ++ (faults ++ after_faults x (is_cut left x) directory))
  pub is_whole : whole ≡ is_unfaulted_whole left x
  pub is_rest : rest ≡ left - limited_count x

-- Such an object was written.
pub record WritesSignedObject (left : ℕ) (segments : List SegmentView) (x : SignedImage) (whole : Bool) (rest : ℕ) (old new : Option (List ℕ)) : Type 0 where
  pub text : List ℕ
  pub object : IsSignedObject left segments x text whole rest
  pub written : Appends old new text

-- The text is the object of a signature, of a missing one, or of one that can't be read.
pub data IsSignatureObject (left : ℕ) (segments : List SegmentView)
    : Result (Option SignedImage) Fault → (text : List ℕ) → (whole : Bool) → (rest : ℕ) → Type 0 where
  unsigned_object : IsSignatureObject left segments (Ok None) (codes "null") false left
  unreadable_object : (e : Error) → IsSignatureObject left segments (Err (fault_of e)) (refused_object (words_of e)) false left
  signed_object : (x : SignedImage) (text : List ℕ) (whole : Bool) (rest : ℕ) → IsSignedObject left segments x text whole rest
      → IsSignatureObject left segments (Ok (Some x)) text whole rest

-- The text is the members of an image with such an object.
pub record AreSignatureMembers (left : ℕ) (segments : List SegmentView) (there : Result (Option SignedImage) Fault) (text : List ℕ) (whole : Bool) (rest : ℕ)
    : Type 0 where
  pub signature : List ℕ
  pub is_signature : IsSignatureObject left segments there signature whole rest
  pub is_text : text ≡ codes "\"kind\":\"image\",\"signature\":" ++ signature

-- Such members were written.
pub record WritesSignatureMembers (left : ℕ) (segments : List SegmentView) (there : Result (Option SignedImage) Fault) (whole : Bool) (rest : ℕ)
    (old new : Option (List ℕ)) : Type 0 where
  pub text : List ℕ
  pub members : AreSignatureMembers left segments there text whole rest
  pub written : Appends old new text

-- The text is the members of the image at the start of the bytes. It is whole exactly if the image is as it was signed, all is
-- written, its entitlements in XML and in DER say the same, if it has both, and its requirements can be read.
pub record AreImageSignatureMembers (left : ℕ) (bytes text : List ℕ) (whole : Bool) (rest : ℕ) : Type 0 where
  pub opens : LossyOpens bytes 0
  pub there : Result (Option SignedImage) Fault
  pub segments : List SegmentView
  pub has_signed : HasSigned bytes 0 segments there
  pub members : AreSignatureMembers left segments there text whole rest
  pub as_signed : IsTrue whole ↔ (HoldsAsSigned bytes 0 × (is_there_cut left there ≡ false) × (is_there_sound there ≡ true))
