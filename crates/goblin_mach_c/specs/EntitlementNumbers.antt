-- Whether the entitlements of an image's signature in XML and in DER say the same, as C sees it. The numbers are those of `goblin_mach.h`
-- (GM_ENTITLEMENTS_NONE and the following ones).
use Rattle.std.specs.Prelude.{◌≡◌, ◌⊎◌, ℕ, List, Option, Some, None, Result, Ok, Err}
use Rattle.mach_base.specs.Fault.{Fault}
use Rattle.mach_signature.specs.EntitlementAgreement.{agreement_of}
use Rattle.mach_signature.specs.SignedFacts.{HasSignature}
use Rattle.mach_signature.specs.SuperBlob.{SuperBlob, content_of}
use Rattle.mach_signature.specs.declared.entitlements.agreement.Agreement.{Agreement}
use Rattle.mach_signature.specs.declared.entitlements.agreement.Agreement.TheVariants.{Same, Different, UnreadableXml, UnreadableDer}
use Rattle.goblin_mach_c.specs.Opened.{FaultIn, lossy_mode}
use Rattle.goblin_mach_c.specs.declared.images.gm_image.{gm_image}

-- those that were compared: they agree, they differ, or one of them can't be read
abbrev pub compared_number : Agreement → ℕ
compared_number Same = 1
compared_number Different = 2
compared_number UnreadableXml = 5
compared_number UnreadableDer = 6

-- what a signature has in both notations, or why it can't be read; 0 for none, and 3 and 4 if there are some in XML alone or in DER alone
abbrev pub entitlements_number : (xml der : Result (Option (List ℕ)) Fault) → ℕ
entitlements_number (Err f) der = 5
entitlements_number (Ok xml) (Err f) = 6
entitlements_number (Ok None) (Ok None) = 0
entitlements_number (Ok None) (Ok (Some der)) = 4
entitlements_number (Ok (Some xml)) (Ok None) = 3
entitlements_number (Ok (Some xml)) (Ok (Some der)) = compared_number (agreement_of xml der)

-- the same of a signature, by the first blobs of slots 5 and 7; 0 if there is no signature
abbrev pub signature_number : Option SuperBlob → ℕ
signature_number None = 0
signature_number (Some s) = entitlements_number (content_of s 5) (content_of s 7)

-- the number says so of the image at o
abbrev pub SaysEntitlements : List ℕ → ℕ → ℕ → Type 0
SaysEntitlements bytes o n = (signature : Option SuperBlob) × HasSignature bytes o (Ok signature) × (n ≡ signature_number signature)

-- a fault of opening, or of the signature
abbrev pub SignedFaultIn : List ℕ → gm_image → Fault → Type 0
SignedFaultIn bytes c f = FaultIn (lossy_mode c.is_lossy) bytes c.offset f ⊎ HasSignature bytes c.offset (Err f)
