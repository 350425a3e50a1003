-- The entitlements of an image's signature in a notation, in the arrays of a C caller.
use Rattle.std.specs.Prelude.{◌≡◌, ◌⊎◌, ◌==◌, ℕ, List, [], ◌++◌, length, take, drop, if◌then◌else◌, Option, Some, None, Result, Ok, Err}
use Rattle.mach_base.specs.Answer.{◌>>=◌}
use Rattle.mach_base.specs.Fault.{Fault, fault_of, malformed}
use Rattle.mach_base.specs.declared.error.Error.{Error}
use Rattle.mach_signature.specs.EntitlementAgreement.{entitled_in}
use Rattle.mach_signature.specs.EntitlementReads.{entries_at}
use Rattle.mach_signature.specs.EntitlementSpans.{SpanView}
use Rattle.mach_signature.specs.EntitlementValues.{Entitled, group}
use Rattle.mach_signature.specs.EntitlementViews.{seen_span}
use Rattle.mach_signature.specs.EntitlementXml.{most_steps}
use Rattle.mach_signature.specs.SignedFacts.{HasSignature}
use Rattle.mach_signature.specs.SuperBlob.{SuperBlob, content_of}
use Rattle.mach_signature.specs.declared.entitlements.parts.Group.TheVariants.{Dictionary}
use Rattle.mach_signature.specs.declared.entitlements.parts.Notation.{Notation}
use Rattle.mach_signature.specs.declared.entitlements.parts.Notation.TheVariants.{Xml, Der}
use Rattle.mach_signature.specs.declared.entitlements.parts.Span.{Span}
use Rattle.goblin_mach_c.specs.EntitlementRows.{rows_under, texts_of}
use Rattle.goblin_mach_c.specs.Opened.{FaultIn, lossy_mode}
use Rattle.goblin_mach_c.specs.declared.entitlement_rows.Gathered.{Gathered}
use Rattle.goblin_mach_c.specs.declared.entitlement_rows.gm_entitlement_item.{gm_entitlement_item}
use Rattle.goblin_mach_c.specs.declared.images.gm_image.{gm_image}

-- ---- the entitlements of an image

-- the notation of a flag: 0 is XML
abbrev pub notation_of : ℕ → Notation
notation_of is_der = if is_der == 0 then Xml else Der

-- the slot of the entitlements in a notation
abbrev pub entitlement_slot : Notation → ℕ
entitlement_slot Xml = 5
entitlement_slot Der = 7

abbrev pub values_if_read : Result Entitled Fault → Result (Option Entitled) Fault
values_if_read (Ok xs) = Ok (Some xs)
values_if_read (Err f) = Err malformed

abbrev pub values_by : Notation → Option (List ℕ) → Result (Option Entitled) Fault
values_by notation None = Ok None
values_by notation (Some content) = values_if_read (entitled_in notation content)

abbrev pub values_of_signature : Notation → Option SuperBlob → Result (Option Entitled) Fault
values_of_signature notation None = Ok None
values_of_signature notation (Some s) = content_of s (entitlement_slot notation) >>= values_by notation

-- those of a signature, if it has some, or why they or the signature can't be read
abbrev pub entitlements_by : Notation → Result (Option SuperBlob) Fault → Result (Option Entitled) Fault
entitlements_by notation signature = signature >>= values_of_signature notation

-- those of the image at o
pub record HasEntitled (bytes : List ℕ) (o : ℕ) (notation : Notation) (found : Result (Option Entitled) Fault) : Type 0 where
  pub signature : Result (Option SuperBlob) Fault
  pub has : HasSignature bytes o signature
  pub is : found ≡ entitlements_by notation signature

-- a fault of opening, of the signature or of its entitlements
abbrev pub EntitledFaultIn : List ℕ → gm_image → (is_der : ℕ) → Fault → Type 0
EntitledFaultIn bytes c is_der f = FaultIn (lossy_mode c.is_lossy) bytes c.offset f ⊎ HasEntitled bytes c.offset (notation_of is_der) (Err f)

-- ---- their rows and their texts

-- the row of the outer dictionary, and after it those of its values; none if there are no entitlements
abbrev pub rows_if_any : Option Entitled → List gm_entitlement_item
rows_if_any None = []
rows_if_any (Some xs) = rows_under 0 0 [] (group Dictionary xs)

abbrev pub texts_if_any : Option Entitled → List ℕ
texts_if_any None = []
texts_if_any (Some xs) = texts_of xs

-- How many items there are, and what an array holds after they were written: as many as fit. The rest is unchanged.
pub record WritesFirst {R : Type 0} (items old new : List R) (count : ℕ) : Type 0 where
  pub is_count : count ≡ length items
  pub written : new ≡ take (length old) items ++ drop count old

-- the rows and the texts of the entitlements of the image at o were written
pub record WritesEntitled (bytes : List ℕ) (o : ℕ) (notation : Notation) (old new : List gm_entitlement_item) (count : ℕ) (old_texts new_texts : List ℕ)
    (len : ℕ) : Type 0 where
  pub found : Option Entitled
  pub has : HasEntitled bytes o notation (Ok found)
  pub rows : WritesFirst (rows_if_any found) old new count
  pub texts : WritesFirst (texts_if_any found) old_texts new_texts len

-- ---- what was read

-- values that can be read, or none, or why they can't be read
abbrev pub AreFoundValues : Result (Option Span) Error → Result (Option Entitled) Fault → Type 0
AreFoundValues (Ok None) found = found ≡ Ok None
AreFoundValues (Ok (Some values)) found = (x : Entitled × SpanView) × (entries_at most_steps Dictionary (seen_span values) ≡ Ok x) × (found ≡ Ok (Some x.0))
AreFoundValues (Err e) found = found ≡ Err (fault_of e)

abbrev pub HoldsEntitled : Option Entitled → Gathered → Type 0
HoldsEntitled found all = (all.items.items ≡ rows_if_any found) × (all.texts.items ≡ texts_if_any found)
