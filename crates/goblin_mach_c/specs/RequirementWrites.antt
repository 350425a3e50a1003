-- The texts of requirements as C gets them. The numbers of types are those of `goblin_mach.h` (GM_REQUIREMENT_HOST and the following ones).
use Rattle.std.specs.Prelude.{◌≡◌, ◌⊎◌, ◌<◌, ◌≤◌, ◌++◌, ℕ, List, [], length, drop, Option, Some, None, Result, Ok, Err}
use Rattle.mach_base.specs.Answer.{◌>>=◌}
use Rattle.mach_base.specs.Fault.{Fault, malformed}
use Rattle.mach_signature.specs.RequirementTexts.{requirement_words}
use Rattle.mach_signature.specs.RequirementTypes.{requirement_of, requirements_of}
use Rattle.mach_signature.specs.SignedFacts.{HasSignature}
use Rattle.mach_signature.specs.SuperBlob.{SuperBlob}
use Rattle.goblin_mach_c.specs.Opened.{FaultIn, lossy_mode}
use Rattle.goblin_mach_c.specs.declared.images.gm_image.{gm_image}

-- ---- the requirement of an image

-- a number of no type
abbrev pub IsNoType : (kind : ℕ) → Type 0
IsNoType kind = (kind ≡ 0) ⊎ (5 < kind)

abbrev pub requirement_in_index : (kind : ℕ) → Option SuperBlob → Result (Option (List ℕ)) Fault
requirement_in_index kind None = Ok None
requirement_in_index kind (Some index) = requirement_of index kind

abbrev pub requirement_of_signature : (kind : ℕ) → Option SuperBlob → Result (Option (List ℕ)) Fault
requirement_of_signature kind None = Ok None
requirement_of_signature kind (Some s) = requirements_of s >>= requirement_in_index kind

-- the bytes of the first requirement of a type, if there is one, or why it, the index or the signature can't be read
abbrev pub requirement_in : (kind : ℕ) → Result (Option SuperBlob) Fault → Result (Option (List ℕ)) Fault
requirement_in kind signature = signature >>= requirement_of_signature kind

-- that of the image at o
pub record HasRequirement (bytes : List ℕ) (o kind : ℕ) (found : Result (Option (List ℕ)) Fault) : Type 0 where
  pub signature : Result (Option SuperBlob) Fault
  pub has : HasSignature bytes o signature
  pub is : found ≡ requirement_in kind signature

-- a fault of opening, of the signature or of its requirements, or that the number is that of no type
abbrev pub RequirementFaultIn : List ℕ → gm_image → (kind : ℕ) → Fault → Type 0
RequirementFaultIn bytes c kind f =
    FaultIn (lossy_mode c.is_lossy) bytes c.offset f ⊎ (HasRequirement bytes c.offset kind (Err f) ⊎ (IsNoType kind × (f ≡ malformed)))

-- ---- its text

-- a text was written at the start, and the rest is unchanged
pub record WritesText (text old new : List ℕ) (needed : ℕ) : Type 0 where
  pub long : needed ≡ length text
  pub room : needed ≤ length old
  pub written : new ≡ text ++ drop needed old

-- there is less room than a text needs
pub record LacksTextRoom (text : List ℕ) (room needed : ℕ) : Type 0 where
  pub long : needed ≡ length text
  pub less : room < needed

-- no bytes if there is no requirement, else its text
abbrev pub text_if_any : Option (List ℕ) → List ℕ
text_if_any None = []
text_if_any (Some requirement) = requirement_words requirement

-- the text of the requirement of the image at o was written
pub record WritesRequirement (bytes : List ℕ) (o kind : ℕ) (old new : List ℕ) (needed : ℕ) : Type 0 where
  pub found : Option (List ℕ)
  pub has : HasRequirement bytes o kind (Ok found)
  pub writes : WritesText (text_if_any found) old new needed

-- there is such a text, and less room than it needs
pub record LacksRequirementRoom (bytes : List ℕ) (o kind room needed : ℕ) : Type 0 where
  pub requirement : List ℕ
  pub has : HasRequirement bytes o kind (Ok (Some requirement))
  pub lacks : LacksTextRoom (requirement_words requirement) room needed
