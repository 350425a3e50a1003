-- Lines under a heading.
use Rattle.std.proofs.Common.{◌≡◌, ◌++◌, ℕ, List, Bool, Option, refl, subst}
use Rattle.std.specs.Io.KnownBytes.{Appends}
use Rattle.mach_base.proofs.Written.{Appends-both}
use Rattle.machinfo.specs.Headings.{AreUnderHeading, list_heading}

-- a heading was written, and then lines
pub under_heading : (has_headings : Bool) (heading shown : List ℕ) (Are : List ℕ → Bool → ℕ → Type 0) (text : List ℕ) (whole : Bool) (rest : ℕ)
    (old between new : Option (List ℕ)) → shown ≡ heading → Appends old between (list_heading has_headings shown)
    → Are text whole rest → Appends between new text
    → (t : List ℕ) × AreUnderHeading has_headings heading Are t whole rest × Appends old new t
under_heading has_headings heading shown Are text whole rest old between new is written are following = (
  list_heading has_headings heading ++ text,
  record { lines = text; are = are; is_text = refl },
  Appends-both old between new (list_heading has_headings heading) text
      (subst (λ (h : List ℕ). Appends old between (list_heading has_headings h)) is written) following,
)
