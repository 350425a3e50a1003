-- The object of a requirement, by whether it is simple.
use Rattle.std.proofs.Common.{◌≡◌, ◌++◌, ℕ, true, false, is_ok, codes, List, Result, Ok, Err, refl}
use Rattle.mach_base.specs.Fault.{Fault}
use Rattle.mach_cli.specs.SignatureNames.{bytes_text}
use Rattle.mach_signature.specs.Requirements.{Expression, simple_expression}
use Rattle.mach_signature.specs.RequirementTexts.{is_simple, requirement_text, requirement_text_by}
use Rattle.mach_signature.specs.declared.requirements.text.Quotes.{Quotes}
use Rattle.mach_signature.specs.declared.requirements.text.Quotes.TheVariants.{Escaped}
use Rattle.machsign.specs.RequirementLines.{requirement_object, requirement_object_by}

simple_by : (bytes : List ℕ) (x : Result Expression Fault) → is_ok x ≡ true
    → codes "{\"hex\":null,\"text\":\"" ++ (requirement_text_by Escaped bytes x ++ codes "\"}") ≡ requirement_object_by bytes x
simple_by bytes (Ok x) e = refl
simple_by bytes (Err f) e = absurd (cc)

other_by : (bytes : List ℕ) (x : Result Expression Fault) → is_ok x ≡ false
    → codes "{\"hex\":\"" ++ (bytes_text bytes ++ codes "\",\"text\":null}") ≡ requirement_object_by bytes x
other_by bytes (Ok x) e = absurd (cc)
other_by bytes (Err f) e = refl

-- what is written of a simple requirement, by its text with escaped quotation marks
pub simple_object : (bytes of_text : List ℕ) (quotes : Quotes) → of_text ≡ bytes → quotes ≡ Escaped → is_simple bytes ≡ true
    → codes "{\"hex\":null,\"text\":\"" ++ (requirement_text quotes of_text ++ codes "\"}") ≡ requirement_object bytes
simple_object bytes of_text quotes same escaped e = rw same (rw escaped (simple_by bytes (simple_expression bytes) e))

pub other_object : (bytes : List ℕ) → is_simple bytes ≡ false
    → codes "{\"hex\":\"" ++ (bytes_text bytes ++ codes "\",\"text\":null}") ≡ requirement_object bytes
other_object bytes e = other_by bytes (simple_expression bytes) e
