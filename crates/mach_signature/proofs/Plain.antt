-- Plain bytes are a text.
use Rattle.std.proofs.Common.{◌≡◌, ◌<◌, ◌∷◌, [], ◌∙◌, ℕ, Bool, true, false, cond, List, Option, Some, None, MatchOption, All, refl, ap}
use Rattle.std.proofs.lemmas.Bool.Decides.{nat_tests}
use Rattle.std.proofs.lemmas.List.Elements.{All-weaker}
use Rattle.std.proofs.lemmas.List.Sums.{AllPass-from_list_all}
use Rattle.std.proofs.lemmas.Str.{IsUtf8-from_ascii}
use Rattle.std.proofs.lemmas.Str.Ascii.{IsAscii-from_all}
use Rattle.std.specs.Borrow.{Bor}
use Rattle.std.specs.List.{list_all}
use Rattle.std.specs.Option.{option_map}
use Rattle.std.specs.Str.{IsUtf8}
use Rattle.std.proofs.Common.{arith}
use Rattle.mach_signature.specs.RequirementTexts.{is_quotable, plain_text}

plain_small : (b : ℕ) → is_quotable b ≡ true → b < 128
plain_small b plain = grind (arith, nat_tests)

plain_utf8 : (bytes : List ℕ) → list_all is_quotable bytes ≡ true → IsUtf8 bytes
plain_utf8 bytes plain =
    IsUtf8-from_ascii bytes (IsAscii-from_all bytes
    (All-weaker (λ b. is_quotable b ≡ true) (λ b. b < 128) plain_small bytes (AllPass-from_list_all is_quotable bytes plain)))

-- the text that is found of plain bytes
pub plain_found : (bytes : List ℕ) (found : Option (Bor (List ℕ))) → list_all is_quotable bytes ≡ true
    → MatchOption found (IsUtf8 bytes → ⊥) (λ text. text.now ≡ bytes) → option_map (λ text. text.now) found ≡ plain_text bytes
plain_found bytes None plain h = absurd (h (plain_utf8 bytes plain))
plain_found bytes (Some text) plain h = rw plain (ap (λ (t : List ℕ). Some t) h)
