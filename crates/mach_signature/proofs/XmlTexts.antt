-- When bytes are a text that XML allows.
use Rattle.std.proofs.Common.{◌≡◌, ℕ, List, Bool, true, false, refl}
use Rattle.std.specs.Prelude.{◌&&◌}
use Rattle.std.specs.List.{list_all}
use Rattle.std.specs.Str.{chars, is_utf8, IsUtf8}
use Rattle.std.proofs.lemmas.Str.{IsUtf8-from_is_utf8, is_utf8-from_IsUtf8}
use Rattle.mach_signature.specs.EntitlementTexts.{is_xml_char, is_xml_text}

pub text_in_utf8 : (bytes text : List ℕ) → text ≡ bytes → IsUtf8 bytes → list_all is_xml_char (chars text) ≡ is_xml_text bytes
unfolding is_xml_text
text_in_utf8 bytes text same good = let test : is_utf8 bytes ≡ true = is_utf8-from_IsUtf8 bytes good in rw (same, test) refl

pub no_utf8 : (bytes : List ℕ) → ¬ (IsUtf8 bytes) → false ≡ is_xml_text bytes
unfolding is_xml_text
no_utf8 bytes bad = by (is_utf8 bytes) refl
  where
    by : (b : Bool) → is_utf8 bytes ≡ b → false ≡ (b && list_all is_xml_char (chars bytes))
    by true e = absurd (bad (IsUtf8-from_is_utf8 bytes e))
    by false e = refl
