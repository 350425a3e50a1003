use Rattle.std.proofs.Common.{◌≡◌, ℕ, Bool, true, false, List, Option, Some, None, ap, cond, refl}
use Rattle.std.proofs.lemmas.Str.{IsUtf8-from_is_utf8, is_utf8-from_IsUtf8}
use Rattle.std.specs.Str.{IsUtf8, is_utf8}
use Rattle.machinfo.proofs.strings.text_of.Goals as goal

no_text : (bytes : List ℕ) (b : Bool) → is_utf8 bytes ≡ b → ¬ IsUtf8 bytes → ◌≡◌ {A = Option (List ℕ)} None (cond b (Some bytes) None)
no_text bytes true is not_text = absurd (not_text (IsUtf8-from_is_utf8 bytes is))
no_text bytes false is not_text = refl

pub returns-in-Ok : goal.returns-in-Ok
returns-in-Ok c = let text = c.in-Ok.ensures.cases in rw (is_utf8-from_IsUtf8 c.args.bytes.now text.1) (ap Some text.0)

pub returns-in-Err : goal.returns-in-Err
returns-in-Err c = no_text c.args.bytes.now (is_utf8 c.args.bytes.now) refl c.in-Err.ensures.cases.0
