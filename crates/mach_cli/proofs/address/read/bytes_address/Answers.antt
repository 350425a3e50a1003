use Rattle.std.proofs.Common.{◌∙◌, ap, refl}
use Rattle.std.proofs.lemmas.Bool.{false_from_ne_true}
use Rattle.std.proofs.lemmas.Str.{IsUtf8-from_is_utf8, is_utf8-from_IsUtf8}
use Rattle.std.specs.Str.{is_utf8}
use Rattle.mach_cli.specs.Calls.{word_address}
use Rattle.mach_cli.proofs.address.read.bytes_address.Goals as goal

pub returns-in-Ok : goal.returns-in-Ok
returns-in-Ok c =
    rw (is_utf8-from_IsUtf8 c.args.bytes.now c.in-Ok.ensures.cases.1) (c.address_in.ensures ∙ ap word_address c.in-Ok.ensures.cases.0)

pub returns-in-Err : goal.returns-in-Err
returns-in-Err c =
    let bytes = c.args.bytes.now in
    rw (false_from_ne_true (is_utf8 bytes) (λ yes. c.in-Err.ensures.cases.0 (IsUtf8-from_is_utf8 bytes yes))) refl
