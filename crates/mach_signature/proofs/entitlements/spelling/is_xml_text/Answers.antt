use Rattle.std.proofs.Common.{◌∙◌}
use Rattle.mach_signature.proofs.XmlTexts.{no_utf8, text_in_utf8}
use Rattle.mach_signature.proofs.entitlements.spelling.is_xml_text.Goals as goal

pub returns-in-Ok : goal.returns-in-Ok
returns-in-Ok c =
    c.has_xml_chars.ensures ∙ text_in_utf8 c.args.bytes.now c.in-Ok.text.now c.in-Ok.ensures.cases.0 c.in-Ok.ensures.cases.1

pub returns-in-Err : goal.returns-in-Err
returns-in-Err c = no_utf8 c.args.bytes.now c.in-Err.ensures.cases.0
