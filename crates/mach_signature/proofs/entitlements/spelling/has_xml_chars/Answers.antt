use Rattle.std.proofs.Common.{rules, tests}
use Rattle.std.proofs.lemmas.Iterator.{YieldsList-from_chars}
use Rattle.std.proofs.lemmas.Iterator.Search.{all_from_yields_List}
use Rattle.mach_signature.specs.EntitlementTexts.{is_xml_char}
use Rattle.mach_signature.proofs.entitlements.spelling.has_xml_chars.Goals as goal

pub returns : goal.returns
returns c =
    all_from_yields_List is_xml_char c.all.new.self _ c.all.result c.all.ensures.ran (YieldsList-from_chars c.args.text.now c.utf8.text (cc))
    (λ x b q k. search (rules, tests))
