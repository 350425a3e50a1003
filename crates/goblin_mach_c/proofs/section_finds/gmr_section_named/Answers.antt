use Rattle.std.proofs.Common.{◌≡◌, ◌∙◌, ℕ, List, inl, inr, refl, ap}
use Rattle.mach_base.specs.Fault.{malformed}
use Rattle.goblin_mach.specs.NamedParts.{section_of_name}
use Rattle.goblin_mach.specs.OpenImage.{segments_view}
use Rattle.goblin_mach_c.proofs.FactsAfter.{finds_section}
use Rattle.goblin_mach_c.proofs.section_finds.gmr_section_named.Goals as goal

pub returns-in_default-clause-refused : goal.returns-in_default-clause-refused
returns-in_default-clause-refused c = λ _.
    record { fault = malformed; is_code = c.refuse.ensures.code; occurs = inr (inl (inr (refl, c.in_default.ensures.cases.0))) }

pub returns-in_default-from_utf8-clause-refused : goal.returns-in_default-from_utf8-clause-refused
returns-in_default-from_utf8-clause-refused c = λ _.
    record {
      fault = malformed;
      is_code = c.refuse-in_default-from_utf8.ensures.code;
      occurs = inr (inr (inr (refl, c.in_default-from_utf8.ensures.cases.0)));
    }

pub returns-in-Ok-open-clause-found : goal.returns-in-Ok-open-clause-found
returns-in-Ok-open-clause-found c = λ _.
    let segment = c.args.segment.now in
    let ss = segments_view c.in-Ok-open.found in
    finds_section c.args.bytes.now c.args.image.now.offset c.in-Ok-open.found c.in-Ok-open.ensures.opened
    (λ segments found. found ≡ section_of_name segment c.args.name.now segments) c.section_named.result c.row_of.result
    (c.section_named.ensures ∙ ap (λ (s : List ℕ). section_of_name s c.in-Ok-from_utf8.name.now ss) c.in-Ok.ensures.cases.0
    ∙ ap (λ (s : List ℕ). section_of_name segment s ss) c.in-Ok-from_utf8.ensures.cases.0)
    c.row_of.ensures
