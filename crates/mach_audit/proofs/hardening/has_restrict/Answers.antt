use Rattle.std.proofs.Common.{◌≡◌, ◌-◌, ◌∙◌, ℕ, refl, arith, rules, tests}
use Rattle.std.proofs.lemmas.Iterator.{YieldsList-from_range}
use Rattle.std.proofs.lemmas.Iterator.Search.{any_from_yields_List}
use Rattle.mach_parts.specs.SectionRecord.{numbered_section}
use Rattle.mach_parts.specs.Segment.{segment_view}
use Rattle.mach_audit.specs.Security.{is_restrict}
use Rattle.mach_audit.proofs.hardening.has_restrict.Goals as goal

pub returns : goal.returns
returns c =
    let all : c.sections_held.result - 0 ≡ c.sections_held.result = omega arith in
    any_from_yields_List (λ (k : ℕ). is_restrict (numbered_section 0 (segment_view c.args.segment.now) k)) c.any.new.self _ c.any.result c.any.ensures.ran
    (YieldsList-from_range 0 c.sections_held.result _ refl (all ∙ c.sections_held.ensures)) (λ x b q k. search (rules, tests))
