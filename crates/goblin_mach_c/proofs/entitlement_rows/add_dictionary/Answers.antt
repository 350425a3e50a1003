use Rattle.std.proofs.Common.{◌≡◌, List, ℕ, Ok, ap, subst}
use Rattle.mach_signature.specs.EntitlementReads.{entries_at, value_at}
use Rattle.mach_signature.specs.EntitlementSpans.{spelled_text, group_here}
use Rattle.mach_signature.specs.EntitlementValues.{group}
use Rattle.mach_signature.specs.EntitlementViews.{seen_span}
use Rattle.mach_signature.specs.EntitlementXml.{most_steps}
use Rattle.mach_signature.specs.declared.entitlements.parts.Group.TheVariants.{Dictionary}
use Rattle.mach_signature.proofs.EntitlementSteps.{then_read}
use Rattle.goblin_mach_c.specs.EntitlementRows.{AddsRows, rows_under, texts_place, texts_under}
use Rattle.goblin_mach_c.proofs.entitlement_rows.add_dictionary.Goals as goal

pub returns : goal.returns
returns c x is =
    let s = seen_span c.args.values in
    let read : value_at most_steps (group_here Dictionary s) ≡ Ok (group Dictionary x.0, x.1) =
    then_read (entries_at most_steps Dictionary s) (λ r. Ok (group Dictionary r.0, r.1)) x is in
    let adds = c.in_ok-add_value.ensures (group Dictionary x.0, x.1) read in
    subst (λ (key : List ℕ). AddsRows (rows_under 0 (texts_place c.args.out.now) key (group Dictionary x.0)) (texts_under key (group Dictionary x.0))
    c.args.out.now c.add_value.new.out) (ap spelled_text c.no_text.ensures) adds.1
