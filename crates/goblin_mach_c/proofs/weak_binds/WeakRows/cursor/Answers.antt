use Rattle.std.proofs.Common.{◌∙◌, sym, ap, subst}
use Rattle.mach_dyld.specs.Cut.{cut_range}
use Rattle.goblin_mach_c.specs.WeakBindsAfter.{IsOverWeak, weak_following, weak_input, weak_left_by, weak_sites_by, weak_sites_of}
use Rattle.goblin_mach_c.proofs.weak_binds.WeakRows.cursor.Goals as goal

pub returns-in-Some-clause-items : goal.returns-in-Some-clause-items
returns-in-Some-clause-items c = λ x over.
    let o = subst (IsOverWeak x) c.in-Some.is over in
    ap weak_left_by c.in-Some.is ∙ sym (c.cursor.ensures.items (weak_input x o.0) (cut_range o.0) o.4)
    ∙ sym (ap (λ r. weak_following c.cursor.result r x) o.2)

pub returns-in-Some-clause-sites : goal.returns-in-Some-clause-sites
returns-in-Some-clause-sites c = λ x over.
    let o = subst (IsOverWeak x) c.in-Some.is over in
    ap weak_sites_by c.in-Some.is ∙ sym (c.cursor.ensures.sites (weak_input x o.0) (cut_range o.0) o.4)
    ∙ sym (ap (λ r. weak_sites_of c.cursor.result r x) o.2)
