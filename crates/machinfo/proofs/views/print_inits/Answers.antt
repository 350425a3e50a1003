use Rattle.std.proofs.Common.{refl}
use Rattle.machinfo.specs.Headings.{inits_heading}
use Rattle.machinfo.specs.ImageLines.{AreListedLines}
use Rattle.machinfo.specs.Initializers.{HasInitFields, inits_left}
use Rattle.machinfo.proofs.Headings.{under_heading}
use Rattle.machinfo.proofs.views.print_inits.Goals as goal

pub returns-clause-shown : goal.returns-clause-shown
returns-clause-shown g c = λ bytes opened.
    let listed = c.in_ok-print_listing.ensures in
    under_heading c.args.has_headings inits_heading inits_heading (AreListedLines (HasInitFields bytes 0) c.args.limit c.args.left) listed.text _ _ _ _ _
    refl c.in_ok-print_heading.ensures
    (record { fields = inits_left c.in_ok-list.list; has = c.in_ok-list.ensures bytes opened; lines = listed.lines })
    listed.written
