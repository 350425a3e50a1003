use Rattle.machinfo.specs.Headings.{heading_of}
use Rattle.machinfo.specs.ImageLines.{AreImageListLines}
use Rattle.machinfo.proofs.Headings.{under_heading}
use Rattle.machinfo.proofs.views.InfoLinesImageView.show.Goals as goal

-- a word is given
pub returns-in_ok-print_list-in-Some-Word-clause-shown : goal.returns-in_ok-print_list-in-Some-Word-clause-shown
returns-in_ok-print_list-in-Some-Word-clause-shown g c =
    let is_word = rw c.in-Some-Word.is at c.in-Some-Word.field-0-is in
    rw (c.in-Some-Word.is, is_word) (λ bytes opened. let listed = c.in_ok-print_list-in-Some-Word.ensures bytes opened in
    under_heading c.args.self.now.has_headings (heading_of c.in-Some-Word.word) _
    (AreImageListLines c.in-Some-Word.word c.args.limit c.args.left bytes) listed.0 _ _ _ _ _ c.heading.ensures
    c.in_ok-print_heading-in-Some-Word.ensures listed.1 listed.2)

-- exports are selected
pub returns-in-Some-Exports-clause-shown : goal.returns-in-Some-Exports-clause-shown
returns-in-Some-Exports-clause-shown g c =
    let is_exports = rw c.in-Some-Exports.is at c.in-Some-Exports.field-0-is in rw (c.in-Some-Exports.is, is_exports) c.print_exports.ensures.shown

-- none is given
pub returns-in_ok-print_summary-in-None-clause-shown : goal.returns-in_ok-print_summary-in-None-clause-shown
returns-in_ok-print_summary-in-None-clause-shown g c = rw c.in-None.is c.in_ok-print_summary-in-None.ensures

-- imports are selected
pub returns-in-Some-Imports-clause-shown : goal.returns-in-Some-Imports-clause-shown
returns-in-Some-Imports-clause-shown g c =
    let is_imports = rw c.in-Some-Imports.is at c.in-Some-Imports.field-0-is in rw (c.in-Some-Imports.is, is_imports) c.print_imports.ensures.shown

-- an address is given
pub returns-in-Some-At-clause-shown : goal.returns-in-Some-At-clause-shown
returns-in-Some-At-clause-shown g c =
    let is_at = rw c.in-Some-At.is at c.in-Some-At.field-0-is in rw (c.in-Some-At.is, is_at) c.show.ensures.shown

-- initializers are selected
pub returns-in-Some-Inits-clause-shown : goal.returns-in-Some-Inits-clause-shown
returns-in-Some-Inits-clause-shown g c =
    let is_inits = rw c.in-Some-Inits.is at c.in-Some-Inits.field-0-is in rw (c.in-Some-Inits.is, is_inits) c.print_inits.ensures.shown
