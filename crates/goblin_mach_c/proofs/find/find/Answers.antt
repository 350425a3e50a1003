use Rattle.goblin_mach_c.proofs.find.find.Goals as goal

pub returns-clause-first : goal.returns-clause-first
returns-clause-first c = λ list exports.
    c.find_export.ensures.listed list ((c.exports_of_image.ensures.listed.lossy c.args.bytes.now c.args.offset c.in_ok-image.ensures.opened list).0 exports)

pub returns-clause-only : goal.returns-clause-only
returns-clause-only c = λ opens list exports.
    c.find_export.ensures.only list ((c.exports_of_image.ensures.listed.lossy c.args.bytes.now c.args.offset c.in_ok-image.ensures.opened list).0 exports)
