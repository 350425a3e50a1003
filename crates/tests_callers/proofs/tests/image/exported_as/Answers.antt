use Rattle.tests_callers.proofs.tests.image.exported_as.Goals as goal

-- the trie's list is that of the bytes
pub returns-clause-by_list : goal.returns-clause-by_list
returns-clause-by_list c =
    λ list h. c.find_export.ensures.listed list ((c.exports_of_image.ensures.listed.strict c.args.bytes.now 0 c.in_ok-image.ensures.opened list).0 h)
