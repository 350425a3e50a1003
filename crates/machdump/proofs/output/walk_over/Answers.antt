use Rattle.std.proofs.Common.{◌∙◌, ◌++◌, ◌∷◌, [], Some, ap}
use Rattle.mach_dyld.specs.Exports.{info_of}
use Rattle.mach_base.specs.Text.{texts}
use Rattle.mach_dyld.specs.Trie.{entry}
use Rattle.goblin_mach.specs.OpenImage.{trie_view}
use Rattle.goblin_mach.specs.Subjects.{trie_or_empty}
use Rattle.machdump.proofs.output.walk_over.Goals as goal

pub exports-preserved : goal.exports-preserved
exports-preserved g c =
    let image = c.args.image.now in
    let found = c.exports.invariant in
    let export = c.in_default-export.field-0 in
    let goes = rw (c.in-Some.is ∙ ap Some c.in_default-export.is) at c.next.follows.holds-at-none in (
      found.0 ++ entry export.0.now (info_of export.1) ∷ [],
      goes.1 (trie_or_empty (trie_view image)) (texts image.libs.items) found.0 found.1,
    )

pub returns : goal.returns
returns g c =
    let image = c.args.image.now in
    let found = c.exports.invariant in
    (found.0, c.in_default.ensures.says (trie_or_empty (trie_view image)) (texts image.libs.items) found.0 found.1)
