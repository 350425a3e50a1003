use Rattle.std.proofs.Common.{sym, subst}
use Rattle.mach_dyld.specs.Cursors.{IsOwnAt}
use Rattle.mach_dyld.specs.Exports.{info_of, text_in}
use Rattle.mach_dyld.specs.declared.export_info.ExportInfo.{ExportInfo}
use Rattle.goblin_mach_c.specs.ExportWalk.{IsBrought, IsNumbered}
use Rattle.goblin_mach_c.proofs.ListedExports.{brought_by}
use Rattle.goblin_mach_c.proofs.exports.brought_from.Goals as goal

pub returns-in-Some : goal.returns-in-Some
returns-in-Some c = λ libs.
    let t = c.args.trie.now in
    let info = c.in-Reexport in
    subst (λ (i : ExportInfo). IsOwnAt t.bytes libs t.from c.args.cursor.now.node (info_of i)
    → IsBrought t.bytes (IsNumbered libs) c.args.cursor.now.node (info_of i) c.in-Some.ordinal c.in-Some.place) (sym info.is)
    (λ own. brought_by t.bytes libs c.args.cursor.now.node info.lib.now (text_in info.lib_symbol_name) info.flags (c.in-Some.ordinal, c.in-Some.place)
    c.in-Some.ensures.node (c.in-Some.ensures.reported libs info.lib.now (text_in info.lib_symbol_name) info.flags own))

pub returns-in-None : goal.returns-in-None
returns-in-None c = λ libs.
    let t = c.args.trie.now in
    let info = c.in-Reexport in
    subst (λ (i : ExportInfo). IsOwnAt t.bytes libs t.from c.args.cursor.now.node (info_of i)
    → IsBrought t.bytes (IsNumbered libs) c.args.cursor.now.node (info_of i) 0 0)
    (sym info.is) (λ own. absurd (c.in-None.ensures.reported libs info.lib.now (text_in info.lib_symbol_name) info.flags own))
