use Rattle.std.proofs.Common.{List, refl, subst}
use Rattle.goblin_mach.specs.ImageFacts.{facts_view}
use Rattle.goblin_mach.specs.OpenImage.{commands_view}
use Rattle.mach_cli.specs.JsonArrays.{AreMembersInBounds}
use Rattle.machsyms.specs.JsonSymbols.{symbol_members, AreImageSymbolMembers}
use Rattle.machsyms.specs.Lines.{past_the_end, symbols_over}
use Rattle.machsyms.specs.Order.{gone_over}
use Rattle.machsyms.specs.declared.order.SortKey.{SortKey}
use Rattle.machsyms.specs.declared.selection.Request.{Request}
use Rattle.machsyms.proofs.json.SymbolObjectsOfImageView.show.Goals as goal

pub returns-clause-shown : goal.returns-clause-shown
returns-clause-shown g c = λ bytes opened.
    let m = c.args.image.now in
    let a = c.selected_of-request.result in
    let f = facts_view m in
    let outcome = c.in_ok-write_members.field-0 in
    let written = c.in_ok-write_members.ensures in
    let lists = λ (ks : List SortKey). symbol_members a (symbols_over (gone_over a.sorting ks) f.symbols) in
    let over = λ (ks : List SortKey). AreMembersInBounds c.args.left (lists ks) (past_the_end f.symbols) written.text outcome.whole outcome.left in
    let are : AreImageSymbolMembers a c.args.left bytes written.text outcome.whole outcome.left = record {
      opens = (opened.ctx, commands_view m, opened.opens);
      facts = f;
      has_facts = c.facts_of_image.ensures.lossy bytes 0 opened;
      keys = c.in_ok-keys.keys.items;
      in_order = c.in_ok-keys.ensures;
      members = subst over c.deref.ensures.value written.members;
    } in
    let of = λ (x : Request). AreImageSymbolMembers x c.args.left bytes written.text outcome.whole outcome.left in (
      written.text,
      record { name = c.args.file; is_name = refl; members = subst of c.selected_of-request.ensures are },
      written.written,
    )
