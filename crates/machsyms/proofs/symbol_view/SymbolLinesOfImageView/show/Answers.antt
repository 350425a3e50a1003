use Rattle.std.proofs.Common.{◌≡◌, ◌∙◌, ℕ, List, ap, map, refl, subst, sym}
use Rattle.std.specs.Prelude.{IsTrue, ◌↔◌, codes}
use Rattle.mach_base.specs.declared.context.Container.TheVariants.{Big}
use Rattle.mach_base.specs.declared.context.Ctx.{Ctx}
use Rattle.goblin_mach.specs.ImageFacts.{facts_view}
use Rattle.goblin_mach.specs.OpenImage.{commands_view}
use Rattle.mach_cli.specs.Listings.{AreFirstLines}
use Rattle.machsyms.specs.ImageLines.{AreImageSymbolLines}
use Rattle.machsyms.specs.Letters.{letter_of}
use Rattle.machsyms.specs.Lines.{selected_lines, past_the_end, symbols_over}
use Rattle.machsyms.specs.Order.{gone_over}
use Rattle.machsyms.specs.Setting.{SymbolSetting, setting_of, setting_view}
use Rattle.machsyms.specs.declared.order.SortKey.{SortKey}
use Rattle.machsyms.specs.declared.selection.Request.{Request}
use Rattle.machsyms.proofs.symbol_view.SymbolLinesOfImageView.show.Goals as goal

pub returns-clause-shown : goal.returns-clause-shown
returns-clause-shown g c = λ bytes opened.
    let m = c.args.image.now in
    let a = c.selected_of-request.result in
    let f = facts_view m in
    let outcome = c.in_ok-print_symbols.field-0 in
    let lines = c.in_ok-print_symbols.ensures in
    let there = c.deref-2.ensures.value ∙ c.in_ok-sections.ensures in
    let lettered = c.deref-3.ensures.value ∙ c.in_ok-letters.ensures ∙ ap (map letter_of) (c.deref.ensures.value ∙ c.in_ok-sections.ensures) in
    let set = c.new-setting.ensures there lettered in
    let word = c.as_str.ensures.value ∙ c.in_ok-word.ensures in
    let over = λ (begin : List ℕ) (w : SymbolSetting) (ks : List SortKey). AreFirstLines begin c.args.limit c.args.left
    (selected_lines a w (symbols_over (gone_over a.sorting ks) f.symbols)) (codes "symbols") (past_the_end f.symbols) lines.text outcome.whole outcome.left in
    let seen = setting_view c.new-setting.result in
    let found = setting_of m.is_64 f in
    let keys = c.in_ok-keys.keys.items in
    let are : AreImageSymbolLines a c.args.limit c.args.left bytes lines.text outcome.whole outcome.left = record {
      opens = (opened.ctx, commands_view m, opened.opens);
      facts = f;
      has_facts = c.facts_of_image.ensures.lossy bytes 0 opened;
      is_64 = m.is_64;
      has_width = subst (λ (x : Ctx). IsTrue m.is_64 ↔ (x.container ≡ Big)) (sym opened.fields.ctx_is) opened.fields.is_64;
      keys = keys;
      in_order = c.in_ok-keys.ensures;
      lines = subst (λ (begin : List ℕ). over begin found keys) word (subst (λ (w : SymbolSetting). over c.as_str.result.now w keys) set
          (subst (λ (ks : List SortKey). over c.as_str.result.now seen ks) c.deref-4.ensures.value lines.lines));
    } in
    let of = λ (x : Request). AreImageSymbolLines x c.args.limit c.args.left bytes lines.text outcome.whole outcome.left in (
      lines.text,
      record { name = c.args.file; is_name = refl; lines = subst of c.selected_of-request.ensures are },
      lines.written,
    )
