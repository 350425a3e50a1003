use Rattle.std.proofs.Common.{List, subst}
use Rattle.goblin_mach.specs.OpenImage.{commands_view}
use Rattle.goblin_mach.specs.AllStretches.{SegmentStretches, parts_view}
use Rattle.machfixups.specs.ImageLines.{ArePointerLines}
use Rattle.machfixups.specs.KeptFixups.{kinds_in_lines}
use Rattle.machfixups.specs.Rows.{PointerRows, line_rows, readable_table, rows_shown}
use Rattle.machfixups.specs.declared.kept_fixups.KindsOfLists.{KindsOfLists}
use Rattle.goblin_mach.specs.SymbolAtAddress.{image_symbol_at}
use Rattle.machfixups.specs.TargetSymbols.{symbols_seen}
use Rattle.machfixups.specs.declared.rows.Selection.{Selection}
use Rattle.machfixups.proofs.Facts.{has_target_symbols}
use Rattle.machfixups.proofs.Unseen.{lines_unseen}
use Rattle.machfixups.proofs.fixup_view.FixupLinesImageView.show.Goals as goal

pub returns-clause-shown : goal.returns-clause-shown
returns-clause-shown g c = λ bytes opened.
    let outcome = c.in_ok-print_listing.field-0 in
    let known = c.in_ok-parts.ensures bytes 0 opened in
    let listed = c.of-list.ensures bytes 0 opened in
    let written = c.in_ok-print_listing.ensures in
    let over = λ (rows : PointerRows). ArePointerLines c.args.limit c.args.left rows written.text outcome.whole outcome.left in
    let parts = parts_view c.in_ok-parts.parts in
    let table = readable_table listed.4 in
    let m = c.args.image.now in
    let symbols = image_symbol_at m in
    let seen = symbols_seen c.in_ok-symbols.symbols in
    let has_raw = c.args.self.now.selection.chains in
    let in_kinds = λ (kinds : KindsOfLists). over (rows_shown has_raw c.shown-shown.result kinds parts seen listed.2 table listed.0) in
    let same = lines_unseen parts seen symbols listed.2 table has_raw c.shown-shown.result listed.0 c.has_rebases.result c.has_rebases.ensures
    c.in_ok-symbols.ensures in
    let by_shown = λ (shown : Selection). over (rows_shown has_raw shown (kinds_in_lines shown) parts symbols listed.2 table listed.0) in
    let in_parts = λ (parts : List SegmentStretches). over (line_rows c.args.self.now.selection parts symbols listed.2 table listed.0) in (
      written.text,
      record {
        opens = (opened.ctx, commands_view c.args.image.now, opened.opens);
        segments = known.0;
        has_segments = known.1;
        lists = listed.0;
        has_lists = listed.1;
        libs = listed.2;
        has_libs = listed.3;
        chained = listed.4;
        has_chained = listed.5;
        symbols = symbols;
        has_symbols = has_target_symbols bytes 0 m opened;
        lines = subst in_parts known.2 (subst by_shown c.shown-shown.ensures (subst over same
            (subst in_kinds c.kinds_in_lines.ensures (subst over listed.6 written.lines))));
      },
      written.written,
    )
