use Rattle.std.proofs.Common.{◌-◌, [], ◌∷◌, ◌++◌, ◌∙◌, ℕ, arith, refl, sym, ap}
use Rattle.std.proofs.lemmas.List.{append_assoc, length-append}
use Rattle.mach_archive.specs.ArchiveViews.{archive_of, archive_symbol_read, archive_symbols_left}
use Rattle.machfat.proofs.Items.{gone_none}
use Rattle.machfat.proofs.MembersReported.{symbol_more, symbols_cut, symbols_over}
use Rattle.machfat.specs.SymbolLines.{is_whole_symbol, symbol_line, reported_symbol_faults}
use Rattle.machfat.proofs.archive.symbol.print_items.Goals as goal

pub symbols-init : goal.symbols-init
symbols-init g c =
    let same = sym (ap archive_symbols_left c.into_iter-answer-iterator.ensures.into_iter_gives) in
    ([], same, refl, omega arith, gone_none reported_symbol_faults symbol_line is_whole_symbol (g.O.Write.contents c.args.out.now))

pub symbols-preserved : goal.symbols-preserved
symbols-preserved g c =
    let before = c.symbols.invariant in
    let one = archive_symbol_read c.in-Some.answer ∷ [] in
    let reported = c.in_ok-whole.ensures in (
      before.0 ++ one,
      before.1 ∙ ap (λ rest. before.0 ++ rest) c.in-Some.ensures.steps ∙ sym (append_assoc before.0 one (archive_symbols_left c.next.new.self)),
      omega (arith, before.2, length-append before.0 one),
      omega (arith, before.3, c.if-number-left.false),
      symbol_more (archive_of c.args.archive.now) before.0 (archive_symbol_read c.in-Some.answer) reported.0 c.symbols.whole c.in_ok-whole.field-0 _ _ _
          before.4 reported.1 reported.2 reported.3,
    )

pub returns-then-number-left : goal.returns-then-number-left
returns-then-number-left g c =
    let before = c.symbols.invariant in
    symbols_cut (archive_of c.args.archive.now) c.args.left (archive_symbols_left c.args.symbols) before.0 (archive_symbol_read c.in-Some.answer)
    (archive_symbols_left c.next.new.self) c.symbols.whole _ _ _ before.4
    (before.1 ∙ ap (λ rest. before.0 ++ rest) c.in-Some.ensures.steps) (omega (arith, before.2, c.if-number-left.true)) (refl, refl, refl)

pub returns : goal.returns
returns g c =
    let before = c.symbols.invariant in
    symbols_over (archive_of c.args.archive.now) c.args.left (archive_symbols_left c.args.symbols) before.0
    (archive_symbols_left c.symbols.answer-iterator) c.symbols.whole _ _ _ before.4 before.1 c.in-None.ensures.steps.0 (omega (arith, before.2, before.3))
    (ap (λ (n : ℕ). c.args.left - n) before.2, refl, refl)
