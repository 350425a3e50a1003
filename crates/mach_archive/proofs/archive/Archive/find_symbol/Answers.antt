use Rattle.std.proofs.Common.{◌≡◌, List, Option, Some, None, Result, Ok, IfSome, option_map, subst, ap, ◌∙◌}
use Rattle.mach_base.specs.Answer.{Reads}
use Rattle.mach_base.specs.Fault.{Fault}
use Rattle.mach_archive.specs.ArchiveViews.{archive_of, member_view, table_left, archive_symbols_left}
use Rattle.mach_archive.specs.IndexSymbols.{IndexSymbol, AreIndexSymbols, found_by_name}
use Rattle.mach_archive.specs.IndexTables.{archive_table}
use Rattle.mach_archive.specs.declared.symbols.ArchiveSymbols.{ArchiveSymbols}
use Rattle.mach_archive.proofs.SymbolLaws.{found_items, not_both}
use Rattle.mach_archive.proofs.archive.Archive.find_symbol.Goals as goal

pub returns-in-Ok-Some-clause-found : goal.returns-in-Ok-Some-clause-found
returns-in-Ok-Some-clause-found c =
    let a = archive_of c.args.self.now in
    let it = c.in-Ok-Some.symbols in
    let is = c.in-Ok-Some.field-0-is in
    let table : archive_table a ≡ Ok (Some (table_left it)) = c.in-Ok-Some.ensures.table ∙ ap (λ (found : Option ArchiveSymbols). Ok (option_map
    table_left found)) is in
    let are : AreIndexSymbols (table_left it) 0 (archive_symbols_left it) =
    subst (λ (found : Option ArchiveSymbols). IfSome found (λ x. AreIndexSymbols (table_left x) 0 (archive_symbols_left x))) is c.in-Ok-Some.ensures.items
    in
    λ t items there those. subst (λ (xs : List (Result IndexSymbol Fault)). Reads (option_map member_view) c.find_among.result (found_by_name a
    c.args.name.now xs))
    (found_items a (table_left it) t (archive_symbols_left it) items table are there those) c.find_among.ensures

pub returns-in-Ok-None-clause-found : goal.returns-in-Ok-None-clause-found
returns-in-Ok-None-clause-found c =
    let a = archive_of c.args.self.now in
    let none : archive_table a ≡ Ok None =
    c.in-Ok-None.ensures.table ∙ ap (λ (found : Option ArchiveSymbols). Ok (option_map table_left found)) c.in-Ok-None.field-0-is
    in
    λ t items there those. absurd (not_both a t none there)
