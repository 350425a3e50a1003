use Rattle.std.proofs.Common.{◌∙◌, [], Option, Ok, ap, subst, option_map}
use Rattle.std.specs.Prelude.{IfSome}
use Rattle.std.proofs.lemmas.Result.{IfOk-weaker}
use Rattle.mach_archive.specs.ArchiveViews.{archive_symbols_left, table_left}
use Rattle.mach_archive.specs.IndexSymbols.{AreIndexSymbols}
use Rattle.mach_archive.specs.declared.symbols.ArchiveSymbols.{ArchiveSymbols}
use Rattle.mach_base.proofs.Written.{Appends-none}
use Rattle.machfat.specs.SymbolLines.{no_index, no_table, symbols}
use Rattle.machfat.proofs.archive.symbol.print_symbols.Goals as goal

pub returns-in-Ok-Some : goal.returns-in-Ok-Some
returns-in-Ok-Some g c =
    let it = c.in-Ok-Some.symbols in
    let table = c.in-Ok-Some.ensures.table ∙ ap (λ (found : Option ArchiveSymbols). Ok (option_map table_left found)) c.in-Ok-Some.field-0-is in
    let are = subst (λ (found : Option ArchiveSymbols). IfSome found (λ it. AreIndexSymbols (table_left it) 0 (archive_symbols_left it)))
    c.in-Ok-Some.field-0-is c.in-Ok-Some.ensures.items in
    IfOk-weaker c.print_items.result _ _
    (λ t reported. record {
      text = reported.text;
      are_lines = symbols (table_left it) (archive_symbols_left it) reported.text t table are reported.are_lines;
      written = reported.written;
    })
    c.print_items.ensures

pub returns-in-Ok-None : goal.returns-in-Ok-None
returns-in-Ok-None g c =
    let table = c.in-Ok-None.ensures.table ∙ ap (λ (found : Option ArchiveSymbols). Ok (option_map table_left found)) c.in-Ok-None.field-0-is in
    record { text = []; are_lines = no_index table; written = Appends-none (g.O.Write.contents c.args.out.now) }

pub returns-in_ok-whole-in-Err : goal.returns-in_ok-whole-in-Err
returns-in_ok-whole-in-Err g c =
    let said = c.in_ok-whole-in-Err.ensures in
    rw said.0 (record { text = _; are_lines = no_table c.in-Err.error c.in-Err.ensures.table; written = said.1 })
