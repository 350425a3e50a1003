-- No line of a row has a line feed.
use Rattle.std.proofs.Common.{◌≡◌, List, ℕ, true, Option, Some, None, refl, rules}
use Rattle.mach_cli.proofs.FieldLines.{no_feed-line}
use Rattle.mach_cli.proofs.OneLine.{no_feed-append, no_feed-escaped, no_feeds}
use Rattle.mach_cli.specs.Escapes.{has_no_feed}
use Rattle.mach_cli.specs.Fields.{fields_line}
use Rattle.machfixups.specs.RowFields.{ending_fields, pointer_ending, pointer_fields, pointer_line, symbol_text}
use Rattle.machfixups.specs.Rows.{PointerRow, binds, binds_weakly, corrects, is_strong, is_value, rebases}
use Rattle.goblin_mach.specs.SymbolAtAddress.{SymbolBelow}

no_feed-symbol : (symbol : Option SymbolBelow) → has_no_feed (symbol_text symbol) ≡ true
no_feed-symbol (Some symbol) = search (no_feeds, rules)
no_feed-symbol None = refl

no_feed-ending : (row : PointerRow) → has_no_feed (pointer_ending row) ≡ true
no_feed-ending (corrects p (binds b) raw) = refl
no_feed-ending (corrects p (binds_weakly b) raw) = refl
no_feed-ending (corrects p (rebases target symbol kind auth) raw) =
    no_feed-append (symbol_text symbol) (fields_line (ending_fields kind auth raw)) (no_feed-symbol symbol) (no_feed-line (ending_fields kind auth raw))
no_feed-ending (corrects p (is_value value) raw) = refl
no_feed-ending (is_strong name) = refl

pub no_feed-pointer : (row : PointerRow) → has_no_feed (pointer_line row) ≡ true
no_feed-pointer row =
    no_feed-append (fields_line (pointer_fields row)) (pointer_ending row) (no_feed-line (pointer_fields row)) (no_feed-ending row)
