-- The line of a rebase has the fields of a line alone.
use Rattle.std.proofs.Common.{◌≡◌, ◌-◌, ◌∷◌, [], ◌∙◌, ℕ, List, Option, Some, None, length, refl}
use Rattle.std.specs.Prelude.{codes}
use Rattle.std.specs.Str.{chars}
use Rattle.mach_parts.specs.PointerSigning.{Auth}
use Rattle.mach_cli.specs.Fields.{FieldView, field_of, fields_line, hex, text, value_in_width}
use Rattle.mach_dyld.specs.declared.rebases.RebaseKind.{RebaseKind}
use Rattle.machfixups.specs.RowFields.{address_field, kind_field, name_or_dash, rebase_fields, rebase_target_text, rebase_text, section_field}
use Rattle.machfixups.specs.RowFields.{segment_field, target_section, target_segment}
use Rattle.machfixups.specs.Rows.{PointerPlace}
use Rattle.goblin_mach.specs.SymbolAtAddress.{SymbolBelow}
use Rattle.machfixups.proofs.InColumns.{pair_column, place_columns, rebase_word}

-- the fields that a line has up to the symbol, in the order of their columns
abbrev rebase_line : (place target : PointerPlace) → List FieldView
rebase_line p target =
    address_field p
    ∷ segment_field p
    ∷ section_field p
    ∷ kind_field (codes "kind") (codes "rebase")
    ∷ target_segment target
    ∷ target_section target
    ∷ field_of (codes "target") (hex target.address) 6
    ∷ []

written_line : (p target : PointerPlace) → rebase_text p target ≡ fields_line (rebase_line p target)
written_line p target =
    let segment = name_or_dash target.segment in
    let first = value_in_width 0 (text segment) in
    let second = value_in_width (19 - length (chars segment)) (text (name_or_dash target.section)) in
    place_columns (value_in_width 11 (hex p.address)) (value_in_width 12 (text (name_or_dash p.segment)))
    (value_in_width 16 (text (name_or_dash p.section))) (value_in_width 6 (text (codes "rebase"))) (codes "rebase") (rebase_target_text target) _
    rebase_word (pair_column first second (value_in_width 0 (hex target.address)))

-- members that only an object has are in no column
in_order : (p target : PointerPlace) (symbol : Option SymbolBelow) (kind : RebaseKind) (auth : Option Auth) (raw : Option ℕ)
    → fields_line (rebase_line p target) ≡ fields_line (rebase_fields p target symbol kind auth raw)
in_order p target None kind auth None = refl
in_order p target None kind auth (Some raw) = refl
in_order p target (Some symbol) kind auth None = refl
in_order p target (Some symbol) kind auth (Some raw) = refl

pub same_rebase_line : (p target : PointerPlace) (symbol : Option SymbolBelow) (kind : RebaseKind) (auth : Option Auth) (raw : Option ℕ)
    → rebase_text p target ≡ fields_line (rebase_fields p target symbol kind auth raw)
same_rebase_line p target symbol kind auth raw = written_line p target ∙ in_order p target symbol kind auth raw
