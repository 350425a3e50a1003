use Rattle.std.proofs.Common.{◌≡◌, ◌∙◌, ◌-◌, ℕ, List, [], get_or, map, take, drop, ap, sym, arith, refl}
use Rattle.std.proofs.lemmas.List.{drop-map, length-map, take-map}
use Rattle.std.proofs.lemmas.Simd.{map-map}
use Rattle.mach_cli.specs.Fields.{FieldView, column_of, column_text, field_view}
use Rattle.mach_cli.proofs.Columns.{column_in_span, for_either, none_of_column}
use Rattle.mach_cli.proofs.fields.spans.fields_in.Goals as goal

pub returns-then-end-eq0 : goal.returns-then-end-eq0
returns-then-end-eq0 c =
    let column = c.args.column in
    let fields = c.args.fields.now in
    let columns : map (λ (f : FieldView). f.column) (map field_view fields) ≡ map column_of fields = map-map (λ (f : FieldView). f.column) field_view fields in
    let none : column_text (map field_view fields) column ≡ [] =
    none_of_column (map field_view fields) column
    (λ k inside of.
    let lies = c.requires.lies column k c.if-column-ge10.false (omega (arith, inside, length-map fields field_view, length-map fields column_of))
    (ap (λ (xs : List ℕ). get_or xs k 0) (sym columns) ∙ of) in
    omega (arith, lies.1, c.if-end-eq0.true)) in
    sym none

pub returns : goal.returns
returns c =
    let column = c.args.column in
    let fields = c.args.fields.now in
    let start = get_or c.args.spans.now.starts column 0 in
    let end = get_or c.args.spans.now.ends column 0 in
    let wanted = column_text (map field_view fields) column in
    let columns : map (λ (f : FieldView). f.column) (map field_view fields) ≡ map column_of fields = map-map (λ (f : FieldView). f.column) field_view fields in
    let part_of : map field_view (take (end - start) (drop start fields)) ≡ take (end - start) (drop start (map field_view fields)) =
    sym (take-map field_view (end - start) (drop start fields)) ∙ ap (take (end - start)) (sym (drop-map field_view start fields)) in
    for_either (λ part. column_text (map field_view part.now) column ≡ wanted) _ _ c.get-part.result _ c.unwrap_or.result c.get-part.ensures.lookup.0
    (λ part found. ap (λ fs. column_text (map field_view fs) column) found.2
    ∙ ap (λ fs. column_text fs column) part_of
    ∙ column_in_span (map field_view fields) column start end c.if-column-ge10.false
    (λ k inside of. c.requires.lies column k c.if-column-ge10.false (omega (arith, inside, length-map fields field_view, length-map fields column_of))
    (ap (λ (xs : List ℕ). get_or xs k 0) (sym columns) ∙ of)) found.0)
    refl c.unwrap_or.ensures
