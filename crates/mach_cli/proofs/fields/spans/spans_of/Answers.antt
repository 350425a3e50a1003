use Rattle.std.proofs.Common.{◌∙◌, ◌<◌, map, arith, sym}
use Rattle.std.proofs.lemmas.List.{get_or-map, length-map}
use Rattle.mach_cli.specs.Fields.{column_of}
use Rattle.mach_cli.proofs.Columns.{spanned_more}
use Rattle.mach_cli.proofs.fields.spans.spans_of.Goals as goal

pub fields-preserved : goal.fields-preserved
fields-preserved c =
    let column = get_or-map column_of c.args.fields.now c.fields.index _ 0 c.fields-test.true in
    spanned_more (map column_of c.args.fields.now) c.fields.starts c.fields.ends c.fields.index c.slot_of-slot.result c.start_with.result
    c.fields.invariant c.slot_of-slot.ensures.within
    (λ few. c.slot_of-slot.ensures.column (omega (arith, few, column)) ∙ sym column) c.start_with.ensures

pub returns : goal.returns
returns c =
    record {
      lies = λ column index few inside is.
          let here : index < c.fields.index = omega (arith, inside, length-map c.args.fields.now column_of, c.fields-test.false, c.fields.auto.index-end) in
          c.fields.invariant.lies column index few here is;
    }
