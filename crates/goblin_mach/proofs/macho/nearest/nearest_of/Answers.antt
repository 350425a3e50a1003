use Rattle.std.proofs.Common.{◌∙◌, ap, refl, sym}
use Rattle.mach_base.specs.Items.{read_as}
use Rattle.mach_base.specs.KeptText.{kept_bytes}
use Rattle.mach_base.proofs.ItemLists.{read_as-Reads}
use Rattle.mach_parts.specs.SymbolViews.{table_of}
use Rattle.goblin_mach.proofs.NearestItems.{distance_is, not_below}
use Rattle.goblin_mach.proofs.NearestRecords.{name_of, no_name, no_record, so_far-err, so_far-farther, so_far-nearer, so_far-other, with_name}
use Rattle.goblin_mach.proofs.macho.nearest.nearest_of.Goals as goal

pub symbols-preserved-in_default : goal.symbols-preserved-in_default
symbols-preserved-in_default c =
    let p = c.symbols.invariant in
    let t = table_of c.args.table.now in
    let record_is = sym (read_as-Reads _ c.record.result _ c.record.ensures) ∙ ap (read_as (λ s. s)) c.in_default.is in record {
      so_far = so_far-err c.args.is_named t c.args.section c.args.address c.symbols.index c.symbols.best _ p.so_far
          (no_record c.args.is_named t c.symbols.index _ record_is);
      same_bytes = p.same_bytes;
    }

pub symbols-preserved-in_default-distance_above : goal.symbols-preserved-in_default-distance_above
symbols-preserved-in_default-distance_above c =
    let p = c.symbols.invariant in
    let t = table_of c.args.table.now in
    let record_is = sym (read_as-Reads _ c.record.result _ c.record.ensures) ∙ ap (read_as (λ s. s)) c.in-Ok.is in record {
      so_far = so_far-other c.args.is_named t c.args.section c.args.address c.symbols.index c.symbols.best c.in-Ok.symbol p.so_far record_is
          (not_below c.args.section c.args.address c.in-Ok.symbol c.distance_above.result c.distance_above.ensures c.in_default-distance_above.is);
      same_bytes = p.same_bytes;
    }

pub symbols-preserved-then-is_nearer : goal.symbols-preserved-then-is_nearer
symbols-preserved-then-is_nearer c =
    let p = c.symbols.invariant in
    let t = table_of c.args.table.now in
    let record_is = sym (read_as-Reads _ c.record.result _ c.record.ensures) ∙ ap (read_as (λ s. s)) c.in-Ok.is in
    let d = distance_is c.args.section c.args.address c.in-Ok.symbol c.distance_above.result c.in-Some.distance c.distance_above.ensures c.in-Some.is in
    record {
      so_far = so_far-farther c.args.is_named t c.args.section c.args.address c.symbols.index c.symbols.best c.in-Ok.symbol
          c.in-Some.distance p.so_far record_is
          d.1 (sym c.is_nearer.ensures ∙ c.if-is_nearer.true);
      same_bytes = p.same_bytes;
    }

pub symbols-preserved-in_default-name_if : goal.symbols-preserved-in_default-name_if
symbols-preserved-in_default-name_if c =
    let p = c.symbols.invariant in
    let t = table_of c.args.table.now in
    let s = c.in-Ok.symbol in
    let record_is = sym (read_as-Reads _ c.record.result _ c.record.ensures) ∙ ap (read_as (λ s. s)) c.in-Ok.is in
    let read = sym (read_as-Reads _ c.name_if.result _ c.name_if.ensures.name) ∙ ap (read_as (λ name. name.now)) c.in_default-name_if.is in
    let name_is = name_of c.args.is_named t s (kept_bytes c.symbols.names) c.name_place.result _ p.same_bytes c.name_place.ensures read in record {
      so_far = so_far-err c.args.is_named t c.args.section c.args.address c.symbols.index c.symbols.best _ p.so_far
          (no_name c.args.is_named t c.symbols.index s _ record_is name_is);
      same_bytes = c.name_if.ensures.bytes ∙ p.same_bytes;
    }

pub symbols-preserved : goal.symbols-preserved
symbols-preserved c =
    let p = c.symbols.invariant in
    let t = table_of c.args.table.now in
    let s = c.in-Ok.symbol in
    let record_is = sym (read_as-Reads _ c.record.result _ c.record.ensures) ∙ ap (read_as (λ s. s)) c.in-Ok.is in
    let read = sym (read_as-Reads _ c.name_if.result _ c.name_if.ensures.name) ∙ ap (read_as (λ name. name.now)) c.in-Ok-name_if.is in
    let name_is = name_of c.args.is_named t s (kept_bytes c.symbols.names) c.name_place.result _ p.same_bytes c.name_place.ensures read in
    let d = distance_is c.args.section c.args.address s c.distance_above.result c.in-Some.distance c.distance_above.ensures c.in-Some.is in record {
      so_far = so_far-nearer c.args.is_named t c.args.section c.args.address c.symbols.index c.symbols.best
          (record { index = c.symbols.index; name = c.in-Ok-name_if.name; symbol = s; distance = c.in-Some.distance })
          p.so_far (with_name c.args.is_named t c.symbols.index s c.in-Ok-name_if.name.now record_is name_is) d.0 refl d.1
          (sym c.is_nearer.ensures ∙ c.if-is_nearer.false);
      same_bytes = c.name_if.ensures.bytes ∙ p.same_bytes;
    }
