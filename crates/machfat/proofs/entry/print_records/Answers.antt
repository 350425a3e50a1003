use Rattle.std.proofs.Common.{◌++◌, ◌∙◌, ◌+◌, [], drop, get_or, refl, sym, ap, subst}
use Rattle.std.proofs.lemmas.List.{append-nil, append_assoc, at_drop_more, drop_all}
use Rattle.std.specs.Io.KnownBytes.{Appends}
use Rattle.machfat.specs.Lines.{record_as, records_from}
use Rattle.mach_base.proofs.Written.{Appends-none, Appends-both}
use Rattle.machfat.proofs.entry.print_records.Goals as goal

pub records-init : goal.records-init
records-init g c = ([], Appends-none (g.O.Write.contents c.args.out.now), refl)

pub records-preserved : goal.records-preserved
records-preserved g c =
    let before = c.records.invariant in
    let form = c.args.form in
    let bytes = c.args.bytes.now in
    let records = c.args.records.now in
    let i = c.records.index in
    let line = record_as form bytes i (get_or records i _) in (
      before.0 ++ line,
      Appends-both _ _ _ before.0 line before.1 c.in_ok-print_record.ensures,
      append_assoc before.0 line (records_from form bytes (i + 1) (drop (i + 1) records))
          ∙ ap (λ rest. before.0 ++ rest) (sym (at_drop_more (λ left. records_from form bytes i left) records i _ c.records-test.true))
          ∙ before.2,
    )

pub returns : goal.returns
returns g c =
    let done = c.records.invariant in
    let none = drop_all c.records.index c.args.records.now c.records-test.false in
    subst (λ text. Appends (g.O.Write.contents c.args.out.now) (g.O.Write.contents c.records.out) text)
    (sym (append-nil done.0) ∙ ap (λ left. done.0 ++ records_from c.args.form c.args.bytes.now c.records.index left) (sym none) ∙ done.2)
    done.1
