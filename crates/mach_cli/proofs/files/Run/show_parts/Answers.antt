use Rattle.std.proofs.Common.{◌∙◌, List, sym, ap, subst}
use Rattle.goblin_mach.specs.Items.{ItemView}
use Rattle.goblin_mach.specs.ItemsLeft.{input_item_read}
use Rattle.mach_cli.specs.InOrder.{InOrder}
use Rattle.mach_cli.specs.Selected.{within_left}
use Rattle.mach_cli.specs.ShownCalls.{manner_in, ShowsPart}
use Rattle.mach_cli.proofs.Orders.{Completes, at_first, at_last, one_more}
use Rattle.mach_cli.proofs.files.Run.show_parts.Goals as goal

pub parts-init : goal.parts-init
parts-init g c =
    let m = manner_in g.S.FileView.shows c.args.self.now in
    let P = ShowsPart m c.args.file.now c.args.bytes.now in
    let same = ap within_left c.into_iter-part-iterator.ensures.into_iter_gives in
    λ end status rest. at_first P (within_left c.args.parts) c.args.out.now end status
    (subst (λ (xs : List ItemView). InOrder P xs c.args.out.now end status) same rest)

pub parts-preserved : goal.parts-preserved
parts-preserved g c =
    let m = manner_in g.S.FileView.shows c.args.self.now in
    let P = ShowsPart m c.args.file.now c.args.bytes.now in
    let all = within_left c.args.parts in
    let rest = within_left c.next.new.self in
    let there = c.show_part.new.out in
    subst (Completes P all c.args.out.now rest there) (sym c.worse-worst.ensures)
    (one_more P all c.args.out.now c.parts.out there (within_left c.parts.part-iterator) (input_item_read c.in-Some.part) rest c.parts.worst
    c.in_ok-status.status c.in-Some.ensures.steps c.parts.invariant c.in_ok-status.ensures.shown)

pub returns-clause-shown : goal.returns-clause-shown
returns-clause-shown g c =
    let m = manner_in g.S.FileView.shows c.args.self.now in
    at_last (ShowsPart m c.args.file.now c.args.bytes.now) (within_left c.args.parts) c.args.out.now c.parts.out
    (within_left c.parts.part-iterator) c.parts.worst
    c.in-None.ensures.steps.0 c.parts.invariant
