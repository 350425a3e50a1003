use Rattle.mach_cli.specs.Selected.{within_left}
use Rattle.mach_cli.specs.Shown.{Prints, way_in}
use Rattle.mach_cli.proofs.Showing.{Follows}
use Rattle.mach_cli.proofs.document.Document.show_items.Given as goal

abbrev pub invariant-items : goal.invariant-items
invariant-items g l =
    let d = l.self in
    Prints (Follows (way_in g.K.Sink.texts g.V.ImageView.lines d) l.bytes d.limit (within_left l.fn.items) l.is_first l.left (within_left l.item-iterator))
    (record { whole = l.whole; left = l.left })
    (g.O.Write.contents l.fn.out) (g.O.Write.contents l.out) (g.E.Write.contents l.fn.err) (g.E.Write.contents l.err)
