use Rattle.std.proofs.Common.{◌∙◌, [], ℕ, List, refl, sym, ap, subst}
use Rattle.std.proofs.Math.Bool.{and-true}
use Rattle.std.specs.Prelude.{true, false, ◌&&◌}
use Rattle.std.specs.Io.KnownBytes.{Appends}
use Rattle.mach_base.proofs.Written.{Appends-none, Appends-both}
use Rattle.mach_parts.specs.ArchForms.{arch_form_32}
use Rattle.goblin_mach.specs.Items.{ItemView}
use Rattle.goblin_mach.specs.ItemsLeft.{input_item_read}
use Rattle.mach_cli.specs.Labels.{LabelView, label_of}
use Rattle.mach_cli.specs.Selected.{within_left}
use Rattle.mach_cli.specs.Shown.{ShowsItem, ShowsItems, after, both, item_front, nothing, way_in}
use Rattle.mach_cli.specs.TableEntries.{outside_at}
use Rattle.mach_cli.proofs.Showing.{Follows, item_shown, items_shown}
use Rattle.mach_cli.proofs.document.Document.show_items.Goals as goal

pub items-init : goal.items-init
items-init g c =
    let d = c.args.self.now in
    let w = way_in g.K.Sink.texts g.V.ImageView.lines d in
    let same = ap within_left c.into_iter-item-iterator.ensures.into_iter_gives in
    record {
      shown = nothing d.limit;
      shows = λ later more. subst (λ (xs : List ItemView). ShowsItems w c.args.bytes.now true d.limit xs later) same more;
      whole = refl;
      left = refl;
      text = Appends-none _;
      message = Appends-none _;
    }

pub items-preserved : goal.items-preserved
items-preserved g c =
    let d = c.args.self.now in
    let w = way_in g.K.Sink.texts g.V.ImageView.lines d in
    let bytes = c.args.bytes.now in
    let all = within_left c.args.items in
    let rest = within_left c.next.new.self in
    let first = c.items.is_first in
    let before = c.items.invariant in
    let one = c.in_ok-outcome.ensures in
    let x = input_item_read c.in-Some.item in
    let front = item_front w.texts w.file first (label_of x.place x.content) in
    let last = after front one.shown in
    let shows = subst (λ (label : LabelView). ShowsItem w c.items.left label (outside_at arch_form_32 bytes x.place.entry) x.content one.shown)
    c.of-label.ensures one.shows
    in
    let begun = subst
    (λ (label : LabelView). Appends (g.O.Write.contents c.items.out) (g.O.Write.contents c.begin.new.out) (item_front w.texts w.file first label))
    c.of-label.ensures c.in_ok-begin.ensures
    in
    let follows = item_shown w bytes d.limit all first c.items.left (within_left c.items.item-iterator) x rest before.shown one.shown
    c.in-Some.ensures.steps before.shows shows
    in
    record {
      shown = both before.shown last;
      shows = subst (λ (left : ℕ). Follows w bytes d.limit all false left rest (both before.shown last)) one.left follows;
      whole = ap (λ start. start && one.shown.whole) before.whole ∙ ap (λ second. c.items.whole && second) one.whole;
      left = one.left;
      text = Appends-both _ _ _ before.shown.text last.text before.text (Appends-both _ _ _ front one.shown.text begun one.text);
      message = Appends-both _ _ _ before.shown.message one.shown.message before.message one.message;
    }

pub returns : goal.returns
returns g c =
    let d = c.args.self.now in
    let w = way_in g.K.Sink.texts g.V.ImageView.lines d in
    let before = c.items.invariant in
    record {
      shown = both before.shown (nothing c.items.left);
      shows = items_shown w c.args.bytes.now d.limit (within_left c.args.items) c.items.is_first c.items.left (within_left c.items.item-iterator)
          before.shown c.in-None.ensures.steps.0 before.shows;
      whole = and-true before.shown.whole ∙ before.whole;
      left = refl;
      text = Appends-both _ _ _ before.shown.text [] before.text (Appends-none _);
      message = Appends-both _ _ _ before.shown.message [] before.message (Appends-none _);
    }
