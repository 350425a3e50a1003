use Rattle.std.proofs.Common.{◌∙◌, false, true, sym}
use Rattle.std.specs.Prelude.{codes}
use Rattle.mach_base.proofs.Written.{Appends-both}
use Rattle.mach_cli.specs.Cpus.{other_words}
use Rattle.mach_cli.specs.Labels.{unlabelled}
use Rattle.mach_cli.specs.Shown.{ShowsFile, item_front, one_image, other_image, refused_for, way_in, whole_of}
use Rattle.mach_cli.proofs.Showing.{prints_one, taken_of, three}
use Rattle.mach_cli.proofs.document.Document.show_one.Goals as goal

pub returns-then-not-takes : goal.returns-then-not-takes
returns-then-not-takes g c = λ bytes opened after.
    let d = c.args.self.now in
    let w = way_in g.K.Sink.texts g.V.ImageView.lines d in
    prints_one c.refuse.result _ _ _ _ (ShowsFile w d.cpu d.limit bytes) (refused_for w (other_words d.cpu) d.limit)
    (other_image (taken_of d.cpu bytes _ false opened (sym c.takes.ensures ∙ c.if-not-takes.true))) c.refuse.ensures

pub returns : goal.returns
returns g c = λ bytes opened after.
    let d = c.args.self.now in
    let w = way_in g.K.Sink.texts g.V.ImageView.lines d in
    let k = w.texts in
    let one = c.in_ok-outcome.ensures bytes opened in
    record {
      shown = whole_of w one.shown;
      shows = one_image _ one.shown (taken_of d.cpu bytes _ true opened (sym c.takes.ensures ∙ c.if-not-takes.false)) after one.shows;
      whole = one.whole;
      left = one.left;
      text = Appends-both _ _ _ (k.file_front 0) _ c.in_ok-begin_file.ensures
          (three _ _ _ _ (item_front k w.file true unlabelled) one.shown.text (k.file_end false (codes "image") w.file) c.in_ok-begin.ensures one.text
          c.in_ok-end_file.ensures);
      message = one.message;
    }
