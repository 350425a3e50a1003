use Rattle.std.proofs.Common.{Option, Some, ap, refl, sym}
use Rattle.std.specs.Prelude.{option_map}
use Rattle.mach_base.proofs.Written.{Appends-both}
use Rattle.mach_cli.specs.Labels.{label_view}
use Rattle.mach_cli.specs.Refusals.{label_complaint, refusal_reason}
use Rattle.mach_cli.specs.Shown.{after_report, way_in}
use Rattle.mach_cli.specs.declared.refusal.Refusal.{Refusal}
use Rattle.mach_cli.proofs.Showing.{prints_as}
use Rattle.mach_cli.proofs.document.Document.show_opened.Goals as goal

pub returns-in_default : goal.returns-in_default
returns-in_default g c = λ bytes opened.
    let w = way_in g.K.Sink.texts g.V.ImageView.lines c.args.self.now in
    let label = label_view c.args.label in
    prints_as c.show_image.result _ _ _ _ _ _
    (λ shown shows. (shown, shows, ap (λ (r : Option Refusal). after_report w label (option_map refusal_reason r) shown) (sym c.in_default.is)))
    (c.show_image.ensures bytes opened)

pub returns : goal.returns
returns g c = λ bytes opened.
    let w = way_in g.K.Sink.texts g.V.ImageView.lines c.args.self.now in
    let label = label_view c.args.label in
    let words = refusal_reason c.in-Some.refusal in
    let one = c.in_ok-outcome.ensures bytes opened in
    record {
      shown = after_report w label (Some words) one.shown;
      shows = (
        one.shown,
        one.shows,
        ap (λ (r : Option Refusal). after_report w label (option_map refusal_reason r) one.shown) (sym c.in-Some.is),
      );
      whole = refl;
      left = one.left;
      text = one.text;
      message = Appends-both _ _ _ (label_complaint w.names label words) one.shown.message c.in_ok-complain.ensures one.message;
    }
