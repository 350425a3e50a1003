use Rattle.std.proofs.Common.{◌∙◌, ℕ, List, Bool, not, sym, ap, subst}
use Rattle.std.specs.Prelude.{true, codes, ◌==◌, ◌&&◌}
use Rattle.std.specs.Io.KnownBytes.{Appends}
use Rattle.mach_base.proofs.Written.{Appends-both}
use Rattle.goblin_mach.specs.Items.{ItemView}
use Rattle.goblin_mach.specs.ItemsLeft.{input_items_left}
use Rattle.mach_cli.specs.Bounds.{most_images}
use Rattle.mach_cli.specs.Cpus.{no_entry_words}
use Rattle.mach_cli.specs.PartsOf.{items_before}
use Rattle.mach_cli.specs.Selected.{omitted_of, parts_within}
use Rattle.mach_cli.specs.Shown.{ShowsFile, ShowsItems, archs_items, fat_file, fat_of, no_entry, omitted_lines, refused_for, way_in}
use Rattle.mach_cli.specs.TableEntries.{archs_left_out, archs_shown}
use Rattle.mach_cli.specs.declared.omitted.Omitted.{Omitted}
use Rattle.mach_cli.proofs.Showing.{prints_one, three}
use Rattle.mach_cli.proofs.document.Document.show_fat.Goals as goal

pub returns-then-misses : goal.returns-then-misses
returns-then-misses g c = λ table has items.
    let d = c.args.self.now in
    let w = way_in g.K.Sink.texts g.V.ImageView.lines d in
    prints_one c.refuse.result _ _ _ _ (ShowsFile w d.cpu d.limit c.args.bytes.now) (refused_for w (no_entry_words d.cpu) d.limit)
    (no_entry table c.args.records.now has (sym c.misses.ensures ∙ c.if-misses.true)) c.refuse.ensures

pub returns : goal.returns
returns g c = λ table has items.
    let d = c.args.self.now in
    let w = way_in g.K.Sink.texts g.V.ImageView.lines d in
    let k = w.texts in
    let bytes = c.args.bytes.now in
    let archs = c.args.records.now in
    let some = c.in_ok-outcome.ensures in
    let o = c.of-omitted.result in
    let n = c.archs_left_out-left_out.result in
    let parts = c.within-parts.ensures ∙ ap (λ most. items_before most (input_items_left c.args.images)) c.archs_shown.ensures
    ∙ ap (items_before (archs_shown bytes archs)) items
    in
    let is = c.of-omitted.ensures ∙ ap (λ (xs : List ItemView). omitted_of d.limit d.cpu xs n) parts
    ∙ ap (omitted_of d.limit d.cpu (archs_items bytes archs)) c.archs_left_out-left_out.ensures
    in
    let fat = fat_file table archs some.shown has (sym c.misses.ensures ∙ c.if-misses.false)
    (subst (λ (xs : List ItemView). ShowsItems w bytes true d.limit xs some.shown)
    (c.of-items.ensures ∙ ap (parts_within (most_images d.limit) d.cpu) parts) some.shows)
    in
    record {
      shown = fat_of w o some.shown;
      shows = subst (λ (omitted : Omitted). ShowsFile w d.cpu d.limit bytes (fat_of w omitted some.shown)) (sym is) fat;
      whole = ap (λ first. first && (not o.is_cut && (o.left_out == 0))) some.whole
          ∙ ap (λ second. c.in_ok-outcome.outcome.whole && second) (sym c.is_nothing.ensures);
      left = some.left;
      text = three _ _ _ _ (k.file_front o.left_out) some.shown.text (k.file_end o.is_cut (codes "fat file") w.file)
          (subst (λ (count : ℕ). Appends (g.O.Write.contents c.args.out.now) (g.O.Write.contents c.begin_file.new.out) (k.file_front count))
          (sym (ap (λ (omitted : Omitted). omitted.left_out) c.of-omitted.ensures))
          c.in_ok-begin_file.ensures) some.text c.in_ok-end_file.ensures;
      message = Appends-both _ _ _ some.shown.message (omitted_lines w.names o) some.message c.in_ok-report.ensures;
    }
