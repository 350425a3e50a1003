use Rattle.std.proofs.Common.{◌≡◌, Bool, refl, ap, ◌∙◌}
use Rattle.std.specs.Prelude.{◌&&◌, ◌==◌}
use Rattle.mach_base.proofs.Written.{Appends-both}
use Rattle.goblin_mach.proofs.ImageFacts.{facts_are}
use Rattle.goblin_mach.specs.ImageFacts.{Facts, facts_view}
use Rattle.goblin_mach.specs.ImageSlots.{symbol_table_view}
use Rattle.goblin_mach.specs.OpenImage.{bytes_view, commands_view}
use Rattle.mach_signature.proofs.SignedFacts.{directory_is}
use Rattle.mach_signature.specs.SignedImages.{image_directory}
use Rattle.machinfo.specs.Signed.{is_readable}
use Rattle.mach_audit.specs.States.{state_of_commands}
use Rattle.mach_audit.specs.declared.state.State.{State}
use Rattle.machinfo.proofs.views.print_summary.Goals as goal

pub returns : goal.returns
returns g c = λ bytes opened.
    let m = c.args.image.now in
    let there = image_directory (bytes_view m) (commands_view m) in
    let front = c.in_ok-front.ensures in
    let parts = c.in_ok-parts.ensures bytes opened in
    let used = c.in_ok-used.ensures in
    let signed = c.in_ok-signed.ensures in
    let state : c.state_of-state.result ≡ state_of_commands (commands_view m) (symbol_table_view m) = c.state_of-state.ensures in
    let counted = c.in_ok-counts.ensures bytes opened in
    let first = (c.in_ok-front.front && c.in_ok-parts.parts) && c.in_ok-used.used in
    let whole = λ (s : Bool) (n : State). ((first && s) && (n.past == 0)) && c.in_ok-counts.counts in (
      _,
      record {
        opens = (opened.ctx, commands_view m, opened.opens);
        facts = facts_view m;
        has_facts = (facts_are bytes 0 m opened (λ (f : Facts). facts_view m ≡ f)).1 refl;
        front = front.0;
        front_whole = c.in_ok-front.front;
        are_front = front.1;
        parts = parts.0;
        parts_whole = c.in_ok-parts.parts;
        are_parts = parts.1;
        used = used.0;
        used_whole = c.in_ok-used.used;
        are_used = used.1;
        there = there;
        has_directory = ((directory_is m).lossy bytes 0 opened there).1 refl;
        signed = signed.1.text;
        are_signed = signed.1.lines;
        counts = counted.0;
        counts_whole = c.in_ok-counts.counts;
        are_counts = counted.1;
        is_text = refl;
        is_whole = ap (λ (s : Bool). whole s c.state_of-state.result) signed.0 ∙ ap (λ (n : State). whole (is_readable there) n) state;
        is_rest = refl;
      },
      Appends-both _ _ _ front.0 _ front.2
          (Appends-both _ _ _ parts.0 _ parts.2
          (Appends-both _ _ _ used.0 _ used.2
          (Appends-both _ _ _ signed.1.text _ signed.1.written
          (Appends-both _ _ _ _ counted.0 (rw state at c.in_ok-print_state.ensures) counted.2)))),
    )
