use Rattle.std.proofs.Common.{[], ◌++◌, ◌+◌, sym, ap, ◌∙◌, option_map}
use Rattle.mach_layout.specs.Laid.{laid_of, segments_of}
use Rattle.mach_layout.specs.NamesMet.{place_met, seen_name}
use Rattle.mach_layout.specs.Segments.{named_among, names_again}
use Rattle.mach_layout.proofs.Names.{before, from_on, place_of, named_next, unnamed_next}
use Rattle.mach_layout.proofs.segments.name_faults.Goals as goal

pub loop-command-preserved-in_default : goal.loop-command-preserved-in_default
loop-command-preserved-in_default g c =
    let cs = c.args.layout.now.commands.now in
    let i = c.loop-command.command-index in
    let next = unnamed_next cs i _ c.loop-command-test.true (sym (ap (λ o. option_map seen_name o) c.in_default.is) ∙ c.named_segment.ensures) in
    record {
      met = λ q. c.loop-command.invariant.met q ∙ ap (λ segments. place_of (named_among q segments)) (sym next.0);
      reported = c.loop-command.invariant.reported ∙ ap (λ segments. c.loop-command.faults.items ++ names_again segments (from_on cs i)) (sym next.0)
          ∙ ap (λ segments. c.loop-command.faults.items ++ names_again (before cs (i + 1)) segments) next.1;
    }

pub loop-command-preserved : goal.loop-command-preserved
loop-command-preserved g c =
    let cs = c.args.layout.now.commands.now in
    let next = named_next cs c.loop-command.command-index _ c.loop-command-test.true (place_met c.loop-command.met) (place_met c.add_name.new.met)
    (c.args.faults.now.items ++ names_again [] (segments_of (laid_of c.args.layout.now))) c.loop-command.faults.items c.add_name.new.faults.items
    c.in-Some.name.now c.in-Some.place (sym (ap (λ o. option_map seen_name o) c.in-Some.is) ∙ c.named_segment.ensures)
    c.loop-command.invariant.met c.in_ok-add_name.ensures.met c.loop-command.invariant.reported c.in_ok-add_name.ensures.reported in
    record { met = next.0; reported = next.1 }
