use Rattle.std.proofs.Common.{List, subst}
use Rattle.goblin_mach.specs.ImageFacts.{facts_view}
use Rattle.goblin_mach.specs.ListFaults.{AreListFaults}
use Rattle.mach_layout.specs.Faults.{AreLayoutFaults, AddsSegments}
use Rattle.mach_layout.specs.Laid.{Laid, laid_of}
use Rattle.mach_layout.specs.declared.fault.LayoutFault.{LayoutFault}
use Rattle.goblin_mach.proofs.layout.faults.layout_faults.Goals as goal

pub returns-clause-listed : goal.returns-clause-listed
returns-clause-listed g c =
    let laid = laid_of c.layout_of-layout.result in
    subst (λ (here : Laid). AreLayoutFaults here (AreListFaults (facts_view c.args.image.now)) c.add_all_symbols.new.faults.items) c.layout_of-layout.ensures
    (record {
      of_segments = c.add_segments.new.faults.items;
      of_sections = c.add_sections.new.faults.items;
      segments =
          subst (λ (old : List LayoutFault). AddsSegments laid old c.add_segments.new.faults.items) c.new-faults.ensures.items
          c.in_ok-add_segments.ensures.reported;
      sections = c.in_ok-add_sections.ensures.reported;
      symbols = c.in_ok-add_all_symbols.ensures.reported;
    })
