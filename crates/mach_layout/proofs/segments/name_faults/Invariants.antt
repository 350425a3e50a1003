use Rattle.std.proofs.Common.{◌≡◌, ℕ, List, [], ◌++◌, map}
use Rattle.std.specs.List.{filter_map}
use Rattle.mach_load.specs.Variants.{command_of}
use Rattle.mach_layout.specs.Laid.{placed_segment_of}
use Rattle.mach_layout.specs.NamesMet.{place_met}
use Rattle.mach_layout.specs.Segments.{named_among, names_again}
use Rattle.mach_layout.proofs.Names.{place_of, before, from_on}
use Rattle.mach_layout.proofs.segments.name_faults.Given as goal

abbrev pub invariant-loop-command : goal.invariant-loop-command
invariant-loop-command g l =
    record {
      met : (q : List ℕ) → place_met l.met q ≡ place_of (named_among q (before l.commands l.command-index));
      reported : l.initial.faults.items ++ names_again [] (filter_map placed_segment_of (map command_of l.commands))
          ≡ l.faults.items ++ names_again (before l.commands l.command-index) (from_on l.commands l.command-index);
    }
