-- What lists are read from, by the facts about an image.
use Rattle.std.proofs.Common.{◌≡◌, ℕ, List, Option, Result}
use Rattle.std.specs.declared.alloc.Global.{Global}
use Rattle.mach_base.specs.Context.{pointer_size}
use Rattle.mach_base.specs.Fault.{Fault}
use Rattle.mach_chained.specs.Header.{Fixups}
use Rattle.mach_parts.specs.Segment.{SegmentView}
use Rattle.mach_parts.specs.declared.segment.numbered.NumberedSection.{NumberedSection}
use Rattle.goblin_mach.proofs.ImageFacts.{facts_are}
use Rattle.goblin_mach.specs.Fixups.{chained_in, chained_place_in}
use Rattle.goblin_mach.specs.ImageFacts.{Facts}
use Rattle.goblin_mach.specs.ImageStreams.{rebase_stream_in, weak_stream_in}
use Rattle.goblin_mach.specs.OpenImage.{IsLossyImage, segments_view}
use Rattle.goblin_mach.specs.declared.macho.MachO.{MachO}
use Rattle.goblin_mach_c.specs.BindingPlaces.{data_place}
use Rattle.goblin_mach_c.specs.BindingsAfter.{BindingSource}
use Rattle.goblin_mach_c.specs.ImportsAfter.{Binds}
use Rattle.goblin_mach_c.specs.RebasesAfter.{RebaseSource}
use Rattle.goblin_mach_c.specs.SectionFinds.{FindsSection, found_section_row}
use Rattle.goblin_mach_c.specs.WeakBindsAfter.{WeakSource}
use Rattle.goblin_mach_c.specs.declared.section_finds.gm_found_section.{gm_found_section}

abbrev pub binds_by : Facts → Binds
binds_by f = record { ranges = f.binds; pointer = pointer_size f.ctx.container; libs = f.libs; segments = f.segments }

abbrev pub chains_by : Facts → Result (Option Fixups) Fault
chains_by f = chained_in f.ctx f.bytes f.commands

abbrev pub source_by : Facts → BindingSource
source_by f = record { bytes = f.bytes; binds = binds_by f; chained = chains_by f; chains_at = data_place (chained_place_in f.commands) }

abbrev pub weak_source_by : Facts → WeakSource
weak_source_by f = record { bytes = f.bytes; stream = weak_stream_in f.bytes f.commands; pointer = pointer_size f.ctx.container; segments = f.segments }

abbrev pub rebase_source_by : Facts → RebaseSource
rebase_source_by f = record {
  stream = rebase_stream_in f.bytes f.commands;
  chained = chains_by f;
  le = f.ctx.le;
  pointer = pointer_size f.ctx.container;
  segments = f.segments;
}

-- the row of a section that was found in an opened image
pub finds_section : (bytes : List ℕ) (o : ℕ) (m : MachO Global) → IsLossyImage bytes o m → (Finds : List SegmentView → Option NumberedSection → Type 0)
    → (found : Option NumberedSection) (row : gm_found_section) → Finds (segments_view m) found → row ≡ found_section_row (segments_view m) found
    → FindsSection bytes o Finds row
finds_section bytes o m opened Finds found row finds is =
    (facts_are bytes o m opened (λ f. (x : Option NumberedSection) × Finds f.segments x × (row ≡ found_section_row f.segments x))).1 (found, finds, is)
