-- The faults of the layout of an image: those of each rule, in order.
use Rattle.std.specs.Prelude.{◌≡◌, ◌++◌, List, []}
use Rattle.mach_layout.specs.Commands.{command_faults, text_faults}
use Rattle.mach_layout.specs.DataInCode.{data_faults}
use Rattle.mach_layout.specs.Entry.{entry_faults}
use Rattle.mach_layout.specs.Fixups.{fixup_faults}
use Rattle.mach_layout.specs.Header.{segment_order_faults}
use Rattle.mach_layout.specs.Laid.{Laid}
use Rattle.mach_layout.specs.Ranges.{out_of_file_faults, memory_ranges, file_ranges, section_ranges, lone_claims, claim_faults}
use Rattle.mach_layout.specs.Sections.{section_faults}
use Rattle.mach_layout.specs.Segments.{segment_faults, encrypted_faults}
use Rattle.mach_layout.specs.Sweep.{AreShared}
use Rattle.mach_layout.specs.Symbols.{symbol_faults}
use Rattle.mach_layout.specs.declared.fault.LayoutFault.{LayoutFault}
use Rattle.mach_layout.specs.declared.fault.Rule.TheVariants as rule

-- `new` is `old` followed by the faults of the commands, of ranges outside the file, and of the segments
pub record AddsSegments (laid : Laid) (old new : List LayoutFault) : Type 0 where
  pub memory : List LayoutFault
  pub files : List LayoutFault
  pub memory_shared : AreShared rule.SegmentsShareMemory (memory_ranges laid) memory
  pub files_shared : AreShared rule.SegmentsShareFile (file_ranges laid) files
  pub joined : new
      ≡ old ++ command_faults laid ++ out_of_file_faults laid ++ segment_faults laid ++ memory ++ files ++ segment_order_faults laid

-- `new` is `old` followed by the faults of the sections, of the claims, and of `__LINKEDIT` and encrypted ranges
pub record AddsSections (laid : Laid) (old new : List LayoutFault) : Type 0 where
  pub sections : List LayoutFault
  pub claims : List LayoutFault
  pub sections_shared : AreShared rule.SectionsShareMemory (section_ranges laid) sections
  pub claims_shared : AreShared rule.ClaimsShare (lone_claims laid) claims
  pub joined : new
      ≡ old ++ section_faults laid ++ sections ++ claims ++ claim_faults laid ++ encrypted_faults laid

-- `new` is `old` followed by the faults of the symbols, of the entry, of texts, of the image's lists (these), of fixups, and
-- of data in code
pub record AddsSymbols (laid : Laid) (AreOfLists : List LayoutFault → Type 0) (old new : List LayoutFault) : Type 0 where
  pub of_lists : List LayoutFault
  pub are_of_lists : AreOfLists of_lists
  pub joined : new ≡ old ++ symbol_faults laid ++ entry_faults laid ++ text_faults laid ++ of_lists ++ fixup_faults laid ++ data_faults laid

-- the faults of the layout of an image, if these are those of its lists
pub record AreLayoutFaults (laid : Laid) (AreOfLists : List LayoutFault → Type 0) (list : List LayoutFault) : Type 0 where
  pub of_segments : List LayoutFault
  pub of_sections : List LayoutFault
  pub segments : AddsSegments laid [] of_segments
  pub sections : AddsSections laid of_segments of_sections
  pub symbols : AddsSymbols laid AreOfLists of_sections list
