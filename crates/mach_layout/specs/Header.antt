-- Rules of an image as a whole. Their faults belong to its header.
use Rattle.std.specs.Prelude.{◌||◌, ◌^◌, ◌-◌, not, min, nat_le, List, [], ◌∷◌}
use Rattle.std.specs.List.{list_any}
use Rattle.mach_parts.specs.declared.header.Header.{Header}
use Rattle.mach_layout.specs.Laid.{Laid, file_size, declared_end, commands_end, used_end, is_final, is_judged}
use Rattle.mach_layout.specs.Libraries.{is_library_file, says_id}
use Rattle.mach_layout.specs.Rules.{measured, sound, owner_at, reported_over}
use Rattle.mach_layout.specs.Segments.{has_segment_of_header}
use Rattle.mach_layout.specs.declared.fault.LayoutFault.{LayoutFault}
use Rattle.mach_layout.specs.declared.fault.Owner.{Owner}
use Rattle.mach_layout.specs.declared.fault.Part.TheVariants as part
use Rattle.mach_layout.specs.declared.fault.Rule.{Rule}
use Rattle.mach_layout.specs.declared.fault.Rule.TheVariants as rule
use Rattle.mach_layout.specs.declared.rules.RuleOutcome.{RuleOutcome}

-- the header as the owner of a fault
abbrev pub header_owner : Owner
header_owner = owner_at part.Header 0 0

-- what each of these rules sees
abbrev pub header_sees : Laid → Rule → Header → RuleOutcome
-- rules are defined for the kind of the file
header_sees laid rule.FileKind h = measured (is_judged laid) laid.header.filetype 0
-- the commands lie in the file, by the header
header_sees laid rule.CommandsOutOfFile h = measured (nat_le (declared_end laid) (file_size laid)) (declared_end laid) (file_size laid)
-- and fill that space
header_sees laid rule.CommandsEndEarly h =
    measured (nat_le (declared_end laid) (commands_end laid)) (min (commands_end laid) (2 ^ 64 - 1)) (declared_end laid)
-- Some segment begins at the first byte of the file and holds the header and the commands (dyld, the kernel).
header_sees laid rule.NoSegmentOfHeader h = measured (not (is_final laid) || has_segment_of_header laid) 0 (used_end laid)
-- a library states its name
header_sees laid rule.IdMissing h = measured (not (is_library_file laid) || list_any says_id laid.commands) laid.header.filetype 0
header_sees laid _ h = sound

-- the faults that some of these rules find
abbrev pub header_reported : Laid → List Rule → List LayoutFault
header_reported laid rules = reported_over rules (λ rule h. header_owner) (header_sees laid) (laid.header ∷ [])

-- the fault of all segments together
abbrev pub segment_order_faults : Laid → List LayoutFault
segment_order_faults laid = header_reported laid (rule.NoSegmentOfHeader ∷ [])
