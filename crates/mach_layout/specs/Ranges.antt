-- Rules of ranges (`mach-o/loader.h`): claimed ranges lie in the file, no two share an address or a byte, and tables lie in
-- the segment __LINKEDIT (dyld).
use Rattle.std.specs.Prelude.{◌==◌, ℕ, ◌+◌, ◌∷◌, ◌++◌, ◌&&◌, ◌||◌, not, nat_lt, nat_le, nat_eq}
use Rattle.std.specs.Prelude.{Bool, true, false, List, [], codes, filter, filter_map, find, Option, Some, None}
use Rattle.std.specs.Prelude.{if◌then◌else◌}
use Rattle.std.specs.List.{starts_with}
use Rattle.mach_base.specs.Number.{place_after}
use Rattle.mach_layout.specs.Claims.{claims_of, segment_claim}
use Rattle.mach_layout.specs.Laid.{Laid, is_final, is_judged, used_end, file_size, has_addresses, segments_of, placed_sections_of, ends_past}
use Rattle.mach_layout.specs.Rules.{measured, sound, owner_at, reported_over}
use Rattle.mach_layout.specs.declared.claim.Claim.{Claim}
use Rattle.mach_layout.specs.declared.fault.LayoutFault.{LayoutFault}
use Rattle.mach_layout.specs.declared.fault.Part.{Part}
use Rattle.mach_layout.specs.declared.fault.Part.TheVariants as part
use Rattle.mach_layout.specs.declared.fault.Rule.{Rule}
use Rattle.mach_layout.specs.declared.fault.Rule.TheVariants as rule
use Rattle.mach_layout.specs.declared.placed_sections.PlacedSection.{PlacedSection}
use Rattle.mach_layout.specs.declared.placed_sections.PlacedSegment.{PlacedSegment}
use Rattle.mach_layout.specs.declared.rules.RuleOutcome.{RuleOutcome}

-- the claim's bytes lie in the file
abbrev pub lies_in_file : Laid → Claim → Bool
lies_in_file laid c = not (ends_past (file_size laid) c.start c.len)

abbrev pub is_header : Part → Bool
is_header part.Header = true
is_header _ = false

-- ---- ranges that share an address or a byte

-- the addresses of a segment, if it has any, in a file of a kind for which rules are defined
abbrev pub segment_memory : Laid → PlacedSegment → Option Claim
segment_memory laid s =
    if not (is_judged laid) || s.command.vmsize == 0 then None
    else Some (record { owner = owner_at part.Segment s.place 0; start = s.command.vmaddr; len = s.command.vmsize })

-- the bytes of such a segment in the file, if it has any
abbrev pub segment_bytes : Laid → PlacedSegment → Option Claim
segment_bytes laid s = if not (is_judged laid) || s.command.filesize == 0 then None else Some (segment_claim s)

-- the addresses of a section, if it has any
abbrev pub section_memory : PlacedSection → Option Claim
section_memory s =
    if not (has_addresses s) then None
    else Some (record { owner = owner_at part.Section s.segment.place s.number; start = s.section.addr; len = s.section.size })

-- The segments hold the sections and the tables, and an encrypted range names a part of a segment.
abbrev pub is_alone : Part → Bool
is_alone part.Segment = false
is_alone part.Encrypted = false
is_alone _ = true

-- its bytes are in the file, and no other claim may share them
abbrev pub is_lone_claim : Laid → Claim → Bool
is_lone_claim laid c = is_alone c.owner.part && not (c.len == 0) && lies_in_file laid c

-- the addresses of all segments
abbrev pub memory_ranges : Laid → List Claim
memory_ranges laid = filter_map (segment_memory laid) (segments_of laid)

-- the bytes of all segments
abbrev pub file_ranges : Laid → List Claim
file_ranges laid = filter_map (segment_bytes laid) (segments_of laid)

-- the addresses of all sections
abbrev pub section_ranges : Laid → List Claim
section_ranges laid = filter_map section_memory (placed_sections_of laid)

-- the claims of which no two may share a byte
abbrev pub lone_claims : Laid → List Claim
lone_claims laid = filter (is_lone_claim laid) (claims_of laid)

-- ---- ranges that begin within the header or the commands

-- a segment may begin with the header and hold it whole; an encrypted range may not
abbrev pub begins_in_header : Laid → Part → ℕ → Bool
begins_in_header laid part.Segment start = nat_lt 0 start && nat_lt start (used_end laid)
begins_in_header laid part.Encrypted start = nat_lt start (used_end laid)
begins_in_header laid _ start = false

-- ---- tables outside __LINKEDIT

-- the tables that belong in __LINKEDIT
abbrev pub is_linkedit : Part → Bool
is_linkedit part.Header = false
is_linkedit part.Segment = false
is_linkedit part.Section = false
is_linkedit part.Relocations = false
is_linkedit part.Encrypted = false
is_linkedit part.Note = false
is_linkedit _ = true

-- the segment's name is __LINKEDIT, up to its first zero
abbrev pub is_linkedit_segment : PlacedSegment → Bool
is_linkedit_segment s = starts_with nat_eq s.command.segname (codes "__LINKEDIT" ++ 0 ∷ [])

-- the first segment of this name
abbrev pub linkedit_of : Laid → Option PlacedSegment
linkedit_of laid = find is_linkedit_segment (segments_of laid)

-- the claim's bytes lie in those of a segment, if there is one
abbrev pub lies_in : Option PlacedSegment → Claim → Bool
lies_in None c = false
lies_in (Some s) c = nat_le s.command.fileoff c.start && nat_le (c.start + c.len) (s.command.fileoff + s.command.filesize)

-- the place where the bytes of a segment end, or 0 if there is none
abbrev pub end_of_segment : Option PlacedSegment → ℕ
end_of_segment None = 0
end_of_segment (Some s) = place_after s.command.fileoff s.command.filesize

-- ---- each claim by itself

-- what each rule of one claim sees, if this is the segment __LINKEDIT
abbrev pub claim_sees : Laid → Option PlacedSegment → Rule → Claim → RuleOutcome
-- A claimed range lies in the file, wherever an empty range begins. That the commands do is a rule of their own.
claim_sees laid s rule.OutOfFile c = measured (is_header c.owner.part || c.len == 0 || lies_in_file laid c) (place_after c.start c.len) (file_size laid)
-- it doesn't begin within the header or the commands although it may not
claim_sees laid s rule.HeaderShared c = measured (c.len == 0 || not (begins_in_header laid c.owner.part c.start)) c.start (used_end laid)
-- a table that is in the file is in __LINKEDIT, if dyld or the kernel maps the file
claim_sees laid s rule.OutOfLinkedit c =
    let judged = is_final laid && is_linkedit c.owner.part && not (c.len == 0) && lies_in_file laid c in
    measured (not judged || lies_in s c) (place_after c.start c.len) (end_of_segment s)
claim_sees laid s _ c = sound

-- the faults that some of these rules find in the claims
abbrev pub claims_reported : Laid → List Rule → List LayoutFault
claims_reported laid rules = reported_over rules (λ rule c. c.owner) (claim_sees laid (linkedit_of laid)) (claims_of laid)

abbrev pub out_of_file_faults : Laid → List LayoutFault
out_of_file_faults laid = claims_reported laid (rule.OutOfFile ∷ [])

-- those of ranges that begin within the header, and of tables outside __LINKEDIT
abbrev pub claim_faults : Laid → List LayoutFault
claim_faults laid = claims_reported laid (rule.HeaderShared ∷ rule.OutOfLinkedit ∷ [])
