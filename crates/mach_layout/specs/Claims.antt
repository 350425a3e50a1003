-- The ranges of the file that the parts of an image claim (`mach-o/loader.h`: each offset and size or count of a command).
use Rattle.std.specs.Prelude.{◌==◌, ℕ, ◌*◌, ◌&&◌, not, Bool, List, [], ◌∷◌, ◌++◌, flat_map, Option, Some, None, if◌then◌else◌}
use Rattle.mach_base.specs.Record.{Value, number_among}
use Rattle.mach_base.specs.declared.context.Container.{Container}
use Rattle.mach_base.specs.declared.context.Container.TheVariants.{Little, Big}
use Rattle.mach_load.specs.Command.{Command}
use Rattle.mach_load.specs.Commands.{Kind, symtab, dysymtab, dyld_info, dyld_info_only, code_signature, segment_split_info, function_starts, data_in_code}
use Rattle.mach_load.specs.Commands.{dylib_code_sign_drs, linker_optimization_hint, dyld_exports_trie, dyld_chained_fixups, encryption_info32}
use Rattle.mach_load.specs.Commands.{encryption_info64, note, twolevel_hints, symseg, unimplemented}
use Rattle.mach_load.specs.Newer.{Newer, NewerKind, atom_info, function_variants, function_variant_fixups, target_triple}
use Rattle.mach_parts.specs.Section.{is_zero_fill}
use Rattle.mach_parts.specs.Symbols.{nlist_size}
use Rattle.mach_layout.specs.Laid.{Laid, newer_of, is_stub, is_dsym, used_end, placed_segment_of, sections_by}
use Rattle.mach_layout.specs.Rules.{owner_at}
use Rattle.mach_layout.specs.declared.claim.Claim.{Claim}
use Rattle.mach_layout.specs.declared.fault.Part.{Part}
use Rattle.mach_layout.specs.declared.fault.Part.TheVariants as part
use Rattle.mach_layout.specs.declared.placed_sections.PlacedSection.{PlacedSection}
use Rattle.mach_layout.specs.declared.placed_sections.PlacedSegment.{PlacedSegment}

-- `len` bytes from a start on, claimed by a part of the command at a place
abbrev pub claim : Part → ℕ → ℕ → ℕ → Claim
claim p place start len = record { owner = owner_at p place 0; start = start; len = len }

-- ---- tables

-- the bytes of a module of a library (struct dylib_module and dylib_module_64)
abbrev pub module_size : Container → ℕ
module_size Little = 52
module_size Big = 56

-- the dataoff and the datasize of a struct linkedit_data_command
abbrev pub linkedit_claims : Part → ℕ → List Value → List Claim
linkedit_claims p place vs = claim p place (number_among vs 2) (number_among vs 3) ∷ []

-- the five ranges of a struct dyld_info_command
abbrev pub dyld_info_claims : ℕ → List Value → List Claim
dyld_info_claims place vs =
    claim part.RebaseOpcodes place (number_among vs 2) (number_among vs 3)
    ∷ claim part.BindOpcodes place (number_among vs 4) (number_among vs 5)
    ∷ claim part.WeakBindOpcodes place (number_among vs 6) (number_among vs 7)
    ∷ claim part.LazyBindOpcodes place (number_among vs 8) (number_among vs 9)
    ∷ claim part.ExportTrie place (number_among vs 10) (number_among vs 11)
    ∷ []

-- the six tables of a struct dysymtab_command
abbrev pub dysymtab_claims : Container → ℕ → List Value → List Claim
dysymtab_claims width place vs =
    claim part.TableOfContents place (number_among vs 8) (number_among vs 9 * 8)
    ∷ claim part.Modules place (number_among vs 10) (number_among vs 11 * module_size width)
    ∷ claim part.ExternalReferences place (number_among vs 12) (number_among vs 13 * 4)
    ∷ claim part.IndirectSymbols place (number_among vs 14) (number_among vs 15 * 4)
    ∷ claim part.ExternalRelocations place (number_among vs 16) (number_among vs 17 * 8)
    ∷ claim part.LocalRelocations place (number_among vs 18) (number_among vs 19 * 8)
    ∷ []

-- the symbols and their names of a struct symtab_command
abbrev pub symtab_claims : Container → ℕ → List Value → List Claim
symtab_claims width place vs =
    claim part.Symbols place (number_among vs 2) (number_among vs 3 * nlist_size width)
    ∷ claim part.Strings place (number_among vs 4) (number_among vs 5)
    ∷ []

-- what a command claims that goblin's table lacks: a linkedit command its data
abbrev pub newer_claims_of : ℕ → NewerKind → List Value → List Claim
newer_claims_of place atom_info vs = linkedit_claims part.AtomInfo place vs
newer_claims_of place function_variants vs = linkedit_claims part.FunctionVariants place vs
newer_claims_of place function_variant_fixups vs = linkedit_claims part.FunctionVariantFixups place vs
newer_claims_of place target_triple vs = []

abbrev pub newer_claims : ℕ → Option Newer → List Claim
newer_claims place None = []
newer_claims place (Some c) = newer_claims_of place c.kind c.values

-- What a command claims apart from segments, by its kind and its values, or by what it is if goblin's table lacks it. A command
-- with linker options (LC_LINKER_OPTION) has a count and texts as fields, and claims nothing.
abbrev pub tables_of_kind : Container → ℕ → Kind → List Value → Option Newer → List Claim
tables_of_kind width place symtab vs newer = symtab_claims width place vs
tables_of_kind width place dysymtab vs newer = dysymtab_claims width place vs
tables_of_kind width place dyld_info vs newer = dyld_info_claims place vs
tables_of_kind width place dyld_info_only vs newer = dyld_info_claims place vs
tables_of_kind width place code_signature vs newer = linkedit_claims part.Signature place vs
tables_of_kind width place segment_split_info vs newer = linkedit_claims part.SplitInfo place vs
tables_of_kind width place function_starts vs newer = linkedit_claims part.FunctionStarts place vs
tables_of_kind width place data_in_code vs newer = linkedit_claims part.DataInCode place vs
tables_of_kind width place dylib_code_sign_drs vs newer = linkedit_claims part.SignatureRequirements place vs
tables_of_kind width place linker_optimization_hint vs newer = linkedit_claims part.LinkerHints place vs
tables_of_kind width place dyld_exports_trie vs newer = linkedit_claims part.ExportTrie place vs
tables_of_kind width place dyld_chained_fixups vs newer = linkedit_claims part.ChainedFixups place vs
tables_of_kind width place encryption_info32 vs newer = linkedit_claims part.Encrypted place vs
tables_of_kind width place encryption_info64 vs newer = linkedit_claims part.Encrypted place vs
tables_of_kind width place note vs newer = claim part.Note place (number_among vs 3) (number_among vs 4) ∷ []
tables_of_kind width place twolevel_hints vs newer = claim part.TwolevelHints place (number_among vs 2) (number_among vs 3 * 4) ∷ []
tables_of_kind width place symseg vs newer = linkedit_claims part.GdbSymbols place vs
tables_of_kind width place unimplemented vs newer = newer_claims place newer
tables_of_kind width place _ vs newer = []

abbrev pub tables_by : Laid → Command → List Claim
tables_by laid c = tables_of_kind laid.ctx.container c.offset c.kind c.values (newer_of laid c)

-- ---- segments and sections

-- the bytes of a segment
abbrev pub segment_claim : PlacedSegment → Claim
segment_claim s = claim part.Segment s.place s.command.fileoff s.command.filesize

-- the bytes of the segment of a command, if it is a segment command
abbrev pub segment_claims : Option PlacedSegment → List Claim
segment_claims None = []
segment_claims (Some s) = segment_claim s ∷ []

-- A section has bytes in the file unless it is zero-filled. A stub library has none. Nor have those sections of a dSYM that
-- are those of its program: their place is 0.
abbrev pub has_bytes : Laid → PlacedSection → Bool
has_bytes laid s =
    not (s.section.size == 0) && not (is_zero_fill s.section.flags) && not (is_stub laid) && not (is_dsym laid && s.section.offset == 0)

-- `len` bytes from a start on, claimed by a part of a section
abbrev pub section_claim : Part → PlacedSection → ℕ → ℕ → Claim
section_claim p s start len = record { owner = owner_at p s.segment.place s.number; start = start; len = len }

-- the bytes of a section, or none if it has none
abbrev pub bytes_claim : Laid → PlacedSection → Claim
bytes_claim laid s = section_claim part.Section s s.section.offset (if has_bytes laid s then s.section.size else 0)

-- the relocations of a section
abbrev pub relocations_claim : PlacedSection → Claim
relocations_claim s = section_claim part.Relocations s s.section.reloff (s.section.nreloc * 8)

abbrev pub section_claims : Laid → PlacedSection → List Claim
section_claims laid s = bytes_claim laid s ∷ relocations_claim s ∷ []

-- ---- all

-- the claims of a command: its segment with its sections, or its tables
abbrev pub claims_by : Laid → Command → List Claim
claims_by laid c =
    segment_claims (placed_segment_of c) ++ (flat_map (section_claims laid) (sections_by laid.ctx laid.bytes c) ++ tables_by laid c)

-- the claim of the header and the commands
abbrev pub header_claim : Laid → Claim
header_claim laid = claim part.Header 0 0 (used_end laid)

-- The claims of an image: that of the header and the commands, then those of each command, in order. A part of no bytes
-- claims a range of length 0.
abbrev pub claims_of : Laid → List Claim
claims_of laid = header_claim laid ∷ flat_map (claims_by laid) laid.commands
