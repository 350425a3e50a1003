-- What the bytes say of the indirect symbols, the slots, the providers and the sections of the image that opens at a place.
use Rattle.std.specs.Prelude.{◌≡◌, ℕ, List, Option, Result}
use Rattle.mach_base.specs.Fault.{Fault}
use Rattle.mach_parts.specs.Header.{header_in}
use Rattle.mach_parts.specs.Bindings.{Provider}
use Rattle.mach_parts.specs.SectionRecord.{section_holding, section_by_number, bytes_of_section}
use Rattle.mach_records.specs.declared.segments.Section64.{Section64}
use Rattle.mach_parts.specs.declared.segment.numbered.NumberedSection.{NumberedSection}
use Rattle.mach_parts.specs.Slots.{Slot}
use Rattle.mach_parts.specs.declared.indirect.IndirectSymbol.{IndirectSymbol}
use Rattle.mach_parts.specs.declared.symbols.nlist.Nlist.{Nlist}
use Rattle.goblin_mach.specs.Facts.{OfImage}
use Rattle.goblin_mach.specs.Fixups.{chained_in}
use Rattle.goblin_mach.specs.ImageSlots.{indirect_symbols_in, indirect_table_in, image_slots, image_slot_at, symbol_provider_of}
use Rattle.goblin_mach.specs.Initializers.{AreImageInitializers}
use Rattle.goblin_mach.specs.Strings.{strings_of_section}
use Rattle.goblin_mach.specs.declared.initializers.Initializer.{Initializer}
use Rattle.goblin_mach.specs.Subjects.{lossy_segments_in, libs_in, table_in}

-- its indirect symbols, each one or why it can't be read
abbrev pub HasIndirectSymbols : List ℕ → ℕ → List (Result IndirectSymbol Fault) → Type 0
HasIndirectSymbols bytes o items = OfImage bytes o (λ ctx cs. items ≡ indirect_symbols_in (indirect_table_in ctx bytes cs))

-- its slots, over its last tables and its segments
abbrev pub HasSymbolSlots : List ℕ → ℕ → List (Result Slot Fault) → Type 0
HasSymbolSlots bytes o items =
    OfImage bytes o (λ ctx cs. items ≡ image_slots ctx (indirect_table_in ctx bytes cs) (table_in ctx bytes cs) (lossy_segments_in ctx bytes cs))

-- the slot in which an address lies, or the fault
abbrev pub HasSymbolSlotAt : List ℕ → ℕ → ℕ → Result (Option Slot) Fault → Type 0
HasSymbolSlotAt bytes o a found =
    OfImage bytes o (λ ctx cs. found ≡ image_slot_at ctx (indirect_table_in ctx bytes cs) (table_in ctx bytes cs) (lossy_segments_in ctx bytes cs) a)

-- the provider of a symbol, over its libraries
abbrev pub HasProviderOf : List ℕ → ℕ → Nlist → Option (Result Provider Fault) → Type 0
HasProviderOf bytes o s found =
    OfImage bytes o (λ ctx cs. found ≡ symbol_provider_of (header_in ctx.container ctx.le bytes o).flags (libs_in bytes cs) s)

-- its first section in which an address lies
abbrev pub HasSectionAt : List ℕ → ℕ → ℕ → Option NumberedSection → Type 0
HasSectionAt bytes o a found = OfImage bytes o (λ ctx cs. found ≡ section_holding (lossy_segments_in ctx bytes cs) a)

-- its section with a number, counted from 1 over all segments
abbrev pub HasSectionOf : List ℕ → ℕ → ℕ → Result (Option NumberedSection) Fault → Type 0
HasSectionOf bytes o n found = OfImage bytes o (λ ctx cs. found ≡ section_by_number (lossy_segments_in ctx bytes cs) n)

-- the bytes of a section
abbrev pub HasSectionData : List ℕ → ℕ → Section64 → Result (List ℕ) Fault → Type 0
HasSectionData bytes o s found = OfImage bytes o (λ ctx cs. found ≡ bytes_of_section bytes s)

-- the strings of a section, each with its place in it
abbrev pub HasStringsOf : List ℕ → ℕ → Section64 → Result (List (ℕ × List ℕ)) Fault → Type 0
HasStringsOf bytes o s found = OfImage bytes o (λ ctx cs. found ≡ strings_of_section bytes s)

-- its initializers, each one or why a section's bytes can't be read
abbrev pub HasInitializers : List ℕ → ℕ → Result (List (Result Initializer Fault)) Fault → Type 0
HasInitializers bytes o found =
    OfImage bytes o (λ ctx cs. AreImageInitializers ctx bytes (chained_in ctx bytes cs) (lossy_segments_in ctx bytes cs) found)
