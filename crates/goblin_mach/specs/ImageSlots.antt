-- The slots of an image: the table of indirect symbols that its commands place (`mach-o/loader.h`, LC_DYSYMTAB), with its
-- sections and symbols; and the provider of an undefined symbol (`mach-o/nlist.h`, GET_LIBRARY_ORDINAL).
use Rattle.std.specs.Prelude.{◌==◌, ℕ, ℤ, pos, negsuc, ◌/◌, ◌&&◌, ◌||◌, not, bit_and, Bool, List, [], Option, Some, None, option_map, Result, Ok}
use Rattle.std.specs.Prelude.{if◌then◌else◌}
use Rattle.mach_base.specs.declared.error.Error.{Error}
use Rattle.mach_base.specs.Fault.{Fault}
use Rattle.mach_base.specs.Items.{read_as}
use Rattle.mach_base.specs.Record.{Value, number_among}
use Rattle.mach_base.specs.declared.context.Ctx.{Ctx}
use Rattle.mach_load.specs.Command.{Command}
use Rattle.mach_load.specs.Commands.{Kind, dysymtab}
use Rattle.mach_parts.specs.Bindings.{Provider, provider_of, provider_view}
use Rattle.mach_parts.specs.declared.binding.Provider as declared
use Rattle.mach_parts.specs.Segment.{SegmentView}
use Rattle.mach_parts.specs.IndirectSymbols.{IndirectTable, indirect_symbols_of}
use Rattle.mach_parts.specs.SlotLookUp.{slot_of_address}
use Rattle.mach_parts.specs.Slots.{Slot, SlotTables, slots_of}
use Rattle.mach_parts.specs.declared.indirect.IndirectSymbol.{IndirectSymbol}
use Rattle.mach_parts.specs.SymbolViews.{table_of}
use Rattle.mach_parts.specs.Symbols.{SymbolTable, is_stab, type_of}
use Rattle.mach_parts.specs.declared.symbols.nlist.Nlist.{Nlist}
use Rattle.goblin_mach.specs.OpenImage.{bytes_view, commands_view, ctx_view}
use Rattle.goblin_mach.specs.Readings.{Reading, read_of, last_of}
use Rattle.goblin_mach.specs.declared.macho.MachO.{MachO}

-- ---- the table of indirect symbols

-- the place and the number of the entries that a command places (struct dysymtab_command, indirectsymoff and nindirectsyms)
abbrev pub indirect_place_of : Kind → List Value → Option (ℕ × ℕ)
indirect_place_of dysymtab values = Some (number_among values 14, number_among values 15)
indirect_place_of _ values = None

-- placing them never fails
abbrev pub indirect_place_by : Reading (ℕ × ℕ)
indirect_place_by c = option_map (λ place. Ok place) (indirect_place_of c.kind c.values)

-- the place of an image's entries: that of the last command that places any
abbrev pub indirect_place_in : List Command → Option (ℕ × ℕ)
indirect_place_in cs = last_of (read_of indirect_place_by cs)

abbrev pub indirect_table_at : Ctx → List ℕ → Option (ℕ × ℕ) → Option IndirectTable
indirect_table_at ctx bytes place = option_map (λ p. record { bytes = bytes; start = p.0; count = p.1; le = ctx.le }) place

-- the table of an image, if a command places one
abbrev pub indirect_table_in : Ctx → List ℕ → List Command → Option IndirectTable
indirect_table_in ctx bytes cs = indirect_table_at ctx bytes (indirect_place_in cs)

-- the entries of a table, if there is one
abbrev pub indirect_symbols_in : Option IndirectTable → List (Result IndirectSymbol Fault)
indirect_symbols_in None = []
indirect_symbols_in (Some t) = indirect_symbols_of t

-- ---- slots

-- the data from which slots are read
abbrev pub slot_tables : Ctx → Option SymbolTable → IndirectTable → SlotTables
slot_tables ctx symbols t = record { indirect = t; symbols = symbols; container = ctx.container }

-- the slots of an image, over its symbols and segments; none if no command places indirect symbols
abbrev pub image_slots : Ctx → Option IndirectTable → Option SymbolTable → List SegmentView → List (Result Slot Fault)
image_slots ctx None symbols segments = []
image_slots ctx (Some t) symbols segments = slots_of (slot_tables ctx symbols t) segments

-- the slot in which an address lies
abbrev pub image_slot_at : Ctx → Option IndirectTable → Option SymbolTable → List SegmentView → ℕ → Result (Option Slot) Fault
image_slot_at ctx None symbols segments a = Ok None
image_slot_at ctx (Some t) symbols segments a = slot_of_address (slot_tables ctx symbols t) segments a

-- ---- the provider of an undefined symbol

-- whether the linker recorded a symbol's library (MH_TWOLEVEL): the symbol is undefined and not common, or prebound (N_UNDF, N_PBUD)
abbrev pub names_library : ℕ → Nlist → Bool
names_library flags s =
    not (bit_and flags 0x80 == 0)
    && (not (is_stab s) && ((type_of s.n_type == 0 && s.n_value == 0) || type_of s.n_type == 0xc))

-- the ordinal in the high bits of n_desc: two ordinals of 8 bits mean numbers below 0 in a bind (EXECUTABLE_ORDINAL,
-- DYNAMIC_LOOKUP_ORDINAL)
abbrev pub bind_ordinal_of : ℕ → ℤ
bind_ordinal_of n = if n == 0xff then negsuc 0 else (if n == 0xfe then negsuc 1 else pos n)

-- the provider of a symbol, if it was recorded; the only fault is an ordinal past the last library
abbrev pub symbol_provider_of : ℕ → List (List ℕ) → Nlist → Option (Result Provider Fault)
symbol_provider_of flags libs s = if names_library flags s then Some (provider_of libs (bind_ordinal_of (s.n_desc / 256))) else None

-- ---- an image, as contracts see it

abbrev pub indirect_table_view : {A : Type 0} → MachO A → Option IndirectTable
indirect_table_view m = indirect_table_in (ctx_view m) (bytes_view m) (commands_view m)

abbrev pub symbol_table_view : {A : Type 0} → MachO A → Option SymbolTable
symbol_table_view m = option_map table_of m.symbols

-- what was returned, as a provider or a fault
abbrev pub provider_read : Result declared.Provider Error → Result Provider Fault
provider_read item = read_as provider_view item
