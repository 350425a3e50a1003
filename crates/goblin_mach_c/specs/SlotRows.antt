-- Slots as C sees them: the stubs and pointers of an image that belong to symbols.
use Rattle.std.specs.Prelude.{◌≡◌, ◌⊎◌, ℕ, List, map, drop, Option, Some, None, Result, Ok, Err}
use Rattle.mach_base.specs.Fault.{Fault}
use Rattle.mach_parts.specs.Slots.{Slot, SlotOwner, named_slot, local_slot, absolute_slot, local_absolute_slot}
use Rattle.mach_parts.specs.declared.slots.kind.SlotKind.{SlotKind}
use Rattle.mach_parts.specs.declared.slots.kind.SlotKind.TheVariants.{Pointer, LazyPointer, Stub, LazyLibraryPointer, ThreadLocalPointer}
use Rattle.mach_parts.specs.Symbols.{SymbolTable}
use Rattle.goblin_mach.specs.SlotFacts.{HasSymbolSlotAt, HasSymbolSlots}
use Rattle.goblin_mach_c.specs.Codes.{code_of_fault}
use Rattle.goblin_mach_c.specs.Fill.{Fills}
use Rattle.goblin_mach_c.specs.Opened.{FaultIn, lossy_mode}
use Rattle.goblin_mach_c.specs.SymbolRows.{symbol_row, gm_table_view}
use Rattle.goblin_mach_c.specs.declared.images.gm_image.{gm_image}
use Rattle.goblin_mach_c.specs.declared.slots.gm_slot.{gm_slot}

-- the number of a kind: 0 is none
abbrev pub slot_kind_number : SlotKind → ℕ
slot_kind_number Pointer = 1
slot_kind_number LazyPointer = 2
slot_kind_number Stub = 3
slot_kind_number LazyLibraryPointer = 4
slot_kind_number ThreadLocalPointer = 5

-- the kind of a slot's entry, as for an indirect symbol
abbrev pub owner_number : SlotOwner → ℕ
owner_number (named_slot index name) = 0
owner_number local_slot = 1
owner_number absolute_slot = 2
owner_number local_absolute_slot = 3

-- the number of its symbol, 0 for other entries
abbrev pub owner_symbol : SlotOwner → ℕ
owner_symbol (named_slot index name) = index
owner_symbol local_slot = 0
owner_symbol absolute_slot = 0
owner_symbol local_absolute_slot = 0

-- the offset of its symbol's name, and its length, as in the row of the symbol
abbrev pub name_of_symbol : SymbolTable → SlotOwner → ℕ × ℕ
name_of_symbol t (named_slot index name) = ((symbol_row t index).name, (symbol_row t index).name_len)
name_of_symbol t local_slot = (0, 0)
name_of_symbol t absolute_slot = (0, 0)
name_of_symbol t local_absolute_slot = (0, 0)

-- why a slot can't be read
abbrev pub no_slot : Fault → gm_slot
no_slot f =
    record {
      address = 0;
      len = 0;
      segment = 0;
      name = 0;
      name_len = 0;
      section_index = 0;
      kind = 0;
      index = 0;
      owner = 0;
      symbol = 0;
      code = code_of_fault f;
    }

-- a slot of an image with this table of symbols, or why it can't be read
abbrev pub slot_row : SymbolTable → Result Slot Fault → gm_slot
slot_row t (Ok s) =
    record {
      address = s.address;
      len = s.len;
      segment = s.segment;
      name = (name_of_symbol t s.symbol).0;
      name_len = (name_of_symbol t s.symbol).1;
      section_index = s.section;
      kind = slot_kind_number s.kind;
      index = s.index;
      owner = owner_number s.symbol;
      symbol = owner_symbol s.symbol;
      code = 0;
    }
slot_row t (Err f) = no_slot f

-- the slot that holds an address, or the row for none
abbrev pub slot_row_at : SymbolTable → Option Slot → gm_slot
slot_row_at t (Some s) = slot_row t (Ok s)
slot_row_at t None =
    record {
      address = 0;
      len = 0;
      segment = 0;
      name = 0;
      name_len = 0;
      section_index = 0;
      kind = 0;
      index = 0;
      owner = 0;
      symbol = 0;
      code = 0;
    }

-- The rows of an image's slots from index `first` on were written, as many as there are and fit.
pub record WritesSlots (bytes : List ℕ) (c : gm_image) (first : ℕ) (old new : List gm_slot) (n : ℕ) : Type 0 where
  pub items : List (Result Slot Fault)
  pub has : HasSymbolSlots bytes c.offset items
  pub rows : Fills (drop first (map (slot_row (gm_table_view bytes c)) items)) old new n

-- The row is that of the slot that holds an address, or that for none.
pub record FindsSlot (bytes : List ℕ) (c : gm_image) (a : ℕ) (row : gm_slot) : Type 0 where
  pub slot : Option Slot
  pub has : HasSymbolSlotAt bytes c.offset a (Ok slot)
  pub is : row ≡ slot_row_at (gm_table_view bytes c) slot

-- a fault of opening, or of the slot
abbrev pub SlotFaultIn : List ℕ → gm_image → ℕ → Fault → Type 0
SlotFaultIn bytes c a f = FaultIn (lossy_mode c.is_lossy) bytes c.offset f ⊎ HasSymbolSlotAt bytes c.offset a (Err f)
