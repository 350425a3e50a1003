-- Slots: the stubs and pointers of an image that refer to symbols.
use Rattle.std.specs.Prelude.{ℕ, zero, suc, ◌+◌, ◌*◌, ◌^◌, List, [], ◌∷◌, Option, Some, None, Result, Ok, Err, flat_map, nat_lt, if◌then◌else◌}
use Rattle.mach_base.specs.declared.context.Container.{Container}
use Rattle.mach_base.specs.Answer.{◌>>=◌}
use Rattle.mach_base.specs.Fault.{Fault, malformed}
use Rattle.mach_parts.specs.SectionRecord.{numbered_sections}
use Rattle.mach_parts.specs.Segment.{SegmentView}
use Rattle.mach_parts.specs.declared.segment.numbered.NumberedSection.{NumberedSection}
use Rattle.mach_parts.specs.Symbols.{SymbolTable, symbol_at}
use Rattle.mach_parts.specs.IndirectSymbols.{IndirectTable, indirect_symbol_at}
use Rattle.mach_parts.specs.SlotSections.{run_of}
use Rattle.mach_parts.specs.declared.indirect.IndirectSymbol.{IndirectSymbol}
use Rattle.mach_parts.specs.declared.indirect.IndirectSymbol.TheVariants.{Symbol, Local, Absolute, LocalAbsolute}
use Rattle.mach_parts.specs.declared.slots.kind.SlotKind.{SlotKind}
use Rattle.mach_parts.specs.declared.slots.kind.SlotRun.{SlotRun}
use Rattle.mach_parts.specs.declared.slot.SlotEntry.{SlotEntry}

-- The tables from which slots are read: the indirect symbol table, the symbol table if there is one, and the width of the image.
pub record SlotTables : Type 0 where
  pub indirect : IndirectTable
  pub symbols : Option SymbolTable
  pub container : Container

-- what a slot refers to: a symbol, with its number and its name; something local to the image, an absolute value, or both
pub data SlotOwner : Type 0 where
  named_slot : (index : ℕ) (name : List ℕ) → SlotOwner
  local_slot : SlotOwner
  absolute_slot : SlotOwner
  local_absolute_slot : SlotOwner

-- A slot: its section, its address and size, its kind, the number of its entry, and what it refers to.
pub record Slot : Type 0 where
  pub segment : ℕ
  pub section : ℕ
  pub address : ℕ
  pub len : ℕ
  pub kind : SlotKind
  pub index : ℕ
  pub symbol : SlotOwner

-- the entry of slot j of a section; the slot's address must fit 64 bits, and the entry must lie in the table and in the bytes
abbrev pub slot_entry : SlotTables → SlotRun → ℕ → Result SlotEntry Fault
slot_entry t r j =
    if nat_lt (r.address + j * r.len) (2 ^ 64)
    then (if nat_lt (r.first + j) t.indirect.count
    then indirect_symbol_at t.indirect (r.first + j) >>= (λ says. Ok (record { address = r.address + j * r.len; index = r.first + j; says = says }))
    else Err malformed)
    else Err malformed

-- the symbol of a number, which must be one of the table
abbrev pub named_symbol : Option SymbolTable → ℕ → Result SlotOwner Fault
named_symbol None k = Err malformed
named_symbol (Some symbols) k =
    if nat_lt k symbols.nsyms then symbol_at symbols k >>= (λ found. Ok (named_slot k found.0)) else Err malformed

-- what a slot refers to, by its entry
abbrev pub slot_symbol : Option SymbolTable → IndirectSymbol → Result SlotOwner Fault
slot_symbol symbols (Symbol k) = named_symbol symbols k
slot_symbol symbols Local = Ok local_slot
slot_symbol symbols Absolute = Ok absolute_slot
slot_symbol symbols LocalAbsolute = Ok local_absolute_slot

-- the slot of an entry, or the reason why its symbol cannot be read
abbrev pub slot_of_entry : SlotTables → SlotRun → SlotEntry → Result Slot Fault
slot_of_entry t r e =
    slot_symbol t.symbols e.says
    >>= (λ owner. Ok (record {
      segment = r.segment;
      section = r.section;
      address = e.address;
      len = r.len;
      kind = r.kind;
      index = e.index;
      symbol = owner;
    }))

-- the slot of an entry, followed by others; or the reason why there is no entry, and nothing after it
abbrev pub entry_then : Result SlotEntry Fault → (SlotEntry → Result Slot Fault) → List (Result Slot Fault) → List (Result Slot Fault)
entry_then (Ok e) slot others = slot e ∷ others
entry_then (Err f) slot others = Err f ∷ []

-- at most `most` slots of a section from number j on; the first without an entry ends them
unfoldable pub slots_from : SlotTables → SlotRun → (most j : ℕ) → List (Result Slot Fault)
slots_from t r zero j = []
slots_from t r (suc most) j = entry_then (slot_entry t r j) (slot_of_entry t r) (slots_from t r most (j + 1))

-- the slots of a section if it has some, or the reason why their number is not known
abbrev pub slots_of_run : SlotTables → Result (Option SlotRun) Fault → List (Result Slot Fault)
slots_of_run t (Ok None) = []
slots_of_run t (Ok (Some r)) = slots_from t r r.count 0
slots_of_run t (Err f) = Err f ∷ []

abbrev pub read_slots : SlotTables → NumberedSection → List (Result Slot Fault)
read_slots t n = slots_of_run t (run_of t.container n)

-- the slots of a section; if it cannot be read, the reason is the only item
abbrev pub section_slots : SlotTables → Result NumberedSection Fault → List (Result Slot Fault)
section_slots t (Ok n) = read_slots t n
section_slots t (Err f) = Err f ∷ []

-- all slots of an image's segments
abbrev pub slots_of : SlotTables → List SegmentView → List (Result Slot Fault)
slots_of t ss = flat_map (section_slots t) (numbered_sections ss)
