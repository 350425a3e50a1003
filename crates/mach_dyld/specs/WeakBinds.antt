-- The stream of weak binds, as dyld reads it (`mach-o/loader.h`, struct dyld_info_command, weak_bind_off, and the constants
-- BIND_OPCODE; dyld, `MachOAnalyzer::forEachWeakDef`): the opcodes of binds without ordinals. A DONE ends it.
use Rattle.std.specs.Prelude.{◌==◌, ◌+◌, ◌-◌, ℕ, List, [], ◌∷◌, ◌++◌, length, map, Bool, false, not, Result, Ok, Err}
use Rattle.std.specs.Prelude.{if◌then◌else◌, bit_and, nat_lt}
use Rattle.mach_base.specs.Answer.{◌>>=◌}
use Rattle.mach_base.specs.Fault.{Fault, malformed}
use Rattle.mach_base.specs.Text.{text_at}
use Rattle.mach_parts.specs.Bindings.{Binding, weak_lookup}
use Rattle.mach_dyld.specs.Binds.{Bind, all_from, binds_at, last_setting}
use Rattle.mach_dyld.specs.Bindings.{gives_name, gives_segment, kind_set_by, sets_in, spot_of}
use Rattle.mach_dyld.specs.Faults.{AreItemsAlone}
use Rattle.mach_dyld.specs.Instructions.{Instruction, nothing, strong, symbol, byte_at, row_at}
use Rattle.mach_dyld.specs.Streams.{Input, Range, Placed, Reader}

-- a row of the stream: a name that the image itself defines, and not weakly; or a place that takes the definition that all
-- images share
pub data WeakBind : Type 0 where
  strong_name : (name : List ℕ) → WeakBind
  weakly_bound : (binding : Binding) → WeakBind

-- ---- one instruction

-- the place of the instruction after the DONE that ends it
abbrev pub range_end : Range → ℕ → ℕ
range_end r place = place + (r.upto - place)

-- bit 3 of the flags (BIND_SYMBOL_FLAGS_NON_WEAK_DEFINITION) means that the image itself defines the name
abbrev pub is_own : ℕ → Bool
is_own flags = not (bit_and flags 8 == 0)

abbrev pub name_set : ℕ → List ℕ → Instruction
name_set flags name = if is_own flags then strong flags name else symbol flags name

-- a text that a zero byte ends
abbrev pub name_before_end : List ℕ → ℕ → List ℕ → Result (List ℕ) Fault
name_before_end bytes place name = if nat_lt (place + length name) (length bytes) then Ok name else Err malformed

unfoldable pub weak_name_at : ℕ → List ℕ → ℕ → Result (Instruction × ℕ) Fault
weak_name_at flags bytes place = do
  text ← text_at bytes place
  name ← name_before_end bytes place text
  Ok (name_set flags name, place + length name + 1)

-- ordinals (0x10 to 0x30) and opcodes above 0xc0 are not allowed
unfoldable pub weak_row : Range → ℕ → List ℕ → ℕ → ℕ → ℕ → Result (Instruction × ℕ) Fault
weak_row r pointer bytes opcode imm place =
    if opcode == 0x00 then Ok (nothing, range_end r place)
    else (if nat_lt opcode 0x40 then Err malformed
    else (if nat_lt 0xc0 opcode then Err malformed
    else (if opcode == 0x40 then weak_name_at imm bytes place
    else row_at pointer bytes opcode imm place)))

unfoldable pub weak_opcode_at : Range → ℕ → List ℕ → Reader
weak_opcode_at r pointer bytes place = do
  byte ← byte_at bytes place
  weak_row r pointer bytes (bit_and byte 0xf0) (bit_and byte 0x0f) (place + 1)

-- ---- rows

-- what was set before a bind beyond its settings: the type, and whether a name and a segment were set
pub record WeakSet : Type 0 where
  pub kind : ℕ
  pub has_name : Bool
  pub has_segment : Bool

-- a name, a segment and a type of 1, 2 or 3
abbrev pub is_weak_complete : WeakSet → Bool
is_weak_complete g = if g.has_name then (if g.has_segment then (if nat_lt 0 g.kind then nat_lt g.kind 4 else false) else false) else false

abbrev pub weakly_bound_at : Bind → ℕ × ℕ → WeakBind
weakly_bound_at b spot = weakly_bound (record {
  name = b.name;
  provider = weak_lookup;
  offset = spot.0;
  address = spot.1;
  addend = b.addend;
  is_weak = not (bit_and b.flags 1 == 0);
  is_lazy = false;
})

-- the row of a bind by what was set, if it has one: its pointer lies in its segment, and its place and address fit into 64 bits
unfoldable pub weak_bind_of : Input → WeakSet → Bind → Result WeakBind Fault
weak_bind_of x g b = if is_weak_complete g then (do
  spot ← spot_of x.pointer x.segments b.segment b.offset
  Ok (weakly_bound_at b spot)) else Err malformed

-- what was set last: the list has the nearest first
abbrev pub last_weak_set : List ℕ → List Placed → WeakSet
last_weak_set bytes back = record {
  kind = last_setting 0 (kind_set_by bytes) back;
  has_name = last_setting false (sets_in bytes gives_name) back;
  has_segment = last_setting false (sets_in bytes gives_segment) back;
}

-- the row of an instruction that gives one of its own
abbrev pub own_row : Instruction → List (Result WeakBind Fault)
own_row (strong flags name) = Ok (strong_name name) ∷ []
own_row _ = []

-- the rows of an instruction, after these others, the nearest first
abbrev pub weak_binds_at : Input → Range → List Placed → Placed → List (Result WeakBind Fault)
weak_binds_at x r back p = own_row p.instruction ++ map (weak_bind_of x (last_weak_set x.bytes (p ∷ back))) (binds_at x.pointer r back p)

-- the rows of the first instructions of a range
abbrev pub weak_binds_in : Input → Range → List Placed → List (Result WeakBind Fault)
weak_binds_in x r ps = all_from (weak_binds_at x r) [] ps

-- these are the rows of a stream, whose longest readable prefix is given, up to the first fault
abbrev pub AreWeakBinds : Input → Range → List Placed → List (Result WeakBind Fault) → Type 0
AreWeakBinds x r ps items = AreItemsAlone (weak_opcode_at r x.pointer x.bytes) (weak_binds_in x r) r ps items
