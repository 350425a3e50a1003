-- The bindings of bind opcodes, as dyld reads them: the binds of `Binds`, each with its provider.
use Rattle.std.specs.Prelude.{◌≡◌, ◌==◌, ◌-ℤ◌, ℕ, ℤ, pos, List, [], ◌∷◌, map, Bool, true, false, not, Option, Some, None, Result, Ok, Err}
use Rattle.std.specs.Prelude.{◌+◌, ◌-◌, length, if◌then◌else◌, bit_and, nat_lt, nat_le, slice_get}
use Rattle.mach_base.specs.Answer.{◌>>=◌}
use Rattle.mach_base.specs.Fault.{Fault, malformed}
use Rattle.mach_base.specs.Sums.{found_or_malformed, sum_of}
use Rattle.mach_parts.specs.Segment.{SegmentView}
use Rattle.mach_dyld.specs.Faults.{AreItems}
pub use Rattle.mach_dyld.specs.Faults.{upto_fault}
pub use Rattle.mach_base.specs.Fault.{fault_item}
use Rattle.mach_dyld.specs.Instructions.{Instruction, library, nothing, byte_at, row_at}
use Rattle.mach_dyld.specs.Streams.{Input, Range, Placed, Reader}
use Rattle.mach_dyld.specs.Binds.{Bind, binds_at, last_setting, all_from}
use Rattle.mach_parts.specs.Bindings.{Provider, provider_of, Binding}

-- ---- one instruction: what `Instructions` reads as `nothing` may set a special ordinal or a type

-- opcode 3's immediate is 0, or its ordinal plus 16
abbrev pub special_ordinal : ℕ → ℤ
special_ordinal imm = if imm == 0 then pos 0 else pos imm -ℤ pos 16

abbrev pub special_by : Result ℕ Fault → Option ℤ
special_by (Err f) = None
special_by (Ok byte) = if bit_and byte 0xf0 == 0x30 then Some (special_ordinal (bit_and byte 0x0f)) else None

abbrev pub ordinal_by : Instruction → Result ℕ Fault → Option ℤ
ordinal_by (library number) byte = Some (pos number)
ordinal_by nothing byte = special_by byte
ordinal_by _ byte = None

-- the ordinal that an instruction sets: opcodes 1 and 2 that of a library, as in the bytes, opcode 3 a special one
abbrev pub ordinal_in : List ℕ → Placed → Option ℤ
ordinal_in bytes p = ordinal_by p.instruction (byte_at bytes p.place)

abbrev pub kind_by : Result ℕ Fault → Option ℕ
kind_by (Err f) = None
kind_by (Ok byte) = if bit_and byte 0xf0 == 0x50 then Some (bit_and byte 0x0f) else None

-- the type that an instruction sets: opcode 5's immediate
abbrev pub kind_set_by : List ℕ → Placed → Option ℕ
kind_set_by bytes p = kind_by (byte_at bytes p.place)

-- whether an opcode sets an ordinal, a name, a segment
abbrev pub gives_ordinal : ℕ → Bool
gives_ordinal opcode = if opcode == 0x10 then true else (if opcode == 0x20 then true else opcode == 0x30)

abbrev pub gives_name : ℕ → Bool
gives_name opcode = opcode == 0x40

abbrev pub gives_segment : ℕ → Bool
gives_segment opcode = opcode == 0x70

abbrev pub sets_by : (ℕ → Bool) → Result ℕ Fault → Option Bool
sets_by gives (Err f) = None
sets_by gives (Ok byte) = if gives (bit_and byte 0xf0) then Some true else None

-- whether its opcode is one of those
abbrev pub sets_in : List ℕ → (ℕ → Bool) → Placed → Option Bool
sets_in bytes gives p = sets_by gives (byte_at bytes p.place)

-- ---- the instructions, as dyld reads them (`MachOAnalyzer::forEachBind_OpcodesRegular`, `_OpcodesLazy`). A DONE sets
-- nothing and leads to the end of the non-lazy range: no instruction of bindings is `done`, so settings stay over it.

-- the place of the instruction after a DONE
abbrev pub done_leads_to : Range → ℕ → ℕ
done_leads_to r place = if r.is_lazy then place else place + (r.upto - place)

-- the highest opcode allowed: threaded binds (0xd0) are not, and a lazy bind is only 0x90
abbrev pub highest_opcode : Bool → ℕ
highest_opcode is_lazy = if is_lazy then 0x90 else 0xc0

unfoldable pub bindings_row : Range → ℕ → List ℕ → ℕ → ℕ → ℕ → Result (Instruction × ℕ) Fault
bindings_row r pointer bytes opcode imm place =
    if nat_lt (highest_opcode r.is_lazy) opcode then Err malformed
    else (if opcode == 0x00 then Ok (nothing, done_leads_to r place)
    else row_at pointer bytes opcode imm place)

unfoldable pub opcode_at : Range → ℕ → List ℕ → Reader
opcode_at r pointer bytes place = do
  byte ← byte_at bytes place
  bindings_row r pointer bytes (bit_and byte 0xf0) (bit_and byte 0x0f) (place + 1)

-- ---- bindings

-- the segment, if it holds `len` bytes from the offset on
abbrev pub holding_all : ℕ → ℕ → SegmentView → Result SegmentView Fault
holding_all len offset segment = if nat_le (offset + len) segment.command.vmsize then Ok segment else Err malformed

-- the place in the file and the address of an offset in a segment that holds a pointer there
unfoldable pub spot_of : ℕ → List SegmentView → ℕ → ℕ → Result (ℕ × ℕ) Fault
spot_of pointer segments number offset = do
  segment ← found_or_malformed (slice_get segments number)
  holder ← holding_all pointer offset segment
  in_file ← sum_of holder.command.fileoff offset
  address ← sum_of holder.command.vmaddr offset
  Ok (in_file, address)

abbrev pub binding_with : Bind → Provider → ℕ × ℕ → Binding
binding_with b provider spot = record {
  name = b.name;
  provider = provider;
  offset = spot.0;
  address = spot.1;
  addend = b.addend;
  is_weak = not (bit_and b.flags 1 == 0);
  is_lazy = b.is_lazy;
}

-- what was set before a bind, beyond its settings: the ordinal, the type, and whether an ordinal, a name and a segment were set
pub record SetBefore : Type 0 where
  pub ordinal : ℤ
  pub kind : ℕ
  pub has_ordinal : Bool
  pub has_name : Bool
  pub has_segment : Bool

-- an ordinal, a name, a segment and a type of 1, 2 or 3
abbrev pub is_complete : SetBefore → Bool
is_complete g =
    if g.has_ordinal then (if g.has_name then (if g.has_segment then (if nat_lt 0 g.kind then nat_lt g.kind 4 else false) else false) else false)
    else false

-- the binding of a bind by what was set, if it has one
unfoldable pub binding_of : Input → SetBefore → Bind → Result Binding Fault
binding_of x g b = if is_complete g then (do
  provider ← provider_of x.libs g.ordinal
  spot ← spot_of x.pointer x.segments b.segment b.offset
  Ok (binding_with b provider spot)) else Err malformed

-- the ordinal set last, or 0: the list has the nearest first
abbrev pub last_ordinal : List ℕ → List Placed → ℤ
last_ordinal bytes back = last_setting (pos 0) (ordinal_in bytes) back

-- the type at the start of a range: binds of the lazy stream are pointers, and set none
abbrev pub first_kind : Bool → ℕ
first_kind is_lazy = if is_lazy then 1 else 0

-- what was set last
abbrev pub last_given : List ℕ → Bool → List Placed → SetBefore
last_given bytes is_lazy back = record {
  ordinal = last_ordinal bytes back;
  kind = last_setting (first_kind is_lazy) (kind_set_by bytes) back;
  has_ordinal = last_setting false (sets_in bytes gives_ordinal) back;
  has_name = last_setting false (sets_in bytes gives_name) back;
  has_segment = last_setting false (sets_in bytes gives_segment) back;
}

-- the bindings of an instruction, after these others, the nearest first
abbrev pub bindings_at : Input → Range → List Placed → Placed → List (Result Binding Fault)
bindings_at x r back p = map (binding_of x (last_given x.bytes r.is_lazy (p ∷ back))) (binds_at x.pointer r back p)

-- the bindings of the first instructions of a range
abbrev pub bindings_in : Input → Range → List Placed → List (Result Binding Fault)
bindings_in x r ps = all_from (bindings_at x r) [] ps

-- ---- both streams

-- these are the bindings of both streams
abbrev pub AreBindings : Input → Range → Range → List Placed → List Placed → List (Result Binding Fault) → Type 0
AreBindings x non_lazy lazy ps qs items = AreItems (λ r. opcode_at r x.pointer x.bytes) (bindings_in x) non_lazy lazy ps qs items

-- the longest readable prefixes of both streams have n opcodes
abbrev pub BindingsHave : Input → Range → Range → ℕ → Type 0
BindingsHave x non_lazy lazy n =
    (ps : List Placed) × (qs : List Placed) × (items : List (Result Binding Fault))
    × AreBindings x non_lazy lazy ps qs items × (n ≡ length ps + length qs)
