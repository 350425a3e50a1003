-- The stream of rebases, as dyld reads it (`mach-o/loader.h`, struct dyld_info_command, rebase_off, and the constants
-- REBASE_TYPE and REBASE_OPCODE; dyld, `MachOAnalyzer::forEachRebase_Opcodes`). A DONE ends it. An instruction that binds in
-- a stream of binds rebases here.
use Rattle.std.specs.Prelude.{◌==◌, ◌+◌, ◌*◌, ℕ, List, [], ◌∷◌, ◌++◌, drop, take, replicate, map, Bool, false, Option, Some, None, Result, Ok, Err}
use Rattle.std.specs.Prelude.{if◌then◌else◌, bit_and, slice_get}
use Rattle.mach_base.specs.Answer.{◌>>=◌}
use Rattle.mach_base.specs.Fault.{Fault, malformed}
use Rattle.mach_base.specs.Number.{number}
use Rattle.mach_base.specs.Sums.{found_or_malformed, sum_of}
use Rattle.mach_base.specs.declared.context.Endian.{Endian}
use Rattle.mach_parts.specs.Segment.{SegmentView}
use Rattle.mach_parts.specs.PointerSigning.{Auth}
use Rattle.mach_dyld.specs.Binds.{Bind, all_from, binds_at, last_setting}
use Rattle.mach_dyld.specs.Bindings.{holding_all, sets_in}
use Rattle.mach_dyld.specs.Faults.{AreItemsAlone}
use Rattle.mach_dyld.specs.Instructions.{Instruction, segment, advance, binds, nothing, byte_at, with_uleb, times_at}
use Rattle.mach_dyld.specs.Streams.{Input, Range, Placed, Reader}
use Rattle.mach_dyld.specs.WeakBinds.{range_end}
use Rattle.mach_dyld.specs.declared.rebases.RebaseKind.{RebaseKind}
use Rattle.mach_dyld.specs.declared.rebases.RebaseKind.TheVariants.{Pointer, TextAbsolute32, TextRelative32}

-- a place in memory whose value dyld corrects by the distance that the image was moved
pub record Rebase : Type 0 where
  -- the number of the segment, and the place in it
  pub segment : ℕ
  pub offset : ℕ
  pub address : ℕ
  -- the value at that place before it is corrected
  pub target : ℕ
  pub kind : RebaseKind
  pub auth : Option Auth

-- ---- one instruction

-- The table of opcodes, by the opcode and the immediate: the instruction whose operands begin at the place, and the place after them.
unfoldable pub rebase_row : Range → ℕ → List ℕ → ℕ → ℕ → ℕ → Result (Instruction × ℕ) Fault
rebase_row r pointer bytes opcode imm place =
    if opcode == 0x00 then Ok (nothing, range_end r place)
    else (if opcode == 0x10 then Ok (nothing, place)
    else (if opcode == 0x20 then with_uleb (segment imm) bytes place
    else (if opcode == 0x30 then with_uleb advance bytes place
    else (if opcode == 0x40 then Ok (advance (imm * pointer), place)
    else (if opcode == 0x50 then Ok (binds imm 0, place)
    else (if opcode == 0x60 then with_uleb (λ count. binds count 0) bytes place
    else (if opcode == 0x70 then with_uleb (binds 1) bytes place
    else (if opcode == 0x80 then times_at bytes place
    else Err malformed))))))))

unfoldable pub rebase_opcode_at : Range → ℕ → List ℕ → Reader
rebase_opcode_at r pointer bytes place = do
  byte ← byte_at bytes place
  rebase_row r pointer bytes (bit_and byte 0xf0) (bit_and byte 0x0f) (place + 1)

-- ---- rebases

abbrev pub rebase_kind_by : Result ℕ Fault → Option ℕ
rebase_kind_by (Err f) = None
rebase_kind_by (Ok byte) = if bit_and byte 0xf0 == 0x10 then Some (bit_and byte 0x0f) else None

-- the type that an instruction sets: opcode 1's immediate
abbrev pub rebase_kind_in : List ℕ → Placed → Option ℕ
rebase_kind_in bytes p = rebase_kind_by (byte_at bytes p.place)

-- whether an opcode sets a segment
abbrev pub gives_rebase_segment : ℕ → Bool
gives_rebase_segment opcode = opcode == 0x20

-- what was set before a rebase beyond the settings of a bind: the type, and whether a segment was set
pub record RebaseSet : Type 0 where
  pub kind : ℕ
  pub has_segment : Bool

-- the kind with a number
abbrev pub rebase_kind_of : ℕ → Option RebaseKind
rebase_kind_of number =
    if number == 1 then Some Pointer
    else (if number == 2 then Some TextAbsolute32
    else (if number == 3 then Some TextRelative32
    else None))

-- the number of bytes that are corrected: 8 or 4 for a pointer
abbrev pub rebase_width : ℕ → RebaseKind → ℕ
rebase_width pointer Pointer = if pointer == 8 then 8 else 4
rebase_width pointer TextAbsolute32 = 4
rebase_width pointer TextRelative32 = 4

-- the eight bytes at a place of a segment's memory: its data, followed by zeros
abbrev pub memory_word : List ℕ → ℕ → List ℕ
memory_word bytes offset = take 8 (drop offset bytes ++ replicate 8 0)

-- the number in the first bytes of them
abbrev pub memory_number : Endian → ℕ → List ℕ → ℕ → ℕ
memory_number le width bytes offset = number le width (memory_word bytes offset)

abbrev pub rebase_with : Input → Endian → Bind → RebaseKind → SegmentView → ℕ → Rebase
rebase_with x le b kind s address = record {
  segment = b.segment;
  offset = b.offset;
  address = address;
  target = memory_number le (rebase_width x.pointer kind) s.bytes b.offset;
  kind = kind;
  auth = None;
}

-- The rebase by what was set, if there is one. Whatever the type, a pointer lies in the segment there, and its address fits
-- into 64 bits.
unfoldable pub rebase_of : Input → Endian → RebaseSet → Bind → Result Rebase Fault
rebase_of x le g b = if g.has_segment then (do
  kind ← found_or_malformed (rebase_kind_of g.kind)
  found ← found_or_malformed (slice_get x.segments b.segment)
  holder ← holding_all x.pointer b.offset found
  address ← sum_of holder.command.vmaddr b.offset
  Ok (rebase_with x le b kind holder address)) else Err malformed

-- what was set last: the list has the nearest first
abbrev pub last_rebase_set : List ℕ → List Placed → RebaseSet
last_rebase_set bytes back = record {
  kind = last_setting 0 (rebase_kind_in bytes) back;
  has_segment = last_setting false (sets_in bytes gives_rebase_segment) back;
}

-- the rebases of an instruction, after these others, the nearest first
abbrev pub rebases_at : Input → Endian → Range → List Placed → Placed → List (Result Rebase Fault)
rebases_at x le r back p = map (rebase_of x le (last_rebase_set x.bytes (p ∷ back))) (binds_at x.pointer r back p)

-- the rebases of the first instructions of a range
abbrev pub rebases_in : Input → Endian → Range → List Placed → List (Result Rebase Fault)
rebases_in x le r ps = all_from (rebases_at x le r) [] ps

-- these are the rebases of a stream, whose longest readable prefix is given, up to the first fault
abbrev pub AreOpcodeRebases : Input → Endian → Range → List Placed → List (Result Rebase Fault) → Type 0
AreOpcodeRebases x le r ps items = AreItemsAlone (rebase_opcode_at r x.pointer x.bytes) (rebases_in x le r) r ps items
