-- Whether a fault occurs among items, and the items of the binds of one instruction.
use Rattle.std.specs.Prelude.{◌+◌, ◌-◌, ◌%◌, ◌^◌, ℕ, zero, suc, min, Bool, true, false, List, [], ◌∷◌, map, Result, Ok, Err}
use Rattle.mach_base.specs.Fault.{Fault}
use Rattle.mach_parts.specs.Segment.{SegmentView}
use Rattle.mach_dyld.specs.BindingsLeft.{binding_rules}
use Rattle.mach_dyld.specs.Binds.{Bind}
use Rattle.mach_dyld.specs.Machine.{Rules, input_of, bind_of, strides, opcodes_left}
use Rattle.mach_dyld.specs.Streams.{Input}
use Rattle.mach_dyld.specs.declared.bindings.OpcodeBindingIterator.{OpcodeBindingIterator}
use Rattle.mach_dyld.specs.declared.imports.stream.Stream.{Stream}

-- whether a fault occurs among some items
abbrev pub has_fault : {A : Type 0} → List (Result A Fault) → Bool
has_fault [] = false
has_fault (Ok i ∷ items) = has_fault items
has_fault (Err f ∷ items) = true

-- the number of instructions left to read
abbrev pub binding_reads_left : OpcodeBindingIterator → ℕ
binding_reads_left it = opcodes_left binding_rules it.stream

-- the items of `count` binds, each a stride further than the one before
abbrev pub made_by : {M A : Type 0} → Rules M A → Input → Bind → M → (stride count : ℕ) → List (Result A Fault)
made_by u x b m stride count = map (λ d. u.makes x d m) (strides b stride count)

-- the items of the first `count` binds left of the last instruction, and of all of them
abbrev pub first_made : {M A : Type 0} → Rules M A → Stream M → (count : ℕ) → List (Result A Fault)
first_made u it count = made_by u (input_of it.source) (bind_of it.state.settings) it.more it.state.stride count

abbrev pub still_made : {M A : Type 0} → Rules M A → Stream M → List (Result A Fault)
still_made u it = first_made u it it.state.count

-- the offset of turn j, if the first turn is at an offset and each next one a stride further
unfoldable pub offset_at : ℕ → ℕ → ℕ → ℕ
offset_at offset stride zero = offset
offset_at offset stride (suc j) = offset_at ((offset + stride) % 2 ^ 64) stride j

-- the highest offset at which a segment holds a pointer whose place and address fit into 64 bits
abbrev pub highest_offset : ℕ → SegmentView → ℕ
highest_offset pointer s = min (s.command.vmsize - pointer) (min (2 ^ 64 - 1 - s.command.fileoff) (2 ^ 64 - 1 - s.command.vmaddr))
