-- Opcodes follow each other, and each takes a byte of its own at least. So a stream has at most as many of them as its range
-- has bytes in the file.
use Rattle.std.specs.Prelude.{ℕ, ◌+◌, ◌-◌, ◌≤◌, List, [], ◌∷◌, length, min, Result}
use Rattle.mach_base.specs.Fault.{Fault}
use Rattle.mach_base.specs.declared.context.Endian.{Endian}
use Rattle.mach_dyld.specs.Streams.{Input, Range, Placed, Reader, IsBeginningBy}
use Rattle.mach_dyld.specs.WeakBinds.{AreWeakBinds, WeakBind}
use Rattle.mach_dyld.specs.Rebases.{AreOpcodeRebases, Rebase}

-- the number of bytes of a range that exist
abbrev pub bytes_in : List ℕ → Range → ℕ
bytes_in bytes r = min r.upto (length bytes) - r.from

-- of weak binds, of rebases, and of the binds of both streams, whether they have no fault or only a prefix can be read
abbrev pub WeakOpcodesFit : Type 0
WeakOpcodesFit = (x : Input) (r : Range) (ps : List Placed) (items : List (Result WeakBind Fault))
    → AreWeakBinds x r ps items → length ps ≤ bytes_in x.bytes r

abbrev pub RebaseOpcodesFit : Type 0
RebaseOpcodesFit = (x : Input) (le : Endian) (r : Range) (ps : List Placed) (items : List (Result Rebase Fault))
    → AreOpcodeRebases x le r ps items → length ps ≤ bytes_in x.bytes r

abbrev pub BindOpcodesFit : (Input → Range → Range → ℕ → Type 0) → Type 0
BindOpcodesFit Have = (x : Input) (non_lazy lazy : Range) (n : ℕ) → Have x non_lazy lazy n → n ≤ bytes_in x.bytes non_lazy + bytes_in x.bytes lazy

-- The number of existing bytes that the opcodes take, each up to the place after it: with its numbers and its name, which
-- may run past the range's end, and with the bytes that a DONE skips.
abbrev pub opcode_bytes : List ℕ → List Placed → ℕ
opcode_bytes bytes [] = 0
opcode_bytes bytes (p ∷ ps) = (min p.after (length bytes) - p.place) + opcode_bytes bytes ps

-- The first opcodes of a range take at most the bytes that exist from its start on. `read` reads a range, and a pointer has
-- `pointer` bytes.
abbrev pub OpcodeBytesFit : (Range → ℕ → List ℕ → Reader) → Type 0
OpcodeBytesFit read = (r : Range) (pointer : ℕ) (bytes : List ℕ) (ps : List Placed)
    → IsBeginningBy (read r pointer bytes) r ps → opcode_bytes bytes ps ≤ length bytes - r.from
