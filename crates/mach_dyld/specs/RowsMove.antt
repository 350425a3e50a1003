-- Each instruction of imports and of bindings takes at least one byte.
use Rattle.std.proofs.Common.{◌≡◌, ℕ, ◌+◌, ◌-◌, ◌<◌, ◌≤◌, ◌*◌, Bool, true, false, List, length, Option, Some, None, Result, Ok, Err, refl, cond, nat_le, nat_lt}
use Rattle.std.proofs.Common.{bit_and, ap, arith, drop}
use Rattle.std.specs.Prelude.{◌==◌}
use Rattle.mach_base.proofs.Binds.{bind_ok, same_ok}
use Rattle.mach_base.specs.Answer.{◌>>=◌}
use Rattle.mach_base.specs.Fault.{Fault, malformed, bad_offset, bad_input}
use Rattle.mach_base.specs.Leb128.{leb_at, spelled_at, first_groups, is_short, is_short_signed, groups_value, signed_value}
unfoldable use Rattle.mach_base.specs.Leb128.{uleb_at, sleb_at}
use Rattle.mach_base.specs.Text.{text_at}
use Rattle.mach_dyld.specs.Instructions.{Instruction, done, library, symbol, addend, segment, advance, binds, nothing}
unfoldable use Rattle.mach_dyld.specs.Instructions.{byte_at, with_uleb, addend_at, symbol_operand_at, times_at, row_at, instruction_at}
use Rattle.mach_dyld.specs.Streams.{Range}
use Rattle.mach_dyld.specs.Machine.{ReadsForward}
use Rattle.mach_dyld.specs.BindLeft.{import_rules}
use Rattle.mach_dyld.specs.Bindings.{highest_opcode}
unfoldable use Rattle.mach_dyld.specs.Bindings.{opcode_at, bindings_row}
use Rattle.mach_dyld.specs.BindingsLeft.{binding_rules}

-- what is found ends at the place or after it
abbrev pub Past : {V : Type 0} → ℕ → Result (V × ℕ) Fault → Type 0
Past {V} place r = (found : V × ℕ) → r ≡ Ok found → place ≤ found.1

pub past_here : {V : Type 0} (v : V) (place after : ℕ) → place ≤ after → Past place (Ok (v, after))
past_here {V} v place after h = λ found e. let same : after ≡ found.1 = ap (λ (y : V × ℕ). y.1) (same_ok e) in omega (arith, same, h)

pub past_none : {V : Type 0} (f : Fault) (place : ℕ) → Past {V = V} place (Err f)
past_none f place = λ found e. absurd (cc)

pub past_either : {V : Type 0} (b : Bool) (place : ℕ) (x y : Result (V × ℕ) Fault) → Past place x → Past place y → Past place (cond b x y)
past_either true place x y h k = h
past_either false place x y h k = k

-- ---- numbers

past_spelled : {V : Type 0} (short : List ℕ → Bool) (value : List ℕ → V) (bytes : List ℕ) (s : ℕ) (groups : Option (List ℕ))
    → Past s (spelled_at short value bytes s groups)
past_spelled short value bytes s None = past_none (bad_input _) s
past_spelled short value bytes s (Some groups) =
    past_either (short groups) s _ _ (past_here (value groups) s (s + length groups) (omega arith)) (past_none (bad_input _) s)

past_leb : {V : Type 0} (short : List ℕ → Bool) (value : List ℕ → V) (bytes : List ℕ) (s : ℕ) → Past s (leb_at short value bytes s)
past_leb short value bytes s =
    past_either (nat_le (length bytes) s) s _ _ (past_none (bad_offset s) s) (past_spelled short value bytes s (first_groups (drop s bytes)))

past_uleb : (bytes : List ℕ) (s : ℕ) → Past s (uleb_at bytes s)
unfolding uleb_at
past_uleb bytes s = past_leb is_short groups_value bytes s

past_sleb : (bytes : List ℕ) (s : ℕ) → Past s (sleb_at bytes s)
unfolding sleb_at
past_sleb bytes s = past_leb is_short_signed signed_value bytes s

-- ---- instructions

-- what is read after a number
past_then : {A V : Type 0} (place : ℕ) (r : Result (A × ℕ) Fault) (f : A × ℕ → Result (V × ℕ) Fault) → Past place r → ((x : A × ℕ) → Past x.1 (f x))
    → Past place (r >>= f)
past_then place (Ok x) f h k = λ found e. let first = h x refl in let rest = k x found e in omega (arith, first, rest)
past_then place (Err g) f h k = past_none g place

pub past_with_uleb : (make : ℕ → Instruction) (bytes : List ℕ) (place : ℕ) → Past place (with_uleb make bytes place)
unfolding with_uleb
past_with_uleb make bytes place = past_then place (uleb_at bytes place) _ (past_uleb bytes place) (λ x. past_here (make x.0) x.1 x.1 (omega arith))

past_addend : (bytes : List ℕ) (place : ℕ) → Past place (addend_at bytes place)
unfolding addend_at
past_addend bytes place = past_then place (sleb_at bytes place) _ (past_sleb bytes place) (λ x. past_here (addend x.0) x.1 x.1 (omega arith))

past_symbol : (flags : ℕ) (bytes : List ℕ) (place : ℕ) → Past place (symbol_operand_at flags bytes place)
unfolding symbol_operand_at
past_symbol flags bytes place = λ found e.
    let b = bind_ok (text_at bytes place) (λ (name : List ℕ). Ok (symbol flags name, place + length name + 1)) found e in
    past_here (symbol flags b.0) place (place + length b.0 + 1) (omega arith) found b.2

pub past_times : (bytes : List ℕ) (place : ℕ) → Past place (times_at bytes place)
unfolding times_at
past_times bytes place =
    past_then place (uleb_at bytes place) _ (past_uleb bytes place)
    (λ x. past_then x.1 (uleb_at bytes x.1) _ (past_uleb bytes x.1) (λ y. past_here (binds x.0 y.0) y.1 y.1 (omega arith)))

pub past_row : (pointer : ℕ) (bytes : List ℕ) (opcode imm place : ℕ) → Past place (row_at pointer bytes opcode imm place)
unfolding row_at
past_row pointer bytes opcode imm place =
    past_either (opcode == 0x00) place _ _ (here done)
    (past_either (opcode == 0x10) place _ _ (here (library imm))
    (past_either (opcode == 0x20) place _ _ (past_with_uleb library bytes place)
    (past_either (opcode == 0x40) place _ _ (past_symbol imm bytes place)
    (past_either (opcode == 0x60) place _ _ (past_addend bytes place)
    (past_either (opcode == 0x70) place _ _ (past_with_uleb (segment imm) bytes place)
    (past_either (opcode == 0x80) place _ _ (past_with_uleb advance bytes place)
    (past_either (opcode == 0x90) place _ _ (here (binds 1 0))
    (past_either (opcode == 0xa0) place _ _ (past_with_uleb (binds 1) bytes place)
    (past_either (opcode == 0xb0) place _ _ (here (binds 1 (imm * pointer)))
    (past_either (opcode == 0xc0) place _ _ (past_times bytes place) (here nothing)))))))))))
  where
    here : (i : Instruction) → Past place (Ok (i, place))
    here i = past_here i place place (omega arith)

-- an instruction takes at least one byte
pub ends_after : (pointer : ℕ) (bytes : List ℕ) (place : ℕ) (found : Instruction × ℕ) → instruction_at pointer bytes place ≡ Ok found → place < found.1
unfolding instruction_at
ends_after pointer bytes place found e =
    let b = bind_ok (byte_at bytes place) (λ (byte : ℕ). row_at pointer bytes (bit_and byte 0xf0) (bit_and byte 0x0f) (place + 1)) found e in
    let h = past_row pointer bytes (bit_and b.0 0xf0) (bit_and b.0 0x0f) (place + 1) found b.2 in
    omega (arith, h)

-- ---- the rules

no_byte : (pointer : ℕ) (bytes : List ℕ) (place : ℕ) (f : Fault) → byte_at bytes place ≡ Err f → instruction_at pointer bytes place ≡ Err f
unfolding instruction_at
no_byte pointer bytes place f e = rw e refl

pub import_reads : ReadsForward import_rules
import_reads = record {
  moves = λ r pointer bytes place found e. ends_after pointer bytes place found e;
  bytes = λ r pointer bytes place f e. no_byte pointer bytes place f e;
}

past_bindings : (r : Range) (pointer : ℕ) (bytes : List ℕ) (opcode imm place : ℕ) → Past place (bindings_row r pointer bytes opcode imm place)
unfolding bindings_row
past_bindings r pointer bytes opcode imm place =
    past_either (nat_lt (highest_opcode r.is_lazy) opcode) place _ _ (past_none malformed place)
    (past_either (opcode == 0x00) place _ _
    (past_here nothing place (cond r.is_lazy place (place + (r.upto - place))) (following r.is_lazy))
    (past_row pointer bytes opcode imm place))
  where
    following : (l : Bool) → place ≤ cond l place (place + (r.upto - place))
    following true = omega arith
    following false = omega arith

ends_following : (r : Range) (pointer : ℕ) (bytes : List ℕ) (place : ℕ) (found : Instruction × ℕ) → opcode_at r pointer bytes place ≡ Ok found → place < found.1
unfolding opcode_at
ends_following r pointer bytes place found e =
    let b = bind_ok (byte_at bytes place) (λ (byte : ℕ). bindings_row r pointer bytes (bit_and byte 0xf0) (bit_and byte 0x0f) (place + 1)) found e in
    let h = past_bindings r pointer bytes (bit_and b.0 0xf0) (bit_and b.0 0x0f) (place + 1) found b.2 in
    omega (arith, h)

no_opcode : (r : Range) (pointer : ℕ) (bytes : List ℕ) (place : ℕ) (f : Fault) → byte_at bytes place ≡ Err f → opcode_at r pointer bytes place ≡ Err f
unfolding opcode_at
no_opcode r pointer bytes place f e = rw e refl

pub binding_reads : ReadsForward binding_rules
binding_reads = record {
  moves = λ r pointer bytes place found e. ends_following r pointer bytes place found e;
  bytes = λ r pointer bytes place f e. no_opcode r pointer bytes place f e;
}
