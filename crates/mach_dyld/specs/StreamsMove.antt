-- Each opcode of weak binds and of rebases takes at least one byte.
use Rattle.std.proofs.Common.{◌≡◌, ℕ, ◌+◌, ◌<◌, ◌*◌, List, length, Ok, Err, refl, nat_lt, bit_and, arith}
use Rattle.std.specs.Prelude.{◌==◌}
use Rattle.mach_base.proofs.Binds.{bind_ok}
use Rattle.mach_base.specs.Answer.{◌>>=◌}
use Rattle.mach_base.specs.Fault.{Fault, malformed}
use Rattle.mach_base.specs.Text.{text_at}
use Rattle.mach_dyld.specs.Instructions.{Instruction, segment, advance, binds, nothing}
unfoldable use Rattle.mach_dyld.specs.Instructions.{byte_at}
use Rattle.mach_dyld.specs.Streams.{Range}
use Rattle.mach_dyld.specs.Machine.{ReadsForward}
use Rattle.mach_dyld.specs.RowsMove.{Past, past_here, past_none, past_either, past_row, past_with_uleb, past_times}
use Rattle.mach_dyld.specs.WeakBinds.{name_before_end, name_set, range_end}
unfoldable use Rattle.mach_dyld.specs.WeakBinds.{weak_name_at, weak_row, weak_opcode_at}
use Rattle.mach_dyld.specs.WeakBindsLeft.{weak_rules}
unfoldable use Rattle.mach_dyld.specs.Rebases.{rebase_row, rebase_opcode_at}
use Rattle.mach_dyld.specs.RebasesLeft.{rebase_rules}

at_end : (r : Range) (place : ℕ) → Past place (Ok (nothing, range_end r place))
at_end r place = past_here nothing place (range_end r place) (omega arith)

here : (i : Instruction) (place : ℕ) → Past place (Ok (i, place))
here i place = past_here i place place (omega arith)

-- ---- weak binds

past_name : (flags : ℕ) (bytes : List ℕ) (place : ℕ) → Past place (weak_name_at flags bytes place)
unfolding weak_name_at
past_name flags bytes place = λ found e.
    let end = λ (name : List ℕ). Ok (name_set flags name, place + length name + 1) in
    let a = bind_ok (text_at bytes place) (λ (text : List ℕ). name_before_end bytes place text >>= end) found e in
    let b = bind_ok (name_before_end bytes place a.0) end found a.2 in
    past_here (name_set flags b.0) place (place + length b.0 + 1) (omega arith) found b.2

past_weak : (r : Range) (pointer : ℕ) (bytes : List ℕ) (opcode imm place : ℕ) → Past place (weak_row r pointer bytes opcode imm place)
unfolding weak_row
past_weak r pointer bytes opcode imm place =
    past_either (opcode == 0x00) place _ _ (at_end r place)
    (past_either (nat_lt opcode 0x40) place _ _ (past_none malformed place)
    (past_either (nat_lt 0xc0 opcode) place _ _ (past_none malformed place)
    (past_either (opcode == 0x40) place _ _ (past_name imm bytes place) (past_row pointer bytes opcode imm place))))

weak_moves : (r : Range) (pointer : ℕ) (bytes : List ℕ) (place : ℕ) (found : Instruction × ℕ) → weak_opcode_at r pointer bytes place ≡ Ok found
    → place < found.1
unfolding weak_opcode_at
weak_moves r pointer bytes place found e =
    let b = bind_ok (byte_at bytes place) (λ (byte : ℕ). weak_row r pointer bytes (bit_and byte 0xf0) (bit_and byte 0x0f) (place + 1)) found e in
    let h = past_weak r pointer bytes (bit_and b.0 0xf0) (bit_and b.0 0x0f) (place + 1) found b.2 in
    omega (arith, h)

no_weak : (r : Range) (pointer : ℕ) (bytes : List ℕ) (place : ℕ) (f : Fault) → byte_at bytes place ≡ Err f → weak_opcode_at r pointer bytes place ≡ Err f
unfolding weak_opcode_at
no_weak r pointer bytes place f e = rw e refl

pub weak_reads : ReadsForward weak_rules
weak_reads = record {
  moves = λ r pointer bytes place found e. weak_moves r pointer bytes place found e;
  bytes = λ r pointer bytes place f e. no_weak r pointer bytes place f e;
}

-- ---- rebases

past_rebase : (r : Range) (pointer : ℕ) (bytes : List ℕ) (opcode imm place : ℕ) → Past place (rebase_row r pointer bytes opcode imm place)
unfolding rebase_row
past_rebase r pointer bytes opcode imm place =
    past_either (opcode == 0x00) place _ _ (at_end r place)
    (past_either (opcode == 0x10) place _ _ (here nothing place)
    (past_either (opcode == 0x20) place _ _ (past_with_uleb (segment imm) bytes place)
    (past_either (opcode == 0x30) place _ _ (past_with_uleb advance bytes place)
    (past_either (opcode == 0x40) place _ _ (here (advance (imm * pointer)) place)
    (past_either (opcode == 0x50) place _ _ (here (binds imm 0) place)
    (past_either (opcode == 0x60) place _ _ (past_with_uleb (λ count. binds count 0) bytes place)
    (past_either (opcode == 0x70) place _ _ (past_with_uleb (binds 1) bytes place)
    (past_either (opcode == 0x80) place _ _ (past_times bytes place) (past_none malformed place)))))))))

rebase_moves : (r : Range) (pointer : ℕ) (bytes : List ℕ) (place : ℕ) (found : Instruction × ℕ) → rebase_opcode_at r pointer bytes place ≡ Ok found
    → place < found.1
unfolding rebase_opcode_at
rebase_moves r pointer bytes place found e =
    let b = bind_ok (byte_at bytes place) (λ (byte : ℕ). rebase_row r pointer bytes (bit_and byte 0xf0) (bit_and byte 0x0f) (place + 1)) found e in
    let h = past_rebase r pointer bytes (bit_and b.0 0xf0) (bit_and b.0 0x0f) (place + 1) found b.2 in
    omega (arith, h)

no_rebase : (r : Range) (pointer : ℕ) (bytes : List ℕ) (place : ℕ) (f : Fault) → byte_at bytes place ≡ Err f
    → rebase_opcode_at r pointer bytes place ≡ Err f
unfolding rebase_opcode_at
no_rebase r pointer bytes place f e = rw e refl

pub rebase_reads : ReadsForward rebase_rules
rebase_reads = record {
  moves = λ r pointer bytes place found e. rebase_moves r pointer bytes place found e;
  bytes = λ r pointer bytes place f e. no_rebase r pointer bytes place f e;
}
