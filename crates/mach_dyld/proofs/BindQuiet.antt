-- No instruction of imports or of bindings gives a row of its own.
use Rattle.mach_dyld.proofs.BindNames.{◌≡◌, ℕ, ℤ, ◌+◌, ◌*◌, List, length, Bool, true, false, Result, Ok, Err, refl, subst, cond, ◌==◌, bit_and, nat_lt}
use Rattle.mach_dyld.proofs.BindNames.{◌>>=◌, Fault, malformed, bind_ok, same_ok, uleb_at, sleb_at, text_at, Range}
use Rattle.mach_dyld.proofs.BindNames.{Instruction, done, library, symbol, addend, segment, advance, binds, byte_at, with_uleb, addend_at, symbol_operand_at}
use Rattle.mach_dyld.proofs.BindNames.{times_at, row_at, instruction_at}
use Rattle.mach_dyld.specs.Instructions.{nothing}
use Rattle.mach_dyld.specs.Binds.{strong_is}
use Rattle.mach_dyld.specs.Bindings.{highest_opcode, done_leads_to}
unfoldable use Rattle.mach_dyld.specs.Bindings.{opcode_at, bindings_row}

abbrev pub Quiet : Result (Instruction × ℕ) Fault → Type 0
Quiet r = (found : Instruction × ℕ) → r ≡ Ok found → strong_is found.0 ≡ false

pub quiet_here : (i : Instruction) (after : ℕ) → strong_is i ≡ false → Quiet (Ok (i, after))
quiet_here i after h = λ found e. subst (λ (y : Instruction × ℕ). strong_is y.0 ≡ false) (same_ok e) h

pub quiet_none : (f : Fault) → Quiet (Err f)
quiet_none f = λ found e. absurd (cc)

pub quiet_either : (t : Bool) (r s : Result (Instruction × ℕ) Fault) → Quiet r → Quiet s → Quiet (cond t r s)
quiet_either true r s h k = h
quiet_either false r s h k = k

pub quiet_with_uleb : (make : ℕ → Instruction) (bytes : List ℕ) (place : ℕ) → ((n : ℕ) → strong_is (make n) ≡ false) → Quiet (with_uleb make bytes place)
unfolding with_uleb
quiet_with_uleb make bytes place h = λ found e.
    let b = bind_ok (uleb_at bytes place) (λ (n : ℕ × ℕ). Ok (make n.0, n.1)) found e in quiet_here (make b.0.0) b.0.1 (h b.0.0) found b.2

quiet_symbol : (flags : ℕ) (bytes : List ℕ) (place : ℕ) → Quiet (symbol_operand_at flags bytes place)
unfolding symbol_operand_at
quiet_symbol flags bytes place = λ found e.
    let b = bind_ok (text_at bytes place) (λ (name : List ℕ). Ok (symbol flags name, place + length name + 1)) found e in
    quiet_here (symbol flags b.0) (place + length b.0 + 1) refl found b.2

quiet_addend : (bytes : List ℕ) (place : ℕ) → Quiet (addend_at bytes place)
unfolding addend_at
quiet_addend bytes place = λ found e.
    let b = bind_ok (sleb_at bytes place) (λ (n : ℤ × ℕ). Ok (addend n.0, n.1)) found e in quiet_here (addend b.0.0) b.0.1 refl found b.2

pub quiet_times : (bytes : List ℕ) (place : ℕ) → Quiet (times_at bytes place)
unfolding times_at
quiet_times bytes place = λ found e.
    let a = bind_ok (uleb_at bytes place) (λ (n : ℕ × ℕ). uleb_at bytes n.1 >>= λ (m : ℕ × ℕ). Ok (binds n.0 m.0, m.1)) found e in
    let b = bind_ok (uleb_at bytes a.0.1) (λ (m : ℕ × ℕ). Ok (binds a.0.0 m.0, m.1)) found a.2 in
    quiet_here (binds a.0.0 b.0.0) b.0.1 refl found b.2

pub quiet_row : (pointer : ℕ) (bytes : List ℕ) (opcode imm place : ℕ) → Quiet (row_at pointer bytes opcode imm place)
unfolding row_at
quiet_row pointer bytes opcode imm place =
    quiet_either (opcode == 0x00) _ _ (quiet_here done place refl)
    (quiet_either (opcode == 0x10) _ _ (quiet_here (library imm) place refl)
    (quiet_either (opcode == 0x20) _ _ (quiet_with_uleb library bytes place (λ n. refl))
    (quiet_either (opcode == 0x40) _ _ (quiet_symbol imm bytes place)
    (quiet_either (opcode == 0x60) _ _ (quiet_addend bytes place)
    (quiet_either (opcode == 0x70) _ _ (quiet_with_uleb (segment imm) bytes place (λ n. refl))
    (quiet_either (opcode == 0x80) _ _ (quiet_with_uleb advance bytes place (λ n. refl))
    (quiet_either (opcode == 0x90) _ _ (quiet_here (binds 1 0) place refl)
    (quiet_either (opcode == 0xa0) _ _ (quiet_with_uleb (binds 1) bytes place (λ n. refl))
    (quiet_either (opcode == 0xb0) _ _ (quiet_here (binds 1 (imm * pointer)) place refl)
    (quiet_either (opcode == 0xc0) _ _ (quiet_times bytes place) (quiet_here nothing place refl)))))))))))

pub import_quiet : (pointer : ℕ) (bytes : List ℕ) (place : ℕ) → Quiet (instruction_at pointer bytes place)
unfolding instruction_at
import_quiet pointer bytes place = λ found e.
    let b = bind_ok (byte_at bytes place) (λ (byte : ℕ). row_at pointer bytes (bit_and byte 0xf0) (bit_and byte 0x0f) (place + 1)) found e in
    quiet_row pointer bytes (bit_and b.0 0xf0) (bit_and b.0 0x0f) (place + 1) found b.2

quiet_bindings : (r : Range) (pointer : ℕ) (bytes : List ℕ) (opcode imm place : ℕ) → Quiet (bindings_row r pointer bytes opcode imm place)
unfolding bindings_row
quiet_bindings r pointer bytes opcode imm place =
    quiet_either (nat_lt (highest_opcode r.is_lazy) opcode) _ _ (quiet_none malformed)
    (quiet_either (opcode == 0x00) _ _ (quiet_here nothing (done_leads_to r place) refl) (quiet_row pointer bytes opcode imm place))

pub binding_quiet : (r : Range) (pointer : ℕ) (bytes : List ℕ) (place : ℕ) → Quiet (opcode_at r pointer bytes place)
unfolding opcode_at
binding_quiet r pointer bytes place = λ found e.
    let b = bind_ok (byte_at bytes place) (λ (byte : ℕ). bindings_row r pointer bytes (bit_and byte 0xf0) (bit_and byte 0x0f) (place + 1)) found e in
    quiet_bindings r pointer bytes (bit_and b.0 0xf0) (bit_and b.0 0x0f) (place + 1) found b.2
