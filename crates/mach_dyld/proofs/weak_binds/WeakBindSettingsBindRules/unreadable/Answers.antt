use Rattle.mach_dyld.proofs.BindNames.{◌∙◌, ◌≤◌, ◌<◌, length, subst, arith, bit_and, IsErr, range_of}
use Rattle.mach_dyld.proofs.StreamReading.{weak_low, weak_high, weak_name, weak_no_done, weak_past, weak_unread, past_bytes}
use Rattle.mach_dyld.proofs.weak_binds.WeakBindSettingsBindRules.unreadable.Goals as goal

pub returns-then-state-bytes : goal.returns-then-state-bytes
returns-then-state-bytes c =
    let s = c.args.state.now in
    let out = c.if-state-bytes.true in
    weak_past (range_of s) c.args.pointer c.args.bytes.now s.place (past_bytes c.args.bytes.now s.place (omega (arith, out)))

pub returns-then-opcode-lt-LOWEST_WEAK : goal.returns-then-opcode-lt-LOWEST_WEAK
returns-then-opcode-lt-LOWEST_WEAK c =
    let s = c.args.state.now in
    let out = c.if-state-bytes.false in
    let inside : s.place < length c.args.bytes.now = omega (arith, out) in
    let low = c.if-opcode-lt-LOWEST_WEAK.true in
    let below : bit_and c.args.byte 0xf0 < 0x40 = omega (arith, low) in
    let there = c.requires.byte inside in
    weak_low (range_of s) c.args.pointer c.args.bytes.now s.place c.args.byte there
    (weak_no_done (range_of s) c.args.pointer c.args.bytes.now s.place c.args.byte there c.requires.fault) below

pub returns-then-opcode-gt-HIGHEST_WEAK : goal.returns-then-opcode-gt-HIGHEST_WEAK
returns-then-opcode-gt-HIGHEST_WEAK c =
    let s = c.args.state.now in
    let out = c.if-state-bytes.false in
    let inside : s.place < length c.args.bytes.now = omega (arith, out) in
    let least = c.if-opcode-lt-LOWEST_WEAK.false in
    let high = c.if-opcode-gt-HIGHEST_WEAK.true in
    let from : 0x40 ≤ bit_and c.args.byte 0xf0 = omega (arith, least) in
    let above : 0xc0 < bit_and c.args.byte 0xf0 = omega (arith, high) in
    let there = c.requires.byte inside in
    weak_high (range_of s) c.args.pointer c.args.bytes.now s.place c.args.byte there
    (weak_no_done (range_of s) c.args.pointer c.args.bytes.now s.place c.args.byte there c.requires.fault) from above

pub name_error-requires : goal.name_error-requires
name_error-requires c =
    let s = c.args.state.now in
    let out = c.if-state-bytes.false in
    let inside : s.place < length c.args.bytes.now = omega (arith, out) in
    subst (λ r. IsErr r)
    (weak_name (range_of s) c.args.pointer c.args.bytes.now s.place c.args.byte (c.requires.byte inside)
    c.if-opcode-eq-BIND_OPCODE_SET_SYMBOL_TRAILING_FLAGS_IMM.true)
    c.requires.fault

pub returns-then-opcode-eq-BIND_OPCODE_SET_SYMBOL_TRAILING_FLAGS_IMM : goal.returns-then-opcode-eq-BIND_OPCODE_SET_SYMBOL_TRAILING_FLAGS_IMM
returns-then-opcode-eq-BIND_OPCODE_SET_SYMBOL_TRAILING_FLAGS_IMM c =
    let s = c.args.state.now in
    let out = c.if-state-bytes.false in
    let inside : s.place < length c.args.bytes.now = omega (arith, out) in
    weak_name (range_of s) c.args.pointer c.args.bytes.now s.place c.args.byte (c.requires.byte inside)
    c.if-opcode-eq-BIND_OPCODE_SET_SYMBOL_TRAILING_FLAGS_IMM.true
    ∙ c.name_error.ensures

pub instruction_error-requires-clause-unreadable : goal.instruction_error-requires-clause-unreadable
instruction_error-requires-clause-unreadable c =
    let s = c.args.state.now in
    let out = c.if-state-bytes.false in
    let inside : s.place < length c.args.bytes.now = omega (arith, out) in
    let least = c.if-opcode-lt-LOWEST_WEAK.false in
    let most = c.if-opcode-gt-HIGHEST_WEAK.false in
    let from : 0x40 ≤ bit_and c.args.byte 0xf0 = omega (arith, least) in
    let upto : bit_and c.args.byte 0xf0 ≤ 0xc0 = omega (arith, most) in
    subst (λ r. IsErr r)
    (weak_unread (range_of s) c.args.pointer c.args.bytes.now s.place c.args.byte (c.requires.byte inside) c.requires.fault from upto
    c.if-opcode-eq-BIND_OPCODE_SET_SYMBOL_TRAILING_FLAGS_IMM.false)
    c.requires.fault

pub returns : goal.returns
returns c =
    let s = c.args.state.now in
    let out = c.if-state-bytes.false in
    let inside : s.place < length c.args.bytes.now = omega (arith, out) in
    let least = c.if-opcode-lt-LOWEST_WEAK.false in
    let most = c.if-opcode-gt-HIGHEST_WEAK.false in
    let from : 0x40 ≤ bit_and c.args.byte 0xf0 = omega (arith, least) in
    let upto : bit_and c.args.byte 0xf0 ≤ 0xc0 = omega (arith, most) in
    weak_unread (range_of s) c.args.pointer c.args.bytes.now s.place c.args.byte (c.requires.byte inside) c.requires.fault from upto
    c.if-opcode-eq-BIND_OPCODE_SET_SYMBOL_TRAILING_FLAGS_IMM.false
    ∙ c.instruction_error.ensures
