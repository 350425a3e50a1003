use Rattle.mach_dyld.proofs.BindNames.{◌≡◌, ◌∙◌, ◌<◌, length, true, false, arith, IsErr, ap, sym, subst, nat_lt, nat_tests, bit_and, range_of}
use Rattle.mach_dyld.specs.Bindings.{highest_opcode}
use Rattle.mach_dyld.proofs.BindingReading.{unknown, unread}
use Rattle.mach_dyld.proofs.bindings.BindingSettingsBindRules.unreadable.Goals as goal

pub returns-then-opcode-top : goal.returns-then-opcode-top
returns-then-opcode-top c =
    let s = c.args.state.now in
    let out = c.if-state-bytes.false in
    let inside : s.place < length c.args.bytes.now = omega (arith, out) in
    let above = c.if-opcode-top.true in
    let test : nat_lt (highest_opcode s.settings.is_lazy) (bit_and c.args.byte 0xf0) ≡ true =
    ap (λ n. nat_lt n (bit_and c.args.byte 0xf0)) (sym c.highest-top.ensures) ∙ grind (arith, nat_tests, above) in
    unknown (range_of s) c.args.pointer c.args.bytes.now s.place c.args.byte (c.requires.byte inside) test

pub instruction_error-requires-clause-unreadable : goal.instruction_error-requires-clause-unreadable
instruction_error-requires-clause-unreadable c =
    let s = c.args.state.now in
    let out = c.if-state-bytes.false in
    let inside : s.place < length c.args.bytes.now = omega (arith, out) in
    let known = c.if-opcode-top.false in
    let test : nat_lt (highest_opcode s.settings.is_lazy) (bit_and c.args.byte 0xf0) ≡ false =
    ap (λ n. nat_lt n (bit_and c.args.byte 0xf0)) (sym c.highest-top.ensures) ∙ grind (arith, nat_tests, known) in
    subst (λ r. IsErr r) (unread (range_of s) c.args.pointer c.args.bytes.now s.place c.args.byte (c.requires.byte inside) test c.requires.fault)
    c.requires.fault

pub returns : goal.returns
returns c =
    let s = c.args.state.now in
    let out = c.if-state-bytes.false in
    let inside : s.place < length c.args.bytes.now = omega (arith, out) in
    let known = c.if-opcode-top.false in
    let test : nat_lt (highest_opcode s.settings.is_lazy) (bit_and c.args.byte 0xf0) ≡ false =
    ap (λ n. nat_lt n (bit_and c.args.byte 0xf0)) (sym c.highest-top.ensures) ∙ grind (arith, nat_tests, known) in
    unread (range_of s) c.args.pointer c.args.bytes.now s.place c.args.byte (c.requires.byte inside) test c.requires.fault
    ∙ c.instruction_error.ensures
