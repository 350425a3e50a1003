use Rattle.mach_dyld.proofs.BindNames.{◌≡◌, ◌∙◌, refl, sym, ap, ℕ, true, false, arith, nat_lt, nat_tests, bit_and, Ok, executed_by, range_of, state_of}
use Rattle.mach_dyld.specs.Instructions.{nothing}
use Rattle.mach_dyld.specs.Bindings.{highest_opcode}
use Rattle.mach_dyld.proofs.BindingReading.{unknown, at_done, as_read}
use Rattle.mach_dyld.specs.Sites.{site_in}
use Rattle.mach_dyld.specs.declared.imports.settings.Settings.{Settings}
use Rattle.mach_dyld.proofs.bindings.BindingSettingsBindRules.execute.Goals as goal

pub returns-then-opcode-top-clause-value :
    goal.returns-then-opcode-top-clause-value
returns-then-opcode-top-clause-value c =
    let s = c.args.state.now in
    let above = c.if-opcode-top.true in
    let test : nat_lt (highest_opcode s.settings.is_lazy) (bit_and c.args.byte 0xf0) ≡ true =
    ap (λ n. nat_lt n (bit_and c.args.byte 0xf0)) (sym c.highest-top.ensures) ∙ grind (arith, nat_tests, above) in
    rw (unknown (range_of s) c.args.pointer c.args.bytes.now s.place c.args.byte c.requires.byte test) refl

pub returns-then-opcode-eq-BIND_OPCODE_DONE-clause-value : goal.returns-then-opcode-eq-BIND_OPCODE_DONE-clause-value
returns-then-opcode-eq-BIND_OPCODE_DONE-clause-value c =
    let s = c.args.state.now in
    rw (at_done (range_of s) c.args.pointer c.args.bytes.now s.place c.args.byte c.requires.byte c.if-opcode-eq-BIND_OPCODE_DONE.true)
    (ap (λ (n : ℕ). executed_by c.args.pointer (Ok (nothing, n)) (state_of s)) (sym c.following_done-to.ensures) ∙ ap Ok (c.go_to.ensures.state c.args.pointer))

pub returns-clause-value : goal.returns-clause-value
returns-clause-value c =
    let s = c.args.state.now in
    let known = c.if-opcode-top.false in
    let test : nat_lt (highest_opcode s.settings.is_lazy) (bit_and c.args.byte 0xf0) ≡ false =
    ap (λ n. nat_lt n (bit_and c.args.byte 0xf0)) (sym c.highest-top.ensures) ∙ grind (arith, nat_tests, known) in
    rw (as_read (range_of s) c.args.pointer c.args.bytes.now s.place c.args.byte c.requires.byte test c.if-opcode-eq-BIND_OPCODE_DONE.false)
    c.execute.ensures.value

pub returns-then-opcode-eq-BIND_OPCODE_DONE-clause-site : goal.returns-then-opcode-eq-BIND_OPCODE_DONE-clause-site
returns-then-opcode-eq-BIND_OPCODE_DONE-clause-site c =
    let s = c.args.state.now in
    rw (at_done (range_of s) c.args.pointer c.args.bytes.now s.place c.args.byte c.requires.byte c.if-opcode-eq-BIND_OPCODE_DONE.true)
    (ap (λ (n : Settings). Ok (site_in n)) (sym c.go_to.ensures.settings))

pub returns-clause-site : goal.returns-clause-site
returns-clause-site c =
    let s = c.args.state.now in
    let known = c.if-opcode-top.false in
    let test : nat_lt (highest_opcode s.settings.is_lazy) (bit_and c.args.byte 0xf0) ≡ false =
    ap (λ n. nat_lt n (bit_and c.args.byte 0xf0)) (sym c.highest-top.ensures) ∙ grind (arith, nat_tests, known) in
    rw (as_read (range_of s) c.args.pointer c.args.bytes.now s.place c.args.byte c.requires.byte test c.if-opcode-eq-BIND_OPCODE_DONE.false)
    c.execute.ensures.site
