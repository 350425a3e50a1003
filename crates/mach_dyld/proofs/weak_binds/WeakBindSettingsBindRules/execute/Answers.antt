use Rattle.mach_dyld.proofs.BindNames.{◌≢◌, ◌≤◌, ap, sym, arith, bit_and, Ok, refl, range_of}
use Rattle.mach_dyld.specs.Sites.{site_in}
use Rattle.mach_dyld.specs.declared.imports.settings.Settings.{Settings}
use Rattle.mach_dyld.proofs.StreamReading.{sixteens, weak_done, weak_name, weak_other, weak_unknown}
use Rattle.mach_dyld.proofs.weak_binds.WeakBindSettingsBindRules.execute.Goals as goal

pub returns-in-0-clause-value : goal.returns-in-0-clause-value
returns-in-0-clause-value c =
    let s = c.args.state.now in
    rw (weak_done (range_of s) c.args.pointer c.args.bytes.now s.place c.args.byte c.requires.byte c.in-0.is c.requires.within)
    (ap Ok (c.go_to.ensures.state c.args.pointer))

pub returns-in-0-clause-site : goal.returns-in-0-clause-site
returns-in-0-clause-site c =
    let s = c.args.state.now in
    rw (weak_done (range_of s) c.args.pointer c.args.bytes.now s.place c.args.byte c.requires.byte c.in-0.is c.requires.within)
    (ap (λ (n : Settings). Ok (site_in n)) (sym c.go_to.ensures.settings))

pub returns-in-64-clause-value : goal.returns-in-64-clause-value
returns-in-64-clause-value c =
    let s = c.args.state.now in
    rw (weak_name (range_of s) c.args.pointer c.args.bytes.now s.place c.args.byte c.requires.byte c.in-64.is)
    (c.execute_name.ensures.value c.args.pointer)

pub returns-in-64-clause-site : goal.returns-in-64-clause-site
returns-in-64-clause-site c =
    let s = c.args.state.now in
    rw (weak_name (range_of s) c.args.pointer c.args.bytes.now s.place c.args.byte c.requires.byte c.in-64.is)
    c.execute_name.ensures.site

pub returns-in-80-clause-value : goal.returns-in-80-clause-value
returns-in-80-clause-value c =
    let s = c.args.state.now in
    let is = c.in-80.is in
    rw (weak_other (range_of s) c.args.pointer c.args.bytes.now s.place c.args.byte c.requires.byte (grind (arith, is)) (grind (arith, is)) (grind (arith, is))
    (grind (arith, is)))
    c.execute.ensures.value

pub returns-in-80-clause-site : goal.returns-in-80-clause-site
returns-in-80-clause-site c =
    let s = c.args.state.now in
    let is = c.in-80.is in
    rw (weak_other (range_of s) c.args.pointer c.args.bytes.now s.place c.args.byte c.requires.byte (grind (arith, is)) (grind (arith, is)) (grind (arith, is))
    (grind (arith, is)))
    c.execute.ensures.site

pub returns-in_default-clause-value : goal.returns-in_default-clause-value
returns-in_default-clause-value c =
    let s = c.args.state.now in
    let whole = sixteens (range_of s) c.args.pointer c.args.bytes.now s.place c.args.byte c.requires.byte in
    let some : bit_and c.args.byte 0xf0 ≢ 0x00 = grind arith in
    let none : 0x40 ≤ bit_and c.args.byte 0xf0 → bit_and c.args.byte 0xf0 ≤ 0xc0 → ⊥ = λ from upto. grind (arith, whole, from, upto) in
    rw (weak_unknown (range_of s) c.args.pointer c.args.bytes.now s.place c.args.byte c.requires.byte some none) refl
