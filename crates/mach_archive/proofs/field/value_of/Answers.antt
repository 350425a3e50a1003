use Rattle.std.proofs.Common.{◌-◌, get_or, arith}
use Rattle.std.proofs.lemmas.Int.Digits.{digits_value_more}
use Rattle.mach_archive.proofs.Digits.{digit_at_index, one_more_digit, digits_small}
use Rattle.mach_archive.proofs.field.value_of.Goals as goal

pub overflow_mul-number : goal.overflow_mul-number
overflow_mul-number c =
    let d = digit_at_index c.args.base c.args.text.now c.loop-c.c-index c.requires.base c.requires.digits (omega arith) in
    let next = one_more_digit c.args.base c.loop-c.number (get_or c.args.text.now c.loop-c.c-index 0 - 48) c.loop-c.c-index c.requires.base d.below
    c.loop-c.invariant.below (omega arith) in
    rw c.from.ensures (omega (arith, next.0, next.1))

pub overflow_add-number : goal.overflow_add-number
overflow_add-number c =
    let d = digit_at_index c.args.base c.args.text.now c.loop-c.c-index c.requires.base c.requires.digits (omega arith) in
    let next = one_more_digit c.args.base c.loop-c.number (get_or c.args.text.now c.loop-c.c-index 0 - 48) c.loop-c.c-index c.requires.base d.below
    c.loop-c.invariant.below (omega arith) in
    rw c.from.ensures (omega (arith, next.0, next.1, c.from-in-loop-c.ensures))

pub loop-c-preserved : goal.loop-c-preserved
loop-c-preserved c =
    let d = digit_at_index c.args.base c.args.text.now c.loop-c.c-index c.requires.base c.requires.digits (omega arith) in
    let next = one_more_digit c.args.base c.loop-c.number (get_or c.args.text.now c.loop-c.c-index 0 - 48) c.loop-c.c-index c.requires.base d.below
    c.loop-c.invariant.below (omega arith) in
    let more = digits_value_more c.args.base c.args.text.now c.loop-c.c-index (omega arith) in
    rw c.from.ensures
    (record {
      value = rw (more, ← c.loop-c.invariant.value) (omega (arith, d.value, c.from-in-loop-c.ensures));
      below = omega (arith, next.0, c.from-in-loop-c.ensures);
    })

pub returns-clause-small : goal.returns-clause-small
returns-clause-small c =
    digits_small c.args.base c.loop-c.number c.loop-c.c-index c.requires.base c.loop-c.invariant.below (omega arith)
