use Rattle.std.proofs.Common.{◌*◌, get_or, arith, ap, sym, below_more, ℕ, refl}
use Rattle.mach_base.proofs.Groups.{groups_value-take, group_below, weight_below}
use Rattle.std.proofs.lemmas.Grind.{pow_more}
use Rattle.mach_base.proofs.leb128.front_groups.Goals as goal

pub overflow_add-value : goal.overflow_add-value
overflow_add-value c =
    let i = c.groups.index in
    let e = ap (λ (x : ℕ). x * c.groups.weight) c.from.ensures in
    omega (
      arith,
      group_below c.groups.value (get_or c.args.bytes.now i 0) c.groups.weight c.groups.invariant.small,
      e,
      weight_below i c.groups.weight c.groups.invariant.weight c.groups-test.true,
    )

pub overflow_mul-weight : goal.overflow_mul-weight
overflow_mul-weight c = omega (arith, weight_below c.groups.index c.groups.weight c.groups.invariant.weight c.groups-test.true)

pub returns-then-last-lt128-clause-found : goal.returns-then-last-lt128-clause-found
returns-then-last-lt128-clause-found c =
    let i = c.groups.index in
    let bytes = c.args.bytes.now in
    let e = ap (λ (x : ℕ). x * c.groups.weight) c.from.ensures in
    record {
      inside = c.if-index-bytes.false;
      at_most_nine = omega arith;
      go_on = c.groups.invariant.on;
      last = refl;
      ninth = λ more. absurd (omega arith);
      value = rw (c.from.ensures, c.groups.invariant.value, c.groups.invariant.weight) (sym (groups_value-take bytes i c.if-index-bytes.false));
      below = omega (arith, e, group_below c.groups.value (get_or bytes i 0) c.groups.weight c.groups.invariant.small);
      weight = rw c.groups.invariant.weight (sym (pow_more 128 i));
      fits = weight_below i c.groups.weight c.groups.invariant.weight c.groups-test.true;
    }

pub groups-preserved : goal.groups-preserved
groups-preserved c =
    let i = c.groups.index in
    let bytes = c.args.bytes.now in
    let e = ap (λ (x : ℕ). x * c.groups.weight) c.from.ensures in
    record {
      inside = omega arith;
      weight = rw c.groups.invariant.weight (sym (pow_more 128 i));
      value = rw (c.from.ensures, c.groups.invariant.value, c.groups.invariant.weight) (sym (groups_value-take bytes i c.if-index-bytes.false));
      small = omega (arith, e, group_below c.groups.value (get_or bytes i 0) c.groups.weight c.groups.invariant.small);
      on = below_more _ _ c.groups.invariant.on c.if-last-lt128.false;
    }
