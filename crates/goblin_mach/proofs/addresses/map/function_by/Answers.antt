use Rattle.std.proofs.Common.{ℕ, List, Result, Some, None, arith, Ok, map, refl, subst}
use Rattle.mach_base.specs.Fault.{Fault}
use Rattle.goblin_mach.specs.NearestSymbol.{IsAround}
use Rattle.goblin_mach.proofs.AddressMaps.{starts_around}
use Rattle.goblin_mach.proofs.addresses.map.function_by.Goals as goal

pub returns-in_err-start : goal.returns-in_err-start
returns-in_err-start c =
    let none = rw c.in_err-start.was at c.start_below.ensures in
    rw c.from_residual.ensures (λ start there inside less. none start there less)

pub returns-then-start-section : goal.returns-then-start-section
returns-then-start-section c = λ start there inside less.
    let last = rw c.in_ok-start.was at c.start_below.ensures in
    omega (arith, last.2 start there less, inside, c.if-start-section.true)

pub returns-in-Some : goal.returns-in-Some
returns-in-Some c =
    let starts : List (Result ℕ Fault) = map Ok c.args.starts.now in
    let last = rw c.in_ok-start.was at c.start_below.ensures in
    let next = rw c.in-Some.is at c.start_after.ensures in record {
      inside = omega (arith, c.if-start-section.false);
      around = subst (λ (limit : ℕ). IsAround starts c.args.address limit (Some c.in_ok-start.start) c.min-end.result) c.saturating_add-limit.ensures
          (starts_around starts c.args.address c.saturating_add-limit.result c.in_ok-start.start c.min-end.result (Some c.in-Some.next) last next
          c.min-end.ensures);
    }

pub returns-in-None : goal.returns-in-None
returns-in-None c =
    let starts : List (Result ℕ Fault) = map Ok c.args.starts.now in
    let last = rw c.in_ok-start.was at c.start_below.ensures in
    let next = rw c.in-None.is at c.start_after.ensures in
    let end = c.saturating_add-limit.result in record {
      inside = omega (arith, c.if-start-section.false);
      around = subst (λ (limit : ℕ). IsAround starts c.args.address limit (Some c.in_ok-start.start) end) c.saturating_add-limit.ensures
          (starts_around starts c.args.address end c.in_ok-start.start end None last next refl);
    }
