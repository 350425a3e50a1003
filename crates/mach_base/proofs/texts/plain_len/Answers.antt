use Rattle.std.proofs.Common.{inl, inr, sym, ◌∙◌, arith}
use Rattle.std.proofs.lemmas.Bool.{cases_lt}
use Rattle.mach_base.proofs.Lanes.{none_stops, lowest_stops, first_stop}
use Rattle.mach_base.proofs.texts.plain_len.Goals as goal

pub returns-then-stops-ne0-clause-value : goal.returns-then-stops-ne0-clause-value
returns-then-stops-ne0-clause-value c =
    let xs = c.args.bytes.now in
    let i = c.loop-len.len in
    let found = lowest_stops xs i c.stops_at-stops.result (omega arith) c.stops_at-stops.ensures (omega arith) in
    first_stop xs _ (omega (arith, found.0)) (λ k l. elim (cases_lt k i) [ inl early ↦ c.loop-len.invariant.1 k early | inr late ↦ found.1 k late l ])
    (λ l. found.2)

pub returns-then-stops-ne0-clause-within : goal.returns-then-stops-ne0-clause-within
returns-then-stops-ne0-clause-within c =
    omega (arith, (lowest_stops c.args.bytes.now c.loop-len.len c.stops_at-stops.result (omega arith) c.stops_at-stops.ensures (omega arith)).0)

pub loop-len-preserved : goal.loop-len-preserved
loop-len-preserved c =
    let xs = c.args.bytes.now in
    let i = c.loop-len.len in
    let none = none_stops xs i c.stops_at-stops.result (omega arith) c.stops_at-stops.ensures (omega arith) in
    (omega arith, λ k l. elim (cases_lt k i) [ inl early ↦ c.loop-len.invariant.1 k early | inr late ↦ none k late l ])

pub returns-else-not-is_stop-clause-value : goal.returns-else-not-is_stop-clause-value
returns-else-not-is_stop-clause-value c =
    first_stop c.args.bytes.now _ c.loop-len-2.invariant.0 c.loop-len-2.invariant.1 (λ l. sym c.is_stop.ensures ∙ c.if-not-is_stop.false)

pub returns-after-loop-len-2-clause-value : goal.returns-after-loop-len-2-clause-value
returns-after-loop-len-2-clause-value c =
    first_stop c.args.bytes.now _ c.loop-len-2.invariant.0 c.loop-len-2.invariant.1 (λ l. absurd (omega arith))
