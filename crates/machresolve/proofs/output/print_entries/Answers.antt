use Rattle.std.proofs.Common.{◌≡◌, ◌∙◌, ◌+◌, ◌++◌, ◌≤◌, ℕ, map, take, get_or, length, sym, ap, subst, arith}
use Rattle.std.proofs.lemmas.List.{map_push, take_more, length-map, length-take-le}
use Rattle.std.specs.Io.KnownBytes.{Appends}
use Rattle.mach_base.proofs.Written.{Appends-both}
use Rattle.machresolve.specs.Lines.{entry_heading, entry_text, entries_text}
use Rattle.machresolve.specs.CallViews.{call_view_of}
use Rattle.machresolve.specs.ReportViews.{outcome_view}
use Rattle.machresolve.proofs.Printed.{entries_push}
use Rattle.machresolve.proofs.output.print_entries.Goals as goal

pub outcomes-preserved : goal.outcomes-preserved
outcomes-preserved g c =
    let call = call_view_of c.args.call.now in
    let outcomes = c.args.outcomes.now in
    let i = c.outcomes.index in
    let x = c.index-outcomes-index.result in
    let before = map outcome_view (take i outcomes) in
    let first = g.O.Write.contents c.outcomes.out in
    let last = g.O.Write.contents c.print_entry.new.out in
    let within : i ≤ length outcomes = omega (arith, c.outcomes-test.true) in
    let many : i ≡ length before = sym (length-map (take i outcomes) outcome_view ∙ length-take-le i outcomes within) in
    let number : i ≡ 0 + length before = omega (arith, many) in
    subst (Appends (g.O.Write.contents c.args.out.now) last)
    (sym (ap (λ xs. entries_text call 0 (map outcome_view xs)) (take_more outcomes i x c.outcomes-test.true)
    ∙ (ap (entries_text call 0) (map_push outcome_view (take i outcomes) (get_or outcomes i x))
    ∙ entries_push call 0 before (outcome_view (get_or outcomes i x)))))
    (Appends-both _ _ _ (entries_text call 0 before) _ c.outcomes.invariant
    (subst (λ y. Appends first last (entry_heading (0 + length before) ++ entry_text call (outcome_view y))) c.index-outcomes-index.is
    (subst (λ (k : ℕ). Appends first last (entry_heading k ++ entry_text call (outcome_view x))) number c.in_ok-print_entry.ensures)))
