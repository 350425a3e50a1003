use Rattle.std.proofs.Common.{◌≡◌, ◌∙◌, ◌+◌, ◌-◌, ◌<◌, ◌++◌, ℕ, suc, length, map, reverse, drop, get_or, ap, arith}
use Rattle.std.proofs.lemmas.List.{map_push}
use Rattle.mach_resolve.specs.Following.{edges_of}
use Rattle.mach_resolve.specs.ResolveViews.{input_view, edge_view}
use Rattle.mach_resolve.specs.declared.reexports.Edge.{Edge}
use Rattle.mach_resolve.proofs.Pushed.{edge_at, edges_long}
use Rattle.mach_resolve.proofs.Walks.{one_more}
use Rattle.mach_resolve.proofs.reexports.push_edges.Goals as goal

pub loop-done-preserved : goal.loop-done-preserved
loop-done-preserved g c =
    let f = c.args.file.now in
    let n = c.len-count.result in
    let k = c.loop-done.done in
    let j = n - (k + 1) in
    let r = c.index.result.now in
    let es = edges_of (input_view f) in
    let rest = reverse (map edge_view c.args.left.now.items) in
    let e : Edge = record { from = f.name; to = r } in
    let inside : j < length f.reexports.items = omega (arith, c.len-count.ensures, c.loop-done-test.true) in
    let place : n - 1 - k ≡ j = omega (arith, c.loop-done-test.true) in
    let next : n - k ≡ suc j = omega (arith, c.loop-done-test.true) in
    let at : r ≡ get_or f.reexports.items j r = c.index.ensures ∙ ap (λ (i : ℕ). get_or f.reexports.items i r) place in
    one_more es rest (map edge_view c.loop-done.left.items) (map edge_view c.push.new.self.items) (edge_view e) (edge_view e) j
    (ap (map edge_view) c.in_ok-push.ensures.items ∙ map_push edge_view c.loop-done.left.items e)
    (edge_at f j r inside at) (omega (arith, inside, edges_long f))
    (c.loop-done.invariant ∙ ap (λ (i : ℕ). drop i es ++ rest) next)
