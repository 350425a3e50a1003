use Rattle.std.proofs.Common.{◌≡◌, ◌∙◌, ◌+◌, ◌-◌, ◌<◌, ◌++◌, ◌∷◌, [], ℕ, suc, length, map, drop, get_or, sym, ap, arith}
use Rattle.std.proofs.lemmas.List.{map_push, append-nil, length-map, get_or-map}
use Rattle.mach_resolve.specs.Files as files
use Rattle.mach_resolve.specs.Following.{met_first}
use Rattle.mach_resolve.specs.ResolveViews.{input_view, edge_view}
use Rattle.mach_resolve.proofs.Walks.{one_more}
use Rattle.mach_resolve.proofs.reexports.following_all.Goals as goal

pub loop-done-preserved : goal.loop-done-preserved
loop-done-preserved g c =
    let items = c.args.files.now.items.items in
    let n = c.len-count.result in
    let k = c.loop-done.done in
    let j = n - (k + 1) in
    let f = c.index.result.now in
    let start : files.File → _ = λ (x : files.File). met_first x.name in
    let es = map start (map input_view items) in
    let e = met_first f.name.now in
    let inside : j < length items = omega (arith, c.len-count.ensures, c.loop-done-test.true) in
    let inside' : j < length (map input_view items) = omega (arith, inside, length-map items input_view) in
    let place : n - 1 - k ≡ j = omega (arith, c.loop-done-test.true) in
    let next : n - k ≡ suc j = omega (arith, c.loop-done-test.true) in
    let at : f ≡ get_or items j f = c.index.ensures ∙ ap (λ (i : ℕ). get_or items i f) place in
    let edge : e ≡ get_or es j e =
    sym (get_or-map start (map input_view items) j (input_view f) e inside'
    ∙ ap start (get_or-map input_view items j f (input_view f) inside ∙ ap input_view (sym at))) in
    one_more es [] (map edge_view c.loop-done.starts.items) (map edge_view c.push.new.self.items) e e j
    (ap (map edge_view) c.in_ok-push.ensures.items ∙ (map_push edge_view c.loop-done.starts.items c.start_at.result
    ∙ ap (λ x. map edge_view c.loop-done.starts.items ++ (x ∷ [])) c.start_at.ensures))
    edge (omega (arith, inside', length-map (map input_view items) start))
    (c.loop-done.invariant ∙ (ap (λ (i : ℕ). drop i es) next ∙ sym (append-nil (drop (suc j) es))))
    ∙ append-nil (drop j es)
