use Rattle.std.proofs.Common.{◌≡◌, ◌∙◌, ◌<◌, ◌++◌, true, false, length, map, reverse, set, get_or, refl, sym, ap, subst, arith}
use Rattle.std.specs.Prelude.{option_map}
use Rattle.std.proofs.lemmas.List.{map_push, length-map, get_or_default}
use Rattle.mach_resolve.specs.Following as following
use Rattle.mach_resolve.specs.Following.{edges_of}
use Rattle.mach_resolve.specs.ResolveViews.{input_view, input_views, edge_view}
use Rattle.mach_resolve.proofs.Found.{file_at}
use Rattle.mach_resolve.proofs.Walks.{Holds, popped, emptied, ended, passed_gap, passed_again, passed_first}
use Rattle.mach_resolve.proofs.reexports.walk.Goals as goal

pub returns-in_default : goal.returns-in_default
returns-in_default g c =
    let files = input_views c.args.files.now in
    let starts = reverse (map edge_view c.args.starts.items) in
    let met : following.Met = record { places = c.edges.places.items; gap = option_map edge_view c.edges.gap } in
    let left = c.edges.left.items in
    let none : length left ≡ 0 = omega (arith, c.edges.left.ok.0, c.in_default.ensures.cases.0) in
    ended files starts met c.edges.is_met.items
    (subst (λ xs. Holds files starts xs met c.edges.is_met.items) (emptied (map edge_view left) (length-map left edge_view ∙ none)) c.edges.invariant)

pub edges-preserved-in-None : goal.edges-preserved-in-None
edges-preserved-in-None g c =
    let files = input_views c.args.files.now in
    let starts = reverse (map edge_view c.args.starts.items) in
    let met : following.Met = record { places = c.edges.places.items; gap = option_map edge_view c.edges.gap } in
    let marks = c.edges.is_met.items in
    let e = edge_view c.in-Some.edge in
    let below = map edge_view c.pop.new.self.items in
    let top = popped (map edge_view c.edges.left.items) below e (ap (map edge_view) c.in-Some.ensures.items
    ∙ map_push edge_view c.pop.new.self.items c.in-Some.edge) in
    let held = subst (λ xs. Holds files starts xs met marks) top c.edges.invariant in
    subst (λ gap. Holds files starts (reverse below) (record { places = c.edges.places.items; gap = gap }) marks) (sym c.keep-gap.ensures)
    (passed_gap files starts (reverse below) e met marks (sym c.in-None.ensures.place) held)

pub edges-preserved-in-Continue-branch-3 : goal.edges-preserved-in-Continue-branch-3
edges-preserved-in-Continue-branch-3 g c =
    let files = input_views c.args.files.now in
    let items = c.args.files.now.items.items in
    let starts = reverse (map edge_view c.args.starts.items) in
    let gap = option_map edge_view c.edges.gap in
    let met : following.Met = record { places = c.edges.places.items; gap = gap } in
    let marks = c.edges.is_met.items in
    let e = edge_view c.in-Some.edge in
    let i = c.in-Some-place_of.place in
    let f = c.index-then-not-index.result.now in
    let below = map edge_view c.pop.new.self.items in
    let top = popped (map edge_view c.edges.left.items) below e (ap (map edge_view) c.in-Some.ensures.items
    ∙ map_push edge_view c.pop.new.self.items c.in-Some.edge) in
    let held = subst (λ xs. Holds files starts xs met marks) top c.edges.invariant in
    let inside : i < length files = omega (arith, c.in-Some-place_of.ensures.inside, length-map items input_view) in
    let within : i < length marks = omega (arith, inside, c.edges.invariant.marks_are.long) in
    let off : get_or marks i false ≡ false = sym (c.index.ensures ∙ get_or_default marks i c.index.result.now false within) ∙ c.if-not-index.true in
    let at = file_at items items i f refl c.in-Some-place_of.ensures.inside c.index-then-not-index.ensures in
    let after = passed_first files starts (reverse below) e met marks i (input_view f) (sym c.in-Some-place_of.ensures.place) at inside off held in
    subst (λ xs. Holds files starts xs (record { places = c.push.new.self.items; gap = gap }) (set marks i true))
    (sym c.in_ok-push_edges-in-Some-place_of.ensures)
    (subst (λ ps. Holds files starts (edges_of (input_view f) ++ reverse below) (record { places = ps; gap = gap }) (set marks i true))
    (sym c.in_ok-push-in-Some-place_of.ensures.items) after)

pub edges-preserved : goal.edges-preserved
edges-preserved g c =
    let files = input_views c.args.files.now in
    let items = c.args.files.now.items.items in
    let starts = reverse (map edge_view c.args.starts.items) in
    let met : following.Met = record { places = c.edges.places.items; gap = option_map edge_view c.edges.gap } in
    let marks = c.edges.is_met.items in
    let e = edge_view c.in-Some.edge in
    let i = c.in-Some-place_of.place in
    let below = map edge_view c.pop.new.self.items in
    let top = popped (map edge_view c.edges.left.items) below e (ap (map edge_view) c.in-Some.ensures.items
    ∙ map_push edge_view c.pop.new.self.items c.in-Some.edge) in
    let held = subst (λ xs. Holds files starts xs met marks) top c.edges.invariant in
    let inside : i < length files = omega (arith, c.in-Some-place_of.ensures.inside, length-map items input_view) in
    let within : i < length marks = omega (arith, inside, c.edges.invariant.marks_are.long) in
    let on : get_or marks i false ≡ true = sym (c.index.ensures ∙ get_or_default marks i c.index.result.now false within) ∙ c.if-not-index.false in
    passed_again files starts (reverse below) e met marks i (sym c.in-Some-place_of.ensures.place) inside on held
