use Rattle.std.proofs.Common.{◌∙◌, ◌∷◌, ℕ, List, Option, Ok, Err, IfOk, ap, sym, subst}
use Rattle.std.specs.Prelude.{Result}
use Rattle.mach_base.specs.Fault.{Fault, fault_of}
use Rattle.mach_dyld.specs.BindCursors.{TextIsAt}
use Rattle.mach_dyld.specs.Sites.{Site}
use Rattle.mach_dyld.specs.Cut.{cut_range}
use Rattle.mach_dyld.specs.WeakBinds.{WeakBind}
use Rattle.mach_dyld.specs.WeakBindsLeft.{weak_bind_view}
use Rattle.mach_c_places.specs.WeakCursors.{name_of_weak, placed_weak_read, weak_sites_left, weak_walk_left}
use Rattle.mach_c_places.specs.declared.weak_binds.WeakBindWalk.{WeakBindWalk}
use Rattle.goblin_mach_c.specs.BindingPlaces.{places_of}
use Rattle.goblin_mach_c.specs.Sited.{placed}
use Rattle.goblin_mach_c.specs.WeakBindsAfter.{IsOverWeak, weak_input, weak_left_by, weak_sites_by}
use Rattle.goblin_mach_c.proofs.FrontStreams.{weak_occurs}
use Rattle.goblin_mach_c.proofs.weak_binds.WeakRowsItemRows.next.Goals as goal

abbrev with_places : Option WeakBindWalk → List (Result (WeakBind × ℕ) Fault)
with_places w = placed (weak_left_by w) (places_of (weak_sites_by w))

pub returns-in-Ok-clause-says : goal.returns-in-Ok-clause-says
returns-in-Ok-clause-says c = λ x over.
    let o = subst (IsOverWeak x) c.in-Some.is over in
    let input = weak_input x o.0 in
    let found = c.in_ok-placed-in-Some in
    let new = c.next_placed.new.self in
    let p = c.in-Ok.placed in
    let text : TextIsAt o.0.bytes p.name_place (name_of_weak p.row) =
    subst (λ f. IfOk f (λ q. TextIsAt o.0.bytes q.name_place (name_of_weak q.row))) c.in-Ok.is (found.ensures.placed input (cut_range o.0) o.4) in
    let items = found.ensures.items ∙ ap (λ f. placed_weak_read f ∷ weak_walk_left new) c.in-Ok.is in
    let site = rw c.in-Ok.is at found.ensures.site in (
      Ok (weak_bind_view p.row, p.name_place),
      ap with_places c.in-Some.is
          ∙ ap (λ (l : List (Result WeakBind Fault)). placed l (places_of (weak_sites_left c.in-Some.walk))) items
          ∙ ap (λ (l : List Site). placed (Ok (weak_bind_view p.row) ∷ weak_walk_left new) (places_of l)) site.1,
      record {
        numbers = c.row_of.ensures.numbers;
        name = c.row_of.ensures.name x.bytes (weak_occurs o.1 x.bytes o.0.bytes p.row p.name_place o.3 text);
      },
    )

pub returns-in-Err-clause-says : goal.returns-in-Err-clause-says
returns-in-Err-clause-says c = λ x over.
    let found = c.in_ok-placed-in-Some in
    let new = c.next_placed.new.self in
    let f = fault_of c.in-Err.why in
    let ended = rw c.in-Err.is at found.ensures.fault in
    let items = found.ensures.items ∙ ap (λ i. placed_weak_read i ∷ weak_walk_left new) c.in-Err.is in (
      Err f,
      ap with_places c.in-Some.is
          ∙ ap (λ (l : List (Result WeakBind Fault)). placed l (places_of (weak_sites_left c.in-Some.walk))) items
          ∙ ap (λ (l : List (Result WeakBind Fault)). Err f ∷ placed l (places_of (weak_sites_left new))) (sym ended.left),
      c.refused_row.ensures,
    )
