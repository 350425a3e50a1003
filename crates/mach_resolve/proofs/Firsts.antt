-- The first bindings of an image, if each of them can be read.
use Rattle.std.proofs.Common.{◌≡◌, ◌≤◌, ◌++◌, ◌∷◌, [], ◌∙◌, ℕ, ◌+◌, List, Result, Ok, true, false, sym, ap, length, map, take, arith}
use Rattle.std.proofs.lemmas.Bool.{le-ltb, lt-ltb}
use Rattle.std.proofs.lemmas.List.{append-nil, length-append, length-map, take-append-le, take_all}
use Rattle.mach_base.specs.Fault.{Fault}
use Rattle.mach_parts.specs.Bindings.{Binding}
use Rattle.goblin_mach.specs.declared.macho.MachO.{MachO}
use Rattle.mach_resolve.specs.Resolved.{HoldsItems, HoldsFirst}

abbrev there : Binding → Result Binding Fault
there b = Ok b

-- all of them
pub first_all : {A : Type 0} (limit : ℕ) (m : MachO A) (items rest : List (Result Binding Fault)) (bs : List Binding) → HoldsItems m items
    → items ≡ map there bs ++ rest → rest ≡ [] → length bs ≤ limit → HoldsFirst limit m bs false
first_all limit m items rest bs holds is none within =
    let all : items ≡ map there bs = is ∙ ap (λ back. map there bs ++ back) none ∙ append-nil (map there bs) in
    let many : length items ≡ length bs = ap length all ∙ length-map bs there in
    let few : length items ≤ limit = omega (arith, many, within) in
    record {
      items = items;
      holds = holds;
      are_first = take_all limit items few ∙ all;
      more_is = sym (le-ltb limit (length items) few);
    }

-- as many as the limit, and an item after them
pub first_cut : {A : Type 0} (limit : ℕ) (m : MachO A) (items all rest : List (Result Binding Fault)) (item : Result Binding Fault) (bs : List Binding)
    → HoldsItems m items → items ≡ map there bs ++ all → all ≡ item ∷ rest → length bs ≤ limit → limit ≤ length bs → HoldsFirst limit m bs true
first_cut limit m items all rest item bs holds is more within many =
    let are : items ≡ map there bs ++ item ∷ rest = is ∙ ap (λ back. map there bs ++ back) more in
    let front : length (map there bs) ≡ length bs = length-map bs there in
    let long : length items ≡ length (map there bs) + length (item ∷ rest) = ap length are ∙ length-append (map there bs) (item ∷ rest) in
    record {
      items = items;
      holds = holds;
      are_first = ap (λ xs. take limit xs) are ∙ take-append-le limit (map there bs) (item ∷ rest) (omega (arith, front, many))
          ∙ take_all limit (map there bs) (omega (arith, front, within));
      more_is = sym (lt-ltb limit (length items) (omega (arith, front, long, within)));
    }
