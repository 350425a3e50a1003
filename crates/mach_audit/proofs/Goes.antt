-- A count that visits a list, item by item.
use Rattle.std.proofs.Common.{◌≡◌, ◌<◌, ◌≤◌, ◌+◌, ◌-◌, ◌^◌, arith, min, take, drop, length, get_or, ◌++◌, ◌∷◌, [], ◌∙◌, ℕ, List, map, refl, sym, ap}
use Rattle.std.proofs.Common.{subst, inl, inr, Option, Result, Ok}
use Rattle.std.specs.Prelude.{IsTrue}
use Rattle.std.specs.Result.{result_err}
use Rattle.std.proofs.lemmas.Bool.{ltb-true}
use Rattle.std.proofs.lemmas.List.{at_drop_more, append-nil, append_assoc, map-append, take_more, length-append, length-map, length-take-le}
use Rattle.std.proofs.lemmas.List.Sums.{sum_by-cons}
use Rattle.std.specs.List.{sum_by}
use Rattle.mach_base.specs.Answer.{ErrorMeets}
use Rattle.mach_base.specs.declared.error.Error.TheVariants as errors
use Rattle.mach_base.specs.Fault.{Fault, fault_of}
use Rattle.mach_base.specs.declared.error.Error.{Error}
use Rattle.mach_dyld.specs.Trie.{Entry, Trie}
use Rattle.mach_dyld.specs.TrieRange.{TrieRange}
use Rattle.mach_dyld.specs.Views.{source_trie}
use Rattle.mach_dyld.specs.Walks.{HasGiven}
use Rattle.mach_dyld.specs.declared.export_walk.ExportWalk.{ExportWalk}
use Rattle.mach_dyld.proofs.TrieBegins.{listed_there}
use Rattle.goblin_mach.specs.View.{IsReported}
use Rattle.mach_audit.specs.Sound.{WalkMeets, AreExportItems, all_exports, past_limit}
use Rattle.mach_audit.specs.Reported.{FaultAt, HasMet, placed_fault, faults_each, faults_from, item_place, placed_from}
use Rattle.mach_audit.specs.declared.report.ItemList.{ItemList}
use Rattle.mach_audit.specs.declared.report.ItemList.TheVariants as lists
use Rattle.mach_audit.specs.declared.tally.Tally.{Tally}
use Rattle.mach_audit.proofs.Reported.{met_rest}

-- of all items these are left; the n visited ones came after the items `before`
pub record Goes {A : Type 0} (limit : ℕ) (list : ItemList) (before : List (Option FaultAt)) (all left : List (Option Fault)) (n : ℕ)
    (t : Tally A) : Type 0 where
  pub done : List (Option FaultAt)
  pub same : placed_from list 0 all ≡ done ++ placed_from list n left
  pub met : HasMet limit (before ++ done) t
  pub count : length done ≡ n

-- what a step of a count does with an item
abbrev pub Takes : {A : Type 0} → Option FaultAt → Tally A → Tally A → Type 0
Takes item old new = (limit : ℕ) (items : List (Option FaultAt)) → HasMet limit items old → HasMet limit (items ++ item ∷ []) new

module _ {A : Type 0} (limit : ℕ) (list : ItemList) (before : List (Option FaultAt)) (all : List (Option Fault)) where
  pub goes_init : (t : Tally A) → HasMet limit before t → Goes limit list before all all 0 t
  goes_init t met = record {
    done = [];
    same = refl;
    met = subst (λ (xs : List (Option FaultAt)). HasMet limit xs t) (sym (append-nil before)) met;
    count = refl;
  }

  pub goes_on : (left rest : List (Option Fault)) (n m : ℕ) (fault : Option Fault) (t u : Tally A) → Goes limit list before all left n t
      → left ≡ fault ∷ rest → Takes (placed_fault (item_place list n) fault) t u → m ≡ n + 1 → Goes limit list before all rest m u
  goes_on left rest n m fault t u goes steps takes next =
      let one = placed_fault (item_place list n) fault ∷ [] in record {
        done = goes.done ++ one;
        same = goes.same ∙ ap (λ (xs : List (Option Fault)). goes.done ++ placed_from list n xs) steps
            ∙ ap (λ (k : ℕ). goes.done ++ (one ++ placed_from list k rest)) (sym next) ∙ sym (append_assoc goes.done one (placed_from list m rest));
        met = subst (λ (xs : List (Option FaultAt)). HasMet limit xs u) (append_assoc before goes.done one) (takes limit (before ++ goes.done) goes.met);
        count = omega (arith, goes.count, next, length-append goes.done one);
      }

  -- if some of the limit is left, one more can be counted
  pub goes_small : (left : List (Option Fault)) (n : ℕ) (t : Tally A) → Goes limit list before all left n t → 1 ≤ t.left → n + 1 < 2 ^ 64
  goes_small left n t goes some = omega (arith, goes.met.small, goes.met.left, some, goes.count, length-append before goes.done)

  pub goes_over : (left : List (Option Fault)) (n : ℕ) (t : Tally A) → Goes limit list before all left n t → left ≡ []
      → HasMet limit (before ++ placed_from list 0 all) t
  goes_over left n t goes over =
      let same = goes.same ∙ ap (λ (xs : List (Option Fault)). goes.done ++ placed_from list n xs) over ∙ append-nil goes.done in
      subst (λ (xs : List (Option FaultAt)). HasMet limit (before ++ xs) t) (sym same) goes.met

  pub goes_cut : (left : List (Option Fault)) (n : ℕ) (t : Tally A) → Goes limit list before all left n t → IsTrue t.part.cut
      → HasMet limit (before ++ placed_from list 0 all) t
  goes_cut left n t goes cut =
      let all_met = met_rest limit (before ++ goes.done) (placed_from list n left) t goes.met cut in
      subst (λ (xs : List (Option FaultAt)). HasMet limit xs t) (append_assoc before goes.done (placed_from list n left)
      ∙ ap (λ (xs : List (Option FaultAt)). before ++ xs) (sym goes.same)) all_met

-- the number that follows
pub next_number : (n m : ℕ) → n + 1 < 2 ^ 64 → m ≡ min (n + 1) (2 ^ 64 - 1) → m ≡ n + 1
next_number n m small is = omega (arith, small, is)

-- ---- several lists

each_append : {X : Type 0} (part : ℕ → X → List (Option FaultAt)) (n : ℕ) (xs ys : List X)
    → faults_each part n (xs ++ ys) ≡ faults_each part n xs ++ faults_each part (n + length xs) ys
each_append part n [] ys =
    let same : n ≡ n + 0 = omega arith in
    ap (λ (m : ℕ). faults_each part m ys) same
each_append part n (x ∷ xs) ys =
    let same : n + 1 + length xs ≡ n + length (x ∷ xs) = omega arith in
    ap (λ rest. part n x ++ rest) (each_append part (n + 1) xs ys ∙ ap (λ (m : ℕ). faults_each part (n + 1) xs ++ faults_each part m ys) same)
    ∙ sym (append_assoc (part n x) (faults_each part (n + 1) xs) (faults_each part (n + length (x ∷ xs)) ys))

-- of all lists these are left; those of the n visited ones came after the items `before`
pub record GoesEach {A X : Type 0} (limit : ℕ) (part : ℕ → X → List (Option FaultAt)) (before : List (Option FaultAt)) (all left : List X) (n : ℕ)
    (t : Tally A) : Type 0 where
  pub done : List (Option FaultAt)
  pub same : faults_each part 0 all ≡ done ++ faults_each part n left
  pub met : HasMet limit (before ++ done) t
  pub count : n + length left ≡ length all

module _ {A X : Type 0} (limit : ℕ) (part : ℕ → X → List (Option FaultAt)) (before : List (Option FaultAt)) (all : List X) where
  pub each_init : (left : List X) (t : Tally A) → left ≡ all → HasMet limit before t → GoesEach limit part before all left 0 t
  each_init left t is met = record {
    done = [];
    same = ap (faults_each part 0) (sym is);
    met = subst (λ (xs : List (Option FaultAt)). HasMet limit xs t) (sym (append-nil before)) met;
    count = omega (arith, ap length is);
  }

  pub each_on : (left rest : List X) (n m : ℕ) (x : X) (t u : Tally A) → GoesEach limit part before all left n t → left ≡ x ∷ rest
      → ((limit : ℕ) (items : List (Option FaultAt)) → HasMet limit items t → HasMet limit (items ++ part n x) u) → m ≡ n + 1
      → GoesEach limit part before all rest m u
  each_on left rest n m x t u goes is adds next =
      let one = part n x in record {
        done = goes.done ++ one;
        same = goes.same ∙ ap (λ (xs : List X). goes.done ++ faults_each part n xs) is
            ∙ ap (λ (k : ℕ). goes.done ++ (one ++ faults_each part k rest)) (sym next) ∙ sym (append_assoc goes.done one (faults_each part m rest));
        met = subst (λ (xs : List (Option FaultAt)). HasMet limit xs u) (append_assoc before goes.done one) (adds limit (before ++ goes.done) goes.met);
        count = omega (arith, goes.count, next, ap length is);
      }

  pub each_over : (left : List X) (n : ℕ) (t : Tally A) → GoesEach limit part before all left n t → left ≡ []
      → HasMet limit (before ++ faults_each part 0 all) t
  each_over left n t goes over =
      let same = goes.same ∙ ap (λ (xs : List X). goes.done ++ faults_each part n xs) over ∙ append-nil goes.done in
      subst (λ (xs : List (Option FaultAt)). HasMet limit (before ++ xs) t) (sym same) goes.met

-- ---- a sum over a list, which stays at the greatest number if it exceeds that

pub past_more : {V : Type 0} (f : V → ℕ) (left rest : List V) (x : V) (past new total : ℕ) → left ≡ x ∷ rest → new ≡ min (past + f x) (2 ^ 64 - 1)
    → min (past + sum_by f left) (2 ^ 64 - 1) ≡ total → min (new + sum_by f rest) (2 ^ 64 - 1) ≡ total
past_more f left rest x past new total steps is before = omega (arith, ap (sum_by f) steps, sum_by-cons f x rest, is, before)

pub past_over : {V : Type 0} (f : V → ℕ) (left : List V) (past total : ℕ) → left ≡ [] → past < 2 ^ 64
    → min (past + sum_by f left) (2 ^ 64 - 1) ≡ min total (2 ^ 64 - 1) → past ≡ min total (2 ^ 64 - 1)
past_over f left past total over small before = omega (arith, ap (sum_by f) over, small, before)

pub one_past_more : {S V : Type 0} (view : S → V) (f : V → ℕ) (xs : List S) (i : ℕ) (d : S) (past new total : ℕ) → i < length xs
    → new ≡ min (past + f (view (get_or xs i d))) (2 ^ 64 - 1) → min (past + sum_by f (map view (drop i xs))) (2 ^ 64 - 1) ≡ total
    → min (new + sum_by f (map view (drop (i + 1) xs))) (2 ^ 64 - 1) ≡ total
one_past_more view f xs i d past new total less is before =
    past_more f (map view (drop i xs)) (map view (drop (i + 1) xs)) (view (get_or xs i d)) past new total (at_drop_more (map view) xs i d less) is before

-- the faults of one more part
pub one_part_more : {S V : Type 0} (view : S → V) (part : ℕ → V → List (Option FaultAt)) (xs : List S) (i : ℕ) (d : S) → i < length xs
    → faults_each part 0 (map view (take (i + 1) xs)) ≡ faults_each part 0 (map view (take i xs)) ++ part i (view (get_or xs i d))
one_part_more view part xs i d less =
    let x = get_or xs i d in
    let front = map view (take i xs) in
    let count : 0 + length front ≡ i = omega (arith, length-map (take i xs) view, length-take-le i xs (omega (arith, less))) in
    ap (λ ys. faults_each part 0 (map view ys)) (take_more xs i d less)
    ∙ ap (λ ys. faults_each part 0 ys) (map-append view (take i xs) (x ∷ []))
    ∙ each_append part 0 front (view x ∷ [])
    ∙ ap (λ (n : ℕ). faults_each part 0 front ++ (part n (view x) ++ [])) count
    ∙ ap (λ ys. faults_each part 0 front ++ ys) (append-nil (part i (view x)))

pub length_from : {X : Type 0} (list : ItemList) (n : ℕ) (items : List (Result X Fault)) → length (faults_from list n items) ≡ length items
length_from list n [] = refl
length_from list n (x ∷ items) = omega (arith, length_from list (n + 1) items)

pub from_append : {X : Type 0} (list : ItemList) (n : ℕ) (xs ys : List (Result X Fault))
    → faults_from list n (xs ++ ys) ≡ faults_from list n xs ++ faults_from list (n + length xs) ys
from_append list n [] ys =
    let same : n ≡ n + 0 = omega arith in
    ap (λ (m : ℕ). faults_from list m ys) same
from_append list n (x ∷ xs) ys =
    let same : n + 1 + length xs ≡ n + length (x ∷ xs) = omega arith in
    ap (λ rest. placed_fault (item_place list n) (result_err x) ∷ rest) (from_append list (n + 1) xs ys
    ∙ ap (λ (m : ℕ). faults_from list (n + 1) xs ++ faults_from list m ys) same)

-- one more item at the end of a list
pub from_more : {X : Type 0} (list : ItemList) (n : ℕ) (xs : List (Result X Fault)) (x : Result X Fault) → length xs ≡ n
    → faults_from list 0 (xs ++ x ∷ []) ≡ faults_from list 0 xs ++ placed_fault (item_place list n) (result_err x) ∷ []
from_more list n xs x count =
    let same : 0 + length xs ≡ n = omega (arith, count) in
    from_append list 0 xs (x ∷ []) ∙ ap (λ (m : ℕ). faults_from list 0 xs ++ placed_fault (item_place list m) (result_err x) ∷ []) same

-- ---- exports, each of which can be read

abbrev pub as_item : Entry → Result Entry Fault
as_item x = Ok x

abbrev pub entries_ok : List Entry → List (Result Entry Fault)
entries_ok found = map as_item found

pub ok_more : (found : List Entry) (x : Entry) → entries_ok (found ++ x ∷ []) ≡ entries_ok found ++ Ok x ∷ []
ok_more found x = map-append as_item found (x ∷ [])

-- a count of exports, and one more item
pub export_more : {A : Type 0} (limit n : ℕ) (found : List Entry) (item : Result Entry Fault) (t u : Tally A)
    → HasMet limit (faults_from lists.Exports 0 (entries_ok found)) t → length found ≡ n
    → Takes (placed_fault (item_place lists.Exports n) (result_err item)) t u
    → HasMet limit (faults_from lists.Exports 0 (entries_ok found ++ item ∷ [])) u
export_more limit n found item t u met count takes =
    let same : length (entries_ok found) ≡ n = length-map found as_item ∙ count in
    subst (λ (xs : List (Option FaultAt)). HasMet limit xs u) (sym (from_more lists.Exports n (entries_ok found) item same))
    (takes limit (faults_from lists.Exports 0 (entries_ok found)) met)

pub export_small : {A : Type 0} (limit n : ℕ) (found : List Entry) (t : Tally A) → HasMet limit (faults_from lists.Exports 0 (entries_ok found)) t
    → length found ≡ n → 1 ≤ t.left → n + 1 < 2 ^ 64
export_small limit n found t met count some =
    omega (
      arith,
      met.small,
      met.left,
      some,
      count,
      length_from lists.Exports 0 (entries_ok found),
      length-map found as_item,
    )

-- if a count of them was cut, there are more
pub export_long : {A : Type 0} (limit : ℕ) (found : List Entry) (t : Tally A) → HasMet limit (faults_from lists.Exports 0 (entries_ok found)) t
    → IsTrue t.part.cut → limit < length found
export_long limit found t met cut =
    let long = ltb-true limit (length (faults_from lists.Exports 0 (entries_ok found))) (sym met.reports.cut ∙ cut) in
    omega (arith, long, length_from lists.Exports 0 (entries_ok found), length-map found as_item)

-- what a walk has given, if that is more than the limit
pub given_more : {A : Type 0} (limit : ℕ) (t : TrieRange) (libs : List (List ℕ)) (found : List Entry) (w : ExportWalk A) → HasGiven t libs found w
    → limit < length found → AreExportItems limit t libs (entries_ok found)
given_more limit t libs found w h long = elim h.3 [
  | inl at ↦ (
      let s = w.walker.source in
      let walk : WalkMeets (source_trie s) s.from found =
      record { nodes = h.2; left = _; read = at.1.is_read.read; once = at.1.known.once } in
      past_limit found (subst (λ (x : Trie). WalkMeets x t.from found) h.0 (subst (λ (r : ℕ). WalkMeets (source_trie s) r found) h.1 walk)) long)
  | inr over ↦ all_exports found (listed_there w.walker.source t libs h.0 h.1 over.1)
]

-- the fault of an error that is no refused allocation
pub error_meets : (P : Fault → Type 0) (e : Error) → IsReported e → ErrorMeets P e → P (fault_of e)
error_meets P (errors.Malformed msg) is h = h
error_meets P (errors.BadMagic n) is h = h
error_meets P (errors.Scroll e) is h = h
error_meets P (errors.BufferTooShort n what) is h = h
error_meets P (errors.Memory a) is h = absurd is
