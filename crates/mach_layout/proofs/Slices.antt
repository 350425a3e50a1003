-- Visiting the slices of a fat file one by one.
use Rattle.std.proofs.Common.{◌≡◌, ◌<◌, ◌≤◌, ℕ, suc, ◌+◌, ◌-◌, List, [], ◌∷◌, ◌++◌, length, drop, get_or, Option, Some, None, Result, Ok, Err}
use Rattle.std.proofs.Common.{sym, ap, subst, ◌∙◌, arith, add-one, append_assoc, append-nil}
use Rattle.std.proofs.lemmas.List.{drop_all}
use Rattle.std.proofs.Math.Seq.{drop-cons}
use Rattle.std.specs.Prelude.{filter_map, option_to_list}
use Rattle.std.specs.List.{cons_option}
use Rattle.mach_base.specs.Fault.{Fault}
use Rattle.mach_parts.specs.ArchForms.{ArchForm}
use Rattle.mach_layout.specs.Containers.{AreContainerFaults, placed_slice_at, before_fault, slices_from, slices_of, records_end, records_out_of_file}
use Rattle.mach_layout.specs.Containers.{slice_owner, slice_range, slice_sees}
use Rattle.mach_layout.specs.Rules.{reported_over}
use Rattle.mach_layout.specs.Sweep.{AreShared}
use Rattle.mach_layout.specs.declared.containers.RangeOf.TheVariants.{Cpu, Bytes}
use Rattle.mach_layout.specs.declared.containers.PlacedSlice.{PlacedSlice}
use Rattle.mach_layout.specs.declared.fault.LayoutFault.{LayoutFault}
use Rattle.mach_layout.specs.declared.fault.Rule.{Rule}
use Rattle.mach_layout.specs.declared.fault.Rule.TheVariants as rule

onto : {Y : Type 0} (o : Option Y) (xs ys : List Y) → (xs ++ option_to_list o) ++ ys ≡ xs ++ cons_option o ys
onto None xs ys = append_assoc xs [] ys
onto (Some x) xs ys = append_assoc xs (x ∷ []) ys

-- what is kept of the next one comes before what is kept of those after it
pub kept_next : {X Y : Type 0} (f : X → Option Y) (o : Option Y) (old new : List Y) (xs : List X) (i : ℕ) (d : X) → i < length xs
    → o ≡ f (get_or xs i d) → new ≡ old ++ option_to_list o → new ++ filter_map f (drop (i + 1) xs) ≡ old ++ filter_map f (drop i xs)
kept_next {X} {Y} f o old new xs i d lt is added =
    let following = filter_map f (drop (i + 1) xs) in
    let here : drop i xs ≡ get_or xs i d ∷ drop (i + 1) xs = rw add-one (drop-cons xs i d lt) in
    ap (λ (ys : List Y). ys ++ following) added ∙ onto o old following ∙ ap (λ (p : Option Y). old ++ cons_option p following) is
    ∙ ap (λ (left : List X). old ++ filter_map f left) (sym here)

pub kept_all : {X Y : Type 0} (f : X → Option Y) (ys : List Y) (xs : List X) (i : ℕ) → length xs ≤ i → ys ++ filter_map f (drop i xs) ≡ ys
kept_all {X} f ys xs i past = ap (λ (left : List X). ys ++ filter_map f left) (drop_all i xs past) ∙ append-nil ys

-- the slices from the next one on
pub slices_next : {R : Type 0} (form : ArchForm R) (bytes : List ℕ) (k count : ℕ) (s : PlacedSlice) (found : List PlacedSlice) → k < count
    → placed_slice_at form bytes k ≡ Ok s
    → (found ++ s ∷ []) ++ slices_from form bytes (k + 1) (count - (k + 1)) ≡ found ++ slices_from form bytes k (count - k)
slices_next form bytes k count s found lt e =
    let left : count - k ≡ suc (count - (k + 1)) = omega arith in
    append_assoc found (s ∷ []) (slices_from form bytes (k + 1) (count - (k + 1)))
    ∙ ap (λ (r : Result PlacedSlice Fault). found ++ before_fault r (slices_from form bytes (k + 1) (count - (k + 1)))) (sym e)
    ∙ ap (λ (n : ℕ). found ++ slices_from form bytes k n) (sym left)

pub slices_end : {R : Type 0} (form : ArchForm R) (bytes : List ℕ) (k count : ℕ) (f : Fault) (found : List PlacedSlice) → k < count
    → placed_slice_at form bytes k ≡ Err f
    → found ++ slices_from form bytes k (count - k) ≡ found
slices_end form bytes k count f found lt e =
    let left : count - k ≡ suc (count - (k + 1)) = omega arith in
    ap (λ (n : ℕ). found ++ slices_from form bytes k n) left
    ∙ ap (λ (r : Result PlacedSlice Fault). found ++ before_fault r (slices_from form bytes (k + 1) (count - (k + 1)))) e ∙ append-nil found

pub slices_done : {R : Type 0} (form : ArchForm R) (bytes : List ℕ) (k count : ℕ) (found : List PlacedSlice) → count ≤ k
    → found ++ slices_from form bytes k (count - k) ≡ found
slices_done form bytes k count found past =
    let left : count - k ≡ 0 = omega arith in ap (λ (n : ℕ). found ++ slices_from form bytes k n) left ∙ append-nil found

-- some faults, then more
pub and_more : {X : Type 0} (more : List X) {f g x : List X} → f ≡ x → g ≡ f ++ more → g ≡ x ++ more
and_more {X} more e then = then ∙ ap (λ (l : List X). l ++ more) e

-- the faults that some rules find in some slices
abbrev pub reported_by : List ℕ → ℕ → List Rule → List PlacedSlice → List LayoutFault
reported_by bytes end rules slices = reported_over rules (λ r. slice_owner) (slice_sees bytes end) slices

abbrev pub alone : List Rule
alone = rule.SliceOutOfFile ∷ rule.SliceInRecords ∷ rule.SliceAlignment ∷ rule.SliceUnaligned ∷ []

-- the faults of all rules are those of the table
pub table_reported : {R : Type 0} (form : ArchForm R) (bytes : List ℕ) (slices : List PlacedSlice) (end : ℕ) (f0 f1 f2 f3 f4 f5 : List LayoutFault)
    → slices ≡ slices_of form bytes → end ≡ records_end form bytes → f0 ≡ []
    → f1 ≡ f0 ++ option_to_list (records_out_of_file form bytes) → f2 ≡ f1 ++ reported_by bytes end alone slices
    → ((again : List LayoutFault) × AreShared rule.SliceAgain (filter_map (slice_range Cpu) slices) again × (f3 ≡ f2 ++ again))
    → f4 ≡ f3 ++ reported_by bytes end (rule.SliceOfOtherCpu ∷ []) slices
    → ((sharing : List LayoutFault) × AreShared rule.SlicesShare (filter_map (slice_range Bytes) slices) sharing × (f5 ≡ f4 ++ sharing))
    → AreContainerFaults form bytes f5
table_reported form bytes slices end f0 f1 f2 f3 f4 f5 is ends e0 e1 e2 e3 e4 e5 =
    let out = option_to_list (records_out_of_file form bytes) in
    let first : f1 ≡ out = e1 ∙ ap (λ (l : List LayoutFault). l ++ out) e0 in
    let more = λ (rules : List Rule) (old new front : List LayoutFault) (so_far : old ≡ front) (e : new ≡ old ++ reported_by bytes end rules slices).
    and_more (reported_by bytes (records_end form bytes) rules (slices_of form bytes)) so_far
    (e ∙ ap (λ (n : ℕ). old ++ reported_by bytes n rules slices) ends
    ∙ ap (λ (ss : List PlacedSlice). old ++ reported_by bytes (records_end form bytes) rules ss) is)
    in
    let second = more alone f1 f2 _ first e2 in
    let third = and_more e3.0 second e3.2 in
    let fourth = more (rule.SliceOfOtherCpu ∷ []) f3 f4 _ third e4 in record {
      again = e3.0;
      sharing = e5.0;
      slices_again = subst (λ (ss : List PlacedSlice). AreShared rule.SliceAgain (filter_map (slice_range Cpu) ss) e3.0) is e3.1;
      slices_share = subst (λ (ss : List PlacedSlice). AreShared rule.SlicesShare (filter_map (slice_range Bytes) ss) e5.0) is e5.1;
      joined = and_more e5.0 fourth e5.2;
    }
