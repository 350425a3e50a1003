-- Tables of changes, and the holder at an address.
use Rattle.std.proofs.Common.{◌≡◌, ◌++◌, ◌∷◌, [], ◌∙◌, ℕ, ◌+◌, ◌-◌, ◌<◌, ◌≤◌, List, Option}
use Rattle.std.proofs.Common.{Some, None, length, take, drop, get_or, refl, sym, ap, subst, arith, inl, inr}
use Rattle.std.proofs.Common.{Bool, true, false}
use Rattle.std.specs.Prelude.{nat_le, if◌then◌else◌}
use Rattle.std.specs.List.{All}
use Rattle.std.specs.List.Sorted.{IsPartitionPoint}
use Rattle.std.specs.Option.{option_or}
use Rattle.std.proofs.lemmas.Bool.{leb-true, leb-false, le-leb, lt-leb}
use Rattle.std.proofs.lemmas.List.{take-append-drop, get_or-take, get_or-drop, get_or_default, length-drop, length-take, length-take-le, take_all, take_more}
use Rattle.std.proofs.lemmas.List.Elements.{All-head, All-tail, All-more, All-nil, All-push, All-weaker}
use Rattle.std.proofs.lemmas.List.Sorted.{IsNonDecreasingBy-push, IsNonDecreasingBy-short}
use Rattle.goblin_mach.specs.Stretches.{holds, first_holder, holder_from, AreByAddress, StretchGoesOn, Stays, PassesNext, ReportHolders}
use Rattle.goblin_mach.specs.declared.addresses.stretches.Change.{Change}
use Rattle.goblin_mach.specs.declared.addresses.stretches.Stretch.{Stretch}

pub holder_push : (h : Option ℕ) (cs : List Change) (c : Change) (x : ℕ)
    → holder_from h (cs ++ c ∷ []) x ≡ (if nat_le c.start x then c.holder else holder_from h cs x)
holder_push h [] c x = refl
holder_push h (d ∷ ds) c x = holder_push (if nat_le d.start x then d.holder else h) ds c x

pub holder_append : (h : Option ℕ) (cs ds : List Change) (x : ℕ) → holder_from h (cs ++ ds) x ≡ holder_from (holder_from h cs x) ds x
holder_append h [] ds x = refl
holder_append h (c ∷ cs) ds x = holder_append (if nat_le c.start x then c.holder else h) cs ds x

-- changes after an address don't affect it
pub holder_skip : (h : Option ℕ) (cs : List Change) (x : ℕ) → All (λ c. x < c.start) cs → holder_from h cs x ≡ h
holder_skip h [] x following = refl
holder_skip h (c ∷ cs) x following =
    let off : nat_le c.start x ≡ false = lt-leb c.start x (All-head (λ (c : Change). x < c.start) c cs following) in
    ap (λ (b : Bool). holder_from (if b then c.holder else h) cs x) off ∙ holder_skip h cs x (All-tail (λ (c : Change). x < c.start) c cs following)

module _ (cs : List Change) (k x : ℕ) (at : IsPartitionPoint (λ (c : Change). nat_le c.start x ≡ true) (λ c. nat_le c.start x ≡ false) cs k) where
  pub point_up_to : All (λ c. c.start ≤ x) (take k cs)
  point_up_to i d inside =
      let short : i < k = omega (arith, length-take k cs, inside) in
      rw (get_or-take k cs i d short) (leb-true _ x (at.0 i d (omega arith) short))

  pub point_reports : holder_from None cs x ≡ holder_from None (take k cs) x
  point_reports =
      let following : All (λ (c : Change). x < c.start) (drop k cs) = λ i d inside.
      let far : k + i < length cs = omega (arith, length-drop k cs, inside) in
      rw (get_or-drop k cs i d) (leb-false _ x (at.1 (k + i) d (omega arith) far)) in
      ap (λ all. holder_from None all x) (sym (take-append-drop k cs)) ∙ holder_append None (take k cs) (drop k cs) x
      ∙ holder_skip (holder_from None (take k cs) x) (drop k cs) x following

no_change : Change
no_change = record { start = 0; holder = None }

-- the last of the first changes decides
pub last_reports : (cs : List Change) (k last x : ℕ) (d : Change) → k ≤ length cs → 1 ≤ k → last ≡ k - 1 → All (λ c. c.start ≤ x) (take k cs)
    → (get_or cs last d).holder ≡ holder_from None (take k cs) x
last_reports cs k last x d inside some is up_to =
    let n : k ≡ last + 1 = omega arith in
    let there : last < length cs = omega arith in
    let short : last < k = omega arith in
    let fits : length (take k cs) ≡ k = length-take-le k cs inside in
    let early : (get_or cs last d).start ≤ x = rw get_or-take at (up_to last d (omega arith)) in
    sym (ap (λ m. holder_from None (take m cs) x) n ∙ ap (λ all. holder_from None all x) (take_more cs last d there)
    ∙ holder_push None (take last cs) (get_or cs last d) x
    ∙ ap (λ (b : Bool). if b then (get_or cs last d).holder else holder_from None (take last cs) x) (le-leb _ x early))

-- ---- two tables together

-- The first changes of a table are up to an address, the others are at it or after it.
pub record ArePassed (cs : List Change) (k at : ℕ) : Type 0 where
  pub inside : k ≤ length cs
  pub up_to : All (λ c. c.start ≤ at) (take k cs)
  pub from : All (λ c. at ≤ c.start) (drop k cs)

-- The same holds of a later address, with as many changes or one more; for the addresses before that the holder is unchanged.
pub record IsOnward (cs : List Change) (k more at : ℕ) : Type 0 where
  pub passed : ArePassed cs more at
  pub same : (x : ℕ) → x < at → holder_from None (take more cs) x ≡ holder_from None (take k cs) x

module _ (cs : List Change) (up : AreByAddress cs) (k at start : ℕ) (are : ArePassed cs k at) where
  pub next_later : (more : ℕ) → StretchGoesOn cs k more start → at ≤ start
  next_later more on =
      let h : at ≤ (get_or cs (k + 0) no_change).start = rw get_or-drop at (are.from 0 no_change (omega (arith, length-drop k cs, on.0))) in
      let e : (get_or cs k no_change).start ≡ start = on.2 no_change in
      let n : k + 0 ≡ k = omega arith in
      omega (arith, ap (λ m. (get_or cs m no_change).start) n)

  -- no change from the next one on is before that one
  none_before : (first : ℕ) → k ≤ first → start ≤ (get_or cs k no_change).start → All (λ c. start ≤ c.start) (drop first cs)
  none_before first far later i d inside =
      let there : first + i < length cs = omega (arith, length-drop first cs) in
      let e : get_or cs k d ≡ get_or cs k no_change = get_or_default cs k d no_change (omega arith) in
      let h : (get_or cs k d).start ≤ (get_or cs (first + i) d).start = up k (first + i) d (omega arith) there in
      rw (get_or-drop first cs i d) (omega (arith, h, ap (λ (c : Change). c.start) e, later))

  pub goes_on : (more : ℕ) → StretchGoesOn cs k more start → IsOnward cs k more start
  goes_on more on =
      let e : (get_or cs k no_change).start ≡ start = on.2 no_change in
      let later : at ≤ start = next_later more on in
      let next : IsOnward cs k (k + 1) start = record {
        passed = record {
          inside = omega arith;
          up_to = All-more (λ (c : Change). c.start ≤ start) cs k no_change on.0
              (All-weaker (λ (c : Change). c.start ≤ at) (λ c. c.start ≤ start) (λ c h. omega arith) (take k cs) are.up_to) (omega arith);
          from = none_before (k + 1) (omega arith) (omega arith);
        };
        same = λ x before. ap (λ all. holder_from None all x) (take_more cs k no_change on.0) ∙ holder_push None (take k cs) (get_or cs k no_change) x
            ∙ ap (λ (b : Bool). if b then (get_or cs k no_change).holder else holder_from None (take k cs) x) (lt-leb _ x (omega arith));
      } in
      subst (λ n. IsOnward cs k n start) (sym on.1) next

  pub stays : (same : ℕ) → at ≤ start → Stays cs k same start → IsOnward cs k same start
  stays same later at_rest =
      let next : IsOnward cs k k start = record {
        passed = record {
          inside = are.inside;
          up_to = All-weaker (λ (c : Change). c.start ≤ at) (λ c. c.start ≤ start) (λ c h. omega arith) (take k cs) are.up_to;
          from = λ i d inside. none_before k (omega arith) (at_rest.1 (omega (arith, length-drop k cs, inside)) no_change) i d inside;
        };
        same = λ x before. refl;
      } in
      subst (λ n. IsOnward cs k n start) (sym at_rest.0) next

-- The first changes of two tables are passed, and a third table gives what they give together.
pub record AreMerged (first second : List Change) (i j : ℕ) (all : List Change) : Type 0 where
  pub at : ℕ
  pub of_first : ArePassed first i at
  pub of_second : ArePassed second j at
  pub ordered : AreByAddress all
  pub up_to : All (λ c. c.start ≤ at) all
  pub report : (x : ℕ) → holder_from None all x ≡ option_or (holder_from None (take i first) x) (holder_from None (take j second) x)

module _ (first second : List Change) where
  pub none_merged : AreMerged first second 0 0 []
  none_merged = record {
    at = 0;
    of_first = record { inside = omega arith; up_to = All-nil (λ (c : Change). c.start ≤ 0); from = λ i d inside. omega arith };
    of_second = record { inside = omega arith; up_to = All-nil (λ (c : Change). c.start ≤ 0); from = λ i d inside. omega arith };
    ordered = IsNonDecreasingBy-short (λ (c : Change). c.start) [] (omega arith);
    up_to = All-nil (λ (c : Change). c.start ≤ 0);
    report = λ x. refl;
  }

  pub all_merged : (i j : ℕ) (all : List Change) → AreMerged first second i j all → length first ≤ i → length second ≤ j
      → (x : ℕ) → holder_from None all x ≡ option_or (holder_from None first x) (holder_from None second x)
  all_merged i j all are over_first over_second x =
      are.report x ∙ ap (λ f. option_or (holder_from None f x) (holder_from None (take j second) x)) (take_all i first over_first)
      ∙ ap (λ s. option_or (holder_from None first x) (holder_from None s x)) (take_all j second over_second)

  module _ (i j more others start : ℕ) (all : List Change) (a b holder : Option ℕ) (are : AreMerged first second i j all) where
    both_on : are.at ≤ start → IsOnward first i more start → IsOnward second j others start → holder ≡ option_or a b
        → ((x : ℕ) → All (λ c. c.start ≤ x) (take more first) → a ≡ holder_from None (take more first) x)
        → ((x : ℕ) → All (λ c. c.start ≤ x) (take others second) → b ≡ holder_from None (take others second) x)
        → AreMerged first second more others (all ++ record { start = start; holder = holder } ∷ [])
    both_on later on other is is_first is_second =
        let c : Change = record { start = start; holder = holder } in
        let lower : (x : ℕ) → start ≤ x → (cs : List Change) → All (λ c. c.start ≤ start) cs → All (λ c. c.start ≤ x) cs =
        λ x h. All-weaker (λ (c : Change). c.start ≤ start) (λ c. c.start ≤ x) (λ c e. omega arith) in
        record {
          at = start;
          of_first = on.passed;
          of_second = other.passed;
          ordered = IsNonDecreasingBy-push (λ (c : Change). c.start) all c are.ordered
              (λ d some. let h : (get_or all (length all - 1) d).start ≤ are.at = are.up_to (length all - 1) d (omega arith) in omega arith);
          up_to = All-push (λ (c : Change). c.start ≤ start) all c (All-weaker (λ (c : Change). c.start ≤ are.at) (λ c. c.start ≤ start) (λ c h. omega arith)
              all are.up_to) (omega arith);
          report = λ x. holder_push None all c x ∙ (elim (nat_le start x) as (λ (t : Bool). nat_le start x ≡ t → (if t then holder else holder_from None all x)
              ≡ option_or (holder_from None (take more first) x) (holder_from None (take others second) x)) [
                | true ↦ λ e. let h : start ≤ x = leb-true start x e in
                    is ∙ ap (λ o. option_or o b) (is_first x (lower x h (take more first) on.passed.up_to))
                    ∙ ap (λ o. option_or (holder_from None (take more first) x) o) (is_second x (lower x h (take others second) other.passed.up_to))
                | false ↦ λ e. let h : x < start = leb-false start x e in
                    are.report x ∙ ap (λ o. option_or o (holder_from None (take j second) x)) (sym (on.same x h))
                    ∙ ap (λ o. option_or (holder_from None (take more first) x) o) (sym (other.same x h))
              ]) refl;
        }

    -- the next change of the two, with what they give there
    pub next_merged : AreByAddress first → AreByAddress second → PassesNext first i second j (Some (more, others, start)) → holder ≡ option_or a b
        → ((x : ℕ) → All (λ c. c.start ≤ x) (take more first) → a ≡ holder_from None (take more first) x)
        → ((x : ℕ) → All (λ c. c.start ≤ x) (take others second) → b ≡ holder_from None (take others second) x)
        → AreMerged first second more others (all ++ record { start = start; holder = holder } ∷ [])
    next_merged up_first up_second passes is is_first is_second =
        elim passes [
          | inl h ↦ let later : are.at ≤ start = next_later first up_first i are.at start are.of_first more h.0 in
              both_on later (goes_on first up_first i are.at start are.of_first more h.0)
              (stays second up_second j are.at start are.of_second others later h.1) is is_first is_second
          | inr h ↦ let later : are.at ≤ start = next_later second up_second j are.at start are.of_second others h.1 in
              both_on later (stays first up_first i are.at start are.of_first more later h.0)
              (goes_on second up_second j are.at start are.of_second others h.1) is is_first is_second
        ]

-- the first of two lists of stretches that holds an address
pub first_holder-append : (x n : ℕ) (xs ys : List Stretch)
    → first_holder x n (xs ++ ys) ≡ option_or (first_holder x n xs) (first_holder x (n + length xs) ys)
first_holder-append x n [] ys = ap (λ m. first_holder x m ys) {x = n} {y = n + 0} (omega arith)
first_holder-append x n (s ∷ ss) ys =
    let following : n + 1 + length ss ≡ n + length (s ∷ ss) = omega arith in
    let rest = first_holder-append x (n + 1) ss ys ∙ ap (λ m. option_or (first_holder x (n + 1) ss) (first_holder x m ys)) following in
    elim (holds s.start s.size x) as (λ (b : Bool). (if b then Some n else first_holder x (n + 1) (ss ++ ys))
    ≡ option_or (if b then Some n else first_holder x (n + 1) ss) (first_holder x (n + length (s ∷ ss)) ys)) [ true ↦ refl | false ↦ rest ]

-- the tables of the first half and of the rest
pub halves_report : (n half : ℕ) (all front back : List Stretch) (first second changes : List Change) → half ≤ length all
    → front ≡ take half all → back ≡ drop half all → ReportHolders n front first → ReportHolders (n + half) back second
    → ((x : ℕ) → holder_from None changes x ≡ option_or (holder_from None first x) (holder_from None second x)) → ReportHolders n all changes
halves_report n half all front back first second changes inside is_front is_back in_front in_back both x fits =
    let long : n + half ≡ n + length front = omega (arith, ap length is_front, length-take-le half all inside) in
    let whole : front ++ back ≡ all = ap (λ f. f ++ back) is_front ∙ ap (λ b. take half all ++ b) is_back ∙ take-append-drop half all in
    both x ∙ ap (λ o. option_or o (holder_from None second x)) (in_front x fits)
    ∙ ap (λ o. option_or (first_holder x n front) o) (in_back x fits ∙ ap (λ m. first_holder x m back) long)
    ∙ sym (first_holder-append x n front back) ∙ ap (first_holder x n) whole
