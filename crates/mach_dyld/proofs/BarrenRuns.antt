-- How many branches that lead nowhere follow each other: what is known of a place, from what is known of the place after a
-- branch there.
use Rattle.mach_dyld.proofs.TrieNames.{◌≡◌, ◌<◌, ◌≤◌, ◌+◌, ◌-◌, ℕ, zero, suc, Bool, true, false, List}
use Rattle.mach_dyld.proofs.TrieNames.{◌∷◌, Ok, Err, Result, Option, Some, None, refl, sym, ap, ◌∙◌, subst}
use Rattle.mach_dyld.proofs.TrieNames.{arith, cond, inl, inr, length, take, drop, get_or}
use Rattle.mach_dyld.proofs.TrieNames.{cases_lt, cases_eq, ltb, ◌>>=◌, Fault, IsUtf8, IsUtf8-append, ◌≢◌, ◌++◌}
use Rattle.mach_dyld.proofs.TrieNames.{uleb_at, text_at, branch_at, branches_at, children_at, Branch, Source, bind_ok, chosen, same_ok}
use Rattle.std.proofs.Common.{max, IfSome, codes, replicate, MatchResult, is_ok}
use Rattle.std.proofs.Math.Seq.{take-add}
use Rattle.std.proofs.Math.Nat.{min-eq_left}
use Rattle.std.proofs.lemmas.Str.{IsUtf8-nil}
use Rattle.std.proofs.lemmas.Bool.{le-leb}
use Rattle.std.proofs.lemmas.List.{get_or-drop, length-drop, length-take, drop-drop}
use Rattle.std.proofs.lemmas.List.Sums.{position_or_len_is}
use Rattle.std.specs.List.{before_first, position_or_len}
use Rattle.mach_base.specs.Fault.{too_short}
use Rattle.mach_base.specs.Text.{is_zero}
use Rattle.mach_base.proofs.Fronts.{rest_from-inside}
use Rattle.mach_base.proofs.Runs.{good_text}
use Rattle.mach_dyld.proofs.BranchAgain.{branch_of_parts, again}
use Rattle.mach_dyld.proofs.Nowhere.{both_nowhere}
use Rattle.mach_dyld.proofs.Marking.{not_both}
use Rattle.mach_dyld.specs.Nodes.{count_at}
use Rattle.mach_dyld.specs.Nowhere.{lead_nowhere, is_barren, AreBarren, LeadsNowhere, IsKnownBarren, OpensList}
use Rattle.mach_dyld.specs.Views.{those_read}
use Rattle.mach_dyld.specs.Tails.{IsTail}
use Rattle.mach_dyld.specs.declared.trie.runs.Tail.{Tail}

-- a barren list can be read, and leads nowhere
pub barren_read : (upto : ℕ) (r : Result (List Branch) Fault) → is_barren upto r ≡ true → (bs : List Branch) × (r ≡ Ok bs) × (lead_nowhere upto bs ≡ true)
barren_read upto (Ok bs) e = (bs, refl, e)
barren_read upto (Err f) e = absurd (not_both e refl)

pub barren_is : (upto : ℕ) (r : Result (List Branch) Fault) (bs : List Branch) → r ≡ Ok bs → lead_nowhere upto bs ≡ true → is_barren upto r ≡ true
barren_is upto r bs e none = rw e none

pub barren_leads : (upto : ℕ) (r : Result (List Branch) Fault) → is_barren upto r ≡ true → lead_nowhere upto (those_read r) ≡ true
barren_leads upto (Ok bs) e = e
barren_leads upto (Err f) e = absurd (not_both e refl)

same_err : {X : Type 0} {f g : Fault} → (◌≡◌ {A = Result X Fault} (Err f) (Err g)) → f ≡ g
same_err {X} {f} e = ap (λ (r : Result X Fault). fault_or f r) e
  where
    fault_or : Fault → Result X Fault → Fault
    fault_or d (Ok x) = d
    fault_or d (Err g) = g

module _ (s : Source) where
  abbrev pub barren_at : ℕ → ℕ → Bool
  barren_at n place = is_barren s.upto (branches_at s.bytes.now s.from n place)

  pub no_barren : (place : ℕ) → barren_at 0 place ≡ true
  unfolding branches_at
  no_barren place = refl

  -- the first branch leads nowhere, and so do the others
  first_barren : (n place : ℕ) → barren_at (suc n) place ≡ true → (found : Branch × ℕ)
      × (branch_at s.bytes.now s.from place ≡ Ok found) × (s.upto ≤ found.0.start) × (barren_at n found.1 ≡ true)
  unfolding branches_at
  first_barren n place e =
      let read = barren_read s.upto (branches_at s.bytes.now s.from (suc n) place) e in
      let first = bind_ok (branch_at s.bytes.now s.from place) (λ (x : Branch × ℕ). branches_at s.bytes.now s.from n x.1 >>= λ
      (others : List Branch). Ok (x.0 ∷ others)) read.0 read.1 in
      let rest = bind_ok (branches_at s.bytes.now s.from n first.0.1) (λ (others : List Branch). Ok (first.0.0 ∷ others)) read.0 first.2 in
      let both = both_nowhere s.upto first.0.0 rest.0 (subst (λ (bs : List Branch). lead_nowhere s.upto bs ≡ true) (sym (same_ok rest.2)) read.2) in
      (first.0, first.1, both.0, barren_is s.upto (branches_at s.bytes.now s.from n first.0.1) rest.0 rest.1 both.1)

  -- one more branch, before the others
  pub one_more_barren : (n place after : ℕ) (b : Branch) → branch_at s.bytes.now s.from place ≡ Ok (b, after) → s.upto ≤ b.start → barren_at n after ≡ true
      → barren_at (suc n) place ≡ true
  unfolding branches_at
  one_more_barren n place after b first out rest =
      let read = barren_read s.upto (branches_at s.bytes.now s.from n after) rest in
      let test = le-leb s.upto b.start out in
      rw (first, read.1, test) read.2

  -- fewer branches are barren, too
  pub fewer_barren : (m n place : ℕ) → m ≤ n → barren_at n place ≡ true → barren_at m place ≡ true
  fewer_barren zero n place le e = no_barren place
  fewer_barren (suc m) zero place le e = absurd (omega (arith, le))
  fewer_barren (suc m) (suc n) place le e =
      let first = first_barren n place e in
      one_more_barren m place first.0.1 first.0.0 first.1 first.2 (fewer_barren m n first.0.1 (omega (arith, le)) first.3)

  -- a number of branches that is at most one or the other of two numbers
  pub either_barren : (k m n place : ℕ) → k ≤ max m n → barren_at m place ≡ true → barren_at n place ≡ true → barren_at k place ≡ true
  either_barren k m n place le one other = elim (cases_lt m k) [
    | inl lt ↦ fewer_barren k n place (omega (arith, le, lt)) other
    | inr le2 ↦ fewer_barren k m place le2 one
  ]

  -- a branch that leads nowhere begins within the bytes
  pub barren_inside : (n place : ℕ) → 0 < n → barren_at n place ≡ true → place < length s.bytes.now
  barren_inside zero place some e = absurd (omega (arith, some))
  barren_inside (suc n) place some e = let first = first_barren n place e in (again s.bytes.now s.from place first.0 first.1).inside

  abbrev checked : ℕ × ℕ → Result (ℕ × ℕ) Fault
  checked c = cond (ltb (length s.bytes.now) c.0) (Err (too_short c.0 (codes "branches"))) (Ok c)

  -- a count that was read
  count_parts : (place count first : ℕ) → count_at s.bytes.now place ≡ Ok (count, first)
      → (uleb_at s.bytes.now place ≡ Ok (count, first)) × (ltb (length s.bytes.now) count ≡ false)
  count_parts place count first e =
      let read = bind_ok (uleb_at s.bytes.now place) checked (count, first) e in
      elim (chosen (ltb (length s.bytes.now) read.0.0) (Err (too_short read.0.0 (codes "branches"))) (Ok read.0) (Ok (count, first)) read.2) [
        | inl many ↦ absurd (let wrong = many.1 in cc)
        | inr few ↦
            let same : read.0 ≡ (count, first) = same_ok few.1 in
            (read.1 ∙ ap Ok same, subst (λ (x : ℕ × ℕ). ltb (length s.bytes.now) x.0 ≡ false) same few.0)
      ]

  -- the branches after it are those of the list
  pub children_are : (place count first : ℕ) → count_at s.bytes.now place ≡ Ok (count, first)
      → children_at s.bytes.now s.from place ≡ branches_at s.bytes.now s.from count first
  unfolding children_at
  children_are place count first e = let parts = count_parts place count first e in rw (parts.0, parts.1) refl

  -- if no count can be read there is no list
  pub no_children : (place : ℕ) (f : Fault) → count_at s.bytes.now place ≡ Err f → children_at s.bytes.now s.from place ≡ Err f
  unfolding children_at
  no_children place f e = by (uleb_at s.bytes.now place) e
    where
      of : ℕ × ℕ → Result (List Branch) Fault
      of c = cond (ltb (length s.bytes.now) c.0) (Err (too_short c.0 (codes "branches"))) (branches_at s.bytes.now s.from c.0 c.1)

      checked_fails : (c : ℕ × ℕ) (b : Bool) → cond b (Err (too_short c.0 (codes "branches"))) (Ok c) ≡ Err f
          → cond b (Err (too_short c.0 (codes "branches"))) (branches_at s.bytes.now s.from c.0 c.1) ≡ Err f
      checked_fails c true e = let same : too_short c.0 (codes "branches") ≡ f = same_err e in ap Err same
      checked_fails c false e = absurd (cc)

      by : (r : Result (ℕ × ℕ) Fault) → (r >>= checked) ≡ Err f → (r >>= of) ≡ Err f
      by (Ok c) e = checked_fails c (ltb (length s.bytes.now) c.0) e
      by (Err g) e = let same : g ≡ f = same_err e in ap Err same

  -- what is known of a list is known of as many branches as its count states
  pub known_is : (known : List ℕ) (place count first : ℕ) → count_at s.bytes.now place ≡ Ok (count, first) → IsKnownBarren s known place
      → count ≤ get_or known first 0
  known_is known place count first e is =
      let same : (is.0, is.1) ≡ (count, first) = same_ok (sym is.2 ∙ (count_parts place count first e).0) in
      subst (λ (x : ℕ × ℕ). x.0 ≤ get_or known x.1 0) same is.3

  pub is_known : (known : List ℕ) (place count first : ℕ) → count_at s.bytes.now place ≡ Ok (count, first) → count ≤ get_or known first 0
      → IsKnownBarren s known place
  is_known known place count first e le = (count, first, (count_parts place count first e).0, le)

  -- a list that is known to lead nowhere is opened
  pub opens_known : (place count first n : ℕ) → count_at s.bytes.now place ≡ Ok (count, first) → count ≤ n → barren_at n first ≡ true → OpensList s place None
  opens_known place count first n e le barren =
      let read = barren_read s.upto (branches_at s.bytes.now s.from count first) (fewer_barren count n first le barren) in
      (read.0, children_are place count first e ∙ read.1, read.2)

  -- what is known of the other places stays, and from this one `count` branches are barren, too
  pub raised_barren : (old new : List ℕ) (place count : ℕ) → AreBarren s old → barren_at count place ≡ true
      → get_or new place 0 ≤ max count (get_or old place 0)
      → ((other : ℕ) → other ≢ place → get_or new other 0 ≡ get_or old other 0) → AreBarren s new
  raised_barren old new place count known more here others other = elim (cases_eq other place) [
    | inl same ↦ subst (λ (q : ℕ). barren_at (get_or new q 0) q ≡ true) (sym same) (either_barren (get_or new place 0) count
        (get_or old place 0) place here more (known place))
    | inr differ ↦ subst (λ (n : ℕ). barren_at n other ≡ true) (sym (others other differ)) (known other)
  ]

  zeros : (n place : ℕ) → ◌≡◌ {A = ℕ} (get_or (replicate n 0) place 0) 0
  zeros zero place = refl
  zeros (suc n) zero = refl
  zeros (suc n) (suc place) = zeros n place

  -- nothing is known of any place
  pub cleared : (known : List ℕ) (n : ℕ) → known ≡ replicate n 0 → AreBarren s known
  cleared known n e place =
      let none : get_or known place 0 ≡ 0 = ap (λ (x : List ℕ). get_or x place 0) e ∙ zeros n place in
      subst (λ (m : ℕ). barren_at m place ≡ true) (sym none) (no_barren place)

  -- ---- what follows a place

  -- nothing follows the last place
  pub tail_at_end : IsTail s (length s.bytes.now) (record { end = length s.bytes.now; low = length s.bytes.now; after = None })
  tail_at_end = record {
    from_place = omega arith;
    to_end = omega arith;
    inside = omega arith;
    no_zero = λ k late early. absurd (omega (arith, late, early));
    zero = λ lt. absurd (omega (arith, lt));
    utf8 = (let none : length s.bytes.now - length s.bytes.now ≡ 0 = omega arith in rw none IsUtf8-nil);
    there = tt;
  }

  -- the label that begins at a place
  label_there : (place : ℕ) (t : Tail) → IsTail s place t → t.low ≡ place → t.end < length s.bytes.now
      → (text_at s.bytes.now place ≡ Ok (take (t.end - place) (drop place s.bytes.now))) × (length (take (t.end - place)
      (drop place s.bytes.now)) ≡ t.end - place)
  label_there place t is low inside =
      let bytes : List ℕ = s.bytes.now in
      let rest : List ℕ = drop place bytes in
      let le : place ≤ t.end = let a = is.from_place in let b = is.to_end in omega (arith, a, b) in
      let len = length-drop place bytes in
      let on : place + (t.end - place) ≡ t.end = omega (arith, le) in
      let first : position_or_len is_zero rest ≡ t.end - place =
      position_or_len_is is_zero rest (t.end - place) 0 (omega (arith, len, le, inside))
      (λ k lt. ap is_zero (get_or-drop place bytes k 0) ∙ is.no_zero (place + k) (omega arith) (omega (arith, lt, le)))
      (λ lt. ap is_zero (get_or-drop place bytes (t.end - place) 0) ∙ ap (λ n. is_zero (get_or bytes n 0)) on ∙ is.zero inside) in
      let run : take (t.end - place) rest ≡ before_first is_zero rest = ap (λ n. take n rest) (sym first) in
      let good : IsUtf8 (take (t.end - place) rest) = subst (λ n. IsUtf8 (take (t.end - n) (drop n bytes))) low is.utf8 in
      let here : place < length bytes = omega (arith, le, inside) in (
        good_text bytes rest place (take (t.end - place) rest) (rest_from-inside bytes rest place here refl) run good,
        length-take (t.end - place) rest ∙ (let more : t.end - place ≤ length rest = omega (arith, len, le, inside) in min-eq_left more),
      )

  -- the branch at a place, by what follows it
  branch_there : (place after : ℕ) (t : Tail) → IsTail s place t → t.low ≡ place → t.after ≡ Some after
      → (b : Branch) × (branch_at s.bytes.now s.from place ≡ Ok (b, after)) × (s.upto ≤ b.start)
  branch_there place after t is low there =
      let tail = subst (λ (o : Option ℕ). IfSome o (λ after. LeadsNowhere s t.end after × (t.end < length s.bytes.now))) there is.there in
      let nowhere = tail.0 in
      let le : place ≤ t.end = let a = is.from_place in let b = is.to_end in omega (arith, a, b) in
      let text = label_there place t is low tail.1 in
      let label : List ℕ = take (t.end - place) (drop place s.bytes.now) in
      let on : t.end + 1 ≡ place + length label + 1 = omega (arith, text.1, le) in (
        record { label = label; start = nowhere.1 },
        branch_of_parts s.bytes.now s.from place label nowhere.0 after nowhere.1 text.0
            (subst (λ (n : ℕ). uleb_at s.bytes.now n ≡ Ok (nowhere.0, after)) on nowhere.2) nowhere.3,
        nowhere.4,
      )

  pub count_there : (known : List ℕ) (place after count : ℕ) (t : Tail) → AreBarren s known → IsTail s place t → t.low ≡ place → t.after ≡ Some after
      → count ≤ get_or known after 0 + 1 → barren_at count place ≡ true
  count_there known place after count t barren is low there le =
      let b = branch_there place after t is low there in
      fewer_barren count (suc (get_or known after 0)) place (omega (arith, le)) (one_more_barren (get_or known after 0) place after b.0 b.1 b.2
      (barren after))

pub utf8_from : (xs : List ℕ) (place low end : ℕ) → place ≤ low → low ≤ end → IsUtf8 (take (low - place) (drop place xs))
    → IsUtf8 (take (end - low) (drop low xs)) → IsUtf8 (take (end - place) (drop place xs))
utf8_from xs place low end a b front back =
    let on : place + (low - place) ≡ low = omega (arith, a) in
    let rest : drop (low - place) (drop place xs) ≡ drop low xs = drop-drop (low - place) place xs ∙ ap (λ n. drop n xs) on in
    let whole : (low - place) + (end - low) ≡ end - place = omega (arith, a, b) in
    let parts : take (low - place) (drop place xs) ++ take (end - low) (drop low xs) ≡ take (end - place) (drop place xs) =
    ap (λ ys. take (low - place) (drop place xs) ++ take (end - low) ys) (sym rest) ∙ sym (take-add (low - place) (end - low) (drop place xs))
    ∙ ap (λ n. take n (drop place xs)) whole in
    subst IsUtf8 parts (IsUtf8-append _ _ front back)

-- if bytes can be read as a text they are UTF-8
pub ok_is_utf8 : {X E U : Type 0} (P : X → Type 0) (Q : E → Type 0) (r : Result X E) → is_ok r ≡ true → MatchResult r (λ x. P x × U) Q → U
ok_is_utf8 P Q (Ok x) is h = h.1
ok_is_utf8 P Q (Err e) is h = absurd (not_both is refl)
