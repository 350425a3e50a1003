-- Both ranges in a fault of ranges that share a place are among the ranges.
use Rattle.std.proofs.Common.{List, [], ◌∷◌, ◌++◌, Option, Some, None, refl, sym, subst, inl, inr, nat_lt}
use Rattle.std.proofs.lemmas.Bool.{cases_Bool, ltb-true}
use Rattle.std.proofs.lemmas.List.Elements.{All-nil, All-cons, All-head, All-tail, All-push, All-contains_itself, All-filter}
use Rattle.std.proofs.lemmas.List.Sorted.{All-permutation}
use Rattle.std.specs.List.{cons_option, Contains}
use Rattle.std.specs.Prelude.{All, IfSome}
use Rattle.mach_base.specs.Number.{place_after}
use Rattle.mach_layout.specs.Claim.{end_of}
use Rattle.mach_layout.specs.Claims.{claims_of}
use Rattle.mach_layout.specs.Laid.{Laid}
use Rattle.mach_layout.specs.Ranges.{lone_claims, is_lone_claim}
use Rattle.mach_layout.specs.Sweep.{AreShared, IsOfTwo, further, furthest, furthest_from, shared, shared_after}
use Rattle.mach_layout.specs.declared.claim.Claim.{Claim}
use Rattle.mach_layout.specs.declared.fault.LayoutFault.{LayoutFault}
use Rattle.mach_layout.specs.declared.fault.Rule.{Rule}

module _ (rule : Rule) (ranges : List Claim) where
  abbrev In : Claim → Type 0
  In = Contains ranges

  abbrev OfTwo : LayoutFault → Type 0
  OfTwo = IsOfTwo rule ranges

  further_in : (f : Option Claim) (r : Claim) → IfSome f In → In r → In (further f r)
  further_in None r there here = here
  further_in (Some f) r there here = elim (cases_Bool (nat_lt (end_of f) (end_of r))) [ inl e ↦ rw e here | inr e ↦ rw e there ]

  furthest_in : (f : Option Claim) (rs : List Claim) → IfSome f In → All In rs → IfSome (furthest_from f rs) In
  furthest_in f [] there all = there
  furthest_in f (r ∷ rs) there all =
      furthest_in (Some (further f r)) rs (further_in f r there (All-head In r rs all)) (All-tail In r rs all)

  one_reported : (f : Option Claim) (r : Claim) (reported : List LayoutFault) → IfSome f In → In r → All OfTwo reported
      → All OfTwo (cons_option (shared rule f r) reported)
  one_reported None r reported there here all = all
  one_reported (Some f) r reported there here all = elim (cases_Bool (nat_lt r.start (end_of f))) [
    | inl e ↦
        let fault : LayoutFault = record { rule = rule; owner = r.owner; other = Some f.owner; found = r.start; limit = place_after f.start f.len } in
        let two : OfTwo fault = record { first = f; second = r; has_first = there; has_second = here; shares = ltb-true r.start (end_of f) e; is = refl } in
        rw e (All-cons OfTwo fault reported two all)
    | inr e ↦ rw e all
  ]

  all_reported : (before rs : List Claim) → All In before → All In rs → All OfTwo (shared_after rule before rs)
  all_reported before [] front all = All-nil OfTwo
  all_reported before (r ∷ rs) front all =
      let here : In r = All-head In r rs all in
      one_reported (furthest before) r (shared_after rule (before ++ r ∷ []) rs) (furthest_in None before tt front) here
      (all_reported (before ++ r ∷ []) rs (All-push In before r front here) (All-tail In r rs all))

-- for the ranges that are checked, which are all among others
reported_among : (rule : Rule) (ranges among : List Claim) (reported : List LayoutFault) → All (Contains among) ranges → AreShared rule ranges reported
    → All (IsOfTwo rule among) reported
reported_among rule ranges among reported all are =
    let sorted : All (Contains among) are.sorted = All-permutation (Contains among) ranges are.sorted are.by_start.same all in
    subst (λ (list : List LayoutFault). All (IsOfTwo rule among) list) (sym are.each) (all_reported rule among [] are.sorted (All-nil (Contains among)) sorted)

pub shared_are_ranges : (rule : Rule) (ranges : List Claim) (reported : List LayoutFault) → AreShared rule ranges reported → All (IsOfTwo rule ranges) reported
shared_are_ranges rule ranges reported are = reported_among rule ranges ranges reported (All-contains_itself ranges) are

pub shared_are_claims : (laid : Laid) (rule : Rule) (reported : List LayoutFault) → AreShared rule (lone_claims laid) reported
    → All (IsOfTwo rule (claims_of laid)) reported
shared_are_claims laid rule reported are =
    let all = All-contains_itself (claims_of laid) in
    reported_among rule (lone_claims laid) (claims_of laid) reported (All-filter (is_lone_claim laid) (Contains (claims_of laid)) (claims_of laid) all) are
