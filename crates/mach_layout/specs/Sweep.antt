-- Finds ranges that share a place, by one sweep over them.
use Rattle.std.specs.Prelude.{◌≡◌, ◌<◌, List, [], ◌∷◌, ◌++◌, nat_lt, Option, Some, None, if◌then◌else◌}
use Rattle.std.specs.List.{cons_option, Contains}
use Rattle.std.specs.List.Sorted.{IsPermutation, IsSortedByKey, IsStableByKey}
use Rattle.std.specs.Ordering.{nat_cmp}
use Rattle.mach_base.specs.Number.{place_after}
use Rattle.mach_layout.specs.Claim.{end_of}
use Rattle.mach_layout.specs.declared.fault.LayoutFault.{LayoutFault}
use Rattle.mach_layout.specs.declared.fault.Rule.{Rule}
use Rattle.mach_layout.specs.declared.claim.Claim.{Claim}

-- the ranges by their starts; those with one start keep their order
pub record IsByStart (ranges sorted : List Claim) : Type 0 where
  pub same : IsPermutation ranges sorted
  pub ordered : IsSortedByKey (λ (r : Claim). r.start) nat_cmp sorted
  pub stable : IsStableByKey (λ (r : Claim). r.start) nat_cmp ranges sorted

-- the one of two that ends later, or the first if both end at one place
abbrev pub further : Option Claim → Claim → Claim
further None r = r
further (Some f) r = if nat_lt (end_of f) (end_of r) then r else f

-- the first with the greatest end, of a range and others after it
abbrev pub furthest_from : Option Claim → List Claim → Option Claim
furthest_from f [] = f
furthest_from f (r ∷ rs) = furthest_from (Some (further f r)) rs

-- the first with the greatest end, of some ranges
abbrev pub furthest : List Claim → Option Claim
furthest rs = furthest_from None rs

-- a range that begins before the end of the furthest of those before it shares a place with it
abbrev pub shared : Rule → Option Claim → Claim → Option LayoutFault
shared rule None r = None
shared rule (Some f) r =
    if nat_lt r.start (end_of f)
    then Some (record { rule = rule; owner = r.owner; other = Some f.owner; found = r.start; limit = place_after f.start f.len }) else None

-- the faults of some ranges after others, by their starts
abbrev pub shared_after : Rule → List Claim → List Claim → List LayoutFault
shared_after rule before [] = []
shared_after rule before (r ∷ rs) = cons_option (shared rule (furthest before) r) (shared_after rule (before ++ r ∷ []) rs)

-- the faults of some ranges, each compared with those before it, by their starts
pub record AreShared (rule : Rule) (ranges : List Claim) (reported : List LayoutFault) : Type 0 where
  pub sorted : List Claim
  pub by_start : IsByStart ranges sorted
  pub each : reported ≡ shared_after rule [] sorted

-- the fault is one of two of these ranges, of which the second begins before the first ends
pub record IsOfTwo (rule : Rule) (ranges : List Claim) (fault : LayoutFault) : Type 0 where
  pub first : Claim
  pub second : Claim
  pub has_first : Contains ranges first
  pub has_second : Contains ranges second
  pub shares : second.start < end_of first
  pub is : fault
      ≡ record { rule = rule; owner = second.owner; other = Some first.owner; found = second.start; limit = place_after first.start first.len }
