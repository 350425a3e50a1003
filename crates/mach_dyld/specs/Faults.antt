-- Items up to the first fault.
use Rattle.std.specs.Prelude.{◌≡◌, List, [], ◌∷◌, ◌++◌, Option, Result, Ok, Err}
use Rattle.mach_base.specs.Fault.{Fault, fault_item}
use Rattle.mach_dyld.specs.Streams.{Range, Placed, Reader, IsLongestBy}

-- the items up to and including the first fault
abbrev pub upto_fault : {A : Type 0} → List (Result A Fault) → List (Result A Fault)
upto_fault [] = []
upto_fault (Ok i ∷ items) = Ok i ∷ upto_fault items
upto_fault (Err f ∷ items) = Err f ∷ []

-- These are the items of both streams, whose longest readable prefixes are given: those of the non-lazy stream, then those
-- of the lazy stream, up to the first fault. `reader` reads instructions of a range, and `made` gives the items of its first
-- ones.
pub record AreItems {A : Type 0} (reader : Range → Reader) (made : Range → List Placed → List (Result A Fault)) (non_lazy lazy : Range)
    (ps qs : List Placed) (items : List (Result A Fault)) : Type 0 where
  pub stop : Option Fault
  pub lazy_stop : Option Fault
  pub longest : IsLongestBy (reader non_lazy) non_lazy ps stop
  pub lazy_longest : IsLongestBy (reader lazy) lazy qs lazy_stop
  pub are : items ≡ upto_fault (made non_lazy ps ++ fault_item stop ++ made lazy qs ++ fault_item lazy_stop)

-- these are the items of one stream alone, whose longest readable prefix is given, up to the first fault
pub record AreItemsAlone {A : Type 0} (reader : Reader) (made : List Placed → List (Result A Fault)) (r : Range) (ps : List Placed)
    (items : List (Result A Fault)) : Type 0 where
  pub stop : Option Fault
  pub longest : IsLongestBy reader r ps stop
  pub are : items ≡ upto_fault (made ps ++ fault_item stop)
