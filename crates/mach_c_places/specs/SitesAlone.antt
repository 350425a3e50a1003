-- Where the names of one stream's rows are.
use Rattle.std.specs.Prelude.{◌≡◌, List, Option}
use Rattle.mach_base.specs.Fault.{Fault}
use Rattle.mach_dyld.specs.Sites.{Site, sites_in}
use Rattle.mach_dyld.specs.Streams.{IsLongestBy, Placed, Range, Reader}

-- the sites of all its rows, up to what can't be read
pub record AreSitesAlone (reader : Reader) (r : Range) (sites : List Site) : Type 0 where
  pub ps : List Placed
  pub stop : Option Fault
  pub longest : IsLongestBy reader r ps stop
  pub are : sites ≡ sites_in ps
