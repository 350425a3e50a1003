-- Where the names of one stream's rows are at its start: it is read as the second of two streams, the first of which is empty.
use Rattle.mach_dyld.proofs.BindNames.{◌≡◌, ◌++◌, ◌∙◌, List, [], Bool, true, false, None, refl, ap, cond, append-nil, all_from, reading_within}
use Rattle.mach_dyld.proofs.BindNames.{Range, Placed, Reader, Moves, start_of}
use Rattle.mach_dyld.specs.Sites.{AreSites, no_site, sites_from, sites_in}
unfoldable use Rattle.mach_dyld.specs.Sites.{sites_run, sites_of}
use Rattle.mach_dyld.proofs.BindReading.{one_longest, reading_longest}
use Rattle.mach_dyld.proofs.BindSites.{sites_at_start}
use Rattle.mach_c_places.specs.SitesAlone.{AreSitesAlone}

module _ (reader : Range → Reader) (r : Range) (moves : (s : Range) → Moves (reader s)) (last : r.is_lazy ≡ true) where
  abbrev nothing_read : Range
  nothing_read = record { from = 0; upto = 0; is_lazy = false }

  both : AreSites reader nothing_read r (sites_of reader r no_site (start_of nothing_read))
  both = sites_at_start reader r nothing_read moves refl

  none_first : both.ps ≡ []
  unfolding reading_within
  none_first =
      (one_longest (reader nothing_read) nothing_read both.ps [] both.stop None both.longest
      (reading_longest (reader nothing_read) (moves nothing_read) nothing_read)).0

  pub alone_sites : AreSitesAlone (reader r) r (sites_of reader r no_site (start_of r))
  unfolding sites_of sites_run reading_within all_from
  alone_sites =
      let rest = sites_from reader no_site r r.from in
      record {
        ps = both.qs;
        stop = both.lazy_stop;
        longest = both.lazy_longest;
        are = ap (λ (t : Bool). rest ++ cond t [] rest) last ∙ append-nil rest ∙ both.are
            ∙ ap (λ (ps : List Placed). sites_in ps ++ sites_in both.qs) none_first;
      }
