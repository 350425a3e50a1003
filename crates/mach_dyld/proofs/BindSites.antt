-- What one step of an iterator over two streams leaves of the places of names and the numbers of libraries.
use Rattle.mach_dyld.proofs.BindNames.{◌≡◌, ℕ, suc, ◌+◌, ◌-◌, ◌<◌, ◌≤◌, List, [], ◌∷◌, ◌++◌, Bool, true, false, Ok, refl, sym, ap, ◌∙◌, cond}
use Rattle.mach_dyld.proofs.BindNames.{append-nil, replicate, bind_ok, same_ok, Instruction, done, library, symbol, addend, segment, advance, binds}
use Rattle.mach_dyld.proofs.BindNames.{Range, Placed, Reader, Moves, State, executed, executed_by, start_of, reading_from, all_from}
use Rattle.mach_dyld.specs.Instructions.{nothing, strong}
use Rattle.mach_dyld.specs.Binds.{rows_in}
use Rattle.mach_dyld.specs.Sites.{AreSites, Site, no_site, site_after, site_following, site_by, sites_at, sites_from, sites_in}
unfoldable use Rattle.mach_dyld.specs.Sites.{sites_run, sites_of}
use Rattle.mach_dyld.proofs.BindReading.{reads_next, nothing_left, reading_longest}

-- ---- settings that run forward are those that looking back finds

same_site : (back : List Placed) (place after : ℕ) (i : Instruction) → site_after (place + 1) i (site_following back)
    ≡ site_following (record { place = place; instruction = i; after = after } ∷ back)
same_site back place after done = refl
same_site back place after (library n) = refl
same_site back place after (symbol flags name) = refl
same_site back place after (addend n) = refl
same_site back place after (segment i n) = refl
same_site back place after (advance n) = refl
same_site back place after (binds count skip) = refl
same_site back place after nothing = refl
same_site back place after (strong flags name) = refl

runs_back : (back ps : List Placed) → sites_run (site_following back) ps ≡ all_from sites_at back ps
unfolding sites_run all_from
runs_back back [] = refl
runs_back back (p ∷ ps) =
    ap (λ s. replicate (rows_in p) s ++ sites_run s ps) (same_site back p.place p.after p.instruction)
    ∙ ap (λ l. sites_at back p ++ l) (runs_back (p ∷ back) ps)

module _ (reader : Range → Reader) (lazy : Range) where
  -- ---- at the start

  pub sites_at_start : (non_lazy : Range) → ((r : Range) → Moves (reader r)) → non_lazy.is_lazy ≡ false
      → AreSites reader non_lazy lazy (sites_of reader lazy no_site (start_of non_lazy))
  unfolding sites_of
  sites_at_start non_lazy moves first =
      let ahead = λ (r : Range). reading_from (reader r) r.upto r.from in
      let rest = sites_from reader no_site lazy lazy.from in
      record {
        ps = (ahead non_lazy).read;
        qs = (ahead lazy).read;
        stop = (ahead non_lazy).stop;
        lazy_stop = (ahead lazy).stop;
        longest = reading_longest (reader non_lazy) (moves non_lazy) non_lazy;
        lazy_longest = reading_longest (reader lazy) (moves lazy) lazy;
        are = ap (λ (t : Bool). sites_from reader no_site non_lazy non_lazy.from ++ cond t [] rest) first
            ∙ ap (λ l. l ++ rest) (runs_back [] (ahead non_lazy).read) ∙ ap (λ l. sites_in (ahead non_lazy).read ++ l) (runs_back [] (ahead lazy).read);
      }

  -- ---- step by step

  module _ (site : Site) (s : State) where
    pub site_of_bind : (k : ℕ) (t : State) → s.count ≡ suc k → s.ended ≡ false → t.ended ≡ false → t.count ≡ k → t.range ≡ s.range → t.place ≡ s.place
        → sites_of reader lazy site s ≡ site ∷ sites_of reader lazy site t
    unfolding sites_of
    site_of_bind k t count on still left range place = rw (on, still, count, left, range, place) refl

    module _ (count : s.count ≡ 0) (on : s.ended ≡ false) where
      pub site_read : (moves : Moves (reader s.range)) (i : Instruction) (after pointer : ℕ) → s.place < s.range.upto → reader s.range s.place ≡ Ok (i, after)
          → sites_of reader lazy site s ≡ sites_of reader lazy (site_after (s.place + 1) i site) (executed pointer i after s)
      unfolding sites_of sites_run executed
      site_read moves i after pointer h e =
          let next = reads_next (reader s.range) moves s.range.upto s.place (i, after) h e in
          rw (on, count, next) refl

      pub site_executed : (moves : Moves (reader s.range)) (pointer : ℕ) (t : State) (new : Site) → s.place < s.range.upto
          → executed_by pointer (reader s.range s.place) s ≡ Ok t → site_by (s.place + 1) (reader s.range s.place) site ≡ Ok new
          → sites_of reader lazy site s ≡ sites_of reader lazy new t
      site_executed moves pointer t new h k l =
          let p = bind_ok (reader s.range s.place) (λ (found : Instruction × ℕ). Ok (executed pointer found.0 found.1 s)) t k in
          let q = bind_ok (reader s.range s.place) (λ (found : Instruction × ℕ). Ok (site_after (s.place + 1) found.0 site)) new l in
          let same : p.0 ≡ q.0 = same_ok (sym p.1 ∙ q.1) in
          site_read moves p.0.0 p.0.1 pointer h p.1
          ∙ ap (λ (found : Instruction × ℕ). sites_of reader lazy (site_after (s.place + 1) found.0 site) (executed pointer p.0.0 p.0.1 s)) same
          ∙ ap (λ (n : Site). sites_of reader lazy n (executed pointer p.0.0 p.0.1 s)) (same_ok q.2) ∙ ap (sites_of reader lazy new) (same_ok p.2)

      pub site_over : (t : State) → s.range.is_lazy ≡ false → lazy.is_lazy ≡ true → s.range.upto ≤ s.place → t ≡ start_of lazy
          → sites_of reader lazy site s ≡ sites_of reader lazy no_site t
      unfolding sites_of sites_run
      site_over t e f h after =
          let none = nothing_left (s.range.upto - s.place) (reader s.range) s.range.upto s.place h in
          rw (after, on, count, none, e, f) (sym (append-nil _))
