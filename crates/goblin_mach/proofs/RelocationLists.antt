-- Listing the sections that have relocations, one by one.
use Rattle.std.proofs.Common.{◌≡◌, ℕ, ◌+◌, ◌<◌, List, [], ◌∷◌, ◌++◌, map, length, get_or, drop, nat_lt, Result, Ok, Err, refl, sym, ap, ◌∙◌, append_assoc}
use Rattle.std.proofs.Common.{lt-ltb}
use Rattle.std.specs.List.{enumerate_from, filter, flat_map}
use Rattle.std.proofs.lemmas.List.{map_push, at_drop_more}
use Rattle.mach_base.specs.declared.context.Ctx.{Ctx}
use Rattle.mach_base.specs.declared.error.Error.{Error}
use Rattle.mach_base.specs.declared.error.Error.TheVariants as errors
use Rattle.mach_base.specs.Answer.{◌>>=◌, FailsAs}
use Rattle.mach_base.specs.Fault.{Fault, malformed, bad_magic, too_short, fault_of_scroll}
use Rattle.mach_base.proofs.Binds.{same_ok}
use Rattle.mach_base.specs.Items.{all_read}
use Rattle.mach_parts.specs.Segment.{SegmentView, segment_view, sections_of}
use Rattle.mach_parts.specs.Relocation.{relocations_at}
use Rattle.mach_parts.specs.RelocationItems.{relocations_left}
use Rattle.mach_parts.specs.declared.segment.Segment.{Segment}
use Rattle.mach_parts.specs.declared.segment.relocations.RelocationIterator.{RelocationIterator}
use Rattle.mach_parts.specs.declared.segment.section.Section.{Section}
use Rattle.goblin_mach.specs.Relocations.{RelocatedSection, relocated_view, relocated_section, relocated_sections_of, relocated_sections_in, with_front}

module _ (ctx : Ctx) (bytes : List ℕ) where
  -- those of some sections, numbered from n on, that have relocations
  abbrev pub among_from : ℕ → List Section → List RelocatedSection
  among_from n sections = map (relocated_section ctx bytes) (filter (λ s. nat_lt 0 s.1.nreloc) (enumerate_from n sections))

  -- the relocations of sections with their data
  abbrev pub found_from : ℕ → Result (List (Section × List ℕ)) Fault → Result (List RelocatedSection) Fault
  found_from n sections = sections >>= (λ found. Ok (among_from n (map (λ s. s.0) found)))

  -- the relocations of sections, or the fault of one that can't be read
  abbrev pub left_from : ℕ → List (Result (Section × List ℕ) Fault) → Result (List RelocatedSection) Fault
  left_from n items = found_from n (all_read items)

  found-taken : (n : ℕ) (s : Section) (held : List ℕ) (front : List RelocatedSection) (rest : Result (List (Section × List ℕ)) Fault) → 0 < s.nreloc
      → with_front front (found_from n (rest >>= (λ xs. Ok ((s, held) ∷ xs))))
      ≡ with_front (front ++ relocated_section ctx bytes (n, s) ∷ []) (found_from (n + 1) rest)
  found-taken n s held front (Ok xs) some =
      rw (lt-ltb 0 s.nreloc some) (ap Ok (sym (append_assoc front (relocated_section ctx bytes (n, s) ∷ []) (among_from (n + 1) (map (λ x. x.0) xs)))))
  found-taken n s held front (Err f) some = refl

  -- at first all items of a segment are left
  pub left-first : (segment : SegmentView) (front : List RelocatedSection) (n : ℕ) (items : List (Result (Section × List ℕ) Fault)) → n ≡ 0
      → items ≡ sections_of segment
      → with_front front (relocated_sections_of ctx bytes segment) ≡ with_front front (left_from n items)
  left-first segment front n items none all = rw (none, all) refl

  -- at a section that has relocations, its entry follows those before it
  pub left-taken : (n m number : ℕ) (s : Section) (held : List ℕ) (it : RelocationIterator)
      (front pushed : List (ℕ × RelocationIterator × Section)) (item : Result (Section × List ℕ) Fault) (items after : List (Result (Section × List ℕ) Fault))
      → items ≡ item ∷ after → item ≡ Ok (s, held) → m ≡ n + 1 → number ≡ n → 0 < s.nreloc
      → relocations_left it ≡ relocations_at ctx.le bytes s.reloff s.nreloc → pushed ≡ front ++ (number, it, s) ∷ []
      → with_front (map relocated_view front) (left_from n items) ≡ with_front (map relocated_view pushed) (left_from m after)
  left-taken n m number s held it front pushed item items after here is next same some its entry =
      let seen : relocated_view (number, it, s) ≡ relocated_section ctx bytes (n, s) = rw (its, same) refl in
      let all : map relocated_view pushed ≡ map relocated_view front ++ relocated_section ctx bytes (n, s) ∷ [] =
      rw (entry, map_push) (ap (λ e. map relocated_view front ++ e ∷ []) seen) in
      rw (here, is, next, all) (found-taken n s held (map relocated_view front) (all_read after) some)

  -- the lists of some segments, one after the other
  abbrev joined : Result (List (List RelocatedSection)) Fault → Result (List RelocatedSection) Fault
  joined lists = lists >>= (λ found. Ok (flat_map (λ list. list) found))

  joined-more : (front pushed : List RelocatedSection) (first : Result (List RelocatedSection) Fault) (rest : Result (List (List RelocatedSection)) Fault)
      → with_front front first ≡ Ok pushed
      → with_front front (joined (first >>= (λ x. rest >>= (λ xs. Ok (x ∷ xs))))) ≡ with_front pushed (joined rest)
  joined-more front pushed (Ok list) (Ok lists) e =
      ap Ok (sym (append_assoc front list (flat_map (λ list. list) lists))) ∙ ap (λ l. Ok (l ++ flat_map (λ list. list) lists)) (same_ok e)
  joined-more front pushed (Ok list) (Err f) e = refl
  joined-more front pushed (Err f) rest e = absurd (cc)

  joined-refused : (front : List RelocatedSection) (f : Fault) (first : Result (List RelocatedSection) Fault)
      (rest : Result (List (List RelocatedSection)) Fault)
      → with_front front first ≡ Err f
      → with_front front (joined (first >>= (λ x. rest >>= (λ xs. Ok (x ∷ xs))))) ≡ Err f
  joined-refused front f (Ok list) rest e = absurd (cc)
  joined-refused front f (Err g) rest e = e

  -- what is listed before some segments, followed by what they give
  abbrev listed : List RelocatedSection → List Segment → Result (List RelocatedSection) Fault
  listed front segments = with_front front (relocated_sections_in ctx bytes (map segment_view segments))

  abbrev listed_of : List RelocatedSection → Segment → Result (List RelocatedSection) Fault
  listed_of front segment = with_front front (relocated_sections_of ctx bytes (segment_view segment))

  -- what the next segment gives follows what those before it give
  pub listed-more : (front pushed : List RelocatedSection) (xs : List Segment) (i : ℕ) (d : Segment) → i < length xs
      → listed_of front (get_or xs i d) ≡ Ok pushed
      → listed front (drop i xs) ≡ listed pushed (drop (i + 1) xs)
  listed-more front pushed xs i d lt e =
      at_drop_more (λ left. listed front left) xs i d lt
      ∙ joined-more front pushed _ (all_read (map (relocated_sections_of ctx bytes) (map segment_view (drop (i + 1) xs)))) e

  -- a fault of the next segment is the fault of the whole
  pub listed-refused : (front : List RelocatedSection) (f : Fault) (xs : List Segment) (i : ℕ) (d : Segment) → i < length xs
      → listed_of front (get_or xs i d) ≡ Err f → listed front (drop i xs) ≡ Err f
  listed-refused front f xs i d lt e =
      at_drop_more (λ left. listed front left) xs i d lt
      ∙ joined-refused front f _ (all_read (map (relocated_sections_of ctx bytes) (map segment_view (drop (i + 1) xs)))) e

-- an error fails as its first part does, if the fault of that part is the fault of the whole
pub FailsAs-whole : {Y Z : Type 0} (e : Error) (first : Result Y Fault) (whole : Result Z Fault) → ((f : Fault) → first ≡ Err f → whole ≡ Err f)
    → FailsAs e first → FailsAs e whole
FailsAs-whole (errors.Malformed m) first whole to h = to malformed h
FailsAs-whole (errors.BadMagic n) first whole to h = to (bad_magic n) h
FailsAs-whole (errors.Scroll x) first whole to h = to (fault_of_scroll x) h
FailsAs-whole (errors.BufferTooShort n m) first whole to h = to (too_short n m.now) h
FailsAs-whole (errors.Memory x) first whole to h = tt
