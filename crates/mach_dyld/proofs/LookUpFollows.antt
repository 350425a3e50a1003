-- The state of a look-up before it searches: the nodes on the way so far, each after the one before it in the bytes.
use Rattle.std.proofs.Common.{◌≡◌, ◌<◌, ◌≤◌, ◌+◌, ◌-◌, ◌*◌, ℕ, List, [], ◌∷◌, ◌++◌, inl, inr, length, drop, map, Option, None, refl, sym, ap}
use Rattle.std.proofs.Common.{subst, ◌∙◌, arith, length-append}
use Rattle.std.proofs.Math.Seq.{drop-append_seam}
use Rattle.std.proofs.lemmas.List.{length-map}
use Rattle.mach_base.specs.Among.{IsAmong}
use Rattle.mach_dyld.specs.Trie.{Info, Trie}
use Rattle.mach_dyld.specs.Paths.{Leads, Path, IsTree}
use Rattle.mach_dyld.specs.Visits.{AreApart}
use Rattle.mach_base.specs.Text.{texts}
use Rattle.mach_dyld.specs.Finds.{Finds, at_nothing, below}
use Rattle.mach_dyld.specs.LookUp.{PathSpells, IsOnWay, LookUpVisits}
use Rattle.mach_dyld.specs.LookUpState.{IsPassed, LeadsOn, SearchVisits}
use Rattle.mach_dyld.specs.Views.{source_trie}
use Rattle.mach_dyld.specs.declared.trie.walk.Source.{Source}
use Rattle.mach_dyld.proofs.Starts.{starts_from}
use Rattle.mach_dyld.proofs.TriePaths.{Leads-append, leads_to_one, leads_after, among_append}
use Rattle.mach_dyld.proofs.TrieVisits.{no_more_paths, few_paths}
use Rattle.mach_dyld.proofs.LookUpPaths.{spells_on, way_after}

abbrev after_path : List ℕ → List (List ℕ) → List (List ℕ)
after_path p qs = map (λ q. p ++ q) qs

in_after : (p : List ℕ) (qs : List (List ℕ)) (r : List ℕ) → IsAmong r (after_path p qs) → (q : List ℕ) × IsAmong q qs × (r ≡ p ++ q)
in_after p [] r i = absurd i
in_after p (q ∷ qs) r i = elim i [ inl e ↦ (q, inl refl, e) | inr more ↦ (let rest = in_after p qs r more in (rest.0, inr rest.1, rest.2)) ]

apart_after : (t : Trie) (p : List ℕ) (a b : ℕ) (qs : List (List ℕ)) → Leads t p a b → AreApart t b qs → AreApart t a (after_path p qs)
apart_after t p a b [] l apart = tt
apart_after t p a b (q ∷ qs) l apart = (
  λ r at i x y.
      let other = in_after p qs r i in
      apart.0 other.0 at other.1 (leads_after t p q a b at l x)
      (leads_after t p other.0 a b at l (subst (λ (z : List ℕ). Leads t z a at) other.2 y)),
  apart_after t p a b qs l apart.1,
)

module _ (s : Source) (name : List ℕ) where
  -- a path to a node that was visited before this start, with fewer branches than this
  abbrev pub IsBefore : ℕ → List ℕ → List ℕ → Type 0
  IsBefore start path p = (at : ℕ) × Leads (source_trie s) p s.from at × (at < start) × (length p < length path)
      × (others : List ℕ) × PathSpells (source_trie s) s.from name p others

  pub record Follows (start : ℕ) (rest : List ℕ) (first steps : ℕ) : Type 0 where
    pub path : List ℕ
    pub before : List (List ℕ)
    pub leads : Leads (source_trie s) path s.from start
    pub inside : start < s.upto
    pub low : s.from ≤ start
    pub spelled : PathSpells (source_trie s) s.from name path rest
    pub finds : (found : Option Info) → Finds (source_trie s) start rest found → Finds (source_trie s) s.from name found
    pub each : (p : List ℕ) → IsAmong p before → IsBefore start path p
    pub apart : AreApart (source_trie s) s.from before
    pub count : steps ≡ first + length before

  pub begins : (first : ℕ) → s.from < s.upto → Follows s.from name first first
  begins first inside = record {
    path = [];
    before = [];
    leads = refl;
    inside = inside;
    low = omega arith;
    spelled = ([], refl, refl);
    finds = λ found f. f;
    each = λ p i. absurd i;
    apart = tt;
    count = omega arith;
  }

  module _ {start : ℕ} {rest : List ℕ} {first steps : ℕ} (h : Follows start rest first steps) where
    now_apart : AreApart (source_trie s) s.from (h.path ∷ h.before)
    now_apart = (
      λ q at i x y.
          let one = h.each q i in
          let here = leads_to_one (source_trie s) h.path s.from at start x h.leads in
          let there = leads_to_one (source_trie s) q s.from at one.0 y one.1 in omega (arith, one.2),
      h.apart,
    )

    on_way : (p : List ℕ) → IsAmong p (h.path ∷ h.before) → IsOnWay (source_trie s) s.from name p
    on_way p i = elim i [
      | inl e ↦ subst (IsOnWay (source_trie s) s.from name) (sym e) ((start, h.leads, h.inside), rest, h.spelled)
      | inr old ↦ (let one = h.each p old in let inside = h.inside in ((one.0, one.1, omega (arith, one.2)), one.4, one.5))
    ]

    -- the node is the last one visited
    pub ended : {now : ℕ} → now ≡ steps + 1 → LookUpVisits (source_trie s) s.from name first now
    ended {now} one_more = record {
      paths = h.path ∷ h.before;
      searched = [];
      on_way = on_way;
      searched_on_way = λ p i. absurd i;
      apart = now_apart;
      searched_apart = tt;
      differ = λ p i j. absurd j;
      count = let count = h.count in omega (arith, one_more);
    }

    -- a search continues from the node
    pub searched : {now end : ℕ} → now ≡ steps + 1 → SearchVisits (source_trie s) start rest now end → LookUpVisits (source_trie s) s.from name first end
    searched {now} {end} one_more sv = record {
      paths = h.before;
      searched = after_path h.path sv.paths;
      on_way = λ p i. on_way p (inr i);
      searched_on_way = λ p i.
          let q = in_after h.path sv.paths p i in
          subst (IsOnWay (source_trie s) s.from name) (sym q.2)
          (way_after (source_trie s) h.path q.0 s.from start name rest h.leads h.spelled (sv.on_way q.0 q.1));
      apart = h.apart;
      searched_apart = apart_after (source_trie s) h.path s.from start sv.paths h.leads sv.apart;
      differ = λ p i j.
          let short = (h.each p i).3 in
          let q = in_after h.path sv.paths p j in
          let same = ap (λ (x : List ℕ). length x) q.2 in
          let long = length-append h.path q.0 in omega (arith, short);
      count = let count = h.count in let all = sv.count in let b = length-map sv.paths (λ (q : List ℕ). h.path ++ q) in omega (arith, one_more, count, all, b);
    }

    -- to the one child that matches
    module _ {child len : ℕ} (turn : (start < child) × IsPassed s start rest (λ bs. LeadsOn (source_trie s) rest bs child len)) where
      on : LeadsOn (source_trie s) rest turn.1.0.branches child len
      on = turn.1.3

      rest_after : on.others ≡ drop len rest
      rest_after = sym (drop-append_seam on.branch.label on.others)
          ∙ (ap (λ n. drop n (on.branch.label ++ on.others)) on.len_is ∙ ap (drop len) (sym on.spells))

      pub len_within : len ≤ length rest
      len_within = let a = ap (λ (x : List ℕ). length x) on.spells in let b = length-append on.branch.label on.others in let c = on.len_is in omega arith

      pub goes_on : {others : List ℕ} {now : ℕ} → others ≡ drop len rest → now ≡ steps + 1 → Follows child others first now
      goes_on {others} {now} is one_more = subst (λ x. Follows child x first now) (rest_after ∙ sym is) (record {
        path = h.path ++ on.number ∷ [];
        before = h.path ∷ h.before;
        leads = Leads-append (source_trie s) h.path (on.number ∷ []) s.from start child h.leads
            (turn.1.0, on.branch, h.inside, turn.1.1, on.there, on.start_is);
        inside = on.inside;
        low = let low = h.low in omega (arith, turn.0);
        spelled = spells_on (source_trie s) h.path s.from start name rest on.others turn.1.0 on.number on.branch h.leads h.spelled turn.1.1 on.there on.spells;
        finds = λ found f. h.finds found (below turn.1.0 (h.inside, turn.1.1) turn.1.2 (on.finds found f));
        each = λ p i.
            let long = length-append h.path (on.number ∷ []) in
            elim i [
              | inl e ↦ subst (IsBefore child (h.path ++ on.number ∷ [])) (sym e) (start, h.leads, turn.0, omega arith, rest, h.spelled)
              | inr old ↦ (let one = h.each p old in (one.0, one.1, omega (arith, one.2, turn.0), omega (arith, one.3), one.4, one.5))
            ];
        apart = now_apart;
        count = let count = h.count in omega (arith, one_more, count);
      })

  -- a range without a node
  pub root_none : s.upto ≤ s.from → Finds (source_trie s) s.from name None
  root_none out = at_nothing out refl

  pub few_visits : (old new : ℕ) → LookUpVisits (source_trie s) s.from name old new → new ≤ old + 2 * (s.upto - s.from)
  few_visits old new v =
      let starts = starts_from s.bytes.now (texts s.libs.now) s.from s.upto in
      let one = few_paths (source_trie s) s.from s.from starts (omega arith) v.paths v.apart (λ p i. (v.on_way p i).0) in
      let two = few_paths (source_trie s) s.from s.from starts (omega arith) v.searched v.searched_apart (λ p i. (v.searched_on_way p i).0) in
      let count = v.count in omega (arith, one, two, count)

-- visits among some nodes

both_apart : (t : Trie) (root : ℕ) (ps qs : List (List ℕ)) → IsTree t root → AreApart t root ps → AreApart t root qs
    → ((p : List ℕ) → IsAmong p ps → Path t root p) → ((p : List ℕ) → IsAmong p ps → IsAmong p qs → ⊥) → AreApart t root (ps ++ qs)
both_apart t root [] qs tree a b leads differ = b
both_apart t root (p ∷ ps) qs tree a b leads differ = (
  λ q at i x y. elim (among_append q ps qs i) [
    | inl left ↦ a.0 q at left x y
    | inr right ↦ (let path = leads p (inl refl) in
        let same : p ≡ q = tree p q at x y (subst (λ z. z < t.upto) (leads_to_one t p root path.0 at path.1 x) path.2) in
        differ p (inl refl) (subst (λ (z : List ℕ). IsAmong z qs) (sym same) right))
  ],
  both_apart t root ps qs tree a.1 b (λ r i. leads r (inr i)) (λ r i j. differ r (inr i) j),
)

pub within_nodes : (t : Trie) (root : ℕ) (name : List ℕ) (old new : ℕ) (nodes : List ℕ) → LookUpVisits t root name old new
    → ((path : List ℕ) (at : ℕ) → Leads t path root at → at < t.upto → IsAmong at nodes) → new ≤ old + 2 * length nodes
within_nodes t root name old new nodes v all =
    let one = no_more_paths t root nodes all v.paths v.apart (λ p i. (v.on_way p i).0) in
    let two = no_more_paths t root nodes all v.searched v.searched_apart (λ p i. (v.searched_on_way p i).0) in
    let count = v.count in omega (arith, one, two, count)

pub within_tree : (t : Trie) (root : ℕ) (name : List ℕ) (old new : ℕ) (nodes : List ℕ) → IsTree t root → LookUpVisits t root name old new
    → ((path : List ℕ) (at : ℕ) → Leads t path root at → at < t.upto → IsAmong at nodes) → new ≤ old + length nodes
within_tree t root name old new nodes tree v all =
    let apart = both_apart t root v.paths v.searched tree v.apart v.searched_apart (λ p i. (v.on_way p i).0) v.differ in
    let most = no_more_paths t root nodes all (v.paths ++ v.searched) apart (λ p i. elim (among_append p v.paths v.searched i) [
      | inl left ↦ (v.on_way p left).0
      | inr right ↦ (v.searched_on_way p right).0
    ]) in
    let long = length-append v.paths v.searched in
    let count = v.count in omega (arith, most, long, count)
