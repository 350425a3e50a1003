-- The paths of a reading, turn by turn: to the nodes that were read, and to what is ahead.
use Rattle.mach_dyld.proofs.TrieNames.{◌≡◌, ◌<◌, ◌≤◌, ◌+◌, ◌-◌, ℕ, zero, suc, List, [], ◌∷◌, ◌++◌, ◌⊎◌, inl, inr, length, drop, Some, refl, sym, ap, subst, ◌∙◌}
use Rattle.mach_dyld.proofs.TrieNames.{arith, append_assoc, append-nil, length-append, slice_get, cases_eq, Fault, malformed, Info, Option, None, Branch, Node}
use Rattle.mach_dyld.proofs.TrieNames.{Trie}
use Rattle.mach_dyld.proofs.TrieNames.{IsNode, Entry, own_entries, Leads, Path, Before, IsTree, StartsFrom, IsAmong, AreApart, TrieFault, at_node, met_again}
use Rattle.mach_dyld.proofs.TrieNames.{Ahead, ahead, to_root, Unfolds, nothing_read, passed, node_read, IsCutBy}
use Rattle.mach_dyld.proofs.TrieNames.{AreLed, IsBeside, AreBeside, AreLastFirst, GoesOnFromOne, HasRead}
use Rattle.mach_dyld.proofs.TriePaths.{same_node, leads_to_one, leads_inside, leads_after, Leads-append, drop_head, not_before_itself}
use Rattle.mach_dyld.proofs.TriePaths.{among_left, among_right, among_append}
use Rattle.mach_dyld.proofs.TrieVisits.{few_paths}

-- ---- the order of paths

pub before_deeper : (p q r : List ℕ) → Before p q → Before p (q ++ r)
before_deeper p [] r b = absurd b
before_deeper [] (y ∷ q) r b = tt
before_deeper (x ∷ p) (y ∷ q) r b = elim b [ inl less ↦ inl less | inr same ↦ inr (same.0, before_deeper p q r same.1) ]

pub before_child : (q : List ℕ) (k : ℕ) → Before q (q ++ k ∷ [])
before_child [] k = tt
before_child (x ∷ q) k = inr (refl, before_child q k)

pub beside_before : (p q : List ℕ) → IsBeside p q → Before p q
beside_before [] q b = absurd b
beside_before (x ∷ p) [] b = absurd b
beside_before (x ∷ p) (y ∷ q) b = elim b [ inl less ↦ inl less | inr same ↦ inr (same.0, beside_before p q same.1) ]

pub beside_deeper : (p r q : List ℕ) → IsBeside p q → IsBeside (p ++ r) q
beside_deeper [] r q b = absurd b
beside_deeper (x ∷ p) r [] b = absurd b
beside_deeper (x ∷ p) r (y ∷ q) b = elim b [ inl less ↦ inl less | inr same ↦ inr (same.0, beside_deeper p r q same.1) ]

pub beside_sibling : (q : List ℕ) (j k : ℕ) → j < k → IsBeside (q ++ j ∷ []) (q ++ k ∷ [])
beside_sibling [] j k less = inl less
beside_sibling (x ∷ q) j k less = inr (refl, beside_sibling q j k less)

-- ---- the paths to the children of a node, from the branch of a number on

abbrev children : List ℕ → ℕ → List Branch → List (List ℕ)
children q k [] = []
children q k (b ∷ bs) = (q ++ k ∷ []) ∷ children q (suc k) bs

is_child : (q : List ℕ) (k : ℕ) (bs : List Branch) (r : List ℕ) → IsAmong r (children q k bs) → (j : ℕ) × (k ≤ j) × (r ≡ q ++ j ∷ [])
is_child q k [] r i = absurd i
is_child q k (b ∷ bs) r i = elim i [
  | inl e ↦ (k, omega arith, e)
  | inr more ↦ (let c = is_child q (suc k) bs r more in (c.0, omega (arith, c.1), c.2))
]

child_there : (q : List ℕ) (k i j : ℕ) (bs : List Branch) (b : Branch) → j ≡ k + i → slice_get bs i ≡ Some b → IsAmong (q ++ j ∷ []) (children q k bs)
child_there q k i j [] b at e = absurd (cc)
child_there q k zero j (c ∷ bs) b at e = inl (let z : j ≡ k = omega arith in ap (λ n. q ++ n ∷ []) z)
child_there q k (suc i) j (c ∷ bs) b at e = inr (child_there q (suc k) i j bs b (omega arith) e)

children_led : (t : Trie) (root start : ℕ) (path prefix : List ℕ) (node : Node) → Leads t path root start → IsNode t start node
    → (k : ℕ) (bs : List Branch) (qs : List (List ℕ)) (others : List Ahead) → bs ≡ drop k node.branches → AreLed t root qs others
    → AreLed t root (children path k bs ++ qs) (ahead prefix bs ++ others)
children_led t root start path prefix node leads is k [] qs others e led = led
children_led t root start path prefix node leads is k (b ∷ bs) qs others e led =
    let head = drop_head node.branches k b bs (sym e) in (
      Leads-append t path (k ∷ []) root start b.start leads (node, b, is.0, is.1, head.0, refl),
      children_led t root start path prefix node leads is (suc k) bs qs others head.1 led,
    )

children_beside : (q : List ℕ) (k : ℕ) (bs : List Branch) (qs : List (List ℕ)) → ((r : List ℕ) → IsAmong r qs → IsBeside q r) → AreBeside qs
    → AreBeside (children q k bs ++ qs)
children_beside q k [] qs first more = more
children_beside q k (b ∷ bs) qs first more = (
  λ r i. elim (among_append r (children q (suc k) bs) qs i) [
    | inl child ↦ (let c = is_child q (suc k) bs r child in subst (IsBeside (q ++ k ∷ [])) (sym c.2) (beside_sibling q k c.0 (omega (arith, c.1))))
    | inr other ↦ beside_deeper q (k ∷ []) r (first r other)
  ],
  children_beside q (suc k) bs qs first more,
)

-- ---- turns

module _ {t : Trie} {root : ℕ} where
  pub begins : (x : Ahead) → root ≡ x.start → HasRead t root [] ([] ∷ []) (x ∷ [])
  begins x e = record {
    lead = λ p i. absurd i;
    led = (e, tt);
    before = λ p q i j. absurd i;
    beside = (λ r i. absurd i, tt);
    last_first = tt;
    all = λ p path. inr ([], p, inl refl, refl);
  }

  module _ {paths others : List (List ℕ)} {x : Ahead} {left : List Ahead} (h : HasRead t root paths others (x ∷ left)) where
    -- the path to what comes next
    pub next_path : (q : List ℕ) × (qs : List (List ℕ)) × (others ≡ q ∷ qs) × Leads t q root x.start
    next_path = of others h.led
      where
        of : (qs : List (List ℕ)) → AreLed t root qs (x ∷ left) → (q : List ℕ) × (rest : List (List ℕ)) × (qs ≡ q ∷ rest) × Leads t q root x.start
        of [] led = absurd led
        of (q ∷ qs) led = (q, qs, refl, led.0)

    pub path_differs : (p : List ℕ) → IsAmong p paths → p ≡ next_path.0 → ⊥
    path_differs p i e =
        let next = subst (IsAmong next_path.0) (sym next_path.2) (inl refl) in
        not_before_itself next_path.0 (subst (λ z. Before z next_path.0) e (h.before p next_path.0 i next))

  -- nothing is skipped
  pub passes : {paths : List (List ℕ)} (others : List (List ℕ)) {x : Ahead} {left : List Ahead} → HasRead t root paths others (x ∷ left) → t.upto ≤ x.start
      → (qs : List (List ℕ)) × HasRead t root paths qs left
  passes [] h out = absurd h.led
  passes (q ∷ qs) {x} h out = (
    qs,
    record {
      lead = h.lead;
      led = h.led.1;
      before = λ p r i j. h.before p r i (inr j);
      beside = h.beside.1;
      last_first = h.last_first;
      all = λ p path. elim (h.all p path) [
        | inl old ↦ inl old
        | inr b ↦ elim b.2 [
          | inl e ↦ absurd (
              let whole = subst (λ z. Leads t z root path.0) (b.3 ∙ ap (λ (z : List ℕ). z ++ b.1) e) path.1 in
              let inside = leads_inside t b.1 x.start path.0 (leads_after t q b.1 root x.start path.0 h.led.0 whole) path.2 in omega arith)
          | inr more ↦ inr (b.0, b.1, more, b.3)
        ]
      ];
    },
  )

  -- a node is read
  pub reads : {paths : List (List ℕ)} (others : List (List ℕ)) {x : Ahead} {left : List Ahead} → HasRead t root paths others (x ∷ left) → (node : Node)
      → IsNode t x.start node
      → (q : List ℕ) × (qs : List (List ℕ)) × Leads t q root x.start × HasRead t root (q ∷ paths) qs (ahead x.name node.branches ++ left)
  reads [] h node is = absurd h.led
  reads {paths} (q ∷ qs) {x} {left} h node is = (
    q,
    children q 0 node.branches ++ qs,
    h.led.0,
    record {
      lead = λ p i. elim i [ inl e ↦ subst (Path t root) (sym e) (x.start, h.led.0, is.0) | inr old ↦ h.lead p old ];
      led = children_led t root x.start q x.name node h.led.0 is 0 node.branches qs left refl h.led.1;
      before = λ p r i j. elim (among_append r (children q 0 node.branches) qs j) [
        | inl child ↦ (let c = is_child q 0 node.branches r child in subst (Before p) (sym c.2) (elim i [
          | inl e ↦ subst (λ z. Before z (q ++ c.0 ∷ [])) (sym e) (before_child q c.0)
          | inr old ↦ before_deeper p q (c.0 ∷ []) (h.before p q old (inl refl))
        ]))
        | inr other ↦ elim i [
          | inl e ↦ subst (λ z. Before z r) (sym e) (beside_before q r (h.beside.0 r other))
          | inr old ↦ h.before p r old (inr other)
        ]
      ];
      beside = children_beside q 0 node.branches qs h.beside.0 h.beside.1;
      last_first = (λ p i. h.before p q i (inl refl), h.last_first);
      all = λ p path. elim (h.all p path) [
        | inl old ↦ inl (inr old)
        | inr b ↦ elim b.2 [
          | inl e ↦ following b.1 p (b.3 ∙ ap (λ (z : List ℕ). z ++ b.1) e) path
          | inr more ↦ inr (b.0, b.1, among_right b.0 (children q 0 node.branches) qs more, b.3)
        ]
      ];
    },
  )
    where
      following : (rest p : List ℕ) → p ≡ q ++ rest → Path t root p → IsAmong p (q ∷ paths) ⊎ GoesOnFromOne (children q 0 node.branches ++ qs) p
      following [] p e path = inl (inl (e ∙ append-nil q))
      following (k ∷ ks) p e path =
          let way = leads_after t q (k ∷ ks) root x.start path.0 h.led.0 (subst (λ z. Leads t z root path.0) e path.1) in
          let there = subst (λ (z : Node). slice_get z.branches k ≡ Some way.1) (same_node way.3 is.1) way.4 in
          inr (
            q ++ k ∷ [],
            ks,
            among_left (q ++ k ∷ []) (children q 0 node.branches) qs (child_there q 0 k k node.branches way.1 (omega arith) there),
            e ∙ sym (append_assoc q (k ∷ []) ks),
          )

-- ---- readings

pub record Reading (t : Trie) (root n : ℕ) (left : List Ahead) : Type 0 where
  pub paths : List (List ℕ)
  pub others : List (List ℕ)
  pub count : n ≡ length paths
  pub met : HasRead t root paths others left

pub reading : {t : Trie} {root n : ℕ} {found : List Entry} {left : List Ahead} → Unfolds t root n found left → Reading t root n left
reading nothing_read = record { paths = []; others = [] ∷ []; count = refl; met = begins (to_root _) refl }
reading (passed before out) =
    let r = reading before in let p = passes r.others r.met out in record { paths = r.paths; others = p.0; count = r.count; met = p.1 }
reading {t} {root} (node_read node before is met_is left_is) =
    let r = reading before in
    let p = reads r.others r.met node is in
    record { paths = p.0 ∷ r.paths; others = p.1; count = ap suc r.count; met = subst (HasRead t root (p.0 ∷ r.paths) p.1) (sym left_is) p.3 }

few_own : (prefix : List ℕ) (own : Option Info) → length (own_entries prefix own) ≤ 1
few_own prefix None = omega arith
few_own prefix (Some info) = omega arith

-- at most as many exports are met as nodes are read
pub few_met : {t : Trie} {root n : ℕ} {found : List Entry} {left : List Ahead} → Unfolds t root n found left → length found ≤ n
few_met nothing_read = omega arith
few_met (passed before out) = few_met before
few_met {found = met} (node_read {found = found} {next = next} node before is met_is left_is) =
    let few = few_met before in
    let one = few_own next.name node.own in
    let long = length-append found (own_entries next.name node.own) in
    let same = ap (λ (es : List Entry). length es) met_is in omega arith

-- ---- two paths to one node

same_path : (t : Trie) (root : ℕ) (ps : List (List ℕ)) → AreApart t root ps → (p q : List ℕ) (at : ℕ) → IsAmong p ps → IsAmong q ps → Leads t p root at
    → Leads t q root at → p ≡ q
same_path t root [] apart p q at i j a b = absurd i
same_path t root (r ∷ ps) apart p q at i j a b = elim i [
  | inl e ↦ elim j [
    | inl same ↦ e ∙ sym same
    | inr later ↦ absurd (apart.0 q at later (subst (λ z. Leads t z root at) e a) b)
  ]
  | inr later ↦ elim j [
    | inl e ↦ absurd (apart.0 p at later (subst (λ z. Leads t z root at) e b) a)
    | inr also ↦ same_path t root ps apart.1 p q at later also a b
  ]
]

module _ {t : Trie} {root : ℕ} where
  -- if nothing is ahead, all paths to nodes were followed
  module _ {paths others : List (List ℕ)} (h : HasRead t root paths others []) where
    pub all_paths : (p : List ℕ) → Path t root p → IsAmong p paths
    all_paths p path = of others h.led (h.all p path)
      where
        of : (qs : List (List ℕ)) → AreLed t root qs [] → IsAmong p paths ⊎ GoesOnFromOne qs p → IsAmong p paths
        of [] led i = elim i [ inl there ↦ there | inr b ↦ absurd b.2 ]
        of (q ∷ qs) led i = absurd led

    pub is_tree : AreApart t root paths → IsTree t root
    is_tree apart p q at a b inside = same_path t root paths apart p q at (all_paths p (at, a, inside)) (all_paths q (at, b, inside)) a b

  -- a path that leads to the place of one of these
  meets : (p : List ℕ) (at : ℕ) → Leads t p root at → at < t.upto → (qs : List (List ℕ)) → ((q : List ℕ) → IsAmong q qs → Path t root q × Before q p)
      → ((q : List ℕ) (a : ℕ) → IsAmong q qs → Leads t p root a → Leads t q root a → ⊥) ⊎ TrieFault t root malformed
  meets p at lead inside [] each = inl (λ q a i x y. absurd i)
  meets p at lead inside (q ∷ qs) each =
      let there = each q (inl refl) in
      elim (cases_eq at there.0.0) [
        | inl same ↦ inr (met_again p q at lead (subst (λ z. Leads t q root z) (sym same) there.0.1) inside
            (λ e. not_before_itself p (subst (λ z. Before z p) (sym e) there.1)))
        | inr other ↦ elim (meets p at lead inside qs (λ r i. each r (inr i))) [
          | inr fault ↦ inr fault
          | inl none ↦ inl (λ r a i x y. elim i [
            | inl e ↦ other (leads_to_one t p root at a lead x ∙ sym (leads_to_one t q root there.0.0 a there.0.1 (subst (λ z. Leads t z root a) e y)))
            | inr more ↦ none r a more x y
          ])
        ]
      ]

  apart_or_twice : (ps : List (List ℕ)) → ((p : List ℕ) → IsAmong p ps → Path t root p) → AreLastFirst ps → AreApart t root ps ⊎ TrieFault t root malformed
  apart_or_twice [] lead last = inl tt
  apart_or_twice (p ∷ ps) lead last = elim (apart_or_twice ps (λ q i. lead q (inr i)) last.1) [
    | inr fault ↦ inr fault
    | inl apart ↦ (let path = lead p (inl refl) in elim (meets p path.0 path.1 path.2 ps (λ q i. (lead q (inr i), last.0 q i))) [
      | inl none ↦ inl (none, apart)
      | inr fault ↦ inr fault
    ])
  ]

  pub tree_or_twice : {n : ℕ} → Reading t root n [] → IsTree t root ⊎ TrieFault t root malformed
  tree_or_twice r = elim (apart_or_twice r.paths r.met.lead r.met.last_first) [ inl apart ↦ inl (is_tree r.met apart) | inr fault ↦ inr fault ]

  -- after as many nodes as the range has places
  pub twice : {n : ℕ} {x : Ahead} {left : List Ahead} → StartsFrom t root → Reading t root n (x ∷ left) → x.start < t.upto → n ≡ t.upto - root
      → TrieFault t root malformed
  twice {x = x} starts r inside many =
      let next = next_path r.met in
      let lead : (p : List ℕ) → IsAmong p (next.0 ∷ r.paths) → Path t root p =
      λ p i. elim i [ inl e ↦ subst (Path t root) (sym e) (x.start, next.3, inside) | inr old ↦ r.met.lead p old ] in
      let last : AreLastFirst (next.0 ∷ r.paths) =
      (λ p i. r.met.before p next.0 i (subst (IsAmong next.0) (sym next.2) (inl refl)), r.met.last_first) in
      elim (apart_or_twice (next.0 ∷ r.paths) lead last) [
        | inl apart ↦ absurd (let few = few_paths t root root starts (omega arith) (next.0 ∷ r.paths) apart lead in let count = r.count in omega arith)
        | inr fault ↦ fault
      ]

  -- what cuts a reading short is a fault of the trie
  pub cut_occurs : {found : List Entry} {f : Fault} → StartsFrom t root → IsCutBy t root found f → TrieFault t root f
  cut_occurs {found} {f} starts cut = elim cut.why [
    | inl bad ↦ (let next = next_path (reading cut.read).met in at_node f next.0 cut.next.start next.3 cut.inside bad)
    | inr many ↦ subst (λ (x : Fault). TrieFault t root x) (sym many.1) (twice starts (reading cut.read) cut.inside many.0)
  ]
