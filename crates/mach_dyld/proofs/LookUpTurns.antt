-- The state of a search, turn by turn: the choices that are kept, the nodes that were visited and are marked, and what is still found.
use Rattle.mach_dyld.proofs.TrieNames.{◌≡◌, ◌<◌, ◌≤◌, ◌+◌, ◌-◌, ℕ, zero, suc, Bool, true, false, List, [], ◌∷◌, ◌++◌, ◌⊎◌, inl, inr, length, drop, set, get_or}
use Rattle.mach_dyld.proofs.TrieNames.{replicate, Option, Some, None, Ok, Err, refl, sym, ap, subst, ◌∙◌, arith, length-append, length-drop, slice_get}
use Rattle.mach_dyld.proofs.TrieNames.{Fault, malformed, IsAmong, Info, Branch, Node, Trie, Leads, Before, branch_at, branches_at, IsBeside, AreMarked}
use Rattle.mach_dyld.proofs.TrieNames.{branches_of, IsReadable, source_trie, node_in, Source}
use Rattle.std.proofs.Math.Seq.{drop-append_seam}
use Rattle.mach_dyld.specs.Finds.{IsElsewhere, Finds, BranchesFind, here, below, none_left, following, gone_back}
use Rattle.mach_dyld.specs.LookUp.{PathSpells, IsOnWay, FaultOnWay, at_node_on_way, met_on_way}
use Rattle.mach_dyld.specs.LookUpState.{Settles, FirstBranchLeads, SearchVisits}
use Rattle.mach_dyld.specs.declared.trie.look_up.Choice.{Choice}
use Rattle.mach_dyld.specs.declared.trie.node.BranchRun.{BranchRun}
use Rattle.mach_dyld.proofs.BranchAgain.{no_branch, next_left}
use Rattle.mach_dyld.proofs.TriePaths.{Leads-append, drop_head, not_before_itself}
use Rattle.mach_dyld.proofs.LookUpPaths.{spells_on}
use Rattle.mach_dyld.proofs.Starts.{branch_from}
use Rattle.mach_dyld.proofs.LookUpSettles.{readable_as, stopped_there}
use Rattle.mach_dyld.proofs.Marking as mark
use Rattle.mach_dyld.proofs.Readings.{before_deeper, before_child, beside_before, beside_deeper, beside_sibling}

-- a node whose branches are being tried: the path to it, the rest of the name there, and the number of its next branch
pub record Frame : Type 0 where
  pub path : List ℕ
  pub start : ℕ
  pub rest : List ℕ
  pub node : Node
  pub next : ℕ

abbrev pub later : Frame → ℕ → Frame
later f n = record { path = f.path; start = f.start; rest = f.rest; node = f.node; next = f.next + n }

abbrev pub left_of : Frame → List Branch
left_of f = drop f.next f.node.branches

-- what the frames find
abbrev pub Resolves : Trie → List Frame → Option Info → Type 0
Resolves t [] found = found ≡ None
Resolves t (f ∷ fs) found = ((info : Info) × (found ≡ Some info) × BranchesFind t f.rest (left_of f) (Some info)) ⊎
    (BranchesFind t f.rest (left_of f) None × Resolves t fs found)

drop_nil : {X : Type 0} (n : ℕ) → drop {A = X} n [] ≡ []
drop_nil zero = refl
drop_nil (suc n) = refl

drop_more : {X : Type 0} (m n : ℕ) (xs : List X) → drop n (drop m xs) ≡ drop (m + n) xs
drop_more zero n xs = let z : n ≡ 0 + n = omega arith in ap (λ k. drop k xs) z
drop_more (suc m) n [] = drop_nil n ∙ sym (drop_nil (suc m + n))
drop_more (suc m) n (x ∷ xs) = let z : suc (m + n) ≡ suc m + n = omega arith in drop_more m n xs ∙ ap (λ k. drop k (x ∷ xs)) z

-- ---- the order of paths

before_later : (p q : List ℕ) (j k : ℕ) → j ≤ k → Before p (q ++ j ∷ []) → Before p (q ++ k ∷ [])
before_later [] [] j k le b = tt
before_later [] (y ∷ q) j k le b = tt
before_later (x ∷ p) [] j k le b = elim b [ inl less ↦ inl (omega arith) | inr same ↦ absurd same.1 ]
before_later (x ∷ p) (y ∷ q) j k le b = elim b [ inl less ↦ inl less | inr same ↦ inr (same.0, before_later p q j k le same.1) ]

beside_later : (p q : List ℕ) (j k : ℕ) → j ≤ k → IsBeside p (q ++ j ∷ []) → IsBeside p (q ++ k ∷ [])
beside_later [] q j k le b = absurd b
beside_later (x ∷ p) [] j k le b = elim b [ inl less ↦ inl (omega arith) | inr same ↦ absurd (nothing_beside p same.1) ]
  where
    nothing_beside : (p : List ℕ) → IsBeside p [] → ⊥
    nothing_beside [] b = b
    nothing_beside (x ∷ p) b = b
beside_later (x ∷ p) (y ∷ q) j k le b = elim b [ inl less ↦ inl less | inr same ↦ inr (same.0, beside_later p q j k le same.1) ]

-- the path comes before the next branch of each frame
abbrev pub IsBeforeAll : List ℕ → List Frame → Type 0
IsBeforeAll p [] = Unit {0}
IsBeforeAll p (f ∷ fs) = Before p (f.path ++ f.next ∷ []) × IsBeforeAll p fs

-- the path leaves each of them by an earlier branch
abbrev pub IsBesideAll : List ℕ → List Frame → Type 0
IsBesideAll p [] = Unit {0}
IsBesideAll p (f ∷ fs) = IsBeside p (f.path ++ f.next ∷ []) × IsBesideAll p fs

abbrev pub AreInTurn : List Frame → Type 0
AreInTurn [] = Unit {0}
AreInTurn (f ∷ fs) = IsBesideAll f.path fs × AreInTurn fs

all_before : (p : List ℕ) (fs : List Frame) → IsBesideAll p fs → IsBeforeAll p fs
all_before p [] b = tt
all_before p (f ∷ fs) b = (beside_before p (f.path ++ f.next ∷ []) b.0, all_before p fs b.1)

all_deeper : (p r : List ℕ) (fs : List Frame) → IsBesideAll p fs → IsBesideAll (p ++ r) fs
all_deeper p r [] b = tt
all_deeper p r (f ∷ fs) b = (beside_deeper p r (f.path ++ f.next ∷ []) b.0, all_deeper p r fs b.1)

module _ (s : Source) (root : ℕ) (name : List ℕ) where
  pub record IsOpen (f : Frame) : Type 0 where
    pub leads : Leads (source_trie s) f.path root f.start
    pub inside : f.start < s.upto
    pub node : node_in s f.start ≡ Ok f.node
    pub spelled : PathSpells (source_trie s) root name f.path f.rest

  abbrev pub AreOpen : List Frame → Type 0
  AreOpen [] = Unit {0}
  AreOpen (f ∷ fs) = IsOpen f × AreOpen fs

  pub record IsShown (c : Choice) (f : Frame) : Type 0 where
    pub branches : branches_at s.bytes.now s.from c.branches.left c.branches.place ≡ Ok (left_of f)
    pub rest : f.rest ≡ drop c.at name
    pub within : c.at ≤ length name

  abbrev pub AreShown : List Choice → List Frame → Type 0
  AreShown [] [] = Unit {0}
  AreShown (c ∷ cs) (f ∷ fs) = IsShown c f × AreShown cs fs
  AreShown _ _ = ⊥

  pub record Holds (c : Choice) (cs : List Choice) (marks : List Bool) (first steps : ℕ) : Type 0 where
    pub top : Frame
    pub below : List Frame
    pub paths : List (List ℕ)
    pub marked : AreMarked (source_trie s) root s.from marks paths
    pub on_way : (p : List ℕ) → IsAmong p paths → IsOnWay (source_trie s) root name p
    pub before : (p : List ℕ) → IsAmong p paths → IsBeforeAll p (top ∷ below)
    pub in_turn : AreInTurn (top ∷ below)
    pub opened : AreOpen (top ∷ below)
    pub shown : IsShown c top
    pub shown_below : AreShown cs below
    pub count : suc steps ≡ first + length paths
    pub finds : (found : Option Info) → Resolves (source_trie s) (top ∷ below) found → Finds (source_trie s) root name found

  -- the root was visited
  root_marked : s.from ≤ root → root < s.upto → AreMarked (source_trie s) root s.from (set (replicate (s.upto - s.from) false) (root - s.from) true) ([] ∷ [])
  root_marked low inside = mark.one_marked (mark.none_marked (source_trie s) root s.from) [] refl low inside (mark.all_clear (s.upto - s.from) (root - s.from))

  root_way : root < s.upto → (p : List ℕ) → IsAmong p ([] ∷ []) → IsOnWay (source_trie s) root name p
  root_way inside p i = elim i [
    | inl e ↦ subst (IsOnWay (source_trie s) root name) (sym e) ((root, refl, inside), name, ([], refl, refl))
    | inr none ↦ absurd none
  ]

  pub begins : (c : Choice) (node : Node) (first : ℕ) → s.from ≤ root → root < s.upto → node_in s root ≡ Ok node → IsElsewhere name node.own
      → branches_at s.bytes.now s.from c.branches.left c.branches.place ≡ Ok node.branches → c.at ≡ 0
      → Holds c [] (set (replicate (s.upto - s.from) false) (root - s.from) true) first first
  begins c node first low inside at other branches zero_at = record {
    top = record { path = []; start = root; rest = name; node = node; next = 0 };
    below = [];
    paths = [] ∷ [];
    marked = root_marked low inside;
    on_way = root_way inside;
    before = λ p i. (elim i [ inl e ↦ subst (λ z. Before z (0 ∷ [])) (sym e) tt | inr none ↦ absurd none ], tt);
    in_turn = (tt, tt);
    opened = (record { leads = refl; inside = inside; node = at; spelled = ([], refl, refl) }, tt);
    shown = record { branches = branches; rest = ap (λ n. drop n name) (sym zero_at); within = omega arith };
    shown_below = tt;
    count = omega arith;
    finds = λ found r. elim r [
      | inl hit ↦ subst (Finds (source_trie s) root name) (sym hit.1) (below node (inside, at) other hit.2)
      | inr miss ↦ subst (Finds (source_trie s) root name) (sym miss.1) (below node (inside, at) other miss.0)
    ];
  }

  -- the visits so far
  visits_of : {marks : List Bool} {paths : List (List ℕ)} {first steps : ℕ} → AreMarked (source_trie s) root s.from marks paths
      → ((p : List ℕ) → IsAmong p paths → IsOnWay (source_trie s) root name p) → suc steps ≡ first + length paths
      → SearchVisits (source_trie s) root name first steps
  visits_of {paths = paths} marked on_way count = record { paths = paths; on_way = on_way; apart = marked.apart; count = count }

  pub root_visits : (first : ℕ) → s.from ≤ root → root < s.upto → SearchVisits (source_trie s) root name first first
  root_visits first low inside = visits_of (root_marked low inside) (root_way inside) (omega arith)

  pub visits_so_far : (c : Choice) (cs : List Choice) (marks : List Bool) (first steps : ℕ) → Holds c cs marks first steps
      → SearchVisits (source_trie s) root name first steps
  visits_so_far c cs marks first steps h = visits_of h.marked h.on_way h.count

  -- the branches of the top that find nothing are passed
  pub settled : (c d : Choice) (cs : List Choice) {marks : List Bool} {first steps : ℕ} (bs : List Branch) → Holds c cs marks first steps → d.at ≡ c.at
      → branches_at s.bytes.now s.from d.branches.left d.branches.place ≡ Ok bs
      → ((old : List Branch) → branches_at s.bytes.now s.from c.branches.left c.branches.place ≡ Ok old → Settles (source_trie s) (drop c.at name) old bs)
      → Holds d cs marks first steps
  settled c d cs bs h same_at branches settles =
      let st = settles (left_of h.top) h.shown.branches in
      let is : bs ≡ left_of (later h.top st.number) = st.dropped ∙ drop_more h.top.next st.number h.top.node.branches in
      record {
        top = later h.top st.number;
        below = h.below;
        paths = h.paths;
        marked = h.marked;
        on_way = h.on_way;
        before = λ p i. (before_later p h.top.path h.top.next (h.top.next + st.number) (omega arith) (h.before p i).0, (h.before p i).1);
        in_turn = (h.in_turn.0, h.in_turn.1);
        opened = (record { leads = h.opened.0.leads; inside = h.opened.0.inside; node = h.opened.0.node; spelled = h.opened.0.spelled }, h.opened.1);
        shown = record {
          branches = branches ∙ ap Ok is;
          rest = h.shown.rest ∙ ap (λ n. drop n name)
              (sym same_at);
          within = let w = h.shown.within in omega arith;
        };
        shown_below = h.shown_below;
        count = h.count;
        finds = λ found r. h.finds found (elim r [
          | inl hit ↦ inl (
            hit.0,
            hit.1,
            subst (λ (x : List ℕ). BranchesFind (source_trie s) x (left_of h.top) (Some hit.0)) (sym h.shown.rest)
                (st.finds (Some hit.0) (subst (λ (x : List ℕ). BranchesFind (source_trie s) x bs (Some hit.0)) h.shown.rest
                (subst (λ (x : List Branch). BranchesFind (source_trie s) h.top.rest x (Some hit.0)) (sym is) hit.2))),
          )
          | inr miss ↦ inr (
            subst (λ (x : List ℕ). BranchesFind (source_trie s) x (left_of h.top) None) (sym h.shown.rest)
                (st.finds None (subst (λ (x : List ℕ). BranchesFind (source_trie s) x bs None) h.shown.rest
                (subst (λ (x : List Branch). BranchesFind (source_trie s) h.top.rest x None) (sym is) miss.0))),
            miss.1,
          )
        ]);
      }

  none_of : (c : Choice) (f : Frame) → IsShown c f → c.branches.left ≡ 0 → BranchesFind (source_trie s) f.rest (left_of f) None
  none_of c f shown over =
      subst (λ (x : List Branch). BranchesFind (source_trie s) f.rest x None)
      (sym (no_branch s.bytes.now s.from c.branches.left c.branches.place (left_of f) over shown.branches))
      (none_left refl)

  -- nothing is left to be tried
  pub ended : (c : Choice) {marks : List Bool} {first steps : ℕ} → Holds c [] marks first steps → c.branches.left ≡ 0 → Finds (source_trie s) root name None
  ended c h over = last h.below h.shown_below h.finds
    where
      last : (fs : List Frame) → AreShown [] fs
          → ((found : Option Info) → Resolves (source_trie s) (h.top ∷ fs) found → Finds (source_trie s) root name found) → Finds (source_trie s) root name None
      last [] shown finds = finds None (inr (none_of c h.top h.shown over, refl))
      last (f ∷ fs) shown finds = absurd shown

  -- back to an earlier choice
  pub gone : (c p : Choice) (ps : List Choice) {marks : List Bool} {first steps : ℕ} → Holds c (p ∷ ps) marks first steps → c.branches.left ≡ 0
      → Holds p ps marks first steps
  gone c p ps {marks} {first} {steps} h over = back h.below h.shown_below h.opened.1 h.in_turn.1 (λ q i. (h.before q i).1) h.finds
    where
      back : (fs : List Frame) → AreShown (p ∷ ps) fs → AreOpen fs → AreInTurn fs → ((q : List ℕ) → IsAmong q h.paths → IsBeforeAll q fs)
          → ((found : Option Info) → Resolves (source_trie s) (h.top ∷ fs) found → Finds (source_trie s) root name found) → Holds p ps marks first steps
      back [] shown opened in_turn before finds = absurd shown
      back (f ∷ fs) shown opened in_turn before finds = record {
        top = f;
        below = fs;
        paths = h.paths;
        marked = h.marked;
        on_way = h.on_way;
        before = before;
        in_turn = in_turn;
        opened = opened;
        shown = shown.0;
        shown_below = shown.1;
        count = h.count;
        finds = λ found r. finds found (inr (none_of c h.top h.shown over, r));
      }

  pub elsewhere : (rest : List ℕ) (own : Option Info) → (length rest ≡ 0 → own ≡ None) → IsElsewhere rest own
  elsewhere [] own h = inl (h refl)
  elsewhere (x ∷ xs) own h = inr (λ e. cc)

  -- a branch of the top, which was settled, spells a prefix of the rest, and leads to a node
  pub record Taken (c : Choice) (cs : List Choice) (marks : List Bool) (first steps : ℕ) (label : List ℕ) (start after : ℕ) : Type 0 where
    pub held : Holds c cs marks first steps
    pub some : 0 < c.branches.left
    pub read : branch_at s.bytes.now s.from c.branches.place ≡ Ok (record { label = label; start = start }, after)
    pub inside : start < s.upto
    pub others : List ℕ
    pub spells : drop c.at name ≡ label ++ others

  module _ {c : Choice} {cs : List Choice} {marks : List Bool} {first steps : ℕ} {label : List ℕ} {start after : ℕ}
      (taken : Taken c cs marks first steps label start after) where
    abbrev h : Holds c cs marks first steps
    h = taken.held

    abbrev others : List ℕ
    others = taken.others

    abbrev inside : start < s.upto
    inside = taken.inside

    pub low : s.from ≤ start
    low = branch_from s.bytes.now s.from c.branches.place (record { label = label; start = start }) after taken.read

    rest_of : (bs : List Branch) × (left_of h.top ≡ record { label = label; start = start } ∷ bs) × (branches_at s.bytes.now s.from
        (c.branches.left - 1) after ≡ Ok bs)
    rest_of = next_left s.bytes.now s.from c.branches.left c.branches.place (left_of h.top)
        (record { label = label; start = start }) after taken.some h.shown.branches taken.read

    head : (slice_get h.top.node.branches h.top.next ≡ Some (record { label = label; start = start })) × (rest_of.0 ≡ drop (suc h.top.next) h.top.node.branches)
    head = drop_head h.top.node.branches h.top.next (record { label = label; start = start }) rest_of.0 rest_of.1

    abbrev path : List ℕ
    path = h.top.path ++ h.top.next ∷ []

    pub child_leads : Leads (source_trie s) (h.top.path ++ h.top.next ∷ []) root start
    child_leads = Leads-append (source_trie s) h.top.path (h.top.next ∷ []) root h.top.start start h.opened.0.leads
        (h.top.node, record { label = label; start = start }, h.opened.0.inside, h.opened.0.node, head.0, refl)

    pub within : start - s.from < length marks
    within = mark.within h.marked path child_leads low inside

    rest_is : h.top.rest ≡ label ++ others
    rest_is = h.shown.rest ∙ taken.spells

    child_spelled : PathSpells (source_trie s) root name (h.top.path ++ h.top.next ∷ []) others
    child_spelled = spells_on (source_trie s) h.top.path root h.top.start name h.top.rest others h.top.node h.top.next
        (record { label = label; start = start }) h.opened.0.leads h.opened.0.spelled h.opened.0.node head.0 rest_is

    child_way : IsOnWay (source_trie s) root name (h.top.path ++ h.top.next ∷ [])
    child_way = ((start, child_leads, inside), others, child_spelled)

    pub child_fault : (f : Fault) → node_in s start ≡ Err f → FaultOnWay (source_trie s) root name f
    child_fault f e = at_node_on_way f (h.top.path ++ h.top.next ∷ []) start child_way child_leads e

    -- a marked child is met by a second path
    pub met : {marked : Bool} → marked ≡ get_or marks (start - s.from) false → marked ≡ true → FaultOnWay (source_trie s) root name malformed
    met is_mark is_on =
        let old = mark.met h.marked path child_leads low (sym is_mark ∙ is_on) in
        met_on_way old.0 path start (h.on_way old.0 old.1) child_way old.2 child_leads
        (λ e. not_before_itself path (subst (λ z. Before z path) e (h.before old.0 old.1).0))

    pub is_clear : {marked : Bool} → marked ≡ get_or marks (start - s.from) false → marked ≡ false → get_or marks (start - s.from) false ≡ false
    is_clear is_mark is_off = sym is_mark ∙ is_off

    pub label_within : length label ≤ length (drop c.at name)
    label_within = let a = ap (λ (x : List ℕ). length x) taken.spells in let b = length-append label others in omega arith

    module _ (clear : get_or marks (start - s.from) false ≡ false) where
      marked_now : AreMarked (source_trie s) root s.from (set marks (start - s.from) true) (path ∷ h.paths)
      marked_now = mark.one_marked h.marked path child_leads low inside clear

      way_now : (p : List ℕ) → IsAmong p (path ∷ h.paths) → IsOnWay (source_trie s) root name p
      way_now p i = elim i [ inl e ↦ subst (IsOnWay (source_trie s) root name) (sym e) child_way | inr old ↦ h.on_way p old ]

      pub child_visits : {now : ℕ} → now ≡ steps + 1 → SearchVisits (source_trie s) root name first now
      child_visits more_one = visits_of marked_now way_now (let count = h.count in omega arith)

      left_now : left_of (later h.top 1) ≡ rest_of.0
      left_now = let one : h.top.next + 1 ≡ suc h.top.next = omega arith in ap (λ n. drop n h.top.node.branches) one ∙ sym head.1

      shown_now : (d : Choice) → d.at ≡ c.at → d.branches.left ≡ c.branches.left - 1 → d.branches.place ≡ after → IsShown d (later h.top 1)
      shown_now d at_is left_is place_is = record {
        branches = subst (λ n. branches_at s.bytes.now s.from n d.branches.place ≡ Ok (left_of (later h.top 1))) (sym left_is)
            (subst (λ n. branches_at s.bytes.now s.from (c.branches.left - 1) n ≡ Ok (left_of (later h.top 1))) (sym place_is)
            (rest_of.2 ∙ ap Ok (sym left_now)));
        rest = h.shown.rest ∙ ap (λ n. drop n name) (sym at_is);
        within = let w = h.shown.within in omega arith;
      }

      -- what is found through the branch, or through the others if nothing is
      through_branch : (info : Info) → Finds (source_trie s) start others (Some info) → BranchesFind (source_trie s) h.top.rest (left_of h.top) (Some info)
      through_branch info finds = subst (λ (x : List Branch). BranchesFind (source_trie s) h.top.rest x (Some info)) (sym rest_of.1)
          (following others info rest_is finds refl)

      past_branch : (found : Option Info) → Finds (source_trie s) start others None → BranchesFind (source_trie s) h.top.rest (left_of (later h.top 1)) found
          → BranchesFind (source_trie s) h.top.rest (left_of h.top) found
      past_branch found none finds = subst (λ (x : List Branch). BranchesFind (source_trie s) h.top.rest x found) (sym rest_of.1)
          (gone_back others rest_is none (subst (λ (x : List Branch). BranchesFind (source_trie s) h.top.rest x found) left_now finds))

      -- the export is that of the child
      pub child_found : (node : Node) (info : Info) → node_in s start ≡ Ok node → node.own ≡ Some info → others ≡ [] → Finds (source_trie s) root name
          (Some info)
      child_found node info at own none = h.finds (Some info) (inl (info, refl, through_branch info (here node info (inside, at) own none refl)))

      -- the child is opened; the choice below it has one branch fewer
      pub child_opened : (d e : Choice) (node : Node) {now : ℕ} → now ≡ steps + 1 → node_in s start ≡ Ok node → IsElsewhere others node.own
          → branches_at s.bytes.now s.from d.branches.left d.branches.place ≡ Ok node.branches → d.at ≡ c.at + length label
          → e.at ≡ c.at → e.branches.left ≡ c.branches.left - 1 → e.branches.place ≡ after → others ≡ drop d.at name → d.at ≤ length name → Holds d (e ∷ cs)
          (set marks (start - s.from) true) first now
      child_opened d e node more at other branches d_at e_at e_left e_place others_are within = record {
        top = record { path = h.top.path ++ h.top.next ∷ []; start = start; rest = others; node = node; next = 0 };
        below = later h.top 1 ∷ h.below;
        paths = path ∷ h.paths;
        marked = marked_now;
        on_way = way_now;
        before = λ p i. elim i [
          | inl e ↦ subst (λ z. IsBeforeAll z (record { path = path; start = start; rest = others; node = node; next = 0 } ∷ later h.top 1 ∷ h.below)) (sym e) (
            before_child path 0,
            (
              beside_before path (h.top.path ++ (h.top.next + 1) ∷ []) (beside_sibling h.top.path h.top.next (h.top.next + 1) (omega arith)),
              all_before path h.below (all_deeper h.top.path (h.top.next ∷ []) h.below h.in_turn.0),
            ),
          )
          | inr old ↦ (let b = h.before p old in
              (before_deeper p path (0 ∷ []) b.0, (before_later p h.top.path h.top.next (h.top.next + 1) (omega arith) b.0, b.1)))
        ];
        in_turn = (
          (beside_sibling h.top.path h.top.next (h.top.next + 1) (omega arith), all_deeper h.top.path (h.top.next ∷ []) h.below h.in_turn.0),
          (h.in_turn.0, h.in_turn.1),
        );
        opened = (
          record { leads = child_leads; inside = inside; node = at; spelled = child_spelled },
          (record { leads = h.opened.0.leads; inside = h.opened.0.inside; node = h.opened.0.node; spelled = h.opened.0.spelled }, h.opened.1),
        );
        shown = record { branches = branches; rest = others_are; within = within };
        shown_below = (shown_now e e_at e_left e_place, h.shown_below);
        count = let n = h.count in omega (arith, more);
        finds = λ found r. h.finds found (elim r [
          | inl hit ↦ inl (hit.0, hit.1, through_branch hit.0 (below node (inside, at) other hit.2))
          | inr miss ↦ (let none : Finds (source_trie s) start others None = below node (inside, at) other miss.0 in elim miss.1 [
            | inl hit ↦ inl (hit.0, hit.1, past_branch (Some hit.0) none hit.2)
            | inr more_miss ↦ inr (past_branch None none more_miss.0, more_miss.1)
          ])
        ]);
      }

  -- the second choice is settled, and left out if nothing is left of it
  pub settled_below : (c e d : Choice) (cs : List Choice) {marks : List Bool} {first steps : ℕ} (bs : List Branch) → Holds c (e ∷ cs) marks first steps
      → d.at ≡ e.at
      → branches_at s.bytes.now s.from d.branches.left d.branches.place ≡ Ok bs
      → ((old : List Branch) → branches_at s.bytes.now s.from e.branches.left e.branches.place ≡ Ok old → Settles (source_trie s) (drop e.at name) old bs)
      → Holds c (d ∷ cs) marks first steps
  settled_below c e d cs {marks} {first} {steps} bs h same_at branches settles = go h.below h.shown_below h.opened.1 h.in_turn h.before h.finds
    where
      go : (fs : List Frame) → AreShown (e ∷ cs) fs → AreOpen fs → AreInTurn (h.top ∷ fs) → ((q : List ℕ) → IsAmong q h.paths → IsBeforeAll q (h.top ∷ fs))
          → ((found : Option Info) → Resolves (source_trie s) (h.top ∷ fs) found → Finds (source_trie s) root name found) → Holds c (d ∷ cs) marks first steps
      go [] shown opened in_turn before finds = absurd shown
      go (f ∷ fs) shown opened in_turn before finds =
          let st = settles (left_of f) shown.0.branches in
          let is : bs ≡ left_of (later f st.number) = st.dropped ∙ drop_more f.next st.number f.node.branches in
          let back : (found : Option Info) → BranchesFind (source_trie s) f.rest (left_of (later f st.number)) found → BranchesFind (source_trie s) f.rest
          (left_of f) found = λ found x.
          subst (λ (y : List ℕ). BranchesFind (source_trie s) y (left_of f) found) (sym shown.0.rest)
          (st.finds found (subst (λ (y : List ℕ). BranchesFind (source_trie s) y bs found) shown.0.rest
          (subst (λ (y : List Branch). BranchesFind (source_trie s) f.rest y found) (sym is) x))) in
          record {
            top = h.top;
            below = later f st.number ∷ fs;
            paths = h.paths;
            marked = h.marked;
            on_way = h.on_way;
            before = λ q i. let b = before q i in (b.0, (before_later q f.path f.next (f.next + st.number) (omega arith) b.1.0, b.1.1));
            in_turn = (
              (beside_later h.top.path f.path f.next (f.next + st.number) (omega arith) in_turn.0.0, in_turn.0.1),
              (in_turn.1.0, in_turn.1.1),
            );
            opened = (
              h.opened.0,
              (record { leads = opened.0.leads; inside = opened.0.inside; node = opened.0.node; spelled = opened.0.spelled }, opened.1),
            );
            shown = h.shown;
            shown_below = (
              record {
                branches = branches ∙ ap Ok is;
                rest = shown.0.rest ∙ ap (λ n. drop n name)
                    (sym same_at);
                within = let w = shown.0.within in omega arith;
              },
              shown.1,
            );
            count = h.count;
            finds = λ found r. finds found (elim r [
              | inl hit ↦ inl hit
              | inr miss ↦ inr (
                miss.0,
                elim miss.1 [
                  | inl hit ↦ inl (hit.0, hit.1, back (Some hit.0) hit.2)
                  | inr more ↦ inr (back None more.0, more.1)
                ],
              )
            ]);
          }

  pub left_out : (c d : Choice) (cs : List Choice) {marks : List Bool} {first steps : ℕ} → Holds c (d ∷ cs) marks first steps → d.branches.left ≡ 0
      → Holds c cs marks first steps
  left_out c d cs {marks} {first} {steps} h over = go h.below h.shown_below h.opened.1 h.in_turn h.before h.finds
    where
      go : (fs : List Frame) → AreShown (d ∷ cs) fs → AreOpen fs → AreInTurn (h.top ∷ fs) → ((q : List ℕ) → IsAmong q h.paths → IsBeforeAll q (h.top ∷ fs))
          → ((found : Option Info) → Resolves (source_trie s) (h.top ∷ fs) found → Finds (source_trie s) root name found) → Holds c cs marks first steps
      go [] shown opened in_turn before finds = absurd shown
      go (f ∷ fs) shown opened in_turn before finds = record {
        top = h.top;
        below = fs;
        paths = h.paths;
        marked = h.marked;
        on_way = h.on_way;
        before = λ q i. let b = before q i in (b.0, b.1.1);
        in_turn = (in_turn.0.1, in_turn.1.1);
        opened = (h.opened.0, opened.1);
        shown = h.shown;
        shown_below = shown.1;
        count = h.count;
        finds = λ found r. finds found (elim r [
          | inl hit ↦ inl hit
          | inr miss ↦ inr (miss.0, inr (none_of d f shown.0 over, miss.1))
        ]);
      }

  settles_at : (c : Choice) (rest : List ℕ) (bs : List Branch) → rest ≡ drop c.at name → Settles (source_trie s) rest
      (branches_of s.bytes.now s.from c.branches) bs
      → (old : List Branch) → branches_at s.bytes.now s.from c.branches.left c.branches.place ≡ Ok old → Settles (source_trie s) (drop c.at name) old bs
  settles_at c rest bs same st old e =
      subst (λ (x : List ℕ). Settles (source_trie s) x old bs) same
      (subst (λ (x : List Branch). Settles (source_trie s) rest x bs) (readable_as
      (branches_at s.bytes.now s.from c.branches.left c.branches.place) old e).1 st)

  pub settled_now : (c : Choice) (b : BranchRun) (cs : List Choice) {marks : List Bool} {first steps : ℕ} (rest : List ℕ) → rest ≡ drop c.at name
      → Holds c cs marks first steps → IsReadable s.bytes.now s.from b
      → Settles (source_trie s) rest (branches_of s.bytes.now s.from c.branches) (branches_of s.bytes.now s.from b) → Holds
      (record { branches = b; at = c.at }) cs marks first steps
  settled_now c b cs rest same h readable st =
      settled c (record { branches = b; at = c.at }) cs (branches_of s.bytes.now s.from b) h refl readable
      (settles_at c rest (branches_of s.bytes.now s.from b) same st)

  pub settled_below_now : (c e : Choice) (b : BranchRun) (cs : List Choice) {marks : List Bool} {first steps : ℕ} (rest : List ℕ) → rest ≡ drop e.at name
      → Holds c (e ∷ cs) marks first steps → IsReadable s.bytes.now s.from b
      → Settles (source_trie s) rest (branches_of s.bytes.now s.from e.branches) (branches_of s.bytes.now s.from b) → Holds c
      (record { branches = b; at = e.at } ∷ cs) marks first steps
  settled_below_now c e b cs rest same h readable st =
      settled_below c e (record { branches = b; at = e.at }) cs (branches_of s.bytes.now s.from b) h refl readable
      (settles_at e rest (branches_of s.bytes.now s.from b) same st)

  pub deeper : (at : ℕ) (label others : List ℕ) → at ≤ length name → drop at name ≡ label ++ others
      → (others ≡ drop (at + length label) name) × (at + length label ≤ length name)
  deeper at label others within spells = (
    sym (drop-append_seam label others) ∙ (ap (λ (x : List ℕ). drop (length label) x) (sym spells) ∙ drop_more at (length label) name),
    let a = length-drop at name in let b = ap (λ (x : List ℕ). length x) spells in let d = length-append label others in omega arith,
  )

  pub takes : {c : Choice} {b : BranchRun} {cs : List Choice} {marks : List Bool} {first steps : ℕ} {rest label : List ℕ} {start after : ℕ}
      → rest ≡ drop c.at name
      → Holds c cs marks first steps → IsReadable s.bytes.now s.from b
      → Settles (source_trie s) rest (branches_of s.bytes.now s.from c.branches) (branches_of s.bytes.now s.from b)
      → FirstBranchLeads (source_trie s) rest (branches_of s.bytes.now s.from b) → 0 < b.left
      → branch_at s.bytes.now s.from b.place ≡ Ok (record { label = label; start = start }, after)
      → Taken (record { branches = b; at = c.at }) cs marks first steps label start after
  takes {c} {b} {cs} {rest} {label} {start} {after} same h readable settles stops some read =
      let stop = stopped_there s rest b readable some label start after read stops in
      record {
        held = settled_now c b cs rest same h readable settles;
        some = some;
        read = read;
        inside = stop.0;
        others = stop.1;
        spells = sym same ∙ stop.2;
      }
