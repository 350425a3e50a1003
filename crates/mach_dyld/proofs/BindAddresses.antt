-- The import of a bind lies in the bind's segment.
use Rattle.mach_dyld.proofs.BindNames.{◌≡◌, ℕ, ◌+◌, ◌<◌, ◌^◌, List, [], ◌∷◌, map, Bool, true, false, Option, Some, None, Result, Ok, Err, refl, sym, ap, subst}
use Rattle.mach_dyld.proofs.BindNames.{◌∙◌}
use Rattle.mach_dyld.proofs.BindNames.{arith, nat_lt, cond, All, slice_get, ltb-true, ◌>>=◌, Fault, malformed, bind_ok, same_ok, SegmentView, Input, Range}
use Rattle.mach_dyld.proofs.BindNames.{Placed, Bind, binds_of, Import, Target, holding, target_of, import_of, import_with, imports_in, input_in}
use Rattle.mach_dyld.proofs.BindNames.{found_or_malformed}
use Rattle.mach_dyld.proofs.BindNames.{sum_of}
use Rattle.mach_dyld.proofs.StreamStarts.{OfItem, each_of, of_both}
use Rattle.std.proofs.lemmas.List.Elements.{All-nil, All-cons, All-head, All-tail, All-append}
use Rattle.mach_dyld.specs.BindAddresses.{LiesIn, LiesInSome, BindLiesIn, ListLiesIn, ItemsLieIn}

-- ---- one bind

pub summed : (a b n : ℕ) → sum_of a b ≡ Ok n → n ≡ a + b
summed a b n e = by_test (nat_lt (a + b) (2 ^ 64)) e
  where
    by_test : (t : Bool) → cond t (Ok (a + b)) (Err malformed) ≡ Ok n → n ≡ a + b
    by_test true e = sym (same_ok e)
    by_test false e = absurd (cc)

pub found_there : (o : Option SegmentView) (s : SegmentView) → found_or_malformed o ≡ Ok s → o ≡ Some s
found_there None s e = absurd (cc)
found_there (Some r) s e = ap (λ (q : SegmentView). Some q) (same_ok e)

pub held : (offset : ℕ) (s h : SegmentView) → holding offset s ≡ Ok h → (offset < s.command.vmsize) × (s ≡ h)
held offset s h e = by_test (nat_lt offset s.command.vmsize) refl e
  where
    by_test : (t : Bool) → nat_lt offset s.command.vmsize ≡ t → cond t (Ok s) (Err malformed) ≡ Ok h → (offset < s.command.vmsize) × (s ≡ h)
    by_test true lt e = (ltb-true offset s.command.vmsize lt, same_ok e)
    by_test false lt e = absurd (cc)

-- a segment that holds an offset, and the sums there, from which something is made
pub record Spot {T : Type 0} (hold : SegmentView → Result SegmentView Fault) (make : ℕ → ℕ → T) (segments : List SegmentView) (k offset : ℕ)
    (t : T) : Type 0 where
  pub segment : SegmentView
  pub in_file : ℕ
  pub address : ℕ
  pub there : slice_get segments k ≡ Some segment
  pub holds : hold segment ≡ Ok segment
  pub in_file_is : sum_of segment.command.fileoff offset ≡ Ok in_file
  pub address_is : sum_of segment.command.vmaddr offset ≡ Ok address
  pub made : make in_file address ≡ t

abbrev sums : {T : Type 0} → (ℕ → ℕ → T) → ℕ → SegmentView → Result T Fault
sums make offset s = sum_of s.command.fileoff offset >>= λ (o : ℕ). sum_of s.command.vmaddr offset >>= λ (a : ℕ). Ok (make o a)

pub spot_by : {T : Type 0} (hold : SegmentView → Result SegmentView Fault) (make : ℕ → ℕ → T) (segments : List SegmentView) (k offset : ℕ) (t : T)
    → ((s h : SegmentView) → hold s ≡ Ok h → s ≡ h)
    → (found_or_malformed (slice_get segments k) >>= λ (s : SegmentView). hold s >>= sums make offset) ≡ Ok t → Spot hold make segments k offset t
spot_by {T} hold make segments k offset t same e =
    let b = bind_ok (found_or_malformed (slice_get segments k)) (λ (s : SegmentView). hold s >>= sums make offset) t e in
    let c = bind_ok (hold b.0) (sums make offset) t b.2 in
    let all : sums make offset b.0 ≡ Ok t = ap (sums make offset) (same b.0 c.0 c.1) ∙ c.2 in
    let o = bind_ok (sum_of b.0.command.fileoff offset) (λ (o : ℕ). sum_of b.0.command.vmaddr offset >>= λ (a : ℕ). Ok (make o a)) t all in
    let a = bind_ok (sum_of b.0.command.vmaddr offset) (λ (a : ℕ). Ok (make o.0 a)) t o.2 in
    record {
      segment = b.0;
      in_file = o.0;
      address = a.0;
      there = found_there (slice_get segments k) b.0 b.1;
      holds = c.1 ∙ ap (λ (s : SegmentView). Ok s) (sym (same b.0 c.0 c.1));
      in_file_is = o.1;
      address_is = a.1;
      made = same_ok a.2;
    }

abbrev pub target_at : List ℕ → ℕ → ℕ → Target
target_at dylib o a = record { dylib = dylib; offset = o; address = a }

-- the library and the spot of a target
pub target_spot : (x : Input) (number k offset : ℕ) (t : Target) → target_of x number k offset ≡ Ok t
    → (dylib : List ℕ) × (found_or_malformed (slice_get x.libs number) ≡ Ok dylib) × Spot (holding offset) (target_at dylib) x.segments k offset t
unfolding target_of
target_spot x number k offset t e =
    let a = bind_ok (found_or_malformed (slice_get x.libs number))
    (λ (dylib : List ℕ). found_or_malformed (slice_get x.segments k) >>= λ (s : SegmentView). holding offset s >>= sums (target_at dylib) offset) t e in
    (a.0, a.1, spot_by (holding offset) (target_at a.0) x.segments k offset t (λ s h e. (held offset s h e).1) a.2)

target_lies : (x : Input) (number k offset : ℕ) (t : Target) → target_of x number k offset ≡ Ok t → LiesIn x.segments k t.address
target_lies x number k offset t e =
    let p = (target_spot x number k offset t e).2 in
    let inside = (held offset p.segment p.segment p.holds).0 in
    let there : t.address ≡ p.segment.command.vmaddr + offset =
    ap (λ (y : Target). y.address) (sym p.made) ∙ summed p.segment.command.vmaddr offset p.address p.address_is in
    (p.segment, p.there, omega (arith, there), omega (arith, there, inside))

pub bind_lies : BindLiesIn
unfolding import_of
bind_lies x b i e =
    let t = bind_ok (target_of x b.library b.segment b.offset) (λ (t : Target). Ok (import_with b t)) i e in
    subst (λ (j : Import). LiesIn x.segments b.segment j.address) (same_ok t.2) (target_lies x b.library b.segment b.offset t.0 t.1)

-- ---- lists

abbrev Item : Type 0
Item = Result Import Fault

abbrev Lies : Input → Import → Type 0
Lies x i = LiesInSome x.segments i.address

item_lies : (x : Input) (b : Bind) (item : Item) → import_of x b ≡ item → OfItem (Lies x) item
item_lies x b (Ok i) e = (b.segment, bind_lies x b i e)
item_lies x b (Err f) e = tt

stream_lies : (x : Input) (r : Range) (ps : List Placed) → All (OfItem (Lies x)) (imports_in x r ps)
unfolding imports_in
stream_lies x r ps = each_of (Lies x) (import_of x) (item_lies x) (binds_of x.pointer r ps)

listed_lie : (x : Input) (list : List Import) → All (OfItem (Lies x)) (map Ok list) → All (Lies x) list
listed_lie x [] h = All-nil (Lies x)
listed_lie x (i ∷ list) h =
    All-cons (Lies x) i list (All-head (OfItem (Lies x)) (Ok i) (map Ok list) h) (listed_lie x list (All-tail (OfItem (Lies x)) (Ok i) (map Ok list) h))

pub list_lies : ListLiesIn
list_lies b pointer libs segments list l =
    let x = input_in b pointer libs segments in
    listed_lie x list (subst (All (OfItem (Lies x))) l.2.each
    (All-append (OfItem (Lies x)) (imports_in x b.non_lazy l.0) (imports_in x b.lazy l.1) (stream_lies x b.non_lazy l.0) (stream_lies x b.lazy l.1)))

pub items_lie : ItemsLieIn
items_lie x non_lazy lazy ps qs items a =
    subst (All (OfItem (Lies x))) (sym a.are)
    (of_both (Lies x) (imports_in x non_lazy ps) (imports_in x lazy qs) a.stop a.lazy_stop (stream_lies x non_lazy ps) (stream_lies x lazy qs))
