-- What is left of two streams at their start, and what holds of all their items.
use Rattle.mach_dyld.proofs.BindNames.{◌≡◌, ℕ, ◌+◌, length, List, [], ◌∷◌, ◌++◌, map, All, Bool, true, false, Option, Some, None, Result, Ok, Err, IfOk, refl}
use Rattle.mach_dyld.proofs.BindNames.{sym, ap, subst, ◌∙◌, append_assoc, cond, Fault, fault_item, upto_fault, AreItems, Input, Range, Placed, Reader}
use Rattle.mach_dyld.proofs.BindNames.{AllOccurBy, IsLongestBy}
use Rattle.mach_dyld.proofs.BindNames.{Rules, ReadsForward, reader_by, ReadAhead, reading_from, fresh, start_of, strides, after_strides, run, rest_of}
use Rattle.mach_dyld.proofs.BindNames.{items_of, reads_of}
use Rattle.std.proofs.lemmas.List.Elements.{All-nil, All-cons, All-head, All-tail, All-append}
use Rattle.mach_dyld.proofs.BindReading.{reading_longest, one_longest}
use Rattle.mach_dyld.specs.Faults.{AreItemsAlone}
use Rattle.mach_dyld.proofs.BindNames.{append-nil, add-zero}

-- ---- at the start, by the items of the instructions of a range

abbrev ComesTo : {M A : Type 0} → Rules M A → Input → (Range → List Placed → List (Result A Fault)) → Type 0
ComesTo u x made = (r : Range) (ps : List Placed) → AllOccurBy (reader_by u x r) r.upto ps → run u x r (fresh r.is_lazy 0) (u.first r.is_lazy) ps ≡ made r ps

module _ {M A : Type 0} (u : Rules M A) (laws : ReadsForward u) (x : Input) (made : Range → List Placed → List (Result A Fault))
    (comes : ComesTo u x made) where
  abbrev ahead : Range → ReadAhead
  ahead r = reading_from (reader_by u x r) r.upto r.from

  longest : (r : Range) → IsLongestBy (reader_by u x r) r (ahead r).read (ahead r).stop
  longest r = reading_longest (reader_by u x r) (laws.moves r x.pointer x.bytes) r

  start_rest : (r : Range) (is_lazy : Bool) → r.is_lazy ≡ is_lazy
      → rest_of u x (u.first is_lazy) (start_of r) ≡ made r (ahead r).read ++ fault_item (ahead r).stop
  unfolding rest_of strides after_strides
  start_rest r is_lazy e =
      ap (λ (t : Bool). rest_of u x (u.first t) (start_of r)) (sym e)
      ∙ ap (λ items. items ++ fault_item (ahead r).stop) (comes r (ahead r).read (longest r).beginning.occur)

  module _ (non_lazy lazy : Range) (first : non_lazy.is_lazy ≡ false) (second : lazy.is_lazy ≡ true) where
    start_items : AreItems (reader_by u x) made non_lazy lazy (ahead non_lazy).read (ahead lazy).read (items_of u x lazy (u.first false) (start_of non_lazy))
    unfolding items_of
    start_items =
        let front = made non_lazy (ahead non_lazy).read ++ fault_item (ahead non_lazy).stop in
        let rest = rest_of u x (u.first true) (start_of lazy) in
        record {
          stop = (ahead non_lazy).stop;
          lazy_stop = (ahead lazy).stop;
          longest = longest non_lazy;
          lazy_longest = longest lazy;
          are = ap (λ (t : Bool). upto_fault (rest_of u x (u.first false) (start_of non_lazy) ++ cond t [] rest)) first
              ∙ ap (λ m. upto_fault (m ++ rest)) (start_rest non_lazy false first)
              ∙ ap (λ m. upto_fault (front ++ m)) (start_rest lazy true second)
              ∙ ap upto_fault (sym (append_assoc front (made lazy (ahead lazy).read) (fault_item (ahead lazy).stop)));
        }

    start_reads : reads_of u x lazy (start_of non_lazy) ≡ length (ahead non_lazy).read + length (ahead lazy).read
    unfolding reads_of
    start_reads = ap (λ (t : Bool). length (ahead non_lazy).read + cond t 0 (length (ahead lazy).read)) first

    -- what is left at the start is all of both streams
    pub starts : (items : List (Result A Fault)) (reads : ℕ) → items ≡ items_of u x lazy (u.first false) (start_of non_lazy)
        → reads ≡ reads_of u x lazy (start_of non_lazy)
        → (ps : List Placed) × (qs : List Placed) × AreItems (reader_by u x) made non_lazy lazy ps qs items × (reads ≡ length ps + length qs)
    starts items reads is reads_are = (
      (ahead non_lazy).read,
      (ahead lazy).read,
      subst (AreItems (reader_by u x) made non_lazy lazy (ahead non_lazy).read (ahead lazy).read) (sym is) start_items,
      reads_are ∙ start_reads,
    )

-- ---- one stream alone

module _ {M A : Type 0} (u : Rules M A) (laws : ReadsForward u) (x : Input) (lazy r : Range) (last : r.is_lazy ≡ true) (m : M)
    (made : List Placed → List (Result A Fault))
    (comes : (ps : List Placed) → AllOccurBy (reader_by u x r) r.upto ps → run u x r (fresh r.is_lazy 0) m ps ≡ made ps) where
  abbrev alone : ReadAhead
  alone = reading_from (reader_by u x r) r.upto r.from

  alone_longest : IsLongestBy (reader_by u x r) r alone.read alone.stop
  alone_longest = reading_longest (reader_by u x r) (laws.moves r x.pointer x.bytes) r

  alone_rest : rest_of u x m (start_of r) ≡ made alone.read ++ fault_item alone.stop
  unfolding rest_of strides after_strides
  alone_rest = ap (λ items. items ++ fault_item alone.stop) (comes alone.read alone_longest.beginning.occur)

  alone_items : items_of u x lazy m (start_of r) ≡ upto_fault (made alone.read ++ fault_item alone.stop)
  unfolding items_of
  alone_items =
      let rest = rest_of u x (u.first true) (start_of lazy) in
      ap (λ (t : Bool). upto_fault (rest_of u x m (start_of r) ++ cond t [] rest)) last ∙ ap upto_fault (append-nil (rest_of u x m (start_of r)))
      ∙ ap upto_fault alone_rest

  alone_reads : reads_of u x lazy (start_of r) ≡ length alone.read
  unfolding reads_of
  alone_reads =
      ap (λ (t : Bool). length alone.read + cond t 0 (length (reading_from (reader_by u x lazy) lazy.upto lazy.from).read)) last
      ∙ add-zero (length alone.read)

  -- what is left at the start is all of the stream
  pub starts_alone : (items : List (Result A Fault)) (reads : ℕ) → items ≡ items_of u x lazy m (start_of r) → reads ≡ reads_of u x lazy (start_of r)
      → (ps : List Placed) × AreItemsAlone (reader_by u x r) made r ps items × (reads ≡ length ps)
  starts_alone items reads is reads_are =
      (alone.read, record { stop = alone.stop; longest = alone_longest; are = is ∙ alone_items }, reads_are ∙ alone_reads)

-- ---- there is one list of items

pub one_list_alone : {A : Type 0} (reader : Reader) (made : List Placed → List (Result A Fault)) (r : Range) (ps qs : List Placed)
    (items others : List (Result A Fault)) → AreItemsAlone reader made r ps items → AreItemsAlone reader made r qs others → items ≡ others
one_list_alone {A} reader made r ps qs items others a b =
    let same = one_longest reader r ps qs a.stop b.stop a.longest b.longest in
    a.are ∙ ap (λ ys. upto_fault (made ys ++ fault_item a.stop)) same.0 ∙ ap (λ s. upto_fault (made qs ++ fault_item s)) same.1 ∙ sym b.are

module _ {A : Type 0} (reader : Range → Reader) (made : Range → List Placed → List (Result A Fault)) (non_lazy lazy : Range) where
  abbrev all_items : List Placed → List Placed → Option Fault → Option Fault → List (Result A Fault)
  all_items ps qs s t = upto_fault (made non_lazy ps ++ fault_item s ++ made lazy qs ++ fault_item t)

  pub one_list_of : (ps qs ps' qs' : List Placed) (items others : List (Result A Fault)) → AreItems reader made non_lazy lazy ps qs items
      → AreItems reader made non_lazy lazy ps' qs' others → items ≡ others
  one_list_of ps qs ps' qs' items others a b =
      let front = one_longest (reader non_lazy) non_lazy ps ps' a.stop b.stop a.longest b.longest in
      let back = one_longest (reader lazy) lazy qs qs' a.lazy_stop b.lazy_stop a.lazy_longest b.lazy_longest in
      a.are
      ∙ ap (λ ys. all_items ys qs a.stop a.lazy_stop) front.0 ∙ ap (λ ys. all_items ps' ys a.stop a.lazy_stop) back.0
      ∙ ap (λ s. all_items ps' qs' s a.lazy_stop) front.1 ∙ ap (λ s. all_items ps' qs' b.stop s) back.1
      ∙ sym b.are

-- ---- what holds of each item

module _ {A : Type 0} (P : A → Type 0) where
  abbrev pub OfItem : Result A Fault → Type 0
  OfItem item = IfOk item P

  pub each_of : {B : Type 0} (f : B → Result A Fault) → ((b : B) (item : Result A Fault) → f b ≡ item → OfItem item) → (bs : List B) → All OfItem (map f bs)
  each_of {B} f h [] = All-nil OfItem
  each_of {B} f h (b ∷ bs) = All-cons OfItem (f b) (map f bs) (h b (f b) refl) (each_of f h bs)

  of_fault : (s : Option Fault) → All OfItem (fault_item s)
  of_fault None = All-nil OfItem
  of_fault (Some f) = All-cons OfItem (Err f) [] tt (All-nil OfItem)

  of_upto : (a : List (Result A Fault)) → All OfItem a → All OfItem (upto_fault a)
  of_upto [] h = All-nil OfItem
  of_upto (Ok i ∷ a) h = All-cons OfItem (Ok i) (upto_fault a) (All-head OfItem (Ok i) a h) (of_upto a (All-tail OfItem (Ok i) a h))
  of_upto (Err f ∷ a) h = All-cons OfItem (Err f) [] tt (All-nil OfItem)

  -- what holds of the items of one stream
  pub of_one : (a : List (Result A Fault)) (s : Option Fault) → All OfItem a → All OfItem (upto_fault (a ++ fault_item s))
  of_one a s h = of_upto _ (All-append OfItem a (fault_item s) h (of_fault s))

  -- what holds of the items of both streams
  pub of_both : (a b : List (Result A Fault)) (s t : Option Fault) → All OfItem a → All OfItem b
      → All OfItem (upto_fault (a ++ fault_item s ++ b ++ fault_item t))
  of_both a b s t h k =
      let front = All-append OfItem a (fault_item s) h (of_fault s) in
      of_upto _ (All-append OfItem _ (fault_item t) (All-append OfItem _ b front k) (of_fault t))
