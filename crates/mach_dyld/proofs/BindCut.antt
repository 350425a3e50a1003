-- A range that is cut after a DONE.
use Rattle.mach_dyld.proofs.BindNames.{◌≡◌, ℕ, ◌+◌, ◌-◌, ◌*◌, ◌%◌, ◌^◌, ◌<◌, ◌≤◌, List, [], ◌∷◌, ◌++◌, map, Bool, true, false, Some, None, Result, Ok, Err}
use Rattle.mach_dyld.proofs.BindNames.{refl}
use Rattle.mach_dyld.proofs.BindNames.{sym, ap, subst, ◌∙◌, arith, zero-add, pos, filter_map, range_with_len, cons_option, AllByRecursion, cond, map-append}
use Rattle.mach_dyld.proofs.BindNames.{◌>>=◌}
use Rattle.mach_dyld.proofs.BindNames.{Fault, SegmentView, Input, Range, Placed, Follow, OccursIn, AllOccur, stream_end, IsBeginning, IsStream, Bind, is_done}
use Rattle.mach_dyld.proofs.BindNames.{sets_segment, nearer_than, nearest_or, done_after, bind_after, binds_at, binds_from, all_from, stride_in, count_in}
use Rattle.mach_dyld.proofs.BindNames.{library_in}
use Rattle.mach_dyld.proofs.BindNames.{flags_in, symbol_name_in, addend_in, segment_in, offset_in, advances, Import, Target, import_of, imports_in, import_with}
use Rattle.mach_dyld.proofs.BindNames.{target_of, BindRanges, input_in, ListsImports}
use Rattle.mach_dyld.specs.BindCut.{HasList, ListsByStream, raised, front_range, rest_range, CutsAfterDone}
use Rattle.mach_dyld.specs.RowsMove.{ends_after}
use Rattle.mach_dyld.proofs.BindReading.{one_longest}
use Rattle.mach_dyld.specs.Streams.{reader_of}
use Rattle.mach_dyld.proofs.BindLists.{longest_stream}
use Rattle.mach_dyld.proofs.BindTotal.{following, onto, all_from-append}
use Rattle.mach_dyld.proofs.BindLast.{all-append}

abbrev Item : Type 0
Item = Result Import Fault

-- ---- places

further : (x : Input) (upto : ℕ) (p : Placed) → OccursIn x upto p → p.place < p.after
further x upto p s = ends_after x.pointer x.bytes p.place (p.instruction, p.after) s.read

end_past : (x : Input) (upto place : ℕ) (ps : List Placed) → AllOccur x upto ps → Follow place ps → place ≤ stream_end place ps
end_past x upto place [] a f = omega arith
end_past x upto place (p ∷ ps) a f =
    let h = end_past x upto p.after ps a.1 f.1 in
    let k = further x upto p a.0 in
    omega (arith, h, k, f.0)

occur_before_end : (x : Input) (upto place : ℕ) (ps : List Placed) → AllOccur x upto ps → Follow place ps → AllOccur x (stream_end place ps) ps
occur_before_end x upto place [] a f = tt
occur_before_end x upto place (p ∷ ps) a f =
    let h = end_past x upto p.after ps a.1 f.1 in
    let k = further x upto p a.0 in
    (record { within = omega (arith, h, k); read = a.0.read }, occur_before_end x upto p.after ps a.1 f.1)

stream_end-append : (place : ℕ) (ps qs : List Placed) → stream_end place (ps ++ qs) ≡ stream_end (stream_end place ps) qs
stream_end-append place [] qs = refl
stream_end-append place (p ∷ ps) qs = stream_end-append p.after ps qs

follow-append : (place : ℕ) (ps qs : List Placed) → Follow place ps → Follow (stream_end place ps) qs → Follow place (ps ++ qs)
follow-append place [] qs f g = g
follow-append place (p ∷ ps) qs f g = (f.0, follow-append p.after ps qs f.1 g)

follow_after : (place : ℕ) (ps qs : List Placed) → Follow place (ps ++ qs) → Follow (stream_end place ps) qs
follow_after place [] qs f = f
follow_after place (p ∷ ps) qs f = follow_after p.after ps qs f.1

occur_after : (x : Input) (upto : ℕ) (ps qs : List Placed) → AllOccur x upto (ps ++ qs) → AllOccur x upto qs
occur_after x upto [] qs a = a
occur_after x upto (p ∷ ps) qs a = occur_after x upto ps qs a.1

-- ---- looking back no further than a DONE

-- none of them ends before the place
abbrev EndPast : ℕ → List Placed → Type 0
EndPast cut back = AllByRecursion (λ p. cut ≤ p.after) back

nearer-done : (back : List Placed) (d : Placed) (far : List Placed) → is_done d ≡ true → nearer_than is_done (back ++ d ∷ far) ≡ nearer_than is_done back
nearer-done [] d far e = ap (λ t. cond t [] (d ∷ nearer_than is_done far)) e
nearer-done (p ∷ back) d far e = ap (λ n. cond (is_done p) [] (p ∷ n)) (nearer-done back d far e)

sequence_by : (from cut : ℕ) (p : Placed) (b : Bool) (xs ys : List ℕ) → from ≤ cut → cut ≤ p.after → nearest_or 0 xs ≡ nearest_or 0 ys + (cut - from)
    → nearest_or 0 (cons_option (cond b (Some (p.after - from)) None) xs) ≡ nearest_or 0 (cons_option (cond b (Some (p.after - cut)) None) ys) + (cut - from)
sequence_by from cut p true xs ys h k e = omega arith
sequence_by from cut p false xs ys h k e = e

sequence-done : (from : ℕ) (back : List Placed) (d : Placed) (far : List Placed) → is_done d ≡ true → from ≤ d.after → EndPast d.after back
    → nearest_or 0 (filter_map (done_after from) (back ++ d ∷ far)) ≡ nearest_or 0 (filter_map (done_after d.after) back) + (d.after - from)
sequence-done from [] d far e h past =
    ap (λ t. nearest_or 0 (cons_option (cond t (Some (d.after - from)) None) (filter_map (done_after from) far))) e ∙ sym (zero-add (d.after - from))
sequence-done from (p ∷ back) d far e h past =
    sequence_by from d.after p (is_done p) (filter_map (done_after from) (back ++ d ∷ far)) (filter_map (done_after d.after) back) h past.0
    (sequence-done from back d far e h past.1)

abbrev raise : ℕ → Bind → Bind
raise n b = record b { sequence = b.sequence + n }

abbrev parts : ℕ → Range → List Placed → ℕ → ℕ → Bind
parts pointer r near own sequence = record {
  is_lazy = r.is_lazy;
  library = nearest_or 0 (filter_map library_in near);
  flags = nearest_or 0 (filter_map flags_in near);
  name = nearest_or [] (filter_map symbol_name_in near);
  addend = nearest_or (pos 0) (filter_map addend_in near);
  segment = nearest_or 0 (filter_map segment_in near);
  offset = (nearest_or 0 (filter_map offset_in near) + advances pointer (nearer_than sets_segment near) + own) % 2 ^ 64;
  sequence = sequence;
}

bind-done : (pointer : ℕ) (r : Range) (back : List Placed) (d : Placed) (far : List Placed) (own : ℕ) → is_done d ≡ true → r.from ≤ d.after
    → EndPast d.after back
    → bind_after pointer r (back ++ d ∷ far) own ≡ raise (d.after - r.from) (bind_after pointer (rest_range r d.after) back own)
unfolding bind_after
bind-done pointer r back d far own e h past =
    ap (λ near. parts pointer r near own (nearest_or 0 (filter_map (done_after r.from) (back ++ d ∷ far)))) (nearer-done back d far e)
    ∙ ap (parts pointer r (nearer_than is_done back) own) (sequence-done r.from back d far e h past)

strides-done : (pointer : ℕ) (r : Range) (back : List Placed) (d : Placed) (far : List Placed) (s : ℕ) (js : List ℕ) → is_done d ≡ true → r.from ≤ d.after
    → EndPast d.after back
    → map (λ j. bind_after pointer r (back ++ d ∷ far) (j * s)) js ≡ map (raise (d.after - r.from))
    (map (λ j. bind_after pointer (rest_range r d.after) back (j * s)) js)
strides-done pointer r back d far s [] e h past = refl
strides-done pointer r back d far s (j ∷ js) e h past =
    ap (λ b. b ∷ map (λ j. bind_after pointer r (back ++ d ∷ far) (j * s)) js) (bind-done pointer r back d far (j * s) e h past)
    ∙ ap (λ bs. raise (d.after - r.from) (bind_after pointer (rest_range r d.after) back (j * s)) ∷ bs) (strides-done pointer r back d far s js e h past)

binds-done : (x : Input) (r : Range) (upto : ℕ) (back : List Placed) (d : Placed) (far : List Placed) (place : ℕ) (ps : List Placed) → is_done d ≡ true
    → r.from ≤ d.after → EndPast d.after back → d.after ≤ place
    → Follow place ps → AllOccur x upto ps
    → binds_from x.pointer r (back ++ d ∷ far) ps ≡ map (raise (d.after - r.from)) (binds_from x.pointer (rest_range r d.after) back ps)
unfolding all_from
binds-done x r upto back d far place [] e h past k f a = refl
binds-done x r upto back d far place (p ∷ ps) e h past k f a =
    let here = strides-done x.pointer r back d far (stride_in x.pointer p) (range_with_len 0 (count_in p)) e h past in
    let on = further x upto p a.0 in
    let le : d.after ≤ p.after = omega (arith, f.0, on) in
    let next = binds-done x r upto (p ∷ back) d far p.after ps e h (le, past) le f.1 a.1 in
    ap (λ bs. bs ++ binds_from x.pointer r (p ∷ back ++ d ∷ far) ps) here
    ∙ ap (λ bs. map (raise (d.after - r.from)) (binds_at x.pointer (rest_range r d.after) back p) ++ bs) next
    ∙ sym (map-append (raise (d.after - r.from)) (binds_at x.pointer (rest_range r d.after) back p) (binds_from x.pointer (rest_range r d.after) (p ∷ back) ps))

-- ---- the binds of two parts

onto-push : (ps : List Placed) (d : Placed) (back : List Placed) → onto (ps ++ d ∷ []) back ≡ d ∷ onto ps back
onto-push [] d back = refl
onto-push (p ∷ ps) d back = onto-push ps d (p ∷ back)

binds-upto : (pointer : ℕ) (r : Range) (upto : ℕ) (back ps : List Placed) → binds_from pointer r back ps ≡ binds_from pointer (front_range r upto) back ps
unfolding all_from bind_after
binds-upto pointer r upto back [] = refl
binds-upto pointer r upto back (p ∷ ps) = ap (λ bs. binds_at pointer r back p ++ bs) (binds-upto pointer r upto (p ∷ back) ps)

-- ---- imports

abbrev raise_item : ℕ → Item → Item
raise_item n (Ok i) = Ok (raised n i)
raise_item n (Err f) = Err f

target_raised : (n : ℕ) (b : Bind) (t : Result Target Fault) → (t >>= λ y. Ok (import_with (raise n b) y)) ≡ raise_item n (t >>= λ y. Ok (import_with b y))
target_raised n b (Ok t) = refl
target_raised n b (Err f) = refl

import-raised : (x : Input) (n : ℕ) (b : Bind) → import_of x (raise n b) ≡ raise_item n (import_of x b)
unfolding import_of
import-raised x n b = target_raised n b (target_of x b.library b.segment b.offset)

imports-raised : (x : Input) (n : ℕ) (bs : List Bind) → map (import_of x) (map (raise n) bs) ≡ map (raise_item n) (map (import_of x) bs)
imports-raised x n [] = refl
imports-raised x n (b ∷ bs) = ap (λ i. i ∷ map (import_of x) (map (raise n) bs)) (import-raised x n b)
    ∙ ap (λ ys. raise_item n (import_of x b) ∷ ys) (imports-raised x n bs)

-- the imports of a range whose first instructions end with a DONE
imports_cut : (x : Input) (r : Range) (upto : ℕ) (front : List Placed) (d : Placed) (rest : List Placed) → is_done d ≡ true → r.from ≤ d.after
    → Follow d.after rest → AllOccur x upto rest
    → imports_in x r ((front ++ d ∷ []) ++ rest) ≡ imports_in x (front_range r d.after) (front ++ d ∷ []) ++ map (raise_item (d.after - r.from))
    (imports_in x (rest_range r d.after) rest)
unfolding imports_in
imports_cut x r upto front d rest e h f a =
    let n = d.after - r.from in
    let one = all_from-append (binds_at x.pointer r) [] (front ++ d ∷ []) rest in
    let two = onto-push front d [] in
    let three = binds-done x r upto [] d (onto front []) d.after rest e h tt (omega arith) f a in
    let bs : List Bind = binds_from x.pointer r [] (front ++ d ∷ []) in
    let cs : List Bind = binds_from x.pointer (rest_range r d.after) [] rest in
    ap (map (import_of x)) (one ∙ ap (λ back. bs ++ binds_from x.pointer r back rest) two ∙ ap (λ ys. bs ++ ys) three)
    ∙ map-append (import_of x) bs (map (raise n) cs)
    ∙ ap (λ ys. map (import_of x) bs ++ ys) (imports-raised x n cs)
    ∙ ap (λ ys. map (import_of x) ys ++ map (raise_item n) (map (import_of x) cs)) (binds-upto x.pointer r d.after [] (front ++ d ∷ []))

-- ---- lists

record Parts (ys bs : List Item) (list : List Import) : Type 0 where
  front : List Import
  back : List Import
  is_front : ys ≡ map Ok front
  is_back : bs ≡ map Ok back
  joined : list ≡ front ++ back

parts_of : (ys bs : List Item) (list : List Import) → ys ++ bs ≡ map Ok list → Parts ys bs list
parts_of [] bs list e = record { front = []; back = list; is_front = refl; is_back = e; joined = refl }
parts_of (a ∷ ys) bs [] e = cc
parts_of (a ∷ ys) bs (i ∷ list) e =
    let tail : ys ++ bs ≡ map Ok list = cc in
    let head : a ≡ Ok i = cc in
    let more = parts_of ys bs list tail in
    record {
      front = i ∷ more.front;
      back = more.back;
      is_front = ap (λ y. y ∷ ys) head
          ∙ ap (λ ys. Ok i ∷ ys) more.is_front;
      is_back = more.is_back;
      joined = ap (λ l. i ∷ l) more.joined;
    }

lowered : (n : ℕ) (items : List Item) (list : List Import) → map (raise_item n) items ≡ map Ok list → (low : List Import) × (items ≡ map Ok low)
    × (list ≡ map (raised n) low)
lowered n [] [] e = ([], refl, refl)
lowered n [] (i ∷ list) e = cc
lowered n (y ∷ items) [] e = cc
lowered n (Err f ∷ items) (i ∷ list) e = cc
lowered n (Ok j ∷ items) (i ∷ list) e =
    let tail : map (raise_item n) items ≡ map Ok list = cc in
    let head : raised n j ≡ i = cc in
    let more = lowered n items list tail in
    (j ∷ more.0, ap (λ ys. Ok j ∷ ys) more.1, ap (λ y. y ∷ list) (sym head) ∙ ap (λ l. raised n j ∷ l) more.2)

raised_oks : (n : ℕ) (low : List Import) → map (raise_item n) (map Ok low) ≡ map Ok (map (raised n) low)
raised_oks n [] = refl
raised_oks n (i ∷ low) = ap (λ ys. Ok (raised n i) ∷ ys) (raised_oks n low)

-- ---- the lists of both streams

module _ (b : BindRanges) (pointer : ℕ) (libs : List (List ℕ)) (segments : List SegmentView) (list : List Import) where
  abbrev input : Input
  input = input_in b pointer libs segments

  abbrev OneByOne : Type 0
  OneByOne = (one : List Import) × (two : List Import) × HasList input b.non_lazy one × HasList input b.lazy two × (list ≡ one ++ two)

  streams_apart : ListsImports b pointer libs segments list → OneByOne
  streams_apart l =
      let p = parts_of (imports_in input b.non_lazy l.0) (imports_in input b.lazy l.1) list l.2.each in
      (p.front, p.back, (l.0, l.2.stream, p.is_front), (l.1, l.2.lazy_stream, p.is_back), p.joined)

  streams_together : OneByOne → ListsImports b pointer libs segments list
  streams_together (one, two, h, k, j) =
      let each = ap (λ ys. ys ++ imports_in input b.lazy k.0) h.2 ∙ ap (λ ys. map Ok one ++ ys) k.2 ∙ sym (map-append Ok one two) ∙ ap (map Ok) (sym j) in
      (h.0, k.0, record { stream = h.1; lazy_stream = k.1; each = each })

pub lists_by_stream_lem : ListsByStream
lists_by_stream_lem b pointer libs segments list = (streams_apart b pointer libs segments list, streams_together b pointer libs segments list)

-- ---- both ways

stream_end-push : (place : ℕ) (ps : List Placed) (d : Placed) → stream_end place (ps ++ d ∷ []) ≡ d.after
stream_end-push place ps d = stream_end-append place ps (d ∷ [])

module _ (x : Input) (r : Range) (front : List Placed) (d : Placed) (list : List Import) (b : IsBeginning x r (front ++ d ∷ [])) (e : is_done d ≡ true) where
  -- the first part with its DONE, the ranges of both parts, and what there is if both have a list
  abbrev heads : List Placed
  heads = front ++ d ∷ []

  abbrev first_range : Range
  first_range = front_range r d.after

  abbrev last_range : Range
  last_range = rest_range r d.after

  abbrev front_len : ℕ
  front_len = d.after - r.from

  abbrev Halves : Type 0
  Halves = (one : List Import) × (two : List Import) × HasList x first_range one × HasList x last_range two × (list ≡ one ++ map (raised front_len) two)

  front_follows : Follow r.from heads
  front_follows = b.follow

  front_ends : stream_end r.from heads ≡ d.after
  front_ends = stream_end-push r.from front d

  from_le : r.from ≤ d.after
  from_le = let h = end_past x r.upto r.from heads b.occur front_follows in omega (arith, h, front_ends)

  front_stream : IsStream x first_range heads
  front_stream =
      let occur : AllOccur x d.after heads = subst (λ (n : ℕ). AllOccur x n heads) front_ends (occur_before_end x r.upto r.from heads b.occur front_follows) in
      record { beginning = record { follow = front_follows; occur = occur }; whole = omega (arith, front_ends) }

  apart : HasList x r list → Halves
  apart h =
      let whole_follows = h.1.beginning.follow in
      let k = following x r.upto r.from heads h.0 b.occur front_follows h.1.beginning.occur whole_follows h.1.whole in
      let rest = k.0 in
      let occur : AllOccur x r.upto rest = occur_after x r.upto heads rest (subst (AllOccur x r.upto) k.1 h.1.beginning.occur) in
      let after_front : Follow (stream_end r.from heads) rest = follow_after r.from heads rest (subst (Follow r.from) k.1 whole_follows) in
      let follow : Follow d.after rest = subst (λ (n : ℕ). Follow n rest) front_ends after_front in
      let ends : stream_end r.from h.0 ≡ stream_end d.after rest = ap (stream_end r.from) k.1 ∙ stream_end-append r.from heads rest
      ∙ ap (λ n. stream_end n rest) front_ends in
      let rest_stream : IsStream x last_range rest = record { beginning = record { follow = follow; occur = occur }; whole = omega (arith, ends, h.1.whole) } in
      let all : imports_in x first_range heads ++ map (raise_item front_len) (imports_in x last_range rest) ≡ map Ok list =
      sym (imports_cut x r r.upto front d rest e from_le follow occur) ∙ ap (imports_in x r) (sym k.1) ∙ h.2 in
      let p = parts_of (imports_in x first_range heads) (map (raise_item front_len) (imports_in x last_range rest)) list all in
      let l = lowered front_len (imports_in x last_range rest) p.back p.is_back in
      (p.front, l.0, (heads, front_stream, p.is_front), (rest, rest_stream, l.1), p.joined ∙ ap (λ y. p.front ++ y) l.2)

  together : Halves → HasList x r list
  together (one, two, h, k, j) =
      let same : h.0 ≡ heads = (one_longest (reader_of x) first_range h.0 heads None None (longest_stream x first_range h.0 h.1)
      (longest_stream x first_range heads front_stream)).0 in
      let rest_follows : Follow d.after k.0 = k.1.beginning.follow in
      let follow : Follow (stream_end r.from heads) k.0 = subst (λ (m : ℕ). Follow m k.0) (sym front_ends) rest_follows in
      let ends : stream_end r.from (heads ++ k.0) ≡ stream_end d.after k.0 = stream_end-append r.from heads k.0 ∙ ap (λ m. stream_end m k.0) front_ends in
      let first : imports_in x first_range heads ≡ map Ok one = ap (imports_in x first_range) (sym same) ∙ h.2 in (
        heads ++ k.0,
        record {
          beginning = record {
            follow = follow-append r.from heads k.0 front_follows follow;
            occur = all-append (OccursIn x r.upto) heads k.0 b.occur k.1.beginning.occur;
          };
          whole = omega (arith, ends, k.1.whole);
        },
        imports_cut x r r.upto front d k.0 e from_le rest_follows k.1.beginning.occur
            ∙ ap (λ y. y ++ map (raise_item front_len) (imports_in x last_range k.0)) first
            ∙ ap (λ y. map Ok one ++ map (raise_item front_len) y) k.2
            ∙ ap (λ y. map Ok one ++ y) (raised_oks front_len two)
            ∙ sym (map-append Ok one (map (raised front_len) two))
            ∙ ap (map Ok) (sym j),
      )

pub cuts : CutsAfterDone
cuts x r front d list b e = (apart x r front d list b e, together x r front d list b e)
