-- The items of the turns of one instruction, and whether all of them lie in a segment.
use Rattle.mach_dyld.proofs.BindNames.{◌≡◌, ℕ, zero, suc, ◌+◌, ◌-◌, ◌*◌, ◌%◌, ◌^◌, ◌<◌, ◌≤◌, List, [], ◌∷◌, ◌++◌, map, true, false, Some, None}
use Rattle.mach_dyld.proofs.BindNames.{Result, Ok, Err, refl, sym, ap, subst, ◌∙◌, arith, cond, append_assoc, Fault, malformed, Bind, Input, Range, State}
use Rattle.mach_dyld.proofs.BindNames.{slice_get, map-append}
use Rattle.mach_dyld.proofs.BindNames.{Rules, reader_by, reading_from, fault_item, upto_fault, SegmentView, length, cases_lt, inl}
use Rattle.mach_dyld.proofs.BindNames.{inr}
unfoldable use Rattle.mach_dyld.specs.Machine.{strides, after_strides, moved, items_of, rest_of, run, reads_of, start_of}
use Rattle.std.proofs.lemmas.Bool.{le-leb, lt-leb, lt-ltb, le-ltb}
use Rattle.std.proofs.Math.Nat.{mod-eq_of_lt, mod-lt, le-min}
use Rattle.std.proofs.lemmas.Nat.{mod-mul-add}
use Rattle.mach_dyld.proofs.BindModulus.{mod-add_first}
use Rattle.mach_dyld.proofs.BindSettings.{moved-mod}
use Rattle.mach_dyld.specs.BindingFaults.{has_fault, highest_offset}
unfoldable use Rattle.mach_dyld.specs.BindingFaults.{offset_at}
use Rattle.mach_dyld.specs.Bindings.{SetBefore, is_complete, binding_with}
unfoldable use Rattle.mach_dyld.specs.Bindings.{spot_of, binding_of}
use Rattle.mach_parts.specs.Bindings.{Provider, provider_of}

-- ---- faults among items

abbrev pub at_offset : Bind → ℕ → Bind
at_offset c offset = record c { offset = offset }

module _ {A : Type 0} where
  fault-front : (a b : List (Result A Fault)) → has_fault a ≡ true → has_fault (a ++ b) ≡ true
  fault-front [] b e = absurd (cc)
  fault-front (Ok i ∷ a) b e = fault-front a b e
  fault-front (Err f ∷ a) b e = refl

  pub fault-following : (a b : List (Result A Fault)) → has_fault a ≡ false → has_fault (a ++ b) ≡ has_fault b
  fault-following [] b e = refl
  fault-following (Ok i ∷ a) b e = fault-following a b e
  fault-following (Err f ∷ a) b e = absurd (cc)

  fault-upto : (a : List (Result A Fault)) → has_fault (upto_fault a) ≡ has_fault a
  fault-upto [] = refl
  fault-upto (Ok i ∷ a) = fault-upto a
  fault-upto (Err f ∷ a) = refl

  upto-following : (a b : List (Result A Fault)) → has_fault a ≡ false → upto_fault (a ++ b) ≡ a ++ upto_fault b
  upto-following [] b e = refl
  upto-following (Ok i ∷ a) b e = ap (λ items. Ok i ∷ items) (upto-following a b e)
  upto-following (Err f ∷ a) b e = absurd (cc)

  fault-cons : (r : Result A Fault) (items : List (Result A Fault)) → has_fault items ≡ true → has_fault (r ∷ items) ≡ true
  fault-cons (Ok i) items e = e
  fault-cons (Err f) items e = refl

  -- ---- the items of turns

  pub faultless : (makes : Bind → Result A Fault) (c : Bind) (s k : ℕ)
      → ((j : ℕ) → j < k → (y : A) × (makes (at_offset c (offset_at c.offset s j)) ≡ Ok y)) → has_fault (map makes (strides c s k)) ≡ false
  unfolding strides moved offset_at
  faultless makes c s zero all = refl
  faultless makes c s (suc k) all =
      let first = all 0 (omega arith) in
      let here : makes c ≡ Ok first.0 = first.1 in
      rw here (faultless makes (moved s c) s k (λ j lt. all (suc j) (omega (arith, lt))))

  pub faulty : (makes : Bind → Result A Fault) (c : Bind) (s k j : ℕ) (f : Fault) → j < k
      → makes (at_offset c (offset_at c.offset s j)) ≡ Err f → has_fault (map makes (strides c s k)) ≡ true
  unfolding strides moved offset_at
  faulty makes c s zero j f lt e = absurd (omega (arith, lt))
  faulty makes c s (suc k) zero f lt e = let here : makes c ≡ Err f = e in rw here refl
  faulty makes c s (suc k) (suc j) f lt e =
      fault-cons (makes c) (map makes (strides (moved s c) s k)) (faulty makes (moved s c) s k j f (omega (arith, lt)) e)

-- ---- after them

pub length-strides : (c : Bind) (s k : ℕ) → length (strides c s k) ≡ k
unfolding strides
length-strides c s zero = refl
length-strides c s (suc k) = ap suc (length-strides (moved s c) s k)

moved-twice : (a b : ℕ) (c : Bind) → moved b (moved a c) ≡ moved (a + b) c
unfolding moved
moved-twice a b c =
    let sum : (c.offset + a) + b ≡ c.offset + (a + b) = omega arith in
    ap (λ n. record c { offset = n }) (mod-add_first (c.offset + a) b (2 ^ 64) ∙ ap (λ n. n % 2 ^ 64) sum)

after_all : (c : Bind) (s k : ℕ) → after_strides c s (suc k) ≡ moved (suc k * s) c
unfolding after_strides
after_all c s zero = let one : s ≡ 1 * s = omega arith in ap (λ n. moved n c) one
after_all c s (suc k) =
    let sum : s + suc k * s ≡ suc (suc k) * s = omega arith in
    after_all (moved s c) s k ∙ moved-twice s (suc k * s) c ∙ ap (λ n. moved n c) sum

pub following_all : (c : Bind) (s k : ℕ) → 0 < k → moved ((s * k) % 2 ^ 64) c ≡ after_strides c s k
following_all c s zero some = absurd (omega (arith, some))
following_all c s (suc k) some =
    let product : s * suc k ≡ suc k * s = omega arith in
    moved-mod (s * suc k) c ∙ ap (λ n. moved n c) product ∙ sym (after_all c s k)

module _ {M A : Type 0} (u : Rules M A) (x : Input) (lazy : Range) (m : M) (s : State) where
  abbrev made : List (Result A Fault)
  made = map (λ d. u.makes x d m) (strides s.settings s.stride s.count)

  abbrev ran : List (Result A Fault)
  ran = run u x s.range (after_strides s.settings s.stride s.count) m (reading_from (reader_by u x s.range) s.range.upto s.place).read

  abbrev stop : List (Result A Fault)
  stop = fault_item (reading_from (reader_by u x s.range) s.range.upto s.place).stop

  abbrev then_lazy : List (Result A Fault)
  then_lazy = cond s.range.is_lazy [] (rest_of u x (u.first true) (start_of lazy))

  joined : (a b c d : List (Result A Fault)) → a ++ b ++ c ++ d ≡ a ++ (b ++ c ++ d)
  joined a b c d = simp append_assoc

  all_items : s.ended ≡ false → items_of u x lazy m s ≡ upto_fault (made ++ ran ++ stop ++ then_lazy)
  unfolding items_of rest_of
  all_items on = rw on refl

  pub stops_items : s.ended ≡ false → has_fault made ≡ true → has_fault (items_of u x lazy m s) ≡ true
  stops_items on some =
      ap has_fault (all_items on) ∙ fault-upto (made ++ ran ++ stop ++ then_lazy) ∙ ap has_fault (joined made ran stop then_lazy)
      ∙ fault-front made (ran ++ stop ++ then_lazy) some

-- ---- the first of them

strides-append : (c : Bind) (s n k : ℕ) → strides c s (k + n) ≡ strides c s n ++ strides (after_strides c s n) s k
unfolding strides after_strides
strides-append c s zero k = let none : k + 0 ≡ k = omega arith in ap (λ j. strides c s j) none
strides-append c s (suc n) k =
    let one : k + suc n ≡ suc (k + n) = omega arith in
    ap (λ j. strides c s j) one ∙ ap (λ l. c ∷ l) (strides-append (moved s c) s n k)

after-append : (c : Bind) (s n k : ℕ) → after_strides c s (k + n) ≡ after_strides (after_strides c s n) s k
unfolding after_strides
after-append c s zero k = let none : k + 0 ≡ k = omega arith in ap (λ j. after_strides c s j) none
after-append c s (suc n) k =
    let one : k + suc n ≡ suc (k + n) = omega arith in ap (λ j. after_strides c s j) one ∙ after-append (moved s c) s n k

module _ {M A : Type 0} (u : Rules M A) (x : Input) (lazy : Range) (m : M) (s : State) (n k : ℕ) (parts : s.count ≡ k + n) where
  abbrev first : List (Result A Fault)
  first = map (λ d. u.makes x d m) (strides s.settings s.stride n)

  abbrev pub passed : State
  passed = record {
    range = s.range;
    settings = after_strides s.settings s.stride n;
    count = k;
    stride = s.stride;
    place = s.place;
    ended = s.ended;
  }

  abbrev then_all : Bind → List Bind → List (Result A Fault)
  then_all b ds =
      map (λ d. u.makes x d m) ds ++ run u x s.range b m (reading_from (reader_by u x s.range) s.range.upto s.place).read
      ++ fault_item (reading_from (reader_by u x s.range) s.range.upto s.place).stop
      ++ cond s.range.is_lazy [] (rest_of u x (u.first true) (start_of lazy))

  abbrev more : List Bind
  more = strides (after_strides s.settings s.stride n) s.stride k

  all_of : s.ended ≡ false → items_of u x lazy m s ≡ upto_fault (then_all (after_strides s.settings s.stride s.count) (strides s.settings s.stride s.count))
  unfolding items_of rest_of
  all_of on = rw on refl

  of_parts : then_all (after_strides s.settings s.stride s.count) (strides s.settings s.stride s.count)
      ≡ then_all (after_strides (after_strides s.settings s.stride n) s.stride k) (strides s.settings s.stride n ++ more)
  of_parts =
      ap (λ c. then_all (after_strides s.settings s.stride c) (strides s.settings s.stride c)) parts
      ∙ ap (λ b. then_all b (strides s.settings s.stride (k + n))) (after-append s.settings s.stride n k)
      ∙ ap (λ ds. then_all (after_strides (after_strides s.settings s.stride n) s.stride k) ds) (strides-append s.settings s.stride n k)

  apart : (a b r e d : List (Result A Fault)) → a ++ b ++ r ++ e ++ d ≡ a ++ (b ++ r ++ e ++ d)
  apart a b r e d = simp append_assoc

  in_front : (b : Bind) → then_all b (strides s.settings s.stride n ++ more) ≡ first ++ then_all b more
  in_front b =
      let ran = run u x s.range b m (reading_from (reader_by u x s.range) s.range.upto s.place).read in
      let stop : List (Result A Fault) = fault_item (reading_from (reader_by u x s.range) s.range.upto s.place).stop in
      let lasts = cond s.range.is_lazy [] (rest_of u x (u.first true) (start_of lazy)) in
      ap (λ front. front ++ ran ++ stop ++ lasts) (map-append (λ d. u.makes x d m) (strides s.settings s.stride n) more)
      ∙ apart first (map (λ d. u.makes x d m) more) ran stop lasts

  after_first : s.ended ≡ false
      → items_of u x lazy m passed ≡ upto_fault (then_all (after_strides (after_strides s.settings s.stride n) s.stride k) more)
  unfolding items_of rest_of
  after_first on = rw on refl

  pub pass_items : s.ended ≡ false → has_fault first ≡ false → items_of u x lazy m s ≡ first ++ items_of u x lazy m passed
  pass_items on none =
      all_of on ∙ ap upto_fault (of_parts ∙ in_front (after_strides (after_strides s.settings s.stride n) s.stride k))
      ∙ upto-following first (then_all (after_strides (after_strides s.settings s.stride n) s.stride k) more) none
      ∙ ap (λ items. first ++ items) (sym (after_first on))

-- ---- a pointer's spot

pub no_segment : (pointer number offset : ℕ) (segments : List SegmentView) → slice_get segments number ≡ None
    → spot_of pointer segments number offset ≡ Err malformed
unfolding spot_of
no_segment pointer number offset segments e = rw e refl

module _ (pointer number : ℕ) (segments : List SegmentView) (s : SegmentView) (there : slice_get segments number ≡ Some s) where
  pub too_small : (offset : ℕ) → s.command.vmsize < pointer → spot_of pointer segments number offset ≡ Err malformed
  unfolding spot_of
  too_small offset small = rw (there, lt-leb (offset + pointer) s.command.vmsize (omega (arith, small))) refl

  module _ (large : pointer ≤ s.command.vmsize) (in_file : s.command.fileoff < 2 ^ 64) (address : s.command.vmaddr < 2 ^ 64) where
    pub spot_inside : (offset : ℕ) → offset ≤ highest_offset pointer s → (y : ℕ × ℕ) × (spot_of pointer segments number offset ≡ Ok y)
    unfolding spot_of
    spot_inside offset inside = (
      (s.command.fileoff + offset, s.command.vmaddr + offset),
      rw (
        there,
        le-leb (offset + pointer) s.command.vmsize (omega (arith, inside, large)),
        lt-ltb (s.command.fileoff + offset) (2 ^ 64) (omega (arith, inside, in_file)),
        lt-ltb (s.command.vmaddr + offset) (2 ^ 64) (omega (arith, inside, address)),
      ) refl,
    )

    pub spot_outside : (offset : ℕ) → highest_offset pointer s < offset → spot_of pointer segments number offset ≡ Err malformed
    unfolding spot_of
    spot_outside offset out = elim (cases_lt s.command.vmsize (offset + pointer)) [
      | inl past ↦ rw (there, lt-leb (offset + pointer) s.command.vmsize past) refl
      | inr holds ↦ elim (cases_lt (s.command.fileoff + offset) (2 ^ 64)) [
        | inr past ↦
            rw (there, le-leb (offset + pointer) s.command.vmsize holds, le-ltb (s.command.fileoff + offset) (2 ^ 64) past) refl
        | inl fits ↦ elim (cases_lt (s.command.vmaddr + offset) (2 ^ 64)) [
          | inr past ↦
              rw (
                there,
                le-leb (offset + pointer) s.command.vmsize holds,
                lt-ltb (s.command.fileoff + offset) (2 ^ 64) fits,
                le-ltb (s.command.vmaddr + offset) (2 ^ 64) past,
              ) refl
          | inl too ↦
              let inside : offset ≤ highest_offset pointer s =
              le-min (omega (arith, holds)) (le-min (omega (arith, fits)) (omega (arith, too))) in
              absurd (omega (arith, inside, out))
        ]
      ]
    ]

-- ---- the offsets of turns, as places on a ring of 2^64

pub offset_is : (offset stride j : ℕ) → offset < 2 ^ 64 → offset_at offset stride j ≡ (offset + j * stride) % 2 ^ 64
unfolding offset_at
offset_is offset stride zero small =
    let none : offset ≡ offset + 0 * stride = omega arith in sym (mod-eq_of_lt small) ∙ ap (λ n. n % 2 ^ 64) none
offset_is offset stride (suc j) small =
    let sum : offset + stride + j * stride ≡ offset + suc j * stride = omega arith in
    offset_is ((offset + stride) % 2 ^ 64) stride j (mod-lt (offset + stride) (omega arith)) ∙ mod-add_first (offset + stride) (j * stride) (2 ^ 64)
    ∙ ap (λ n. n % 2 ^ 64) sum

-- an offset that is moved so far that the offsets above the highest come to the ring's start
module _ (highest : ℕ) (small : highest < 2 ^ 64) where
  abbrev above : ℕ
  above = 2 ^ 64 - 1 - highest

  low_is_inside : (o : ℕ) → o < 2 ^ 64 → (o + above) % 2 ^ 64 < above → highest < o
  low_is_inside o fits low = elim (cases_lt highest o) [
    | inl out ↦ out
    | inr in_ ↦
        let same : (o + above) % 2 ^ 64 ≡ o + above = mod-eq_of_lt (omega (arith, in_, small)) in absurd (omega (arith, same, low))
  ]

  inside_is_low : (o : ℕ) → o < 2 ^ 64 → highest < o → (o + above) % 2 ^ 64 < above
  inside_is_low o fits out =
      let r : ℕ = o + above - 2 ^ 64 in
      let whole : o + above ≡ 1 * 2 ^ 64 + r = omega (arith, out, small) in
      let same : (o + above) % 2 ^ 64 ≡ r = ap (λ n. n % 2 ^ 64) whole ∙ mod-mul-add 1 (2 ^ 64) r (omega (arith, fits)) in
      omega (arith, same, fits, small)

  module _ (offset stride j : ℕ) (fits : offset < 2 ^ 64) where
    abbrev o : ℕ
    o = offset_at offset stride j

    o_fits : o < 2 ^ 64
    o_fits = let is = offset_is offset stride j fits in let lt = mod-lt (offset + j * stride) {m = 2 ^ 64} (omega arith) in omega (arith, is, lt)

    on_ring : ((offset + above) % 2 ^ 64 + j * stride) % 2 ^ 64 ≡ (o + above) % 2 ^ 64
    on_ring =
        let sum : offset + above + j * stride ≡ offset + j * stride + above = omega arith in
        mod-add_first (offset + above) (j * stride) (2 ^ 64) ∙ ap (λ n. n % 2 ^ 64) sum ∙ sym (mod-add_first (offset + j * stride) above (2 ^ 64))
        ∙ ap (λ n. (n + above) % 2 ^ 64) (sym (offset_is offset stride j fits))

    pub ring_out : ((offset + above) % 2 ^ 64 + j * stride) % 2 ^ 64 < above → highest < o
    ring_out low = low_is_inside o o_fits (subst (λ n. n < above) on_ring low)

    pub out_ring : highest < o → ((offset + above) % 2 ^ 64 + j * stride) % 2 ^ 64 < above
    out_ring out = subst (λ n. n < above) (sym on_ring) (inside_is_low o o_fits out)

-- ---- the binding of a bind

module _ (x : Input) (g : SetBefore) (b : Bind) where
  pub incomplete : is_complete g ≡ false → binding_of x g b ≡ Err malformed
  unfolding binding_of
  incomplete e = rw e refl

  module _ (whole : is_complete g ≡ true) where
    pub no_provider : provider_of x.libs g.ordinal ≡ Err malformed → binding_of x g b ≡ Err malformed
    unfolding binding_of
    no_provider e = rw (whole, e) refl

    module _ (p : Provider) (there : provider_of x.libs g.ordinal ≡ Ok p) where
      pub bound : (spot : ℕ × ℕ) → spot_of x.pointer x.segments b.segment b.offset ≡ Ok spot → binding_of x g b ≡ Ok (binding_with b p spot)
      unfolding binding_of
      bound spot e = rw (whole, there, e) refl

      pub outside : spot_of x.pointer x.segments b.segment b.offset ≡ Err malformed → binding_of x g b ≡ Err malformed
      unfolding binding_of
      outside e = rw (whole, there, e) refl
