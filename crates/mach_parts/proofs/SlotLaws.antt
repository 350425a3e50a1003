-- Laws of slots: where they lie, how they are found, and how many there are.
use Rattle.std.proofs.Common.{◌≡◌, ℕ, zero, suc, ◌+◌, ◌-◌, ◌*◌, ◌/◌, ◌<◌, ◌≤◌, Bool, true, false, cond, List, [], ◌∷◌, ◌++◌, length}
use Rattle.std.proofs.Common.{Option, Some, None, Result, Ok, Err, slice_get, nat_lt, refl, sym, ap, ◌∙◌, subst, arith}
use Rattle.std.specs.Prelude.{All, find, ◌&&◌, nat_le, ◌==◌}
use Rattle.std.specs.Option.{is_some}
use Rattle.std.proofs.Math.Nat.{div-mul-le_self, div-eq_of_lt-le, mul-le-mul_right, suc-mul}
use Rattle.std.proofs.lemmas.Bool.{ltb-true, lt-ltb, le-leb}
use Rattle.std.proofs.lemmas.List.Elements.{All-head, All-tail}
use Rattle.std.proofs.lemmas.Option.{none-some}
use Rattle.mach_base.proofs.Binds.{bind_ok, same_ok}
use Rattle.mach_base.proofs.ItemLists.{length-items_from, slice_get-items}
use Rattle.mach_base.specs.declared.context.Container.{Container}
use Rattle.mach_base.specs.Answer.{◌>>=◌}
use Rattle.mach_base.specs.Fault.{Fault, malformed}
use Rattle.mach_parts.specs.SectionRecord.{holds_address, readable_sections}
use Rattle.mach_parts.specs.Segment.{SegmentView}
use Rattle.mach_parts.specs.declared.segment.numbered.NumberedSection.{NumberedSection}
use Rattle.mach_parts.proofs.SlotLists.{none_more, one_more}
use Rattle.mach_parts.specs.IndirectSymbols.{IndirectTable, indirect_symbol_at, indirect_symbols_of}
use Rattle.mach_parts.specs.SlotLookUp.{holds_slots_at, slot_in_run, slot_in_run_if_any, slot_in_section, slot_of_address}
use Rattle.mach_parts.specs.SlotPlaces.{IsSlotOfSection}
use Rattle.mach_parts.specs.SlotSections.{slot_kind, slot_len, run_of, run_of_kind, slot_run}
use Rattle.mach_parts.specs.Slots.{SlotTables, Slot, entry_then, slot_entry, slot_of_entry, slot_symbol, slots_from, slots_of_run, read_slots}
use Rattle.mach_parts.specs.declared.slots.kind.SlotKind.{SlotKind}
use Rattle.mach_parts.specs.declared.slots.kind.SlotRun.{SlotRun}
use Rattle.mach_parts.specs.declared.slot.SlotEntry.{SlotEntry}

-- ---- indirect symbols

pub entries_counted : (t : IndirectTable) → length (indirect_symbols_of t) ≡ t.count
entries_counted t = length-items_from (indirect_symbol_at t) 0 t.count

pub entry_by_number : (t : IndirectTable) (k : ℕ) → k < t.count → slice_get (indirect_symbols_of t) k ≡ Some (indirect_symbol_at t k)
entry_by_number t k inside = slice_get-items (indirect_symbol_at t) t.count k inside

-- ---- tests that succeeded

where_true : {A : Type 0} (b : Bool) (x : Result A Fault) (y : A) → cond b x (Err malformed) ≡ Ok y → (b ≡ true) × (x ≡ Ok y)
where_true true x y e = (refl, e)
where_true false x y e = absurd (cc)

where_false : {A : Type 0} (b : Bool) (x : Result A Fault) (y : A) → cond b (Err malformed) x ≡ Ok y → (b ≡ false) × (x ≡ Ok y)
where_false true x y e = absurd (cc)
where_false false x y e = (refl, e)

where_some : {A : Type 0} (b : Bool) (x : Result (Option A) Fault) (y : A) → cond b (Ok None) x ≡ Ok (Some y) → x ≡ Ok (Some y)
where_some true x y e = absurd (cc)
where_some false x y e = e

not_zero : (n : ℕ) → (n == 0) ≡ false → 0 < n
not_zero zero e = absurd (cc)
not_zero (suc n) e = omega arith

get_none : {A : Type 0} (k : ℕ) → slice_get {X = A} [] k ≡ None
get_none zero = refl
get_none (suc k) = refl

-- ---- the slots of a run

first_is : (found : Result SlotEntry Fault) (slot : SlotEntry → Result Slot Fault) (others : List (Result Slot Fault)) (s : Slot)
    → slice_get (entry_then found slot others) 0 ≡ Some (Ok s) → (e : SlotEntry) × (found ≡ Ok e) × (slot e ≡ Ok s)
first_is (Ok e) slot others s there = (e, refl, cc)
first_is (Err f) slot others s there = absurd (cc)

later_is : (found : Result SlotEntry Fault) (slot : SlotEntry → Result Slot Fault) (others : List (Result Slot Fault)) (k : ℕ) (x : Result Slot Fault)
    → slice_get (entry_then found slot others) (suc k) ≡ Some x → slice_get others k ≡ Some x
later_is (Ok e) slot others k x there = there
later_is (Err f) slot others k x there = absurd (none-some x (sym (get_none k) ∙ there))

few : (found : Result SlotEntry Fault) (slot : SlotEntry → Result Slot Fault) (others : List (Result Slot Fault)) (most : ℕ)
    → ((e : SlotEntry) → found ≡ Ok e → length others + 1 ≤ most) → 1 ≤ most → length (entry_then found slot others) ≤ most
few (Ok e) slot others most by_others one = let h = by_others e refl in omega arith
few (Err f) slot others most by_others one = one

module _ (t : SlotTables) (r : SlotRun) where
  -- the fields of a slot's entry
  entry_is : (j : ℕ) (e : SlotEntry) → slot_entry t r j ≡ Ok e
      → (e.address ≡ r.address + j * r.len) × (e.index ≡ r.first + j) × (r.first + j < t.indirect.count)
  entry_is j e there =
      let outer = where_true _ _ e there in
      let inner = where_true _ _ e outer.1 in
      let read = bind_ok (indirect_symbol_at t.indirect (r.first + j)) _ e inner.1 in
      let is = same_ok read.2 in
      (ap (λ (x : SlotEntry). x.address) (sym is), ap (λ (x : SlotEntry). x.index) (sym is), ltb-true (r.first + j) t.indirect.count inner.0)

  -- the fields of a slot, by its entry and its run
  slot_is : (e : SlotEntry) (s : Slot) → slot_of_entry t r e ≡ Ok s
      → (s.segment ≡ r.segment) × (s.section ≡ r.section) × (s.address ≡ e.address) × (s.len ≡ r.len) × (s.kind ≡ r.kind) × (s.index ≡ e.index)
  slot_is e s there =
      let is = same_ok (bind_ok (slot_symbol t.symbols e.says) _ s there).2 in (
        ap (λ (x : Slot). x.segment) (sym is),
        ap (λ (x : Slot). x.section) (sym is),
        ap (λ (x : Slot). x.address) (sym is),
        ap (λ (x : Slot). x.len) (sym is),
        ap (λ (x : Slot). x.kind) (sym is),
        ap (λ (x : Slot). x.index) (sym is),
      )

  -- item k is the slot of entry j + k
  item_is : (most j k : ℕ) (s : Slot) → slice_get (slots_from t r most j) k ≡ Some (Ok s)
      → (k < most) × ((e : SlotEntry) × (slot_entry t r (j + k) ≡ Ok e) × (slot_of_entry t r e ≡ Ok s))
  item_is zero j k s there =
      absurd (none-some (Ok s) (sym (get_none k) ∙ (ap (λ (items : List (Result Slot Fault)). slice_get items k) (sym (none_more t r j)) ∙ there)))
  item_is (suc most) j zero s there =
      let first = first_is (slot_entry t r j) (slot_of_entry t r) (slots_from t r most (j + 1)) s
      (ap (λ (items : List (Result Slot Fault)). slice_get items 0) (sym (one_more t r most j)) ∙ there) in
      let same : j ≡ j + 0 = omega arith in
      (omega arith, (first.0, subst (λ (n : ℕ). slot_entry t r n ≡ Ok first.0) same first.1, first.2))
  item_is (suc most) j (suc k) s there =
      let rest = item_is most (j + 1) k s (later_is (slot_entry t r j) (slot_of_entry t r) (slots_from t r most (j + 1)) k (Ok s)
      (ap (λ (items : List (Result Slot Fault)). slice_get items (suc k)) (sym (one_more t r most j)) ∙ there)) in
      let inside = rest.0 in
      let same : (j + 1) + k ≡ j + suc k = omega arith in
      (omega arith, (rest.1.0, subst (λ (n : ℕ). slot_entry t r n ≡ Ok rest.1.0) same rest.1.1, rest.1.2))

  -- each has an entry of its own, except for a fault at the end
  no_more_from : (most j : ℕ) → length (slots_from t r most j) ≤ (t.indirect.count - (r.first + j)) + 1
  no_more_from zero j = let none = ap length (none_more t r j) in omega arith
  no_more_from (suc most) j =
      let others = no_more_from most (j + 1) in
      let most_of_all = few (slot_entry t r j) (slot_of_entry t r) (slots_from t r most (j + 1)) ((t.indirect.count - (r.first + j)) + 1)
      (λ e there. let inside = (entry_is j e there).2 in omega arith) (omega arith) in
      let is = ap length (one_more t r most j) in
      omega arith

-- ---- the slots of a section

-- the fields of a section's run
run_is : (container : Container) (n : NumberedSection) (found : Option SlotKind) (r : SlotRun) → run_of_kind container n found ≡ Ok (Some r)
    → (found ≡ Some r.kind) × (r.segment ≡ n.segment) × (r.section ≡ n.number) × (r.address ≡ n.section.addr)
    × (r.len ≡ slot_len container r.kind n.section) × (r.first ≡ n.section.reserved1) × (r.count ≡ n.section.size / r.len) × (0 < r.len)
run_is container n None r e = absurd (cc)
run_is container n (Some kind) r e =
    let read = bind_ok (slot_run container n kind) (λ x. Ok (Some x)) (Some r)
    (where_some (n.section.size == 0) (slot_run container n kind >>= (λ x. Ok (Some x))) r e) in
    let same : read.0 ≡ r = let h = read.2 in cc in
    let made = where_false (slot_len container kind n.section == 0) _ read.0 read.1 in
    let is : _ ≡ r = same_ok made.1 ∙ same in (
      ap (λ (x : SlotRun). Some x.kind) is,
      ap (λ (x : SlotRun). x.segment) (sym is),
      ap (λ (x : SlotRun). x.section) (sym is),
      ap (λ (x : SlotRun). x.address) (sym is),
      subst (λ (x : SlotRun). x.len ≡ slot_len container x.kind n.section) is refl,
      ap (λ (x : SlotRun). x.first) (sym is),
      subst (λ (x : SlotRun). x.count ≡ n.section.size / x.len) is refl,
      subst (λ (x : SlotRun). 0 < x.len) is (not_zero (slot_len container kind n.section) made.0),
    )

-- a slot of a section is one of its run
of_run : (t : SlotTables) (found : Result (Option SlotRun) Fault) (k : ℕ) (s : Slot) → slice_get (slots_of_run t found) k ≡ Some (Ok s)
    → (r : SlotRun) × (found ≡ Ok (Some r)) × (slice_get (slots_from t r r.count 0) k ≡ Some (Ok s))
of_run t (Ok None) k s there = absurd (none-some (Ok s) (sym (get_none k) ∙ there))
of_run t (Ok (Some r)) k s there = (r, refl, there)
of_run t (Err f) zero s there = absurd (cc)
of_run t (Err f) (suc k) s there = absurd (none-some (Ok s) (sym (get_none k) ∙ there))

-- the fields of a slot of a section
pub record IsRead (t : SlotTables) (n : NumberedSection) (k : ℕ) (s : Slot) : Type 0 where
  pub run : SlotRun
  pub entry : SlotEntry
  pub run_of_it : run_of t.container n ≡ Ok (Some run)
  pub counted : k < run.count
  pub entry_of_it : slot_entry t run k ≡ Ok entry
  pub slot_of_it : slot_of_entry t run entry ≡ Ok s

is_read : (t : SlotTables) (n : NumberedSection) (k : ℕ) (s : Slot) → slice_get (read_slots t n) k ≡ Some (Ok s) → IsRead t n k s
is_read t n k s there =
    let at_run = of_run t (run_of t.container n) k s there in
    let item = item_is t at_run.0 at_run.0.count 0 k s at_run.2 in
    let same : 0 + k ≡ k = omega arith in
    record {
      run = at_run.0;
      entry = item.1.0;
      run_of_it = at_run.1;
      counted = item.0;
      entry_of_it = subst (λ (j : ℕ). slot_entry t at_run.0 j ≡ Ok item.1.0) same item.1.1;
      slot_of_it = item.1.2;
    }

-- how many whole slots fit
one_time_more : (k len : ℕ) → (k + 1) * len ≡ k * len + len
one_time_more k len = let same : k + 1 ≡ suc k = omega arith in ap (λ (n : ℕ). n * len) same ∙ suc-mul k len

fits : (size len k : ℕ) → k < size / len → k * len + len ≤ size
fits size len k inside =
    let whole = div-mul-le_self size len in
    let more = mul-le-mul_right {m = k + 1} {n = size / len} len (omega arith) in
    let one = one_time_more k len in
    omega (arith, whole, more, one)

pub in_their_section : (t : SlotTables) (n : NumberedSection) (k : ℕ) (s : Slot) → slice_get (read_slots t n) k ≡ Some (Ok s)
    → IsSlotOfSection t.container n k s
in_their_section t n k s there =
    let read = is_read t n k s there in
    let r = read.run in
    let of_run = run_is t.container n (slot_kind n.section.flags) r read.run_of_it in
    let of_entry = entry_is t r k read.entry read.entry_of_it in
    let of_slot = slot_is t r read.entry s read.slot_of_it in
    let len : s.len ≡ r.len = of_slot.3 in
    let kind : s.kind ≡ r.kind = of_slot.4 in
    let counted : k < n.section.size / r.len = subst (λ (count : ℕ). k < count) of_run.6 read.counted in
    let whole : k * r.len + r.len ≤ n.section.size = fits n.section.size r.len k counted in
    let address : s.address ≡ n.section.addr + k * r.len = of_slot.2 ∙ (of_entry.0 ∙ ap (λ (x : ℕ). x + k * r.len) of_run.3) in
    record {
      of_segment = of_slot.0 ∙ of_run.1;
      of_section = of_slot.1 ∙ of_run.2;
      of_kind = of_run.0 ∙ ap (λ (x : SlotKind). Some x) (sym kind);
      of_len = len ∙ (of_run.4 ∙ ap (λ (x : SlotKind). slot_len t.container x n.section) (sym kind));
      sized = subst (λ (x : ℕ). 0 < x) (sym len) of_run.7;
      following = address ∙ ap (λ (x : ℕ). n.section.addr + k * x) (sym len);
      inside = omega (arith, address, len, whole);
      entry = of_slot.5 ∙ (of_entry.1 ∙ ap (λ (x : ℕ). x + k) of_run.5);
    }

-- ---- the slot at an address

found_after : {A : Type 0} (p : A → Bool) (before : List A) (x : A) (following : List A) → All (λ y. p y ≡ false) before → p x ≡ true
    → find p (before ++ x ∷ following) ≡ Some x
found_after p [] x following none holds = ap (λ (b : Bool). cond b (Some x) (find p following)) holds
found_after p (y ∷ before) x following none holds =
    ap (λ (b : Bool). cond b (Some y) (find p (before ++ x ∷ following))) (All-head (λ y. p y ≡ false) y before none)
    ∙ found_after p before x following (All-tail (λ y. p y ≡ false) y before none) holds

both_true : (a b : Bool) → a ≡ true → b ≡ true → (a && b) ≡ true
both_true a b left right = ap (λ (x : Bool). x && b) left ∙ right

holds_it : (container : Container) (n : NumberedSection) (k : ℕ) (s : Slot) (a : ℕ) → IsSlotOfSection container n k s → s.address ≤ a
    → a < s.address + s.len → holds_slots_at a n ≡ true
holds_it container n k s a is from upto =
    let following = is.following in
    let inside = is.inside in
    ap (λ (kind : Option SlotKind). is_some kind && holds_address a n) is.of_kind
    ∙ both_true (nat_le n.section.addr a) (nat_lt a (n.section.addr + n.section.size)) (le-leb n.section.addr a (omega arith))
    (lt-ltb a (n.section.addr + n.section.size) (omega arith))

in_its_run : (t : SlotTables) (r : SlotRun) (k : ℕ) (e : SlotEntry) (s : Slot) (a : ℕ) → (a - r.address) / r.len ≡ k → k < r.count
    → slot_entry t r k ≡ Ok e → slot_of_entry t r e ≡ Ok s → slot_in_run t a r ≡ Ok (Some s)
in_its_run t r k e s a is counted there slot =
    let answer : Result SlotEntry Fault → Result (Option Slot) Fault = λ found. found >>= (λ x. slot_of_entry t r x >>= (λ y. Ok (Some y))) in
    ap (λ (j : ℕ). cond (nat_lt j r.count) (answer (slot_entry t r j)) (Ok None)) is
    ∙ (ap (λ (b : Bool). cond b (answer (slot_entry t r k)) (Ok None)) (lt-ltb k r.count counted)
    ∙ (ap answer there ∙ ap (λ (found : Result Slot Fault). found >>= (λ y. Ok (Some y))) slot))

pub found_at_its_address : (t : SlotTables) (ss : List SegmentView) (before : List NumberedSection) (n : NumberedSection) (following : List NumberedSection)
    (k : ℕ) (s : Slot) (a : ℕ) → readable_sections ss ≡ before ++ n ∷ following → All (λ m. holds_slots_at a m ≡ false) before
    → slice_get (read_slots t n) k ≡ Some (Ok s) → s.address ≤ a → a < s.address + s.len → slot_of_address t ss a ≡ Ok (Some s)
found_at_its_address t ss before n following k s a are none there from upto =
    let lies = in_their_section t n k s there in
    let read = is_read t n k s there in
    let r = read.run in
    let of_run = run_is t.container n (slot_kind n.section.flags) r read.run_of_it in
    let address : r.address ≡ n.section.addr = of_run.3 in
    let len : s.len ≡ r.len = (slot_is t r read.entry s read.slot_of_it).3 in
    let at_slot : s.address ≡ n.section.addr + k * r.len = lies.following ∙ ap (λ (x : ℕ). n.section.addr + k * x) len in
    let one = one_time_more k r.len in
    let number : (a - r.address) / r.len ≡ k =
    div-eq_of_lt-le {k = k} r.len {m = a - r.address} (omega (arith, address, at_slot, from)) (omega (arith, address, len, at_slot, one, upto)) in
    ap (λ (sections : List NumberedSection). slot_in_section t a (find (holds_slots_at a) sections)) are
    ∙ (ap (λ (found : Option NumberedSection). slot_in_section t a found)
    (found_after (holds_slots_at a) before n following none (holds_it t.container n k s a lies from upto))
    ∙ (ap (λ (found : Result (Option SlotRun) Fault). found >>= slot_in_run_if_any t a) read.run_of_it
    ∙ in_its_run t r k read.entry s a number read.counted read.entry_of_it read.slot_of_it))

-- ---- how many there are

few_of_run : (t : SlotTables) (found : Result (Option SlotRun) Fault) → length (slots_of_run t found) ≤ t.indirect.count + 1
few_of_run t (Ok None) = omega arith
few_of_run t (Ok (Some r)) = let most = no_more_from t r r.count 0 in omega arith
few_of_run t (Err f) = omega arith

pub no_more_than_entries : (t : SlotTables) (n : NumberedSection) → length (read_slots t n) ≤ t.indirect.count + 1
no_more_than_entries t n = few_of_run t (run_of t.container n)
