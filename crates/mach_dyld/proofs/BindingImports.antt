-- If imports and bindings read two streams alike, each binding agrees with the import at its place.
use Rattle.mach_dyld.proofs.BindNames.{◌≡◌, ◌≢◌, ◌⊎◌, inl, inr, ℕ, ℤ, zero, suc, ◌+◌, ◌-◌, ◌*◌, ◌%◌, ◌^◌, ◌<◌, ◌≤◌, List, [], ◌∷◌, ◌++◌, map, Bool, true, false}
use Rattle.mach_dyld.proofs.BindNames.{Option, Some, None, Result, Ok, Err, refl, reverse, nat_lt, cases_eq, cases_Bool, ◌>>=◌, append_assoc, append-nil}
use Rattle.mach_dyld.proofs.BindNames.{bind_ok}
use Rattle.mach_dyld.proofs.BindNames.{sym, ap, ◌∙◌, pos, cond, slice_get, range_with_len, filter_map, cons_option, AllByRecursion, IfOk, subst, same_ok}
use Rattle.mach_dyld.proofs.BindNames.{lt-ltb}
use Rattle.mach_dyld.proofs.BindNames.{arith, ◌==◌, ne_eqb, bit_and, Fault, malformed, holding, SegmentView, Input, Range, Reader, AllOccurBy, StopsBy}
use Rattle.mach_dyld.proofs.BindNames.{Placed, Instruction, Follow, stream_end, fault_item, upto_fault, all_from, row_at}
use Rattle.mach_dyld.proofs.BindNames.{done, library, symbol, segment, binds, byte_at, Bind, bind_after, binds_at, advances, advance_in, reached}
use Rattle.mach_dyld.proofs.BindNames.{flags_in, symbol_name_in, addend_in, segment_in, offset_in, sets_segment, count_in, sequence_of, Target, import_with}
use Rattle.mach_dyld.proofs.BindNames.{is_done, nearer_than, nearest_or, last_setting, library_in, Import, import_of, imports_in, target_of}
use Rattle.std.proofs.lemmas.List.Elements.{filter_map-append}
use Rattle.mach_dyld.specs.Binds.{done_is, segment_is, library_of, symbol_name_of, flags_of, addend_of, segment_of, segment_offset_of, advance_of, count_of}
use Rattle.mach_dyld.specs.Streams.{reader_of}
use Rattle.mach_dyld.specs.Instructions.{nothing, strong}
use Rattle.mach_parts.specs.Bindings.{Provider, of_library}
unfoldable use Rattle.mach_parts.specs.Bindings.{provider_of}
use Rattle.mach_parts.specs.Bindings.{Binding}
use Rattle.mach_dyld.specs.Bindings.{SetBefore, binding_with, holding_all, ordinal_in, ordinal_by, special_by, last_ordinal, last_given, bindings_at}
use Rattle.mach_dyld.specs.Bindings.{bindings_in}
use Rattle.mach_dyld.specs.Bindings.{highest_opcode, done_leads_to}
unfoldable use Rattle.mach_dyld.specs.Bindings.{spot_of, binding_of, opcode_at, bindings_row}
use Rattle.mach_dyld.specs.BindingLaws.{IsPlain, reported_item, reported_by_import, reported_by_binding}
use Rattle.mach_dyld.specs.BindingLaws.{library_name, EachReports, IsSetAnew, AreSetAnew, AreReadAlike}
use Rattle.mach_dyld.specs.BindingLaws.{StreamsReportTheSame}
use Rattle.mach_dyld.specs.BindItems.{AreBindItems}
use Rattle.mach_dyld.specs.Bindings.{AreBindings}
use Rattle.mach_dyld.proofs.BindPlaced.{made_of}
use Rattle.mach_dyld.proofs.BindingLaws.{held_all, spot_at, spot_parts}
use Rattle.mach_dyld.proofs.BindingReading.{unknown, at_done, as_read}
use Rattle.mach_dyld.proofs.BindingOpcodes.{no_done}
use Rattle.mach_dyld.proofs.BindSteps.{by_row}
use Rattle.mach_dyld.proofs.BindSettings.{all-map}
use Rattle.mach_dyld.proofs.BindReading.{one_longest}
use Rattle.mach_dyld.proofs.BindLists.{longest_stream}
use Rattle.mach_dyld.proofs.BindTotal.{onto}
use Rattle.mach_dyld.proofs.BindLast.{onto-reverse}

-- ---- one instruction

-- what the byte at its place is, if there is one
abbrev PlainByte : Result ℕ Fault → Type 0
PlainByte there = (byte : ℕ) → there ≡ Ok byte → bit_and byte 0xf0 ≢ 0x30

no_special : (there : Result ℕ Fault) → PlainByte there → special_by there ≡ None
no_special (Ok byte) h = rw (ne_eqb (bit_and byte 0xf0) 0x30 (h byte refl)) refl
no_special (Err f) h = refl

-- ---- the ordinal

abbrev as_ordinal : Option ℕ → Option ℤ
as_ordinal None = None
as_ordinal (Some n) = Some (pos n)

library_alone : (place after : ℕ) (i : Instruction) (there : Result ℕ Fault) → PlainByte there
    → ordinal_by i there ≡ as_ordinal (library_in (record { place = place; instruction = i; after = after }))
library_alone place after (library n) there h = refl
library_alone place after nothing there h = no_special there h
library_alone place after _ there h = refl

abbrev Plain : List ℕ → List Placed → Type 0
Plain bytes ps = AllByRecursion (IsPlain bytes) ps

first_of_ordinals : (o : Option ℕ) (xs : List ℤ) (ys : List ℕ) → nearest_or (pos 0) xs ≡ pos (nearest_or 0 ys)
    → nearest_or (pos 0) (cons_option (as_ordinal o) xs) ≡ pos (nearest_or 0 (cons_option o ys))
first_of_ordinals None xs ys e = e
first_of_ordinals (Some n) xs ys e = refl

step_ordinal : (bytes : List ℕ) (p : Placed) (near : List Placed) (d : Bool) → ordinal_in bytes p ≡ as_ordinal (library_in p)
    → nearest_or (pos 0) (filter_map (ordinal_in bytes) near) ≡ pos (nearest_or 0 (filter_map library_in near))
    → nearest_or (pos 0) (filter_map (ordinal_in bytes) (cond d [] (p ∷ near))) ≡ pos (nearest_or 0 (filter_map library_in (cond d [] (p ∷ near))))
step_ordinal bytes p near true h e = refl
step_ordinal bytes p near false h e =
    ap (λ o. nearest_or (pos 0) (cons_option o (filter_map (ordinal_in bytes) near))) h
    ∙ first_of_ordinals (library_in p) (filter_map (ordinal_in bytes) near) (filter_map library_in near) e

last_library : (bytes : List ℕ) (back : List Placed) → Plain bytes back → last_ordinal bytes back ≡ pos (last_setting 0 library_in back)
last_library bytes [] h = refl
last_library bytes (p ∷ back) h =
    step_ordinal bytes p (nearer_than is_done back) (is_done p) (library_alone p.place p.after p.instruction (byte_at bytes p.place) h.0)
    (last_library bytes back h.1)

-- ---- one bind

-- a segment that holds a pointer at an offset holds the offset
still_held : (len offset : ℕ) (s : SegmentView) → 0 < len → holding_all len offset s ≡ Ok s → holding offset s ≡ Ok s
still_held len offset s more e =
    let le = (held_all len offset s s e).0 in
    let below : offset < s.command.vmsize = omega (arith, le, more) in
    ap (λ t. cond t (Ok s) (Err malformed)) (lt-ltb offset s.command.vmsize below)

-- ---- an instruction that bindings read where imports read a DONE

abbrev undone_of : Instruction → Instruction
undone_of done = nothing
undone_of i = i

abbrev undone : Placed → Placed
undone p = record { place = p.place; instruction = undone_of p.instruction; after = p.after }

-- it has what both instructions have
undone-same : {A : Type 0} (f : Instruction → A) → f nothing ≡ f done → (i : Instruction) → f (undone_of i) ≡ f i
undone-same {A} f e done = e
undone-same {A} f e _ = refl

never_done : (i : Instruction) → done_is (undone_of i) ≡ false
never_done done = refl
never_done _ = refl

undone_keeps : (i : Instruction) → done_is i ≡ false → undone_of i ≡ i
undone_keeps done h = absurd (cc)
undone_keeps _ h = refl

undone_is : (p : Placed) → is_done p ≡ false → undone p ≡ p
undone_is p h = ap (λ i. record { place = p.place; instruction = i; after = p.after }) (undone_keeps p.instruction h)

-- ---- lists of them

filter-undone : {A : Type 0} (f : Instruction → Option A) → f nothing ≡ f done → (back : List Placed)
    → filter_map (λ p. f p.instruction) (map undone back) ≡ filter_map (λ p. f p.instruction) back
filter-undone {A} f e [] = refl
filter-undone {A} f e (p ∷ back) =
    ap (λ o. cons_option o (filter_map (λ (q : Placed). f q.instruction) (map undone back))) (undone-same f e p.instruction)
    ∙ ap (cons_option (f p.instruction)) (filter-undone f e back)

near-undone : (back : List Placed) → nearer_than is_done (map undone back) ≡ map undone back
near-undone [] = refl
near-undone (p ∷ back) =
    ap (λ d. cond d [] (undone p ∷ nearer_than is_done (map undone back))) (never_done p.instruction) ∙ ap (λ ps. undone p ∷ ps) (near-undone back)

cond-map : (d : Bool) (p : Placed) (ps : List Placed) → cond d [] (undone p ∷ map undone ps) ≡ map undone (cond d [] (p ∷ ps))
cond-map true p ps = refl
cond-map false p ps = refl

segments-undone : (back : List Placed) → nearer_than sets_segment (map undone back) ≡ map undone (nearer_than sets_segment back)
segments-undone [] = refl
segments-undone (p ∷ back) =
    ap (λ d. cond d [] (undone p ∷ nearer_than sets_segment (map undone back))) (undone-same segment_is refl p.instruction)
    ∙ ap (λ ps. cond (sets_segment p) [] (undone p ∷ ps)) (segments-undone back) ∙ cond-map (sets_segment p) p (nearer_than sets_segment back)

advances-undone : (pointer : ℕ) (back : List Placed) → advances pointer (map undone back) ≡ advances pointer back
advances-undone pointer [] = refl
advances-undone pointer (p ∷ back) =
    ap (λ n. n + advances pointer (map undone back)) (undone-same (advance_of pointer) refl p.instruction)
    ∙ ap (λ n. advance_in pointer p + n) (advances-undone pointer back)

-- ---- what is set after the last DONE is what is set in all

near_far : (back : List Placed) → (far : List Placed) × (back ≡ nearer_than is_done back ++ far)
near_far [] = ([], refl)
near_far (p ∷ back) = by_test (near_far back) (is_done p)
  where
    by_test : (far : List Placed) × (back ≡ nearer_than is_done back ++ far) → (d : Bool)
        → (far : List Placed) × (p ∷ back ≡ cond d [] (p ∷ nearer_than is_done back) ++ far)
    by_test m true = (p ∷ back, refl)
    by_test m false = (m.0, ap (λ ps. p ∷ ps) m.1)

first_of_front : {A : Type 0} (fresh : A) (xs ys : List A) → xs ≢ [] → nearest_or fresh (xs ++ ys) ≡ nearest_or fresh xs
first_of_front {A} fresh [] ys h = absurd (h refl)
first_of_front {A} fresh (x ∷ xs) ys h = refl

set_anew : {A : Type 0} (fresh : A) (operand : Placed → Option A) (back : List Placed) → IsSetAnew operand back
    → last_setting fresh operand back ≡ nearest_or fresh (filter_map operand back)
set_anew {A} fresh operand back h =
    let m = near_far back in
    let near : List Placed = nearer_than is_done back in
    sym (first_of_front fresh (filter_map operand near) (filter_map operand m.0) h)
    ∙ ap (nearest_or fresh) (sym (filter_map-append operand near m.0) ∙ ap (filter_map operand) (sym m.1))

append_none : {A : Type 0} (xs ys : List A) → xs ++ ys ≡ [] → xs ≡ []
append_none {A} [] ys e = refl
append_none {A} (x ∷ xs) ys e = absurd (cc)

set_nowhere : {A : Type 0} (fresh : A) (operand : Placed → Option A) (back : List Placed) → filter_map operand back ≡ []
    → last_setting fresh operand back ≡ nearest_or fresh (filter_map operand back)
set_nowhere {A} fresh operand back e =
    let m = near_far back in
    let near : List Placed = nearer_than is_done back in
    let none : filter_map operand near ≡ [] = append_none (filter_map operand near) (filter_map operand m.0)
    (sym (filter_map-append operand near m.0) ∙ ap (filter_map operand) (sym m.1) ∙ e) in
    ap (nearest_or fresh) (none ∙ sym e)

-- an operand in the same place as another
cons_none : {A : Type 0} (o : Option A) (xs : List A) → cons_option o xs ≡ [] → (o ≡ None) × (xs ≡ [])
cons_none {A} None xs e = (refl, e)
cons_none {A} (Some x) xs e = absurd (cc)

alike : {A B : Type 0} (f : Instruction → Option A) (g : Instruction → Option B) → ((i : Instruction) → g i ≡ None → f i ≡ None) → (ps : List Placed)
    → filter_map (λ p. g p.instruction) ps ≡ [] → filter_map (λ p. f p.instruction) ps ≡ []
alike {A} {B} f g h [] e = refl
alike {A} {B} f g h (p ∷ ps) e =
    let c = cons_none (g p.instruction) (filter_map (λ (q : Placed). g q.instruction) ps) e in
    ap (λ o. cons_option o (filter_map (λ (q : Placed). f q.instruction) ps)) (h p.instruction c.0) ∙ alike f g h ps c.1

name_alike : (i : Instruction) → flags_of i ≡ None → symbol_name_of i ≡ None
name_alike (symbol flags name) e = absurd (cc)
name_alike (strong flags name) e = absurd (cc)
name_alike _ e = refl

offset_alike : (i : Instruction) → segment_offset_of i ≡ None → segment_of i ≡ None
offset_alike (segment k n) e = absurd (cc)
offset_alike _ e = refl

set_segment : (i : Instruction) → segment_is i ≡ false → segment_of i ≡ None
set_segment (segment k n) e = absurd (cc)
set_segment _ e = refl

-- if a segment is set in the nearer part, the instructions since then are in that part
since_front : (near far : List Placed) → filter_map segment_in near ≢ [] → nearer_than sets_segment (near ++ far) ≡ nearer_than sets_segment near
since_front [] far h = absurd (h refl)
since_front (p ∷ near) far h = by_test (since_front near far) (sets_segment p) refl
  where
    by_test : (filter_map segment_in near ≢ [] → nearer_than sets_segment (near ++ far) ≡ nearer_than sets_segment near) → (d : Bool) → sets_segment p ≡ d
        → cond d [] (p ∷ nearer_than sets_segment (near ++ far)) ≡ cond d [] (p ∷ nearer_than sets_segment near)
    by_test others true e = refl
    by_test others false e =
        ap (λ ps. p ∷ ps) (others (λ none. h (ap (λ o. cons_option o (filter_map segment_in near)) (set_segment p.instruction e) ∙ none)))

-- ---- the bind after both

module _ (pointer : ℕ) (r : Range) (back : List Placed) (own : ℕ) where
  -- it differs only in its sequence
  abbrev IsSameBind : Type 0
  IsSameBind = bind_after pointer r (map undone back) own ≡ record (bind_after pointer r back own) { sequence = sequence_of r.from (map undone back) }

  abbrev parts : ℕ → ℕ → List ℕ → ℤ → ℕ → ℕ → Bind
  parts number flags name added k offset = record {
    is_lazy = r.is_lazy;
    library = number;
    flags = flags;
    name = name;
    addend = added;
    segment = k;
    offset = (offset + own) % 2 ^ 64;
    sequence = sequence_of r.from (map undone back);
  }

  abbrev of_all : {A : Type 0} → A → (Instruction → Option A) → List Placed → A
  of_all fresh f ps = nearest_or fresh (filter_map (λ p. f p.instruction) ps)

  all_anew : {A : Type 0} (fresh : A) (f : Instruction → Option A) → f nothing ≡ f done
      → last_setting fresh (λ p. f p.instruction) back ≡ of_all fresh f back → last_setting fresh (λ p. f p.instruction) (map undone back)
      ≡ last_setting fresh (λ p. f p.instruction) back
  all_anew {A} fresh f e h = ap (of_all fresh f) (near-undone back) ∙ ap (nearest_or fresh) (filter-undone f e back) ∙ sym h

  anew_addend : IsSetAnew addend_in back ⊎ (filter_map addend_in back ≡ []) → last_setting (pos 0) addend_in back ≡ of_all (pos 0) addend_of back
  anew_addend (inl h) = set_anew (pos 0) addend_in back h
  anew_addend (inr h) = set_nowhere (pos 0) addend_in back h

  anew_reached : IsSetAnew segment_in back → reached pointer (map undone back) ≡ reached pointer back
  anew_reached h =
      let m = near_far back in
      let near : List Placed = nearer_than is_done back in
      let offset = set_anew 0 offset_in back (λ none. h (alike segment_of segment_offset_of offset_alike near none)) in
      let since : nearer_than sets_segment back ≡ nearer_than sets_segment near = ap (nearer_than sets_segment) m.1 ∙ since_front near m.0 h in
      ap (λ n. n + advances pointer (nearer_than sets_segment (nearer_than is_done (map undone back)))) (all_anew 0 segment_offset_of refl offset)
      ∙ ap (λ ps. last_setting 0 offset_in back + advances pointer (nearer_than sets_segment ps)) (near-undone back)
      ∙ ap (λ ps. last_setting 0 offset_in back + advances pointer ps) (segments-undone back)
      ∙ ap (λ n. last_setting 0 offset_in back + n) (advances-undone pointer (nearer_than sets_segment back))
      ∙ ap (λ ps. last_setting 0 offset_in back + advances pointer ps) since

  same_anew : AreSetAnew back → IsSameBind
  unfolding bind_after
  same_anew h =
      let near : List Placed = nearer_than is_done back in
      let n = all_anew 0 library_of refl (set_anew 0 library_in back h.library) in
      let k = all_anew 0 flags_of refl (set_anew 0 flags_in back (λ none. h.name (alike symbol_name_of flags_of name_alike near none))) in
      let name = all_anew [] symbol_name_of refl (set_anew [] symbol_name_in back h.name) in
      let a = all_anew (pos 0) addend_of refl (anew_addend h.addend) in
      let s = all_anew 0 segment_of refl (set_anew 0 segment_in back h.segment) in
      let back' : List Placed = map undone back in
      ap (λ q. parts q (last_setting 0 flags_in back') (last_setting [] symbol_name_in back') (last_setting (pos 0) addend_in back')
      (last_setting 0 segment_in back') (reached pointer back')) n
      ∙ ap (λ q. parts (last_setting 0 library_in back) q (last_setting [] symbol_name_in back') (last_setting (pos 0) addend_in back')
      (last_setting 0 segment_in back') (reached pointer back')) k
      ∙ ap (λ q. parts (last_setting 0 library_in back) (last_setting 0 flags_in back) q (last_setting (pos 0) addend_in back')
      (last_setting 0 segment_in back') (reached pointer back')) name
      ∙ ap (λ q. parts (last_setting 0 library_in back) (last_setting 0 flags_in back) (last_setting [] symbol_name_in back) q
      (last_setting 0 segment_in back') (reached pointer back')) a
      ∙ ap (λ q. parts (last_setting 0 library_in back) (last_setting 0 flags_in back) (last_setting [] symbol_name_in back)
      (last_setting (pos 0) addend_in back)
      q (reached pointer back')) s
      ∙ ap (parts (last_setting 0 library_in back) (last_setting 0 flags_in back) (last_setting [] symbol_name_in back) (last_setting (pos 0) addend_in back)
      (last_setting 0 segment_in back)) (anew_reached h.segment)

-- if there is no DONE, both are the same
abbrev NoDone : List Placed → Type 0
NoDone ps = AllByRecursion (λ p. is_done p ≡ false) ps

undone-all : (back : List Placed) → NoDone back → map undone back ≡ back
undone-all [] h = refl
undone-all (p ∷ back) h = ap (λ q. q ∷ map undone back) (undone_is p h.0) ∙ ap (λ ps. p ∷ ps) (undone-all back h.1)

same_before_done : (pointer : ℕ) (r : Range) (back : List Placed) (own : ℕ) → NoDone back → IsSameBind pointer r back own
unfolding bind_after
same_before_done pointer r back own h = rw (undone-all back h) refl

-- ---- one bind of both

abbrev Bound : Result Target Fault → Bind → Result Import Fault
Bound t b = t >>= λ y. Ok (import_with b y)

reported_sequence : (t : Result Target Fault) (b : Bind) (n : ℕ)
    → reported_item reported_by_import (Bound t b) ≡ reported_item reported_by_import (Bound t (record b { sequence = n }))
reported_sequence (Ok t) b n = refl
reported_sequence (Err f) b n = refl

-- a DONE makes no bind
done_count : (i : Instruction) → done_is i ≡ true → count_of i ≡ 0
done_count (binds count skip) h = absurd (cc)
done_count _ h = refl

module _ (x : Input) (first : List ℕ) (others : List (List ℕ)) (libs : x.libs ≡ first ∷ others) (more : 0 < x.pointer) where
  above_0 : (n : ℕ) → (suc n == 0) ≡ false
  above_0 n = ne_eqb (suc n) 0 (λ z. omega arith)

  -- the provider by a library's number is the library, or the image itself
  abbrev Named : ℕ → Provider → Type 0
  Named n p = (dylib : List ℕ) × (slice_get x.libs n ≡ Some dylib) × (library_name first p ≡ Some dylib)

  named_by : (n : ℕ) (found : Option (List ℕ)) (p : Provider) → slice_get x.libs (suc n) ≡ found → provider_of x.libs (pos (suc n)) ≡ Ok p → Named (suc n) p
  unfolding provider_of
  named_by n None p e h = absurd (let k = rw (e, above_0 n) at h in cc)
  named_by n (Some name) p e h =
      let k : of_library (suc n) name ≡ p = same_ok (rw (e, above_0 n) at h) in
      (name, e, ap (library_name first) (sym k))

  named : (n : ℕ) (p : Provider) → provider_of x.libs (pos n) ≡ Ok p → Named n p
  unfolding provider_of
  named zero p h = (first, rw libs refl, ap (library_name first) (sym (same_ok h)))
  named (suc n) p h = named_by n (slice_get x.libs (suc n)) p refl h

  abbrev ReportsFault : Result Import Fault → Result Binding Fault → Type 0
  ReportsFault i b = IfOk b (λ found. reported_item reported_by_import i ≡ Ok (reported_by_binding first found))

  bind_reports : (g : SetBefore) (b : Bind) (item : Result Binding Fault) → g.ordinal ≡ pos b.library → binding_of x g b ≡ item
      → ReportsFault (import_of x b) item
  unfolding import_of target_of
  bind_reports g b (Err f) o e = tt
  bind_reports g b (Ok found) o e =
      let made = made_of x g b found e in
      let lib = named b.library made.0 (ap (provider_of x.libs) (sym o) ∙ made.3) in
      let s = spot_parts x.pointer x.segments b.segment b.offset made.1 made.4 in
      let holds = still_held x.pointer b.offset s.segment more s.holds in
      let same : binding_with b made.0 (spot_at s.in_file s.address) ≡ found = ap (binding_with b made.0) s.made ∙ made.5 in
      let here : reported_item reported_by_import (import_of x b) ≡ Ok (reported_by_binding first (binding_with b made.0 (spot_at s.in_file s.address))) =
      rw (lib.1, s.there, holds, s.in_file_is, s.address_is, lib.2) refl in
      here ∙ ap (λ (q : Binding). Ok (reported_by_binding first q)) same

  abbrev Item : Type 0
  Item = Result Import Fault

  one_reports : (i : Item) (b : Result Binding Fault) (is : List Item) (bs : List (Result Binding Fault)) → ReportsFault i b → EachReports first is bs
      → EachReports first (i ∷ is) (b ∷ bs)
  one_reports i (Ok b) is bs h k = (h, k)
  one_reports i (Err f) is bs h k = tt

  -- the binding of what bindings read agrees with the import of what imports read
  bind_alike : (r : Range) (back : List Placed) (g : SetBefore) (own : ℕ) → IsSameBind x.pointer r back own
      → g.ordinal ≡ pos (last_setting 0 library_in (map undone back))
      → ReportsFault (import_of x (bind_after x.pointer r back own)) (binding_of x g (bind_after x.pointer r (map undone back) own))
  unfolding import_of bind_after
  bind_alike r back g own same o =
      let b = bind_after x.pointer r back own in
      let c = bind_after x.pointer r (map undone back) own in
      let t = target_of x b.library b.segment b.offset in
      let both : reported_item reported_by_import (import_of x b) ≡ reported_item reported_by_import (import_of x c) =
      reported_sequence t b (sequence_of r.from (map undone back)) ∙ ap (λ d. reported_item reported_by_import (import_of x d)) (sym same) in
      reports_by (import_of x b) (import_of x c) both (binding_of x g c) (bind_reports g c (binding_of x g c) o refl)
    where
      reports_by : (i j : Item) → reported_item reported_by_import i ≡ reported_item reported_by_import j → (item : Result Binding Fault)
          → ReportsFault j item → ReportsFault i item
      reports_by i j e (Ok found) h = e ∙ h
      reports_by i j e (Err f) h = tt

  -- ---- instructions

  strides_report : (r : Range) (back : List Placed) (g : SetBefore) (s : ℕ) (js : List ℕ) (is : List Item) (bs : List (Result Binding Fault))
      → ((own : ℕ) → IsSameBind x.pointer r back own) → g.ordinal ≡ pos (last_setting 0 library_in (map undone back)) → EachReports first is bs
      → EachReports first (map (import_of x) (map (λ j. bind_after x.pointer r back (j * s)) js) ++ is)
      (map (binding_of x g) (map (λ j. bind_after x.pointer r (map undone back) (j * s)) js) ++ bs)
  strides_report r back g s [] is bs same o e = e
  strides_report r back g s (j ∷ js) is bs same o e =
      one_reports (import_of x (bind_after x.pointer r back (j * s))) (binding_of x g (bind_after x.pointer r (map undone back) (j * s))) _ _
      (bind_alike r back g (j * s) (same (j * s)) o) (strides_report r back g s js is bs same o e)

  abbrev imports_at : Range → List Placed → Placed → List Item
  imports_at r back p = map (import_of x) (binds_at x.pointer r back p)

  abbrev placed : ℕ → Instruction → ℕ → Placed
  placed place i after = record { place = place; instruction = i; after = after }

  -- the items of one instruction of both
  here_reports : (r : Range) (back : List Placed) (place after : ℕ) (i : Instruction) (is : List Item) (bs : List (Result Binding Fault))
      → (0 < count_of i → (own : ℕ) → IsSameBind x.pointer r back own)
      → last_ordinal x.bytes (undone (placed place i after) ∷ map undone back)
      ≡ pos (last_setting 0 library_in (undone (placed place i after) ∷ map undone back))
      → EachReports first is bs
      → EachReports first (imports_at r back (placed place i after) ++ is) (bindings_at x r (map undone back) (undone (placed place i after)) ++ bs)
  here_reports r back place after (binds zero skip) is bs same o e = e
  here_reports r back place after (binds (suc n) skip) is bs same o e =
      strides_report r back (last_given x.bytes r.is_lazy (placed place (binds (suc n) skip) after ∷ map undone back)) (skip + x.pointer)
      (range_with_len 0 (suc n)) is bs (same (omega arith)) o e
  here_reports r back place after _ is bs same o e = e

  -- ---- two readings of a range

  abbrev Found : Type 0
  Found = Instruction × ℕ

  module _ (r : Range) where
    abbrev read_binds : Reader
    read_binds = reader_of x

    abbrev read_bindings : Reader
    read_bindings = opcode_at r x.pointer x.bytes

    -- what bindings read where imports read this: the same, or a DONE that leads to the end
    abbrev ReadsAs : Found → Found → Type 0
    ReadsAs p q = (q ≡ (undone_of p.0, p.1)) ⊎ ((done_is p.0 ≡ true) × (r.is_lazy ≡ false) × (q.0 ≡ nothing) × (r.upto ≤ q.1))

    at_end : (l : Bool) (n : ℕ) → r.is_lazy ≡ l → ReadsAs (done, n) (nothing, done_leads_to r n)
    at_end true n e = inl (ap (λ (t : Bool). pair (cond t n (n + (r.upto - n)))) e)
      where
        pair : ℕ → Found
        pair m = (nothing, m)
    at_end false n e = inr (refl, e, refl, subst (λ (t : Bool). r.upto ≤ cond t n (n + (r.upto - n))) (sym e) (omega arith))

    row_done : (byte place : ℕ) → bit_and byte 0xf0 ≡ 0x00
        → row_at x.pointer x.bytes (bit_and byte 0xf0) (bit_and byte 0x0f) (place + 1) ≡ Ok (done, place + 1)
    unfolding row_at
    row_done byte place z = rw z refl

    reads_as : (place : ℕ) (p q : Found) → read_binds place ≡ Ok p → read_bindings place ≡ Ok q → ReadsAs p q
    unfolding opcode_at
    reads_as place p q e f =
        let b = bind_ok (byte_at x.bytes place) (λ (byte : ℕ). bindings_row r x.pointer x.bytes (bit_and byte 0xf0) (bit_and byte 0x0f) (place + 1)) q f in
        let row = sym (by_row x.pointer x.bytes place b.0 b.1) ∙ e in
        elim (cases_Bool (nat_lt (highest_opcode r.is_lazy) (bit_and b.0 0xf0))) [
          | inl above ↦ absurd (let k = sym (unknown r x.pointer x.bytes place b.0 b.1 above) ∙ f in cc)
          | inr known ↦ elim (cases_eq (bit_and b.0 0xf0) 0x00) [
            | inl z ↦ subst (λ (y : Found). ReadsAs y q) (same_ok (sym (row_done b.0 place z) ∙ row))
                (subst (ReadsAs (done, place + 1)) (same_ok (sym (at_done r x.pointer x.bytes place b.0 b.1 z) ∙ f)) (at_end r.is_lazy (place + 1) refl))
            | inr d ↦ let same : q ≡ p = same_ok (sym f ∙ as_read r x.pointer x.bytes place b.0 b.1 known d ∙ row) in
                let none = no_done x.pointer x.bytes (bit_and b.0 0xf0) (bit_and b.0 0x0f) (place + 1) p row d in
                inl (same ∙ ap (λ (i : Instruction). with_end i p.1) (sym (undone_keeps p.0 none)))
          ]
        ]
      where
        with_end : Instruction → ℕ → Found
        with_end i n = (i, n)

    -- where imports can't read an instruction, bindings can't
    both_read : (place : ℕ) (f : Fault) (q : Found) → read_binds place ≡ Err f → read_bindings place ≡ Ok q → ⊥
    unfolding opcode_at
    both_read place f q e g =
        let b = bind_ok (byte_at x.bytes place) (λ (byte : ℕ). bindings_row r x.pointer x.bytes (bit_and byte 0xf0) (bit_and byte 0x0f) (place + 1)) q g in
        let row = sym (by_row x.pointer x.bytes place b.0 b.1) ∙ e in
        elim (cases_Bool (nat_lt (highest_opcode r.is_lazy) (bit_and b.0 0xf0))) [
          | inl above ↦ (let k = sym (unknown r x.pointer x.bytes place b.0 b.1 above) ∙ g in cc)
          | inr known ↦ elim (cases_eq (bit_and b.0 0xf0) 0x00) [
            | inl z ↦ (let k = sym (row_done b.0 place z) ∙ row in cc)
            | inr d ↦ (let k = sym g ∙ as_read r x.pointer x.bytes place b.0 b.1 known d ∙ row in cc)
          ]
        ]

    -- ---- DONEs

    abbrev Dones : List Placed → Type 0
    Dones ps = AllByRecursion (λ p. is_done p ≡ true) ps

    -- after the first DONE there are only DONEs
    abbrev Ends : List Placed → Type 0
    Ends [] = Unit {0}
    Ends (p ∷ ps) = (is_done p ≡ true → Dones ps) × Ends ps

    no_imports : (back ps : List Placed) → Dones ps → all_from (imports_at r) back ps ≡ []
    unfolding all_from
    no_imports back [] h = refl
    no_imports back (p ∷ ps) h = rw (done_count p.instruction h.0) (no_imports (p ∷ back) ps h.1)

    ends_dones : (ps : List Placed) → Dones ps → Ends ps
    ends_dones [] h = tt
    ends_dones (p ∷ ps) h = ((λ e. h.1), ends_dones ps h.1)

    ends_by : (front dones : List Placed) → NoDone front → Dones dones → Ends (front ++ dones)
    ends_by [] dones h k = ends_dones dones k
    ends_by (p ∷ front) dones h k = ((λ e. absurd (let n = h.0 in cc)), ends_by front dones h.1 k)

    done_among : (front following : List Placed) (p : Placed) → Dones (front ++ p ∷ following) → is_done p ≡ true
    done_among [] following p h = h.0
    done_among (y ∷ front) following p h = done_among front following p h.1

    -- no DONE comes before a bind
    before_bind : (ps front : List Placed) (p : Placed) (following : List Placed) → Ends ps → ps ≡ front ++ p ∷ following → 0 < count_in p → NoDone front
    before_bind ps [] p following h e more = tt
    before_bind [] (y ∷ front) p following h e more = absurd (cc)
    before_bind (z ∷ ps) (y ∷ front) p following h e more =
        let tail : ps ≡ front ++ p ∷ following = cc in
        let head : z ≡ y = cc in
        (by_test (is_done y) refl tail head, before_bind ps front p following h.1 tail more)
      where
        by_test : (d : Bool) → is_done y ≡ d → ps ≡ front ++ p ∷ following → z ≡ y → is_done y ≡ false
        by_test false d tail head = d
        by_test true d tail head =
            let all : Dones (front ++ p ∷ following) = subst Dones tail (h.0 (ap (λ (w : Placed). is_done w) head ∙ d)) in
            let none = done_count p.instruction (done_among front following p all) in
            absurd (omega (arith, none, more))

    none_onto : (front back : List Placed) → NoDone front → NoDone back → NoDone (onto front back)
    none_onto [] back h k = k
    none_onto (p ∷ front) back h k = none_onto front (p ∷ back) h.1 (h.0, k)

    -- ---- one stream

    abbrev AllSame : List Placed → List Placed → Type 0
    AllSame back ps =
        (front : List Placed) (p : Placed) (following : List Placed) → ps ≡ front ++ p ∷ following → 0 < count_in p → (own : ℕ)
        → IsSameBind x.pointer r (onto front back) own

    abbrev from_binds : List Placed → List Placed → List Item
    from_binds back ps = all_from (imports_at r) back ps

    abbrev from_bindings : List Placed → List Placed → List (Result Binding Fault)
    from_bindings back ps = all_from (bindings_at x r) back ps

    placed_is : (p q : Placed) → q.place ≡ p.place → ◌≡◌ {A = Found} (q.instruction, q.after) (undone_of p.instruction, p.after) → q ≡ undone p
    placed_is p q e f = ap (λ n. placed n q.instruction q.after) e ∙ ap (λ (y : Found). placed p.place y.0 y.1) f

    -- after the end of the range nothing is read
    nothing_after : (place : ℕ) (qs : List Placed) (s : Option Fault) → r.upto ≤ place → AllOccurBy read_bindings r.upto qs → Follow place qs
        → StopsBy read_bindings r.upto (stream_end place qs) s → (qs ≡ []) × (s ≡ None)
    nothing_after place [] None h a f e = (refl, refl)
    nothing_after place [] (Some g) h a f e = absurd (omega (arith, h, e.0))
    nothing_after place (q ∷ qs) s h a f e = absurd (omega (arith, h, a.0.within, f.0))

    -- the items of both, before the items of others
    abbrev SameReports : List Placed → List Placed → List Placed → Option Fault → Option Fault → List Item → List (Result Binding Fault) → Type 0
    SameReports back ps qs s t is bs = EachReports first (from_binds back ps ++ (fault_item s ++ is)) (from_bindings (map undone back) qs ++
        (fault_item t ++ bs))

    both_report : (place : ℕ) (back ps qs : List Placed) (s t : Option Fault) (is : List Item) (bs : List (Result Binding Fault))
        → AllOccurBy read_binds r.upto ps → Follow place ps → StopsBy read_binds r.upto (stream_end place ps) s
        → AllOccurBy read_bindings r.upto qs → Follow place qs → StopsBy read_bindings r.upto (stream_end place qs) t
        → Plain x.bytes (map undone back) → Plain x.bytes ps → AllSame back ps → (r.is_lazy ≡ false → Ends ps × (s ≡ None)) → EachReports first is bs
        → SameReports back ps qs s t is bs
    unfolding all_from
    both_report place back ps [] s (Some g) is bs a f e b h k plain more same ends rest = tt
    both_report place back [] [] None None is bs a f e b h k plain more same ends rest = rest
    both_report place back [] [] (Some g) None is bs a f e b h k plain more same ends rest = absurd (omega (arith, k, e.0))
    both_report place back (p ∷ ps) [] s None is bs a f e b h k plain more same ends rest = absurd (omega (arith, k, a.0.within, f.0))
    both_report place back [] (q ∷ qs) None t is bs a f e b h k plain more same ends rest = absurd (omega (arith, e, b.0.within, h.0))
    both_report place back [] (q ∷ qs) (Some g) t is bs a f e b h k plain more same ends rest =
        absurd (both_read place g (q.instruction, q.after) e.1 (subst (λ (n : ℕ). read_bindings n ≡ Ok (q.instruction, q.after)) h.0 b.0.read))
    both_report place back (p ∷ ps) (q ∷ qs) s t is bs a f e b h k plain more same ends rest =
        by_reading (λ follow stops. both_report p.after (p ∷ back) ps qs s t is bs a.1 f.1 e b.1 follow stops (more.0, plain) more.1
        (λ front y following is_so c own. same (p ∷ front) y following (ap (λ ys. p ∷ ys) is_so) c own) (λ l. ((ends l).0.1, (ends l).1)) rest)
        (reads_as place (p.instruction, p.after) (q.instruction, q.after)
        (subst (λ (n : ℕ). read_binds n ≡ Ok (p.instruction, p.after)) f.0 a.0.read)
        (subst (λ (n : ℕ). read_bindings n ≡ Ok (q.instruction, q.after)) h.0 b.0.read))
      where
        by_reading : (Follow p.after qs → StopsBy read_bindings r.upto (stream_end p.after qs) t → SameReports (p ∷ back) ps qs s t is bs)
            → ReadsAs (p.instruction, p.after) (q.instruction, q.after) → SameReports back (p ∷ ps) (q ∷ qs) s t is bs
        by_reading further (inl is_undone) =
            let same_place : q ≡ undone p = placed_is p q (h.0 ∙ sym f.0) is_undone in
            let follow : Follow p.after qs = subst (λ (y : Placed). Follow y.after qs) same_place h.1 in
            let stops : StopsBy read_bindings r.upto (stream_end p.after qs) t =
            subst (λ (y : Placed). StopsBy read_bindings r.upto (stream_end y.after qs) t) same_place k in
            let ordinal = last_library x.bytes (undone p ∷ map undone back) (more.0, plain) in
            let here = here_reports r back p.place p.after p.instruction (from_binds (p ∷ back) ps ++ (fault_item s ++ is))
            (from_bindings (map undone (p ∷ back)) qs ++ (fault_item t ++ bs)) (λ c own. same [] p ps refl c own) ordinal (further follow stops) in
            subst (λ (y : Placed). SameReports back (p ∷ ps) (y ∷ qs) s t is bs) (sym same_place)
            (subst (λ m. EachReports first m (from_bindings (map undone back) (undone p ∷ qs) ++ (fault_item t ++ bs)))
            (sym (append_assoc (imports_at r back p) (from_binds (p ∷ back) ps) (fault_item s ++ is)))
            (subst (EachReports first (imports_at r back p ++ (from_binds (p ∷ back) ps ++ (fault_item s ++ is))))
            (sym (append_assoc (bindings_at x r (map undone back) (undone p)) (from_bindings (map undone (p ∷ back)) qs) (fault_item t ++ bs))) here))
        by_reading further (inr (d, l, n, past)) =
            let none = nothing_after q.after qs t past b.1 h.1 k in
            let all = no_imports back (p ∷ ps) (d, (ends l).0.0 d) in
            let empty : from_bindings (map undone back) (q ∷ []) ≡ [] = rw n refl in
            subst (λ u. SameReports back (p ∷ ps) (q ∷ qs) s u is bs) (sym none.1) (subst (λ ys. SameReports back (p ∷ ps) (q ∷ ys) s None is bs) (sym none.0)
            (subst (λ m. EachReports first (from_binds back (p ∷ ps) ++ (fault_item s ++ is)) (m ++ bs)) (sym empty)
            (subst (λ u. EachReports first (from_binds back (p ∷ ps) ++ (fault_item u ++ is)) bs) (sym (ends l).1)
            (subst (λ m. EachReports first (m ++ is) bs) (sym all) rest))))

-- ---- both streams

each_upto : (first : List ℕ) (is : List (Result Import Fault)) (bs : List (Result Binding Fault)) → EachReports first is bs
    → EachReports first (upto_fault is) (upto_fault bs)
each_upto first is [] e = ap upto_fault e
each_upto first is (Err f ∷ bs) e = tt
each_upto first [] (Ok b ∷ bs) e = absurd e
each_upto first (Ok i ∷ is) (Ok b ∷ bs) e = (e.0, each_upto first is bs e.1)
each_upto first (Err f ∷ is) (Ok b ∷ bs) e = absurd (let h = e.0 in cc)

joined : {A : Type 0} (a s b t : List A) → a ++ s ++ b ++ t ≡ a ++ (s ++ (b ++ (t ++ [])))
joined {A} a s b t = append_assoc (a ++ s) b t ∙ append_assoc a s (b ++ t) ∙ ap (λ m. a ++ (s ++ (b ++ m))) (sym (append-nil t))

imports_from : (x : Input) (r : Range) (ps : List Placed) → imports_in x r ps ≡ all_from (λ back p. map (import_of x) (binds_at x.pointer r back p)) [] ps
unfolding imports_in
imports_from x r ps = sym (all-map (import_of x) (binds_at x.pointer r) [] ps)

each_reports : (x : Input) (non_lazy lazy : Range) (first : List ℕ) (others : List (List ℕ)) (ps qs ps' qs' : List Placed) (imports : List
    (Result Import Fault))
    (bindings : List (Result Binding Fault)) → x.libs ≡ first ∷ others → 0 < x.pointer → lazy.is_lazy ≡ true → AreReadAlike x non_lazy lazy ps qs
    → AreBindItems x non_lazy lazy ps qs imports → AreBindings x non_lazy lazy ps' qs' bindings → EachReports first imports bindings
each_reports x non_lazy lazy first others ps qs ps' qs' imports bindings libs more second h i b =
    let stop : i.stop ≡ None = (one_longest (reader_of x) non_lazy ps ps i.stop None i.longest (longest_stream x non_lazy ps h.whole)).1 in
    let ended = h.ends in
    let ends : Ends x first others libs more non_lazy ps = subst (Ends x first others libs more non_lazy) (sym ended.2)
    (ends_by x first others libs more non_lazy ended.0 ended.1 ended.3 ended.4) in
    let lazy_reports = both_report x first others libs more lazy lazy.from [] qs qs' i.lazy_stop b.lazy_stop [] [] i.lazy_longest.beginning.occur
    i.lazy_longest.beginning.follow i.lazy_longest.stops b.lazy_longest.beginning.occur b.lazy_longest.beginning.follow b.lazy_longest.stops tt h.lazy_plain
    (λ front p following e c own. same_anew x.pointer lazy (onto front []) own
    (subst AreSetAnew (sym (onto-reverse front [] ∙ append-nil (reverse front))) (h.anew front p following e c)))
    (λ l. absurd (let k = second in cc)) refl in
    let reports = both_report x first others libs more non_lazy non_lazy.from [] ps ps' i.stop b.stop _ _ i.longest.beginning.occur
    i.longest.beginning.follow i.longest.stops b.longest.beginning.occur b.longest.beginning.follow b.longest.stops tt h.plain
    (λ front p following e c own. same_before_done x.pointer non_lazy (onto front []) own
    (none_onto x first others libs more non_lazy front [] (before_bind x first others libs more non_lazy ps front p following ends e c) tt))
    (λ l. (ends, stop)) lazy_reports in
    let is : imports ≡ upto_fault (from_binds x first others libs more non_lazy [] ps ++ (fault_item i.stop ++ (from_binds x first others libs more lazy [] qs
    ++ (fault_item i.lazy_stop ++ [])))) = i.are ∙ ap upto_fault (joined _ (fault_item i.stop) _ (fault_item i.lazy_stop)
    ∙ ap (λ m. m ++ (fault_item i.stop ++ (imports_in x lazy qs ++ (fault_item i.lazy_stop ++ [])))) (imports_from x non_lazy ps)
    ∙ ap (λ m. from_binds x first others libs more non_lazy [] ps ++ (fault_item i.stop ++ (m ++ (fault_item i.lazy_stop ++ [])))) (imports_from x lazy qs)) in
    let bs = b.are ∙ ap upto_fault (joined (bindings_in x non_lazy ps') (fault_item b.stop) (bindings_in x lazy qs') (fault_item b.lazy_stop)) in
    subst (λ m. EachReports first m bindings) (sym is) (subst (EachReports first _) (sym bs) (each_upto first _ _ reports))

one_for_one : (first : List ℕ) (imports : List (Result Import Fault)) (list : List Binding) → EachReports first imports (map Ok list)
    → map (reported_item reported_by_import) imports ≡ map (λ b. Ok (reported_by_binding first b)) list
one_for_one first imports [] e = ap (map (reported_item reported_by_import)) e
one_for_one first [] (b ∷ list) e = absurd e
one_for_one first (i ∷ imports) (b ∷ list) e =
    ap (λ t. t ∷ map (reported_item reported_by_import) imports) e.0 ∙ ap (λ ts. Ok (reported_by_binding first b) ∷ ts) (one_for_one first imports list e.1)

pub report_the_same : StreamsReportTheSame
report_the_same x non_lazy lazy first others ps qs ps' qs' us vs imports bindings libs more second h i b =
    let front = (one_longest (reader_of x) non_lazy ps ps' None i.stop (longest_stream x non_lazy ps h.whole) i.longest).0 in
    let back = (one_longest (reader_of x) lazy qs qs' h.lazy_stop i.lazy_stop h.lazy_longest i.lazy_longest).0 in
    let alike : AreReadAlike x non_lazy lazy ps' qs' =
    subst (λ ys. AreReadAlike x non_lazy lazy ys qs') front (subst (AreReadAlike x non_lazy lazy ps) back h) in
    let each = each_reports x non_lazy lazy first others ps' qs' us vs imports bindings libs more second alike i b in
    (each, (λ list is. one_for_one first imports list (subst (EachReports first imports) is each)))
