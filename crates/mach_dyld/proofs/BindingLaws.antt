-- How bindings follow from the instructions in order, that there is one list of them, and where they lie.
use Rattle.mach_dyld.proofs.BindNames.{◌≡◌, ℕ, ◌+◌, List, [], ◌∷◌, All, Bool, true, false, Result, Ok, Err, refl}
use Rattle.mach_dyld.proofs.BindNames.{sym, ap, subst, ◌∙◌, arith, pos, cond, Fault, malformed}
use Rattle.mach_dyld.proofs.BindNames.{same_ok, SegmentView, Input, Range, Placed, Bind, binds_at, all_from}
use Rattle.std.proofs.lemmas.List.Elements.{All-nil, All-append}
use Rattle.mach_dyld.specs.BindAddresses.{LiesWhole, LiesWholeInSome}
unfoldable use Rattle.mach_parts.specs.Bindings.{provider_of}
use Rattle.mach_parts.specs.Bindings.{Binding}
use Rattle.mach_dyld.specs.Bindings.{SetBefore, ordinal_in, last_given, holding_all, opcode_at, bindings_at, bindings_in}
unfoldable use Rattle.mach_dyld.specs.Bindings.{spot_of, binding_of}
use Rattle.mach_dyld.specs.BindingLaws.{FindsLastOrdinal, AddsBindings, StreamsHaveOneListOfBindings, BindingLiesIn, BindingsLieIn}
use Rattle.mach_dyld.proofs.BindLast.{is_last, adds_lem}
use Rattle.mach_dyld.proofs.StreamStarts.{one_list_of, OfItem, each_of, of_both}
use Rattle.mach_dyld.proofs.BindAddresses.{summed, Spot, spot_by}
use Rattle.mach_dyld.proofs.BindPlaced.{made_of}
use Rattle.mach_dyld.proofs.BindNames.{◌≤◌, nat_le, leb-true}

abbrev Item : Type 0
Item = Result Binding Fault

-- ---- looking back

pub finds_last_ordinal_lem : FindsLastOrdinal
finds_last_ordinal_lem bytes ps = is_last (pos 0) (ordinal_in bytes) ps

pub adds_bindings_lem : AddsBindings
adds_bindings_lem x r ps p = adds_lem (bindings_at x r) ps p

-- ---- one list

pub one_list_lem : StreamsHaveOneListOfBindings
one_list_lem x non_lazy lazy ps qs ps' qs' items others a b =
    one_list_of (λ r. opcode_at r x.pointer x.bytes) (bindings_in x) non_lazy lazy ps qs ps' qs' items others a b

-- ---- addresses

pub held_all : (len offset : ℕ) (s h : SegmentView) → holding_all len offset s ≡ Ok h → (offset + len ≤ s.command.vmsize) × (s ≡ h)
held_all len offset s h e = by_test (nat_le (offset + len) s.command.vmsize) refl e
  where
    by_test : (t : Bool) → nat_le (offset + len) s.command.vmsize ≡ t → cond t (Ok s) (Err malformed) ≡ Ok h → (offset + len ≤ s.command.vmsize) × (s ≡ h)
    by_test true le e = (leb-true (offset + len) s.command.vmsize le, same_ok e)
    by_test false le e = absurd (cc)

abbrev pub spot_at : ℕ → ℕ → ℕ × ℕ
spot_at o a = (o, a)

pub spot_parts : (pointer : ℕ) (segments : List SegmentView) (k offset : ℕ) (spot : ℕ × ℕ) → spot_of pointer segments k offset ≡ Ok spot
    → Spot (holding_all pointer offset) spot_at segments k offset spot
unfolding spot_of
spot_parts pointer segments k offset spot e =
    spot_by (holding_all pointer offset) spot_at segments k offset spot (λ s h e. (held_all pointer offset s h e).1) e

pub spot_lies : (pointer : ℕ) (segments : List SegmentView) (k offset : ℕ) (spot : ℕ × ℕ) → spot_of pointer segments k offset ≡ Ok spot
    → LiesWhole segments k spot.1 pointer
spot_lies pointer segments k offset spot e =
    let p = spot_parts pointer segments k offset spot e in
    let inside = (held_all pointer offset p.segment p.segment p.holds).0 in
    let there : spot.1 ≡ p.segment.command.vmaddr + offset =
    ap (λ (y : ℕ × ℕ). y.1) (sym p.made) ∙ summed p.segment.command.vmaddr offset p.address p.address_is in
    (p.segment, p.there, omega (arith, there), omega (arith, there, inside))

pub binding_lies : BindingLiesIn
binding_lies x g b found e =
    let made = made_of x g b found e in
    let s = made.1 in
    subst (λ (y : Binding). LiesWhole x.segments b.segment y.address x.pointer) (made.5) (spot_lies x.pointer x.segments b.segment b.offset s (made.4))

abbrev Lies : Input → Binding → Type 0
Lies x b = LiesWholeInSome x.segments b.address x.pointer

item_lies : (x : Input) (g : SetBefore) (b : Bind) (item : Item) → binding_of x g b ≡ item → OfItem (Lies x) item
item_lies x g b (Ok i) e = (b.segment, binding_lies x g b i e)
item_lies x g b (Err f) e = tt

stream_lies : (x : Input) (r : Range) (back ps : List Placed) → All (OfItem (Lies x)) (all_from (bindings_at x r) back ps)
unfolding all_from
stream_lies x r back [] = All-nil (OfItem (Lies x))
stream_lies x r back (p ∷ ps) =
    let g = last_given x.bytes r.is_lazy (p ∷ back) in
    All-append (OfItem (Lies x)) (bindings_at x r back p) (all_from (bindings_at x r) (p ∷ back) ps)
    (each_of (Lies x) (binding_of x g) (item_lies x g) (binds_at x.pointer r back p)) (stream_lies x r (p ∷ back) ps)

pub bindings_lie : BindingsLieIn
bindings_lie x non_lazy lazy ps qs items a =
    subst (All (OfItem (Lies x))) (sym a.are)
    (of_both (Lies x) (bindings_in x non_lazy ps) (bindings_in x lazy qs) a.stop a.lazy_stop (stream_lies x non_lazy [] ps) (stream_lies x lazy [] qs))
