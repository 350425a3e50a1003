-- Laws of weak binds and of rebases.
use Rattle.mach_dyld.proofs.BindNames.{◌≡◌, ℕ, ◌+◌, List, [], ◌∷◌, map, All, Bool, true, false, Result, Ok, Err, sym, ap}
use Rattle.mach_dyld.proofs.BindNames.{subst, arith, cond, ◌>>=◌, bind_ok, same_ok, slice_get, Fault, malformed, SegmentView, Input, Range, Placed, Bind}
use Rattle.mach_dyld.proofs.BindNames.{binds_at, all_from, found_or_malformed, sum_of, Instruction}
use Rattle.std.proofs.lemmas.List.Elements.{All-nil, All-cons, All-append}
use Rattle.mach_base.specs.declared.context.Endian.{Endian}
use Rattle.mach_dyld.specs.BindAddresses.{LiesWhole}
use Rattle.mach_dyld.specs.Bindings.{gives_name, gives_segment, kind_set_by, sets_in, holding_all}
unfoldable use Rattle.mach_dyld.specs.Bindings.{spot_of}
use Rattle.mach_dyld.specs.Instructions.{strong}
use Rattle.mach_dyld.proofs.BindLast.{is_last, adds_lem}
use Rattle.mach_dyld.proofs.StreamStarts.{one_list_alone, OfItem, each_of, of_one}
use Rattle.mach_dyld.proofs.BindAddresses.{summed, found_there}
use Rattle.mach_dyld.proofs.BindingLaws.{held_all, spot_lies}
use Rattle.mach_dyld.specs.WeakBinds.{WeakBind, WeakSet, is_weak_complete, last_weak_set, own_row, weak_binds_at, weak_binds_in, weak_opcode_at}
use Rattle.mach_dyld.specs.WeakBinds.{weakly_bound_at}
unfoldable use Rattle.mach_dyld.specs.WeakBinds.{weak_bind_of}
use Rattle.mach_dyld.specs.Rebases.{Rebase, RebaseSet, gives_rebase_segment, last_rebase_set, rebase_kind_in, rebase_kind_of, rebase_opcode_at}
use Rattle.mach_dyld.specs.Rebases.{rebase_with, rebases_at, rebases_in}
unfoldable use Rattle.mach_dyld.specs.Rebases.{rebase_of}
use Rattle.mach_dyld.specs.declared.rebases.RebaseKind.{RebaseKind}
use Rattle.mach_dyld.specs.StreamLaws.{StreamHasOneListOfWeakBinds, StreamHasOneListOfRebases, FindsLastWeakSet, FindsLastRebaseSet, AddsWeakBinds}
use Rattle.mach_dyld.specs.StreamLaws.{AddsRebases, WeakBindLies, WeakBindsLieIn, RebasesLieIn}

-- ---- one list

pub one_list_of_weak_binds_lem : StreamHasOneListOfWeakBinds
one_list_of_weak_binds_lem x r ps qs items others a b = one_list_alone (weak_opcode_at r x.pointer x.bytes) (weak_binds_in x r) r ps qs items others a b

pub one_list_of_rebases_lem : StreamHasOneListOfRebases
one_list_of_rebases_lem x le r ps qs items others a b =
    one_list_alone (rebase_opcode_at r x.pointer x.bytes) (rebases_in x le r) r ps qs items others a b

-- ---- looking back

pub finds_last_weak_set_lem : FindsLastWeakSet
finds_last_weak_set_lem bytes ps = record {
  kind = is_last 0 (kind_set_by bytes) ps;
  has_name = is_last false (sets_in bytes gives_name) ps;
  has_segment = is_last false (sets_in bytes gives_segment) ps;
}

pub finds_last_rebase_set_lem : FindsLastRebaseSet
finds_last_rebase_set_lem bytes ps = record {
  kind = is_last 0 (rebase_kind_in bytes) ps;
  has_segment = is_last false (sets_in bytes gives_rebase_segment) ps;
}

pub adds_weak_binds_lem : AddsWeakBinds
adds_weak_binds_lem x r ps p = adds_lem (weak_binds_at x r) ps p

pub adds_rebases_lem : AddsRebases
adds_rebases_lem x le r ps p = adds_lem (rebases_at x le r) ps p

-- ---- addresses of weak binds

weak_lies : (x : Input) (g : WeakSet) (b : Bind) (w : WeakBind) → weak_bind_of x g b ≡ Ok w → WeakBindLies x w
unfolding weak_bind_of
weak_lies x g b w e = by_test (is_weak_complete g) e
  where
    by_test : (t : Bool) → cond t (spot_of x.pointer x.segments b.segment b.offset >>= λ (s : ℕ × ℕ). Ok (weakly_bound_at b s)) (Err malformed) ≡ Ok w
        → WeakBindLies x w
    by_test true e =
        let s = bind_ok (spot_of x.pointer x.segments b.segment b.offset) (λ (s : ℕ × ℕ). Ok (weakly_bound_at b s)) w e in
        subst (WeakBindLies x) (same_ok s.2) (b.segment, spot_lies x.pointer x.segments b.segment b.offset s.0 s.1)
    by_test false e = absurd (cc)

weak_item : (x : Input) (g : WeakSet) (b : Bind) (item : Result WeakBind Fault) → weak_bind_of x g b ≡ item → OfItem (WeakBindLies x) item
weak_item x g b (Ok w) e = weak_lies x g b w e
weak_item x g b (Err f) e = tt

own_lies : (x : Input) (i : Instruction) → All (OfItem (WeakBindLies x)) (own_row i)
own_lies x (strong flags name) = All-cons (OfItem (WeakBindLies x)) _ [] tt (All-nil (OfItem (WeakBindLies x)))
own_lies x _ = All-nil (OfItem (WeakBindLies x))

weak_stream : (x : Input) (r : Range) (back ps : List Placed) → All (OfItem (WeakBindLies x)) (all_from (weak_binds_at x r) back ps)
unfolding all_from
weak_stream x r back [] = All-nil (OfItem (WeakBindLies x))
weak_stream x r back (p ∷ ps) =
    let g = last_weak_set x.bytes (p ∷ back) in
    let binds = map (weak_bind_of x g) (binds_at x.pointer r back p) in
    All-append (OfItem (WeakBindLies x)) (weak_binds_at x r back p) (all_from (weak_binds_at x r) (p ∷ back) ps)
    (All-append (OfItem (WeakBindLies x)) (own_row p.instruction) binds (own_lies x p.instruction)
    (each_of (WeakBindLies x) (weak_bind_of x g) (weak_item x g) (binds_at x.pointer r back p)))
    (weak_stream x r (p ∷ back) ps)

pub weak_binds_lie_lem : WeakBindsLieIn
weak_binds_lie_lem x r ps items a =
    subst (All (OfItem (WeakBindLies x))) (sym a.are) (of_one (WeakBindLies x) (weak_binds_in x r ps) a.stop (weak_stream x r [] ps))

-- ---- addresses of rebases

abbrev Lies : Input → Rebase → Type 0
Lies x b = LiesWhole x.segments b.segment b.address x.pointer

module _ (x : Input) (le : Endian) (b : Bind) where
  abbrev by_address : RebaseKind → SegmentView → Result Rebase Fault
  by_address kind s = sum_of s.command.vmaddr b.offset >>= λ (a : ℕ). Ok (rebase_with x le b kind s a)

  abbrev by_segment : RebaseKind → Result Rebase Fault
  by_segment kind =
      found_or_malformed (slice_get x.segments b.segment) >>= λ (s : SegmentView). holding_all x.pointer b.offset s >>= by_address kind

  segment_lies : (kind : RebaseKind) (i : Rebase) → by_segment kind ≡ Ok i → Lies x i
  segment_lies kind i e =
      let s = bind_ok (found_or_malformed (slice_get x.segments b.segment)) (λ (s : SegmentView). holding_all x.pointer b.offset s >>= by_address kind) i e in
      let h = bind_ok (holding_all x.pointer b.offset s.0) (by_address kind) i s.2 in
      let all = held_all x.pointer b.offset s.0 h.0 h.1 in
      let a = bind_ok (sum_of h.0.command.vmaddr b.offset) (λ (a : ℕ). Ok (rebase_with x le b kind h.0 a)) i h.2 in
      let there : a.0 ≡ h.0.command.vmaddr + b.offset = summed h.0.command.vmaddr b.offset a.0 a.1 in
      let vm : s.0.command.vmaddr ≡ h.0.command.vmaddr = ap (λ (q : SegmentView). q.command.vmaddr) all.1 in
      let inside = all.0 in
      subst (Lies x) (same_ok a.2)
      (s.0, found_there (slice_get x.segments b.segment) s.0 s.1, omega (arith, there, vm), omega (arith, there, vm, inside))

  rebase_lies : (g : RebaseSet) (i : Rebase) → rebase_of x le g b ≡ Ok i → Lies x i
  unfolding rebase_of
  rebase_lies g i e = by_test g.has_segment e
    where
      by_test : (t : Bool) → cond t (found_or_malformed (rebase_kind_of g.kind) >>= by_segment) (Err malformed) ≡ Ok i → Lies x i
      by_test true e = let k = bind_ok (found_or_malformed (rebase_kind_of g.kind)) by_segment i e in segment_lies k.0 i k.2
      by_test false e = absurd (cc)

rebase_item : (x : Input) (le : Endian) (g : RebaseSet) (b : Bind) (item : Result Rebase Fault) → rebase_of x le g b ≡ item → OfItem (Lies x) item
rebase_item x le g b (Ok i) e = rebase_lies x le b g i e
rebase_item x le g b (Err f) e = tt

rebase_stream : (x : Input) (le : Endian) (r : Range) (back ps : List Placed) → All (OfItem (Lies x)) (all_from (rebases_at x le r) back ps)
unfolding all_from
rebase_stream x le r back [] = All-nil (OfItem (Lies x))
rebase_stream x le r back (p ∷ ps) =
    let g = last_rebase_set x.bytes (p ∷ back) in
    All-append (OfItem (Lies x)) (rebases_at x le r back p) (all_from (rebases_at x le r) (p ∷ back) ps)
    (each_of (Lies x) (rebase_of x le g) (rebase_item x le g) (binds_at x.pointer r back p)) (rebase_stream x le r (p ∷ back) ps)

pub rebases_lie_lem : RebasesLieIn
rebases_lie_lem x le r ps items a =
    subst (All (OfItem (Lies x))) (sym a.are) (of_one (Lies x) (rebases_in x le r ps) a.stop (rebase_stream x le r [] ps))
