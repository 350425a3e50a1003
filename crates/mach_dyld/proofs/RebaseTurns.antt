-- The turns that an iterator over rebases keeps give what the rules give.
use Rattle.std.proofs.Common.{◌≡◌, ℕ, zero, suc, ◌+◌, ◌*◌, ◌%◌, ◌^◌, ◌<◌, ◌≤◌, ◌∙◌, ◌∷◌, ◌⊎◌, List, [], map, true, false, refl, sym, ap, arith}
use Rattle.std.proofs.Common.{Option, Some, None, Result, Ok, nat_eq, cond, inl, inr}
use Rattle.std.proofs.Math.Nat.{mod-eq_of_lt}
use Rattle.std.specs.Prelude.{IfNone, slice_get}
use Rattle.mach_base.specs.Fault.{Fault}
use Rattle.mach_base.specs.declared.context.Endian.{Endian}
use Rattle.mach_parts.specs.Segment.{SegmentView}
use Rattle.mach_dyld.specs.BindingFaults.{has_fault}
use Rattle.mach_dyld.specs.Binds.{Bind}
use Rattle.mach_dyld.specs.Machine.{items_left}
unfoldable use Rattle.mach_dyld.specs.Machine.{strides, moved}
use Rattle.mach_dyld.specs.Streams.{Input}
use Rattle.mach_dyld.proofs.BindingTurns.{at_offset}
use Rattle.mach_dyld.specs.Rebases.{Rebase, RebaseSet, rebase_kind_of, rebase_of, rebase_width, rebase_with}
use Rattle.mach_dyld.specs.RebaseRuns.{run_left, turn_rebase, turn_width}
unfoldable use Rattle.mach_dyld.specs.RebaseRuns.{turned, turn_rebases}
use Rattle.mach_dyld.specs.RebasesLeft.{highest_rebase, opcode_rebases_left, rebase_rules}
use Rattle.mach_dyld.specs.declared.rebases.RebaseKind.{RebaseKind}
use Rattle.mach_dyld.specs.declared.rebases.OpcodeRebaseIterator.{OpcodeRebaseIterator}
use Rattle.mach_dyld.specs.declared.rebases.rebase_run.Run.{Run}
use Rattle.mach_dyld.specs.declared.rebases.rebase_run.Turn.{Turn}
use Rattle.mach_dyld.proofs.StreamTurns.{rebase_inside}

-- the turn is at an offset of a segment
pub record IsTurnAt (pointer : ℕ) (endian : Endian) (place : ℕ) (k : RebaseKind) (s : SegmentView) (step o : ℕ) (t : Turn) : Type 0 where
  pub number : t.segment ≡ place
  pub memory : t.bytes.now ≡ s.bytes
  pub kind : t.kind ≡ k
  pub width : turn_width t ≡ rebase_width pointer k
  pub order : t.le ≡ endian
  pub offset : t.offset ≡ o
  pub address : t.address ≡ s.command.vmaddr + o
  pub stride : t.stride ≡ step

module _ (x : Input) (le : Endian) (g : RebaseSet) (b : Bind) (set : g.has_segment ≡ true) (k : RebaseKind) (typed : rebase_kind_of g.kind ≡ Some k)
    (s : SegmentView) (there : slice_get x.segments b.segment ≡ Some s) (large : x.pointer ≤ s.command.vmsize) (address : s.command.vmaddr < 2 ^ 64)
    (stride : ℕ) where
  abbrev At : ℕ → Turn → Type 0
  At = IsTurnAt x.pointer le b.segment k s stride

  same_rebase : (o : ℕ) (t : Turn) → At o t → turn_rebase t ≡ rebase_with x le (at_offset b o) k s (s.command.vmaddr + o)
  same_rebase o t h = rw (h.number, h.memory, h.kind, h.width, h.order, h.offset, h.address) refl

  next_turn : (o : ℕ) (t : Turn) → At o t → o + stride ≤ highest_rebase x.pointer s → At ((o + stride) % 2 ^ 64) (turned t)
  unfolding turned
  next_turn o t h inside =
      let same : (o + stride) % 2 ^ 64 ≡ o + stride = mod-eq_of_lt (omega (arith, inside, address)) in
      let sum : t.address + t.stride ≡ s.command.vmaddr + (o + stride) =
      ap (λ n. n + t.stride) h.address ∙ ap (λ n. s.command.vmaddr + o + n) h.stride ∙ omega arith in
      let fits : (s.command.vmaddr + (o + stride)) % 2 ^ 64 ≡ s.command.vmaddr + (o + stride) = mod-eq_of_lt (omega (arith, inside, address)) in
      record {
        number = h.number;
        memory = h.memory;
        kind = h.kind;
        width = h.width;
        order = h.order;
        offset = ap (λ n. (n + t.stride) % 2 ^ 64) h.offset ∙ ap (λ n. (o + n) % 2 ^ 64) h.stride;
        address = ap (λ n. n % 2 ^ 64) sum ∙ fits ∙ ap (λ n. s.command.vmaddr + n) (sym same);
        stride = h.stride;
      }

  one_more : (o j : ℕ) → o + suc j * stride ≤ highest_rebase x.pointer s
      → (o + stride ≤ highest_rebase x.pointer s) × ((o + stride) % 2 ^ 64 + j * stride ≤ highest_rebase x.pointer s)
  one_more o j inside =
      let sum : suc j * stride ≡ stride + j * stride = omega arith in
      let here : o + stride ≤ highest_rebase x.pointer s = omega (arith, sum, inside) in
      let same : (o + stride) % 2 ^ 64 ≡ o + stride = mod-eq_of_lt (omega (arith, here, address)) in
      (here, omega (arith, sum, inside, same))

  -- j + 1 turns, of which the last lies in the segment
  pub turns_made : (j o : ℕ) (t : Turn) → At o t → o + j * stride ≤ highest_rebase x.pointer s
      → map (rebase_of x le g) (strides (at_offset b o) stride (suc j)) ≡ map Ok (turn_rebases t (suc j))
  unfolding strides moved turn_rebases
  turns_made zero o t h inside =
      let first = rebase_inside x le g (at_offset b o) set k typed s there large address (omega (arith, inside)) in
      let made : rebase_of x le g (at_offset b o) ≡ Ok (turn_rebase t) = first ∙ ap Ok (sym (same_rebase o t h)) in
      ap (λ (r : Result Rebase Fault). r ∷ []) made
  turns_made (suc j) o t h inside =
      let more = one_more o j inside in
      let first = rebase_inside x le g (at_offset b o) set k typed s there large address (omega (arith, more.0)) in
      let made : rebase_of x le g (at_offset b o) ≡ Ok (turn_rebase t) = first ∙ ap Ok (sym (same_rebase o t h)) in
      let rest = turns_made j ((o + stride) % 2 ^ 64) (turned t) (next_turn o t h more.0) more.1 in
      ap (λ (r : Result Rebase Fault). r ∷ map (rebase_of x le g) (strides (at_offset b ((o + stride) % 2 ^ 64)) stride (suc j))) made
      ∙ ap (λ (rs : List (Result Rebase Fault)). Ok (turn_rebase t) ∷ rs) rest

-- ---- the turns that are left

oks : {A : Type 0} (xs : List A) → has_fault (map (λ (a : A). Ok a) xs) ≡ false
oks [] = refl
oks (y ∷ ys) = oks ys

pub no_fault_left : (r : Run) → has_fault (run_left r) ≡ false
no_fault_left r = oks (turn_rebases r.turn r.left)

pub after_none : (it : OpcodeRebaseIterator) → it.run.left ≡ 0 → opcode_rebases_left it ≡ items_left rebase_rules it.stream
unfolding turn_rebases
after_none it e = rw e refl

pub wide_is : (w : ℕ) → (w ≡ 4) ⊎ (w ≡ 8) → cond (nat_eq w 8) 8 4 ≡ w
wide_is w either = elim either [
  | inl e ↦ rw e refl
  | inr e ↦ rw e refl
]

pub if_none : {A P : Type 0} (r : Option A) → P → IfNone r P
if_none None p = p
if_none (Some a) p = tt
