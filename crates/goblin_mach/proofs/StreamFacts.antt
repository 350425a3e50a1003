-- Facts on the rebases and the weak binds of an image, and what holds of them.
use Rattle.std.proofs.Common.{◌≡◌, ◌++◌, ℕ, List, [], ◌∷◌, Option, Some, None, Result, Ok, Err, refl, sym, ap, subst, inl, inr, ◌∙◌}
use Rattle.mach_base.proofs.Binds.{same_ok}
use Rattle.mach_base.specs.Among.{IsAmong}
use Rattle.mach_base.specs.Context.{pointer_size}
use Rattle.mach_base.specs.Fault.{Fault}
use Rattle.mach_base.specs.declared.context.Endian.{Endian}
use Rattle.mach_parts.specs.Segment.{SegmentView}
use Rattle.mach_dyld.specs.Bindings.{upto_fault}
use Rattle.mach_chained.specs.Bindings.{binding_by, chained_binding_of}
use Rattle.mach_chained.specs.Chained.{PlacedFixup, fixup_items}
use Rattle.mach_chained.specs.Fixups.{FixupInput, Fixup}
use Rattle.mach_chained.specs.Header.{Fixups}
use Rattle.mach_chained.specs.Pointers.{KindOfFixup, rebase, bind, value}
use Rattle.mach_dyld.specs.Cut.{CutStream, cut_input, cut_range}
use Rattle.mach_dyld.specs.Rebases.{Rebase}
use Rattle.mach_dyld.specs.declared.rebases.RebaseKind.TheVariants.{Pointer}
use Rattle.mach_dyld.specs.WeakBinds.{WeakBind}
use Rattle.mach_dyld.specs.StreamLaws.{StreamHasOneListOfRebases, StreamHasOneListOfWeakBinds}
use Rattle.goblin_mach.specs.Fixups.{AreImageFixups, chained_view, chained_in}
use Rattle.goblin_mach.specs.ImageStreams.{AreImageRebases, AreImageWeakBinds, AreRebasesByOpcodes, rebase_by, rebase_in, rebases_among, rebases_before}
use Rattle.goblin_mach.specs.ImageStreams.{rebase_stream_in, weak_stream_in}
use Rattle.goblin_mach.specs.Modes.{Agrees}
use Rattle.goblin_mach.specs.OpenImage.{bytes_view, commands_view, ctx_view, segments_view}
use Rattle.goblin_mach.specs.StreamFacts.{HasRebases, HasWeakBinds, HasOneListOfRebases, HasOneListOfWeakBinds, HasNoWeakBindsThen, HasRebasesOfFixups}
use Rattle.goblin_mach.specs.StreamFacts.{IsReportedOnce, reported_nowhere, reported_as_rebase, reported_as_binding, EachIsReportedOnce, RebasesComeOfFixups}
use Rattle.goblin_mach.specs.Subjects.{lossy_segments_in}
use Rattle.goblin_mach.specs.declared.macho.MachO.{MachO}
use Rattle.goblin_mach.proofs.ImageFacts.{one_image, said_of}
use Rattle.goblin_mach.proofs.OneList.{OneListOfFixups, one_fixups}

-- ---- as an image holds them

module _ {A : Type 0} (m : MachO A) where
  pub rebases_are : Agrees m HasRebases
      (AreImageRebases (rebase_stream_in (bytes_view m) (commands_view m)) (chained_view m) (ctx_view m).le (pointer_size (ctx_view m).container)
      (segments_view m))
  rebases_are =
      said_of m (λ items f. AreImageRebases (rebase_stream_in f.bytes f.commands) (chained_in f.ctx f.bytes f.commands) f.ctx.le
      (pointer_size f.ctx.container) f.segments items)

  pub weak_binds_are : Agrees m HasWeakBinds
      (AreImageWeakBinds (weak_stream_in (bytes_view m) (commands_view m)) (pointer_size (ctx_view m).container) (segments_view m))
  weak_binds_are =
      said_of m (λ items f. AreImageWeakBinds (weak_stream_in f.bytes f.commands) (pointer_size f.ctx.container) f.segments items)

-- ---- one list

module _ (one : StreamHasOneListOfWeakBinds) where
  one_weak : (s : Option CutStream) (pointer : ℕ) (segments : List SegmentView) (items others : List (Result WeakBind Fault))
      → AreImageWeakBinds s pointer segments items → AreImageWeakBinds s pointer segments others → items ≡ others
  one_weak None pointer segments items others h k = h ∙ sym k
  one_weak (Some s) pointer segments items others h k = one (cut_input s pointer segments) (cut_range s) h.0 k.0 items others h.1 k.1

  pub one_list_of_weak : HasOneListOfWeakBinds
  one_list_of_weak bytes o items others h k =
      let second = one_image bytes o (λ ctx cs. AreImageWeakBinds (weak_stream_in bytes cs) (pointer_size ctx.container)
      (lossy_segments_in ctx bytes cs) others) h.ctx h.cs h.opens k in
      one_weak (weak_stream_in bytes h.cs) (pointer_size h.ctx.container) (lossy_segments_in h.ctx bytes h.cs) items others h.holds second

module _ (one : StreamHasOneListOfRebases) where
  one_opcodes : (s : Option CutStream) (le : Endian) (pointer : ℕ) (segments : List SegmentView) (items others : List (Result Rebase Fault))
      → AreRebasesByOpcodes s le pointer segments items → AreRebasesByOpcodes s le pointer segments others → items ≡ others
  one_opcodes None le pointer segments items others h k = h ∙ sym k
  one_opcodes (Some s) le pointer segments items others h k = one (cut_input s pointer segments) le (cut_range s) h.0 k.0 items others h.1 k.1

  one_rebases : (fixed : OneListOfFixups) (s : Option CutStream) (chained : Result (Option Fixups) Fault) (le : Endian) (pointer : ℕ)
      (segments : List SegmentView) (items others : List (Result Rebase Fault))
      → AreImageRebases s chained le pointer segments items → AreImageRebases s chained le pointer segments others → items ≡ others
  one_rebases fixed s chained le pointer segments items others h k =
      h.are
      ∙ ap (λ (xs : List (Result Rebase Fault)). upto_fault (xs ++ rebases_among h.fixups))
      (one_opcodes s le pointer segments h.by_opcodes k.by_opcodes h.opcodes_are k.opcodes_are)
      ∙ ap (λ (fs : List (Result Fixup Fault)). upto_fault (k.by_opcodes ++ rebases_among fs))
      (one_fixups fixed chained segments h.fixups k.fixups h.fixups_are k.fixups_are)
      ∙ sym k.are

  pub one_list_of_rebases : OneListOfFixups → HasOneListOfRebases
  one_list_of_rebases fixed bytes o items others h k =
      let second = one_image bytes o (λ ctx cs. AreImageRebases (rebase_stream_in bytes cs) (chained_in ctx bytes cs) ctx.le
      (pointer_size ctx.container) (lossy_segments_in ctx bytes cs) others) h.ctx h.cs h.opens k in
      one_rebases fixed (rebase_stream_in bytes h.cs) (chained_in h.ctx bytes h.cs) h.ctx.le (pointer_size h.ctx.container)
      (lossy_segments_in h.ctx bytes h.cs) items others h.holds second

-- ---- without opcodes

none_weak : (s : Option CutStream) (pointer : ℕ) (segments : List SegmentView) (items : List (Result WeakBind Fault)) → s ≡ None
    → AreImageWeakBinds s pointer segments items → items ≡ []
none_weak None pointer segments items e h = h
none_weak (Some s) pointer segments items e h = absurd (cc)

pub no_weak_binds : HasNoWeakBindsThen
no_weak_binds bytes o items none h =
    let there = one_image bytes o (λ ctx cs. AreImageWeakBinds (weak_stream_in bytes cs) (pointer_size ctx.container)
    (lossy_segments_in ctx bytes cs) items) none.ctx none.cs none.opens h in
    none_weak (weak_stream_in bytes none.cs) (pointer_size none.ctx.container) (lossy_segments_in none.ctx bytes none.cs) items none.holds.1 there

none_opcodes : (s : Option CutStream) (le : Endian) (pointer : ℕ) (segments : List SegmentView) (items : List (Result Rebase Fault)) → s ≡ None
    → AreRebasesByOpcodes s le pointer segments items → items ≡ []
none_opcodes None le pointer segments items e h = h
none_opcodes (Some s) le pointer segments items e h = absurd (cc)

-- the rebases among fixups end where the fixups end at a fault, if there is one
end_before : (r : Option Rebase) (items : List (Result Rebase Fault)) → upto_fault items ≡ items → upto_fault (rebases_before r items) ≡ rebases_before r items
end_before None items e = e
end_before (Some r) items e = ap (λ rest. Ok r ∷ rest) e

rebases_end : (ps : List PlacedFixup) (stop : Option Fault) → upto_fault (rebases_among (fixup_items ps stop)) ≡ rebases_among (fixup_items ps stop)
rebases_end [] None = refl
rebases_end [] (Some f) = refl
rebases_end (p ∷ ps) stop = end_before (rebase_in p.fixup) (rebases_among (fixup_items ps stop)) (rebases_end ps stop)

image_rebases_end : (chained : Result (Option Fixups) Fault) (segments : List SegmentView) (fixups : List (Result Fixup Fault))
    → AreImageFixups chained segments fixups → upto_fault (rebases_among fixups) ≡ rebases_among fixups
image_rebases_end (Err f) segments fixups h = rw h refl
image_rebases_end (Ok None) segments fixups h = rw h refl
image_rebases_end (Ok (Some x)) segments fixups (ps, stop, are, is) = rw is (rebases_end ps stop)

pub rebases_of_fixups : OneListOfFixups → HasRebasesOfFixups
rebases_of_fixups fixed bytes o items fixups none h k =
    let chained = chained_in none.ctx bytes none.cs in
    let segments = lossy_segments_in none.ctx bytes none.cs in
    let there = one_image bytes o (λ ctx cs. AreImageRebases (rebase_stream_in bytes cs) (chained_in ctx bytes cs) ctx.le
    (pointer_size ctx.container) (lossy_segments_in ctx bytes cs) items) none.ctx none.cs none.opens h in
    let theirs = one_image bytes o (λ ctx cs. AreImageFixups (chained_in ctx bytes cs) (lossy_segments_in ctx bytes cs) fixups)
    none.ctx none.cs none.opens k in
    there.are
    ∙ ap (λ (xs : List (Result Rebase Fault)). upto_fault (xs ++ rebases_among there.fixups))
    (none_opcodes (rebase_stream_in bytes none.cs) none.ctx.le (pointer_size none.ctx.container) segments there.by_opcodes none.holds.0 there.opcodes_are)
    ∙ image_rebases_end chained segments there.fixups there.fixups_are
    ∙ ap rebases_among (one_fixups fixed chained segments there.fixups fixups there.fixups_are theirs)

-- ---- each fixup

reported_by : (x : FixupInput) (libs : List (List ℕ)) (f : Fixup) (k : KindOfFixup) → f.kind ≡ k → IsReportedOnce x libs f
reported_by x libs f (rebase target) e = reported_as_rebase
    (record { segment = f.segment; offset = f.offset; address = f.address; target = target; kind = Pointer; auth = f.auth })
    (ap (rebase_by f) e) (ap (binding_by x libs f) e)
reported_by x libs f (bind import addend) e =
    reported_as_binding (chained_binding_of x libs f import addend) (ap (rebase_by f) e) (ap (binding_by x libs f) e)
reported_by x libs f (value number) e = reported_nowhere number e (ap (rebase_by f) e) (ap (binding_by x libs f) e)

pub reported_once : EachIsReportedOnce
reported_once x libs f = reported_by x libs f f.kind refl

-- ---- all of them

abbrev OfOne : List (Result Fixup Fault) → Rebase → Type 0
OfOne fixups r = (f : Fixup) × IsAmong (Ok f) fixups × (rebase_in f ≡ Some r)

further : (x : Result Fixup Fault) (items : List (Result Fixup Fault)) (r : Rebase) → OfOne items r → OfOne (x ∷ items) r
further x items r h = (h.0, inr h.1, h.2)

by_own : (f : Fixup) (items : List (Result Fixup Fault)) (r : Rebase) → (IsAmong (Ok r) (rebases_among items) → OfOne items r)
    → (own : Option Rebase) → rebase_in f ≡ own → IsAmong (Ok r) (rebases_before own (rebases_among items)) → OfOne (Ok f ∷ items) r
by_own f items r rest None e h = further (Ok f) items r (rest h)
by_own f items r rest (Some s) e (inl same) = (f, inl refl, e ∙ ap (λ (q : Rebase). Some q) (sym (same_ok same)))
by_own f items r rest (Some s) e (inr h) = further (Ok f) items r (rest h)

comes_of : (fixups : List (Result Fixup Fault)) (r : Rebase) → IsAmong (Ok r) (rebases_among fixups) → OfOne fixups r
comes_of [] r h = absurd h
comes_of (Err g ∷ items) r (inl e) = absurd (cc)
comes_of (Err g ∷ items) r (inr h) = further (Err g) items r (comes_of items r h)
comes_of (Ok f ∷ items) r h = by_own f items r (λ k. comes_of items r k) (rebase_in f) refl h

later : (own : Option Rebase) (items : List (Result Rebase Fault)) (r : Rebase) → IsAmong (Ok r) items → IsAmong (Ok r) (rebases_before own items)
later None items r h = h
later (Some s) items r h = inr h

is_reported : (fixups : List (Result Fixup Fault)) (f : Fixup) (r : Rebase) → IsAmong (Ok f) fixups → rebase_in f ≡ Some r
    → IsAmong (Ok r) (rebases_among fixups)
is_reported [] f r h e = absurd h
is_reported (Err g ∷ items) f r (inl h) e = absurd (cc)
is_reported (Err g ∷ items) f r (inr h) e = inr (is_reported items f r h e)
is_reported (Ok x ∷ items) f r (inl h) e =
    let own : rebase_in x ≡ Some r = ap rebase_in (sym (same_ok h)) ∙ e in
    subst (λ (o : Option Rebase). IsAmong (Ok r) (rebases_before o (rebases_among items))) (sym own) (inl refl)
is_reported (Ok x ∷ items) f r (inr h) e = later (rebase_in x) (rebases_among items) r (is_reported items f r h e)

pub come_of_fixups : RebasesComeOfFixups
come_of_fixups fixups r = (λ h. comes_of fixups r h, λ h. is_reported fixups h.0 r h.1 h.2)
