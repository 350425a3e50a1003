-- An image has one list of fixups and one of bindings, and when its bindings agree with its imports.
use Rattle.std.specs.Prelude.{option_map}
use Rattle.std.proofs.Common.{◌≡◌, ◌<◌, ◌++◌, true, ℕ, List, [], ◌∷◌, Option, Some, None, Result, Ok, Err, refl, sym, ap, subst, ◌∙◌, arith}
use Rattle.mach_base.specs.Context.{pointer_size}
use Rattle.mach_base.specs.declared.context.Container.{Container}
use Rattle.mach_base.specs.declared.context.Container.TheVariants.{Little, Big}
use Rattle.mach_base.specs.Fault.{Fault}
use Rattle.mach_base.specs.Record.{Value}
use Rattle.mach_load.specs.Command.{Command}
use Rattle.mach_load.specs.Commands.{Kind, dyld_info, dyld_info_only}
use Rattle.mach_parts.specs.Bindings.{Binding}
use Rattle.mach_parts.specs.Segment.{SegmentView}
use Rattle.mach_dyld.specs.BindingLaws as dyld
use Rattle.mach_dyld.specs.Bindings.{upto_fault}
use Rattle.mach_dyld.specs.Imports.{BindRanges, Import, input_in}
use Rattle.mach_chained.specs.Bindings.{bindings_of}
use Rattle.mach_chained.specs.Chained.{PlacedFixup, AreFixups, AreFixupItems, fixup_items}
use Rattle.mach_chained.specs.Fixups.{FixupInput, Fixup}
use Rattle.mach_chained.specs.Header.{Fixups}
use Rattle.goblin_mach.specs.BindingLaws.{HasOneListOfFixups, HasOneListOfBindings, AreAlike, ReportTheSame}
use Rattle.goblin_mach.specs.Bindings.{AreOpcodeBindings, AreChainBindings, AreImageBindings}
use Rattle.goblin_mach.specs.Fixups.{AreImageFixups, chained_at, chained_in, input_over}
use Rattle.goblin_mach.specs.Readings.{read_of, last_or, keep}
use Rattle.goblin_mach.specs.Subjects.{AreImageBindItems, bind_ranges_of, binds_by, binds_in, libs_in, lossy_segments_in}
use Rattle.goblin_mach.proofs.ImageFacts.{one_image}

-- ---- the law of one list of fixups, as it is stated below

abbrev pub OneListOfFixups : Type 0
OneListOfFixups = (x : FixupInput) (ps qs : List PlacedFixup) (stop other : Option Fault) → AreFixups x ps stop → AreFixups x qs other
    → (ps ≡ qs) × (stop ≡ other)

module _ (one : OneListOfFixups) where
  one_list_of_items : (x : FixupInput) (items others : List (Result Fixup Fault)) → AreFixupItems x items → AreFixupItems x others → items ≡ others
  one_list_of_items x items others (ps, stop, are, is) (qs, other, be, so) =
      let same = one x ps qs stop other are be in
      is ∙ ap (λ (rs : List PlacedFixup). fixup_items rs stop) same.0 ∙ ap (fixup_items qs) same.1 ∙ sym so

  pub one_fixups : (chained : Result (Option Fixups) Fault) (segments : List SegmentView) (items others : List (Result Fixup Fault))
      → AreImageFixups chained segments items → AreImageFixups chained segments others → items ≡ others
  one_fixups (Err f) segments items others h k = h ∙ sym k
  one_fixups (Ok None) segments items others h k = h ∙ sym k
  one_fixups (Ok (Some fixups)) segments items others h k = one_list_of_items (input_over fixups segments) items others h k

  pub one_image_fixups : HasOneListOfFixups
  one_image_fixups bytes o items others h k =
      let second = one_image bytes o (λ ctx cs. AreImageFixups (chained_in ctx bytes cs) (lossy_segments_in ctx bytes cs) others) h.ctx h.cs h.opens k in
      one_fixups (chained_in h.ctx bytes h.cs) (lossy_segments_in h.ctx bytes h.cs) items others h.holds second

  one_chains : (chained : Result (Option Fixups) Fault) (libs : List (List ℕ)) (segments : List SegmentView) (items others : List (Result Binding Fault))
      → AreChainBindings chained libs segments items → AreChainBindings chained libs segments others → items ≡ others
  one_chains (Err f) libs segments items others h k = h ∙ sym k
  one_chains (Ok None) libs segments items others h k = h ∙ sym k
  one_chains (Ok (Some fixups)) libs segments items others (xs, are, is) (ys, be, so) =
      let x = input_over fixups segments in
      is ∙ ap (bindings_of x libs) (one_list_of_items x xs ys are be) ∙ sym so

  module _ (one_run : dyld.StreamsHaveOneListOfBindings) where
    one_opcodes : (b : Option BindRanges) (n : ℕ) (libs : List (List ℕ)) (segments : List SegmentView) (items others : List (Result Binding Fault))
        → AreOpcodeBindings b n libs segments items → AreOpcodeBindings b n libs segments others → items ≡ others
    one_opcodes None n libs segments items others h k = h ∙ sym k
    one_opcodes (Some b) n libs segments items others h k =
        one_run (input_in b n libs segments) b.non_lazy b.lazy h.0 h.1 k.0 k.1 items others h.2 k.2

    one_bindings : (b : Option BindRanges) (chained : Result (Option Fixups) Fault) (n : ℕ) (libs : List (List ℕ)) (segments : List SegmentView)
        (items others : List (Result Binding Fault)) → AreImageBindings b chained n libs segments items → AreImageBindings b chained n libs segments others
        → items ≡ others
    one_bindings b chained n libs segments items others h k =
        h.are
        ∙ ap (λ (xs : List (Result Binding Fault)). upto_fault (xs ++ h.by_chains))
        (one_opcodes b n libs segments h.by_opcodes k.by_opcodes h.opcodes k.opcodes)
        ∙ ap (λ (xs : List (Result Binding Fault)). upto_fault (k.by_opcodes ++ xs))
        (one_chains chained libs segments h.by_chains k.by_chains h.chains k.chains)
        ∙ sym k.are

    pub one_image_bindings : HasOneListOfBindings
    one_image_bindings bytes o items others h k =
        let second = one_image bytes o (λ ctx cs. AreImageBindings (binds_in bytes cs) (chained_in ctx bytes cs) (pointer_size ctx.container) (libs_in bytes cs)
        (lossy_segments_in ctx bytes cs) others) h.ctx h.cs h.opens k in
        one_bindings (binds_in bytes h.cs) (chained_in h.ctx bytes h.cs) (pointer_size h.ctx.container) (libs_in bytes h.cs)
        (lossy_segments_in h.ctx bytes h.cs) items others h.holds second

-- ---- agreement with imports

-- nothing follows a list that ends at a fault, if there is one
ended_once : (items : List (Result Binding Fault)) → upto_fault (upto_fault items ++ []) ≡ upto_fault items
ended_once [] = refl
ended_once (Ok b ∷ items) = ap (λ (xs : List (Result Binding Fault)). Ok b ∷ xs) (ended_once items)
ended_once (Err f ∷ items) = refl

more_than_none : (c : Container) → 0 < pointer_size c
more_than_none Little = omega arith
more_than_none Big = omega arith

-- the second range is the lazy one
abbrev IsSecondLazy : Option BindRanges → Type 0
IsSecondLazy None = Unit {0}
IsSecondLazy (Some b) = b.lazy.is_lazy ≡ true

by_kind : (k : Kind) (bytes : List ℕ) (values : List Value) → IsSecondLazy (bind_ranges_of k bytes values)
by_kind dyld_info bytes values = refl
by_kind dyld_info_only bytes values = refl
by_kind _ bytes values = tt

last_lazy : (bytes : List ℕ) (cs : List Command) (before : Option BindRanges) → IsSecondLazy before
    → IsSecondLazy (last_or before (read_of (binds_by bytes) cs))
last_lazy bytes [] before h = h
last_lazy bytes (c ∷ cs) before h = one_more (bind_ranges_of c.kind bytes c.values) (by_kind c.kind bytes c.values) (λ now k. last_lazy bytes cs now k)
  where
    one_more : (o : Option BindRanges) → IsSecondLazy o
        → ((now : Option BindRanges) → IsSecondLazy now → IsSecondLazy (last_or now (read_of (binds_by bytes) cs)))
        → IsSecondLazy (last_or before (keep (option_map (λ ranges. Ok ranges) o) (read_of (binds_by bytes) cs)))
    one_more None k others = others before h
    one_more (Some b) k others = others (Some b) k

binds_are_lazy : (bytes : List ℕ) (cs : List Command) → IsSecondLazy (binds_in bytes cs)
binds_are_lazy bytes cs = last_lazy bytes cs None tt

module _ (report : dyld.StreamsReportTheSame) where
  -- the bindings are those of the opcodes, if there are no chains
  opcodes_alone : (b : BindRanges) (n : ℕ) (libs : List (List ℕ)) (segments : List SegmentView) (items by_opcodes by_chains : List (Result Binding Fault))
      → AreOpcodeBindings (Some b) n libs segments by_opcodes → by_chains ≡ [] → items ≡ upto_fault (by_opcodes ++ by_chains) → items ≡ by_opcodes
  opcodes_alone b n libs segments items by_opcodes by_chains (ps, qs, are) none is =
      is
      ∙ ap (λ (xs : List (Result Binding Fault)). upto_fault (by_opcodes ++ xs)) none
      ∙ ap (λ (xs : List (Result Binding Fault)). upto_fault (xs ++ [])) are.are
      ∙ ended_once _
      ∙ sym are.are

  abbrev SameReports : List ℕ → List (Result Import Fault) → List (Result Binding Fault) → Type 0
  SameReports first imports bindings = dyld.EachReports first imports bindings × dyld.ReportOneForOne first imports bindings

  reported_of : (b : Option BindRanges) (n : ℕ) (first : List ℕ) (others libs : List (List ℕ)) (segments : List SegmentView) (imports : List
      (Result Import Fault))
      (bindings : List (Result Binding Fault)) → IsSecondLazy b → 0 < n → libs ≡ first ∷ others → AreAlike b n libs segments
      → AreImageBindItems b n libs segments imports → AreImageBindings b (Ok None) n libs segments bindings → SameReports first imports bindings
  reported_of None n first others libs segments imports bindings second more are_libs alike none h =
      let nothing : bindings ≡ [] =
      h.are ∙ ap (λ (xs : List (Result Binding Fault)). upto_fault (xs ++ h.by_chains)) h.opcodes ∙ ap upto_fault h.chains in
      subst (SameReports first imports) (sym nothing) (subst (λ (is : List (Result Import Fault)). SameReports first is []) (sym none) (refl, no_list first))
    where
      no_list : (first : List ℕ) → dyld.ReportOneForOne first [] []
      no_list first [] e = refl
      no_list first (b ∷ list) e = absurd (cc)
  reported_of (Some b) n first others libs segments imports bindings second more are_libs (ps, qs, alike) (ps', qs', items) h =
      let x = input_in b n libs segments in
      let same : bindings ≡ h.by_opcodes = opcodes_alone b n libs segments bindings h.by_opcodes h.by_chains h.opcodes h.chains h.are in
      subst (SameReports first imports) (sym same)
      (report x b.non_lazy b.lazy first others ps qs ps' qs' h.opcodes.0 h.opcodes.1 imports h.by_opcodes are_libs more second alike items h.opcodes.2)

  pub report_the_same : ReportTheSame
  report_the_same bytes o first others imports bindings libs alike listed bound =
      let ctx = alike.ctx in
      let cs = alike.cs in
      let n = pointer_size ctx.container in
      let b = binds_in bytes cs in
      let names = libs_in bytes cs in
      let named : first ∷ others ≡ names = one_image bytes o (λ c ds. first ∷ others ≡ libs_in bytes ds) ctx cs alike.opens libs in
      let segments = lossy_segments_in ctx bytes cs in
      let items = one_image bytes o (λ c ds. AreImageBindItems (binds_in bytes ds) (pointer_size c.container) (libs_in bytes ds)
      (lossy_segments_in c bytes ds) imports) ctx cs alike.opens listed in
      let here = one_image bytes o (λ c ds. AreImageBindings (binds_in bytes ds) (chained_in c bytes ds) (pointer_size c.container) (libs_in bytes ds)
      (lossy_segments_in c bytes ds) bindings) ctx cs alike.opens bound in
      reported_of b n first others names segments imports bindings (binds_are_lazy bytes cs) (more_than_none ctx.container) (sym named) alike.holds.0 items
      (subst (λ (place : Option (ℕ × ℕ)). AreImageBindings b (chained_at ctx.le bytes place) n names segments bindings) alike.holds.1 here)
