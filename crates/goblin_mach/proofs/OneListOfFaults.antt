-- The bytes of an image have one list of faults of its layout.
use Rattle.std.proofs.Common.{◌≡◌, ◌++◌, ℕ, Bool, List, [], Option, Some, None, Result, sym, ap, ◌∙◌}
use Rattle.mach_base.specs.Context.{pointer_size}
use Rattle.mach_base.specs.Fault.{Fault}
use Rattle.mach_base.specs.declared.context.Endian.{Endian}
use Rattle.mach_parts.specs.Bindings.{Binding}
use Rattle.mach_parts.specs.Segment.{SegmentView}
use Rattle.mach_load.specs.FunctionStarts.{AreFunctionStarts, StartRange, start_range_at}
use Rattle.mach_dyld.specs.BindingFaults.{has_fault}
use Rattle.mach_dyld.specs.BindingLaws.{StreamsHaveOneListOfBindings}
use Rattle.mach_dyld.specs.Imports.{BindRanges, input_in}
use Rattle.mach_dyld.specs.Cut.{CutStream, cut_input, cut_range}
use Rattle.mach_dyld.specs.Rebases.{Rebase}
use Rattle.mach_dyld.specs.StreamLaws.{StreamHasOneListOfRebases, StreamHasOneListOfWeakBinds}
use Rattle.mach_dyld.specs.WeakBinds.{WeakBind}
use Rattle.goblin_mach.specs.Bindings.{AreOpcodeBindings}
use Rattle.goblin_mach.specs.Fixups.{base_of}
use Rattle.goblin_mach.specs.ImageFacts.{Facts, facts_in}
use Rattle.goblin_mach.specs.ImageStreams.{AreImageWeakBinds, AreRebasesByOpcodes, rebase_stream_in, weak_stream_in}
use Rattle.goblin_mach.specs.Tables.{AreStartsAt, starts_place_in}
use Rattle.goblin_mach.proofs.ImageFacts.{one_image}
use Rattle.goblin_mach.specs.LayoutFacts.{HasLayoutFaults}
use Rattle.goblin_mach.specs.ListFaults.{AreListFaults, laid_by, reported_where}
use Rattle.mach_layout.specs.Commands.{command_faults, text_faults}
use Rattle.mach_layout.specs.DataInCode.{data_faults}
use Rattle.mach_layout.specs.Entry.{entry_faults}
use Rattle.mach_layout.specs.Faults.{AddsSegments, AddsSections, AddsSymbols, AreLayoutFaults}
use Rattle.mach_layout.specs.Fixups.{fixup_faults}
use Rattle.mach_layout.specs.Header.{segment_order_faults}
use Rattle.mach_layout.specs.Laid.{Laid}
use Rattle.mach_layout.specs.Lists.{function_starts_fault, opcodes_fault}
use Rattle.mach_layout.specs.Ranges.{out_of_file_faults, claim_faults}
use Rattle.mach_layout.specs.Sections.{section_faults}
use Rattle.mach_layout.specs.Segments.{segment_faults, encrypted_faults}
use Rattle.mach_layout.specs.Sweep.{AreShared}
use Rattle.mach_layout.specs.Symbols.{symbol_faults}
use Rattle.mach_layout.specs.declared.claim.Claim.{Claim}
use Rattle.mach_layout.specs.declared.fault.LayoutFault.{LayoutFault}
use Rattle.mach_layout.specs.declared.fault.Part.TheVariants as part
use Rattle.mach_layout.specs.declared.fault.Rule.{Rule}
use Rattle.mach_layout.specs.declared.fault.Rule.TheVariants as rule

-- the faults of ranges that share a place are one list
abbrev pub OneShared : Type 0
OneShared = (rule : Rule) (ranges : List Claim) (reported others : List LayoutFault) → AreShared rule ranges reported → AreShared rule ranges others
    → reported ≡ others

module _ (one_shared : OneShared) (laid : Laid) where
  segments_alike : (old list others : List LayoutFault) → AddsSegments laid old list → AddsSegments laid old others → list ≡ others
  segments_alike old list others h k =
      let front : List LayoutFault = old ++ command_faults laid ++ out_of_file_faults laid ++ segment_faults laid in
      h.joined
      ∙ ap (λ (memory : List LayoutFault). front ++ memory ++ h.files ++ segment_order_faults laid)
      (one_shared _ _ h.memory k.memory h.memory_shared k.memory_shared)
      ∙ ap (λ (files : List LayoutFault). front ++ k.memory ++ files ++ segment_order_faults laid)
      (one_shared _ _ h.files k.files h.files_shared k.files_shared)
      ∙ sym k.joined

  sections_alike : (old before list others : List LayoutFault) → old ≡ before → AddsSections laid old list → AddsSections laid before others → list ≡ others
  sections_alike old before list others same h k =
      let following : List LayoutFault → List LayoutFault → List LayoutFault → List LayoutFault = λ first sections claims.
      first ++ section_faults laid ++ sections ++ claims ++ claim_faults laid ++ encrypted_faults laid in
      h.joined
      ∙ ap (λ (first : List LayoutFault). following first h.sections h.claims) same
      ∙ ap (λ (sections : List LayoutFault). following before sections h.claims) (one_shared _ _ h.sections k.sections h.sections_shared k.sections_shared)
      ∙ ap (λ (claims : List LayoutFault). following before k.sections claims) (one_shared _ _ h.claims k.claims h.claims_shared k.claims_shared)
      ∙ sym k.joined

  module _ (AreOfLists : List LayoutFault → Type 0)
      (one_of_lists : (reported others : List LayoutFault) → AreOfLists reported → AreOfLists others → reported ≡ others) where
    symbols_alike : (old before list others : List LayoutFault) → old ≡ before
        → AddsSymbols laid AreOfLists old list → AddsSymbols laid AreOfLists before others → list ≡ others
    symbols_alike old before list others same h k =
        let following : List LayoutFault → List LayoutFault → List LayoutFault = λ first lists.
        first ++ symbol_faults laid ++ entry_faults laid ++ text_faults laid ++ lists ++ fixup_faults laid ++ data_faults laid in
        h.joined
        ∙ ap (λ (first : List LayoutFault). following first h.of_lists) same
        ∙ ap (λ (lists : List LayoutFault). following before lists) (one_of_lists h.of_lists k.of_lists h.are_of_lists k.are_of_lists)
        ∙ sym k.joined

    faults_alike : (list others : List LayoutFault) → AreLayoutFaults laid AreOfLists list → AreLayoutFaults laid AreOfLists others → list ≡ others
    faults_alike list others h k =
        symbols_alike h.of_sections k.of_sections list others
        (sections_alike h.of_segments k.of_segments h.of_sections k.of_sections
        (segments_alike [] h.of_segments k.of_segments h.segments k.segments) h.sections k.sections) h.symbols k.symbols

module _ (one_run : StreamsHaveOneListOfBindings) (one_rebasing : StreamHasOneListOfRebases) (one_weak : StreamHasOneListOfWeakBinds)
    (one_start : (r : StartRange) (base : ℕ) (xs ys : List (Result ℕ Fault)) → AreFunctionStarts r base xs → AreFunctionStarts r base ys → xs ≡ ys) where
  one_opcodes : (b : Option BindRanges) (n : ℕ) (libs : List (List ℕ)) (segments : List SegmentView) (items others : List (Result Binding Fault))
      → AreOpcodeBindings b n libs segments items → AreOpcodeBindings b n libs segments others → items ≡ others
  one_opcodes None n libs segments items others h k = h ∙ sym k
  one_opcodes (Some b) n libs segments items others h k =
      one_run (input_in b n libs segments) b.non_lazy b.lazy h.0 h.1 k.0 k.1 items others h.2 k.2

  one_rebases : (s : Option CutStream) (le : Endian) (n : ℕ) (segments : List SegmentView) (items others : List (Result Rebase Fault))
      → AreRebasesByOpcodes s le n segments items → AreRebasesByOpcodes s le n segments others → items ≡ others
  one_rebases None le n segments items others h k = h ∙ sym k
  one_rebases (Some s) le n segments items others h k = one_rebasing (cut_input s n segments) le (cut_range s) h.0 k.0 items others h.1 k.1

  one_weak_binds : (s : Option CutStream) (n : ℕ) (segments : List SegmentView) (items others : List (Result WeakBind Fault))
      → AreImageWeakBinds s n segments items → AreImageWeakBinds s n segments others → items ≡ others
  one_weak_binds None n segments items others h k = h ∙ sym k
  one_weak_binds (Some s) n segments items others h k = one_weak (cut_input s n segments) (cut_range s) h.0 k.0 items others h.1 k.1

  one_starts : (bytes : List ℕ) (place : Option (ℕ × ℕ)) (base : ℕ) (items others : List (Result ℕ Fault))
      → AreStartsAt bytes place base items → AreStartsAt bytes place base others → items ≡ others
  one_starts bytes None base items others h k = h ∙ sym k
  one_starts bytes (Some place) base items others h k = one_start (start_range_at bytes place.0 place.1) base items others h k

  of_lists_alike : (f : Facts) (reported others : List LayoutFault) → AreListFaults f reported → AreListFaults f others → reported ≡ others
  of_lists_alike f reported others h k =
      let n = pointer_size f.ctx.container in
      let laid = laid_by f in
      let joined : Bool → Bool → Bool → Bool → List LayoutFault = λ a b c d.
      reported_where a (opcodes_fault rule.Binds part.Binds laid) ++ reported_where b (opcodes_fault rule.Rebases part.RebaseOpcodes laid)
      ++ reported_where c (opcodes_fault rule.WeakBinds part.WeakBindOpcodes laid) ++ reported_where d (function_starts_fault laid) in
      let a = ap has_fault (one_opcodes f.binds n f.libs f.segments h.bindings k.bindings h.are_bindings k.are_bindings) in
      let b = ap has_fault (one_rebases (rebase_stream_in f.bytes f.commands) f.ctx.le n f.segments h.rebases k.rebases h.are_rebases k.are_rebases) in
      let c = ap has_fault (one_weak_binds (weak_stream_in f.bytes f.commands) n f.segments h.weak_binds k.weak_binds h.are_weak_binds k.are_weak_binds) in
      let d = ap has_fault (one_starts f.bytes (starts_place_in f.commands) (base_of f.segments) h.starts k.starts h.are_starts k.are_starts) in
      h.reported
      ∙ ap (λ (x : Bool). joined x (has_fault h.rebases) (has_fault h.weak_binds) (has_fault h.starts)) a
      ∙ ap (λ (x : Bool). joined (has_fault k.bindings) x (has_fault h.weak_binds) (has_fault h.starts)) b
      ∙ ap (λ (x : Bool). joined (has_fault k.bindings) (has_fault k.rebases) x (has_fault h.starts)) c
      ∙ ap (λ (x : Bool). joined (has_fault k.bindings) (has_fault k.rebases) (has_fault k.weak_binds) x) d
      ∙ sym k.reported

  pub one_list : OneShared → (bytes : List ℕ) (list others : List LayoutFault) → HasLayoutFaults bytes list → HasLayoutFaults bytes others → list ≡ others
  one_list one_shared bytes list others h k =
      let f = facts_in h.ctx bytes 0 h.cs in
      faults_alike one_shared (laid_by f) (AreListFaults f) (of_lists_alike f) list others h.holds
      (one_image bytes 0 (λ ctx cs. AreLayoutFaults (laid_by (facts_in ctx bytes 0 cs)) (AreListFaults (facts_in ctx bytes 0 cs)) others) h.ctx h.cs h.opens k)
