use Rattle.mach_dyld.proofs.BindNames.{◌++◌, Result, Fault}
use Rattle.mach_dyld.proofs.BindNames.{◌≡◌, ◌∙◌, List, length, map, ap, refl, subst, pointer_size, items_left, opcodes_left, items_of, reads_of, start_of}
use Rattle.mach_dyld.proofs.BindNames.{Input}
use Rattle.mach_dyld.proofs.BindNames.{Placed}
use Rattle.mach_parts.specs.Segment.{segment_view}
use Rattle.mach_dyld.proofs.StreamStarts.{starts_alone}
use Rattle.mach_dyld.specs.Cut.{CutStream, cut_input, cut_range}
use Rattle.mach_dyld.specs.CutViews.{cut_view}
use Rattle.mach_dyld.specs.Rebases.{AreOpcodeRebases, Rebase, rebases_in}
use Rattle.mach_dyld.specs.RebasesLeft.{first_rebasing, opcode_rebases_left, rebase_rules}
use Rattle.mach_dyld.specs.StreamsMove.{rebase_reads}
use Rattle.mach_dyld.specs.declared.rebases.OpcodeRebaseIterator.{OpcodeRebaseIterator}
use Rattle.mach_dyld.specs.declared.rebases.Rebasing.{Rebasing}
use Rattle.mach_dyld.proofs.RebaseRun.{rebases_at_start}
use Rattle.mach_dyld.proofs.rebases.RebaseStream.iter.Goals as goal

pub returns : goal.returns
returns c =
    let segments = map segment_view c.args.segments.now in
    let pointer = pointer_size c.args.ctx.container in
    let le = c.args.ctx.le in
    let s : CutStream = cut_view c.self.inside.cut in
    let x = cut_input s pointer segments in
    let r = cut_range s in
    let made : OpcodeRebaseIterator = record { run = c.none.result; stream = c.alone.result } in
    let none = ap (λ (front : List (Result Rebase Fault)). front ++ items_left rebase_rules c.alone.result) c.none.ensures in
    let items = none ∙ c.alone.ensures.items ∙ ap (λ (i : Input). items_of rebase_rules i r c.new.result (start_of r)) c.source.ensures
    ∙ ap (λ (m : Rebasing). items_of rebase_rules x r m (start_of r)) c.new.ensures in
    let reads = c.alone.ensures.reads ∙ ap (λ (i : Input). reads_of rebase_rules i r (start_of r)) c.source.ensures in
    subst (λ (t : CutStream).
    (ps : List Placed) × AreOpcodeRebases (cut_input t pointer segments) le (cut_range t) ps (opcode_rebases_left made)
    × (opcodes_left rebase_rules c.alone.result ≡ length ps)) c.self.view_is
    (starts_alone rebase_rules rebase_reads x r r refl (first_rebasing le) (rebases_in x le r) (rebases_at_start x le r) _ _ items reads)
