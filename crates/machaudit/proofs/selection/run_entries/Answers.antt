use Rattle.std.proofs.Common.{ℕ, ◌∙◌, ◌+◌, List, refl, sym, subst, take, arith}
use Rattle.std.proofs.Math.Nat.{max-zero}
use Rattle.std.proofs.lemmas.Result.{err_from_is_err_and}
use Rattle.std.specs.List.{enumerate_from}
use Rattle.machaudit.specs.Audited.{AuditsEntry, AuditsFile, audited_name, for_cpu, for_other}
use Rattle.mach_cli.specs.InOrder.{InOrder, none_left}
use Rattle.machaudit.specs.Selected.{IsFailing}
use Rattle.mach_audit.specs.Sound.{IsSound}
use Rattle.machaudit.proofs.Audited.{IfMemory-weaker, all_after, next_after}
use Rattle.machaudit.proofs.SelectedEntries.{audited, none_over, passed}
use Rattle.machaudit.proofs.selection.run_entries.Goals as goal
use Rattle.machaudit.proofs.selection.run_entries.Goals.{then-takes_entry+in_ok-status, else-takes_entry}

pub archs-init : goal.archs-init
archs-init g c = (none_over c.args.cpu c.args.call.options.limit c.args.bytes.now c.args.archs.now, none_left c.args.out.now)

pub archs-preserved : goal.archs-preserved
archs-preserved g c =
    let l = c.archs in
    let cpu = c.args.cpu in
    let call = c.args.call in
    let limit = call.options.limit in
    let bytes = c.args.bytes.now in
    let archs = c.args.archs.now in
    let contents = g.W.Write.contents in
    let P = AuditsEntry contents call.options cpu call.name.now bytes in
    let start = c.args.out.now in
    let next = take (l.index + 1) (enumerate_from 0 archs) in
    elim c.if-takes_entry.branch [
      | then-takes_entry+in_ok-status w ↦
          let status = w.in_ok-status.status in
          let reported = w.in_ok-status.ensures in
          let there = w.run_entry.new.out in
          let selected = sym c.takes_entry.ensures ∙ w.if-takes_entry.true in
          let audits = λ (entry : List ℕ). AuditsFile contents call.options (audited_name call.name.now l.index) entry l.out there status in
          rw (w.worst-is, w.out-is) (
            audited cpu limit bytes archs l.index l.worst status _ _ c.archs-test.true selected
                reported.bounds (λ zero. subst IsSound w.slice.ensures (reported.sound zero))
                (λ one. subst (λ (entry : List ℕ). IsFailing limit entry) w.slice.ensures (reported.faulty one)) w.max-worst.ensures l.invariant.0,
            subst (InOrder P next start there) (sym w.max-worst.ensures)
                (next_after P archs l.index _ start l.out there l.worst status c.archs-test.true l.invariant.1
                (for_cpu status selected (subst audits w.slice.ensures reported.audited))),
          )
      | else-takes_entry w ↦
          let other = sym c.takes_entry.ensures ∙ w.if-takes_entry.false in
          rw (w.worst-is, w.out-is) (
            passed cpu limit bytes archs l.index l.worst _ other l.invariant.0,
            subst (InOrder P next start l.out) (max-zero l.worst)
                (next_after P archs l.index _ start l.out l.out l.worst 0 c.archs-test.true l.invariant.1 (for_other other refl)),
          )
    ]

pub returns-clause-bounds : goal.returns-clause-bounds
returns-clause-bounds g c = c.archs.invariant.0.bound

pub returns-clause-sound : goal.returns-clause-sound
returns-clause-sound g c = λ zero k arch inside is selected.
    c.archs.invariant.0.sound zero k arch (omega (arith, inside, c.archs-test.false)) is selected

pub returns-clause-faulty : goal.returns-clause-faulty
returns-clause-faulty g c = c.archs.invariant.0.failing

pub returns-clause-audited : goal.returns-clause-audited
returns-clause-audited g c =
    let call = c.args.call in
    all_after (AuditsEntry g.W.Write.contents call.options c.args.cpu call.name.now c.args.bytes.now) c.args.archs.now c.archs.index c.args.out.now c.archs.out
    c.archs.worst (omega (arith, c.archs-test.false)) c.archs.invariant.1

pub returns-in_err-status-clause-memory : goal.returns-in_err-status-clause-memory
returns-in_err-status-clause-memory g c =
    let call = c.args.call in
    let P = AuditsEntry g.W.Write.contents call.options c.args.cpu call.name.now c.args.bytes.now in
    let before = c.archs.invariant.1 in
    let first = take c.archs.index (enumerate_from 0 c.args.archs.now) in
    let p = err_from_is_err_and c.from_residual.result c.from_residual.ensures.1 in
    rw (p.1, p.2)
    (IfMemory-weaker c.in_err-status.field-0.0
    (λ same. (c.archs.index, c.archs.worst, subst (λ (out : _). InOrder P first c.args.out.now out c.archs.worst) (sym same) before))
    c.in_err-status.ensures.memory)
