use Rattle.std.proofs.Common.{◌≡◌, ◌<◌, ◌∙◌, ◌∷◌, [], ℕ, List, length, nat_lt, slice_get, refl, sym, ap, arith, rules, subst}
use Rattle.std.proofs.lemmas.List.{length-append}
use Rattle.goblin_mach.specs.FatEntry.{arch_entry_in, fat_entry_of}
use Rattle.goblin_mach.specs.FatFile.{FatFile, file_view}
use Rattle.mach_parts.specs.ArchForms.{ArchForm}
use Rattle.mach_layout.specs.Containers.{AreContainerFaults}
use Rattle.mach_layout.proofs.OneListOfSlices.{one_table}
use Rattle.mach_audit.proofs.Entries.{entries_more, no_entries_judged, fat_file_judged, refused_table_judged}
use Rattle.mach_audit.proofs.EntryBytes.{arches_count, named_entry}
use Rattle.mach_audit.proofs.Images.{layout_judged, beside}
use Rattle.mach_audit.proofs.Reports.{one_entry_more}
use Rattle.mach_audit.proofs.Judgements.{both_judged}
use Rattle.mach_audit.specs.Overlaid.{AreGoneOver, every}
use Rattle.mach_audit.specs.Report.{IsEntryReport, named_bytes}
use Rattle.mach_audit.specs.Verdicts.{verdict_of_all, verdict_of_entry}
use Rattle.mach_audit.proofs.file.audit_fat.Goals as goal

pub returns-in-Err-clause-judged : goal.returns-in-Err-clause-judged
returns-in-Err-clause-judged g c =
    let reported = c.in_ok-no_memory-in-Err.ensures.reported in
    refused_table_judged g.R.ArchRecord.arch_form _ (file_view c.args.container.now) c.in-Err.error c.in-Err.ensures (rw reported.0 at reported.1)

pub loop-index-init : goal.loop-index-init
loop-index-init g c = rw c.new-entries.ensures.items ((λ _. tt), no_entries_judged g.R.ArchRecord.arch_form c.args.limit (file_view c.args.container.now), refl)

-- the entries that are audited, by the file's own bytes and records
gone_over : {R : Type 0} (form : ArchForm R) (file : FatFile) (limit most : ℕ) (bytes : List ℕ) (archs xs : List R) → bytes ≡ file.bytes → archs ≡ xs
    → AreGoneOver form every limit bytes archs most → AreGoneOver form every limit file.bytes xs most
gone_over form file limit most bytes archs xs same_bytes same gone =
    subst (λ (x : List ℕ). AreGoneOver form every limit x xs most) same_bytes (subst (λ x. AreGoneOver form every limit bytes x most) same gone)

pub loop-index-preserved : goal.loop-index-preserved
loop-index-preserved g c =
    let form = g.R.ArchRecord.arch_form in
    let file = file_view c.args.container.now in
    let k = c.loop-index.index in
    let xs = c.in-Ok.arches.items in
    let gone = gone_over form file c.args.limit c.entries_within-most.result _ _ xs c.bytes.ensures c.as_slice.ensures.value c.entries_within-most.ensures in
    let inside : k < file.narches = omega (arith, c.loop-index-test.true, gone.few, arches_count form file xs c.in-Ok.ensures) in
    let here = λ (same : file.bytes ≡ c.args.bytes.now).
    ap (λ (ys : List ℕ). fat_entry_of ys) (c.named_bytes-entry.ensures
    ∙ ap (λ ys. named_bytes form c.args.bytes.now (slice_get ys k)) c.as_slice-in-loop-index.ensures.value
    ∙ ap (λ (ys : List ℕ). named_bytes form ys (slice_get xs k)) (sym same))
    ∙ named_entry form file k xs inside c.in-Ok.ensures in
    rw c.in_ok-push.ensures.items (
      (λ same. one_entry_more (IsEntryReport c.args.limit) (arch_entry_in form file) c.loop-index.index c.loop-index.entries.items c.in_ok-audit_entry.field-0
          (c.loop-index.invariant.0 same) (rw c.in_ok-audit_entry.was at (c.audit_entry.ensures.reported (here same)))),
      entries_more form c.args.limit file c.loop-index.index c.loop-index.entries.items c.in_ok-audit_entry.field-0 c.loop-index.invariant.1
          c.in_ok-audit_entry.ensures.judged,
      omega (arith, c.loop-index.invariant.2, length-append c.loop-index.entries.items (c.in_ok-audit_entry.field-0 ∷ [])),
    )

pub returns-clause-judged : goal.returns-clause-judged
returns-clause-judged g c =
    let form = g.R.ArchRecord.arch_form in
    let file = file_view c.args.container.now in
    let limit = c.args.limit in
    let xs = c.in-Ok.arches.items in
    let most = c.entries_within-most.result in
    let all : c.loop-index.index ≡ most = omega (arith, c.loop-index.auto.index-end, c.loop-index-test.false) in
    let gone = gone_over form file limit most _ _ xs c.bytes.ensures c.as_slice.ensures.value c.entries_within-most.ensures in
    let judged =
    fat_file_judged form limit file xs most (nat_lt most file.narches) (verdict_of_all verdict_of_entry c.loop-index.entries.items) c.in-Ok.ensures
    gone refl (rw all at c.loop-index.invariant.1) in
    let bytes = c.args.bytes.now in
    let faults = c.in_ok-container_faults.container_faults in
    let layout = layout_judged (AreContainerFaults form bytes) faults.items c.in_ok-container_faults.ensures.reported
    (one_table _ form bytes) in
    beside (both_judged _ _ layout judged)

pub returns-clause-reported : goal.returns-clause-reported
returns-clause-reported g c =
    let form = g.R.ArchRecord.arch_form in
    let file = file_view c.args.container.now in
    let limit = c.args.limit in
    let xs = c.in-Ok.arches.items in
    let most = c.entries_within-most.result in
    let all : length c.loop-index.entries.items ≡ most =
    omega (arith, c.loop-index.auto.index-end, c.loop-index-test.false, c.loop-index.invariant.2) in
    let gone = gone_over form file limit most _ _ xs c.bytes.ensures c.as_slice.ensures.value c.entries_within-most.ensures in
    λ same. record {
      count = refl;
      table = record {
        readable = rw c.in-Ok.ensures refl;
        container = c.in_ok-container_faults.ensures.reported;
        gone_over = (xs, c.in-Ok.ensures, rw all (subst (λ (x : List ℕ). AreGoneOver form every limit x xs most) same gone));
        entries = rw c.loop-index.invariant.2 (c.loop-index.invariant.0 same);
        cut = rw all refl;
      };
    }

pub returns-in-Err-clause-reported : goal.returns-in-Err-clause-reported
returns-in-Err-clause-reported g c =
    let reported = c.in_ok-no_memory-in-Err.ensures.reported in
    λ same. record {
      count = refl;
      table = rw reported.0 (record {
        reported = rw reported.0 at reported.1;
        fails = c.in-Err.ensures;
        container = search rules;
        entries = search
            rules;
        cut = refl;
      });
    }
