use Rattle.std.proofs.Common.{◌∙◌, ◌++◌, ◌∷◌, [], List, Result, Some, Ok, Err, ap, arith, refl, subst, sym}
use Rattle.std.proofs.lemmas.List.{length-append}
use Rattle.mach_base.specs.Fault.{Fault, fault_of}
use Rattle.mach_base.specs.Text.{texts}
use Rattle.mach_dyld.specs.Exports.{info_of}
use Rattle.mach_dyld.specs.Trie.{Entry, entry}
use Rattle.mach_dyld.specs.TrieRange.{ExportsFault, ExportsEnd}
use Rattle.goblin_mach.specs.OpenImage.{trie_view}
use Rattle.goblin_mach.specs.Subjects.{trie_or_empty}
use Rattle.mach_audit.proofs.Goes.{entries_ok, ok_more, export_more, export_small, export_long, given_more, next_number, error_meets}
use Rattle.mach_audit.specs.Sound.{all_exports, up_to_fault}
use Rattle.mach_audit.specs.Reported.{HasMet, faults_from}
use Rattle.mach_audit.specs.declared.report.ItemList.TheVariants as lists
use Rattle.mach_audit.proofs.lists.audit_exports.Goals as goal

pub exports-init : goal.exports-init
exports-init g c = ([], c.in-Ok.ensures.given, c.new-tally.ensures, refl)

pub returns-in-Err : goal.returns-in-Err
returns-in-Err g c = record {
  reported =
      let image = c.args.image.now in
      let t = trie_or_empty (trie_view image) in
      let libs = texts image.libs.items in
      let found = c.exports.invariant in
      let reported = c.in_ok-no_memory-in-Err.ensures.reported in
      let f = fault_of c.in-Err.error in
      let says = rw (c.in-Some.is ∙ ap Some c.in-Err.is) at (c.next.ensures.says t libs found.0 found.1) in
      let occurs = error_meets (ExportsFault t libs) c.in-Err.error (rw reported.0 at reported.1) says in
      let cut = rw (c.in-Some.is ∙ ap Some c.in-Err.is) at (c.next.ensures.cut t libs found.0 found.1) in
      let ends = error_meets (ExportsEnd t libs found.0) c.in-Err.error (rw reported.0 at reported.1) cut in
      let met = export_more c.args.limit c.exports.index found.0 (Err f) c.exports.tally c.take.new.self found.2 found.3
      (rw reported.0 at c.in_ok-take-in-Err.ensures.met) in
      rw c.part.ensures (record {
        items = entries_ok found.0 ++ Err f ∷ [];
        met = up_to_fault found.0 f ends occurs;
        reports = met.reports;
      });
}

pub returns-then-not-branch : goal.returns-then-not-branch
returns-then-not-branch g c = record {
  reported =
      let image = c.args.image.now in
      let t = trie_or_empty (trie_view image) in
      let libs = texts image.libs.items in
      let found = c.exports.invariant in
      let export = c.in-Ok-export.field-0 in
      let one = entry export.0.now (info_of export.1) in
      let all = found.0 ++ one ∷ [] in
      let goes = rw (c.in-Some.is ∙ ap Some c.in-Ok-export.is) at c.next.follows.holds-at-none in
      let tally = c.take-in-Ok-export.new.self in
      let one_more = export_more c.args.limit c.exports.index found.0 (Ok one) c.exports.tally tally found.2 found.3
      c.in_ok-take-in-Ok-export.ensures.met in
      let met = subst (λ (items : List (Result Entry Fault)). HasMet c.args.limit (faults_from lists.Exports 0 items) tally)
      (sym (ok_more found.0 one)) one_more in
      rw c.part-then-not-branch.ensures (record {
        items = entries_ok all;
        met = given_more c.args.limit t libs all c.next.follows.lender-at-none (goes.1 t libs found.0 found.1)
            (export_long c.args.limit all tally met (c.in_ok-take-in-Ok-export.ensures.over c.if-not-branch.true));
        reports = met.reports;
      });
}

pub exports-preserved : goal.exports-preserved
exports-preserved g c =
    let image = c.args.image.now in
    let found = c.exports.invariant in
    let export = c.in-Ok-export.field-0 in
    let one = entry export.0.now (info_of export.1) in
    let n = c.exports.index in
    let tally = c.take-in-Ok-export.new.self in
    let goes = rw (c.in-Some.is ∙ ap Some c.in-Ok-export.is) at c.next.follows.holds-at-none in
    let met = export_more c.args.limit n found.0 (Ok one) c.exports.tally tally found.2 found.3 c.in_ok-take-in-Ok-export.ensures.met in
    let small = export_small c.args.limit n found.0 c.exports.tally found.2 found.3 (c.in_ok-take-in-Ok-export.ensures.on c.if-not-branch.false) in
    let next = next_number n c.saturating_add-index.result small c.saturating_add-index.ensures in (
      found.0 ++ one ∷ [],
      goes.1 (trie_or_empty (trie_view image)) (texts image.libs.items) found.0 found.1,
      subst (λ (items : List (Result Entry Fault)). HasMet c.args.limit (faults_from lists.Exports 0 items) tally) (sym (ok_more found.0 one)) met,
      omega (arith, next, found.3, length-append found.0 (one ∷ [])),
    )

pub returns : goal.returns
returns g c = record {
  reported =
      let image = c.args.image.now in
      let found = c.exports.invariant in
      rw c.part-2.ensures (record {
        items = entries_ok found.0;
        met = all_exports found.0 (c.in_default-next.ensures.says (trie_or_empty (trie_view image)) (texts image.libs.items) found.0 found.1);
        reports = found.2.reports;
      });
}
