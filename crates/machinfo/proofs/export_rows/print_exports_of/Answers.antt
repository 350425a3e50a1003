use Rattle.std.proofs.Common.{◌≡◌, ◌≤◌, ◌∙◌, ◌++◌, ◌∷◌, [], ℕ, zero, suc, Some, Err, true, false, ap, arith, refl, sym}
use Rattle.std.proofs.lemmas.Bool.{false≢true}
use Rattle.std.proofs.lemmas.List.{length-append}
use Rattle.mach_base.specs.Fault.{fault_of}
use Rattle.mach_dyld.specs.Exports.{info_of}
use Rattle.mach_dyld.specs.Trie.{entry}
use Rattle.machinfo.specs.ExportRows.{whole_list}
use Rattle.machinfo.proofs.ExportRows.{all_written, entries_ok, limit_met, none_written, one_item_more, one_written, refusal_written, refused_items}
use Rattle.machinfo.proofs.export_rows.print_exports_of.Goals as goal

none_left : (left : ℕ) → (1 ≤ left → ⊥) → left ≡ 0
none_left zero none = refl
none_left (suc n) none = absurd (none (omega arith))

pub exports-init : goal.exports-init
exports-init g c = λ t libs given. ([], given, none_written c.args.form c.args.base c.args.limit _, omega arith)

pub returns-in_default-checked_sub : goal.returns-in_default-checked_sub
returns-in_default-checked_sub g c = λ t libs given.
    let found = c.exports.invariant t libs given in
    let old = g.O.Write.contents c.args.out.now in
    let here = g.O.Write.contents c.exports.out in
    let is = c.in-Some.is in
    let none = none_left c.exports.left c.in_default-checked_sub.ensures in
    let one =
    one_item_more c.args.limit t libs found.0 c.exports.walk found.1 c.in-Some.export c.next.follows.lender-at-none
    (λ over. false≢true (sym (rw is at (c.next.ensures.over over)))) (omega (arith, found.3, none))
    (rw is at (c.next.ensures.says t libs found.0 found.1)) (rw is at (c.next.ensures.cut t libs found.0 found.1))
    (rw is at c.next.follows.holds-at-none) in (
      entries_ok found.0 ++ one.0 ∷ [],
      one.1,
      limit_met c.args.base c.args.limit found.0 c.exports.left c.exports.is_first old here here c.args.form one.0
          (record { left = 0; whole = true; more = true }) found.2 none (refl, refl, refl),
    )

pub returns-in-Err : goal.returns-in-Err
returns-in-Err g c = λ t libs given.
    let found = c.exports.invariant t libs given in
    let e = c.in-Err.error in
    let is = c.in-Some.is ∙ ap Some c.in-Err.is in
    let rest = c.in-Some-checked_sub in (
      entries_ok found.0 ++ Err (fault_of e) ∷ [],
      refused_items c.args.limit t libs found.0 c.exports.walk found.1 e (λ over. false≢true (sym (rw is at (c.next.ensures.over over))))
          (rw is at (c.next.ensures.says t libs found.0 found.1)) (rw is at (c.next.ensures.cut t libs found.0 found.1)),
      refusal_written c.args.base c.args.limit found.0 c.exports.left c.exports.is_first (g.O.Write.contents c.args.out.now)
          (g.O.Write.contents c.exports.out) (g.O.Write.contents c.write_refusal.new.out) c.args.form e
          (record { left = rest.rest; whole = false; more = false }) found.2 rest.ensures.0 c.in_ok-write_refusal-in-Err.ensures
          (rest.ensures.1, refl, refl),
    )

pub exports-preserved : goal.exports-preserved
exports-preserved g c = λ t libs given.
    let found = c.exports.invariant t libs given in
    let one = entry c.in-Ok.name.now (info_of c.in-Ok.info) in
    let goes = rw (c.in-Some.is ∙ ap Some c.in-Ok.is) at c.next.follows.holds-at-none in
    let rest = c.in-Some-checked_sub in (
      found.0 ++ one ∷ [],
      goes.1 t libs found.0 found.1,
      rw rest.ensures.1
          (one_written c.args.base c.args.limit found.0 c.exports.left c.exports.is_first (g.O.Write.contents c.args.out.now)
          (g.O.Write.contents c.exports.out) (g.O.Write.contents c.write_row.new.out) c.args.form one found.2 rest.ensures.0
          c.in_ok-write_row-in-Ok.ensures),
      omega (arith, rest.ensures.0, rest.ensures.1, found.3, length-append found.0 (one ∷ [])),
    )

pub returns : goal.returns
returns g c = λ t libs given.
    let found = c.exports.invariant t libs given in
    let here = g.O.Write.contents c.exports.out in (
      entries_ok found.0,
      whole_list found.0 (c.in_default.ensures.says t libs found.0 found.1),
      all_written c.args.base c.args.limit found.0 c.exports.left c.exports.is_first (g.O.Write.contents c.args.out.now) here here c.args.form
          (record { left = c.exports.left; whole = true; more = false }) found.2 (refl, refl, refl),
    )
