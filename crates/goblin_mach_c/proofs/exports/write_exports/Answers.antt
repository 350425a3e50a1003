use Rattle.std.proofs.Common.{◌-◌, ◌<◌, ◌^◌, ◌≡◌, ◌∙◌, ◌++◌, ℕ, Some, length, refl, sym, subst, arith, length-set, length-take}
use Rattle.mach_dyld.specs.CursorState.{IsFull}
use Rattle.mach_dyld.specs.Cursors.{HasGivenTo, NextGives, OccursAt}
use Rattle.mach_base.specs.Text.{texts}
use Rattle.mach_dyld.specs.declared.trie.cursor.NextExport.{NextExport}
use Rattle.goblin_mach_c.specs.ExportWalk.{AreWritten, IsNodeOf, IsNumbered}
use Rattle.goblin_mach_c.proofs.ListedExports.{none_so_far, one_more}
use Rattle.goblin_mach_c.proofs.WalkedTries.{long_name}
use Rattle.goblin_mach_c.proofs.exports.write_exports.Goals as goal

pub loop-k-init : goal.loop-k-init
loop-k-init c = record { so_far = none_so_far; fits = omega arith; name_len = refl; names_len = refl; stack_len = refl; out_len = refl }

pub returns-in-Err-clause-written : goal.returns-in-Err-clause-written
returns-in-Err-clause-written c =
    let so = c.loop-k.invariant.so_far in (
      so.given,
      so.written,
      λ found h.
          subst (λ (x : NextExport). NextGives c.args.trie.now (texts c.args.libs.now) (found ++ so.given) x c.next_export.new.cursor c.next_export.new.name
          c.next_export.new.stack) (sym c.in-Err.ensures) (c.next_export.ensures.gives (found ++ so.given) (so.walked found h)),
    )

pub loop-k-preserved : goal.loop-k-preserved
loop-k-preserved c =
    let inv = c.loop-k.invariant in
    let names_len = inv.names_len in
    let name_len = inv.name_len in
    let out_len = inv.out_len in
    let same_name = c.next_export.ensures.name_len in
    let inside = c.loop-k-test.true in
    let end = c.loop-k.auto.k-end in
    let room = c.if-names-used.false in
    let fits = inv.fits in
    let put = c.put_name-len.ensures in
    let own =
    subst (λ (x : NextExport). OccursAt c.args.trie.now.bytes (texts c.args.libs.now) c.args.trie.now.from c.next_export.new.cursor.node (Some x))
    (sym c.in-Ok.ensures) c.next_export.ensures.placed in
    let count = put.count in
    let len = put.len in
    let cut = length-take c.next_export.new.cursor.name_len c.next_export.new.name in
    let at = length-set c.loop-k.out c.loop-k.k
    (record {
      name = c.loop-k.used;
      name_len = c.put_name-len.result;
      library = c.brought_from-library.result.0;
      target = c.brought_from-library.result.1;
      what = c.row_of_export.result;
    }) in
    record {
      so_far = one_more c.in-Ok.info c.brought_from-library.result.0 c.brought_from-library.result.1 c.next_export.new.cursor.node
          c.loop-k.invariant.so_far (omega arith)
          (λ found h. subst (λ (x : NextExport). NextGives c.args.trie.now (texts c.args.libs.now) found x c.next_export.new.cursor c.next_export.new.name
          c.next_export.new.stack) (sym c.in-Ok.ensures) (c.next_export.ensures.gives found h))
          c.put_name-len.ensures.count c.put_name-len.ensures.written c.row_of_export.ensures own
          (λ found h. c.next_export.ensures.leads found h c.in-Ok.info (sym c.in-Ok.ensures))
          (c.brought_from-library.ensures (texts c.args.libs.now) own);
      fits = omega arith;
      name_len = same_name ∙ name_len;
      names_len = len ∙ names_len;
      stack_len = c.next_export.ensures.stack_len ∙ inv.stack_len;
      out_len = at ∙ out_len;
    }

pub returns-clause-written : goal.returns-clause-written
returns-clause-written c =
    let inv = c.loop-k.invariant in
    let so = inv.so_far in
    let out_len = inv.out_len in
    let past = c.loop-k-test.false in
    let end = c.loop-k.auto.k-end in
    let all : c.loop-k.k ≡ length c.loop-k.out = omega (arith, out_len, past, end) in (
      so.given,
      subst (λ (n : ℕ). AreWritten c.args.trie.now.bytes c.args.base (IsNumbered (texts c.args.libs.now)) (IsNodeOf c.args.trie.now (texts c.args.libs.now)
          (HasGivenTo c.args.trie.now (texts c.args.libs.now) c.args.cursor.now c.args.name.now c.args.stack.now)) so.given n c.loop-k.used c.args.out.now
          c.loop-k.out c.args.names.now c.loop-k.names) all so.written,
      so.walked,
    )

pub returns-in-Err-clause-name : goal.returns-in-Err-clause-name
returns-in-Err-clause-name c = λ n is.
    let t = c.args.trie.now in
    let cursor = c.next_export.new.cursor in
    let name = c.next_export.new.name in
    let full = subst (λ (x : NextExport). IsFull t.bytes t.from cursor name c.next_export.new.stack (Some x))
    (sym c.in-Err.ensures) c.next_export.ensures.full in
    let same = c.next_export.ensures.name_len in
    let kept = c.loop-k.invariant.name_len in
    let few : length name < 2 ^ 64 - 1 = omega arith in
    let long = long_name t cursor name c.next_export.new.stack c.in-Err.ending n is few full in
    let less = long.0 in
    (omega (arith, same, kept, less), long.1)
