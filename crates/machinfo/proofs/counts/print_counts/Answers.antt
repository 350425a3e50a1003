use Rattle.std.proofs.Common.{[], List, subst}
use Rattle.std.proofs.lemmas.List.{take_all}
use Rattle.mach_base.proofs.Written.{Appends-none, Appends-both}
use Rattle.machinfo.specs.Counts.{AreCounts, no_counts}
use Rattle.machinfo.specs.declared.word.Word.{Word}
use Rattle.machinfo.proofs.Counted.{one_more_count}
use Rattle.machinfo.proofs.counts.print_counts.Goals as goal

pub words-init : goal.words-init
words-init g c = λ bytes opened. ([], no_counts, Appends-none (g.O.Write.contents c.args.out.now))

pub words-preserved : goal.words-preserved
words-preserved g c = λ bytes opened.
    let before = c.words.invariant bytes opened in
    let one = c.in_ok-whole.ensures bytes opened in (
      _,
      one_more_count c.args.form c.args.limit bytes c.args.words.now c.words.word-index _ before.0 one.0 c.words.whole c.in_ok-whole.field-0.whole
          c.words-test.true before.1 one.1,
      Appends-both _ _ _ before.0 _ before.2 one.2,
    )

pub returns : goal.returns
returns g c = λ bytes opened.
    let before = c.words.invariant bytes opened in (
      before.0,
      subst (λ (some : List Word). AreCounts c.args.form c.args.limit bytes some before.0 c.words.whole)
          (take_all c.words.word-index c.args.words.now c.words-test.false) before.1,
      before.2,
    )
