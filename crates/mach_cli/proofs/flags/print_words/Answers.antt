use Rattle.std.proofs.Common.{[], ◌++◌, ◌∙◌, ℕ, List, map, refl, sym, ap, subst}
use Rattle.std.proofs.lemmas.List.{at_drop_all}
use Rattle.std.proofs.lemmas.Result.{on_ok_weaker}
use Rattle.std.specs.Io.KnownBytes.{Appends}
use Rattle.mach_base.proofs.Written.{Appends-none, Appends-both}
use Rattle.mach_records.specs.FlagNames.{flag_named}
use Rattle.mach_cli.specs.Flags.{flag_words_text}
use Rattle.mach_records.specs.declared.flag_names.FlagName.{FlagName}
use Rattle.mach_cli.proofs.FlagWords.{words_more}
use Rattle.mach_cli.proofs.flags.print_words.Goals as goal

pub words-init : goal.words-init
words-init g c = ([], Appends-none (g.O.Write.contents c.args.out.now), refl)

pub words-preserved : goal.words-preserved
words-preserved g c =
    let before = c.words.invariant in
    let one = c.in_ok-left.ensures in (
      before.0 ++ one.text,
      Appends-both _ _ _ before.0 one.text before.1 one.written,
      words_more _ before.0 one.text _ _ _ _ c.args.words.now c.words.flag-index _ c.words-test.true before.2 one.occurs,
    )

pub returns : goal.returns
returns g c =
    let before = c.words.invariant in
    let left = c.words.left in
    let words = c.args.words.now in
    let is = before.2 ∙ ap (λ more. before.0 ++ more)
    (at_drop_all (λ (some : List FlagName). flag_words_text left.is_first (map flag_named some) left.rest) words c.words.flag-index c.words-test.false) in
    on_ok_weaker c.print_others.result
    (λ more. subst (λ (text : List ℕ). Appends (g.O.Write.contents c.args.out.now) (g.O.Write.contents c.print_others.new.out) text) (sym is)
    (Appends-both (g.O.Write.contents c.args.out.now) _ _ before.0 _ before.1 more))
    c.print_others.ensures
