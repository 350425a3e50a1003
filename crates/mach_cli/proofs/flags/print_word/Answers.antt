use Rattle.std.proofs.Common.{[], ◌++◌, ◌∙◌, sym}
use Rattle.mach_base.proofs.Written.{Appends-none, Appends-both}
use Rattle.mach_records.specs.FlagNames.{flag_named}
use Rattle.mach_cli.specs.Flags.{before_text}
use Rattle.mach_cli.proofs.FlagWords.{word_absent, word_there}
use Rattle.mach_cli.proofs.flags.print_word.Goals as goal

pub returns-then-is_clear : goal.returns-then-is_clear
returns-then-is_clear g c = record {
  text = [];
  written = Appends-none (g.O.Write.contents c.args.out.now);
  occurs = λ words. word_absent c.args.left.is_first (flag_named c.args.flag.now) words c.args.left.rest (sym c.is_clear.ensures ∙ c.if-is_clear.true);
}

pub returns : goal.returns
returns g c = record {
  text = before_text c.args.left.is_first ++ c.args.flag.now.name.now;
  written = Appends-both _ _ _ (before_text c.args.left.is_first) c.args.flag.now.name.now c.in_ok-print_before.ensures c.in_ok-write.ensures.bytes;
  occurs = λ words. word_there c.args.left.is_first (flag_named c.args.flag.now) words c.args.left.rest (sym c.is_clear.ensures ∙ c.if-is_clear.false);
}
