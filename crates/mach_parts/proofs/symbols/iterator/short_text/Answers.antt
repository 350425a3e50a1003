use Rattle.std.proofs.Common.{arith}
use Rattle.mach_parts.proofs.ShortTexts.{short_text_is}
use Rattle.mach_parts.proofs.symbols.iterator.short_text.Goals as goal

pub returns : goal.returns
returns c = short_text_is c.args.bytes.now _ c.args.place _ (omega arith) c.in_ok-text.ensures.text (omega arith)
