use Rattle.std.proofs.Common.{◌≡◌, ◌∙◌, Ok, sym, ap, subst, arith}
use Rattle.std.specs.Str.{IsUtf8}
use Rattle.mach_base.specs.Text.{text_at}
use Rattle.mach_base.proofs.Within.{text_within}
use Rattle.mach_base.proofs.kept_text.KeptText.cut.Goals as goal

pub returns : goal.returns
returns c =
    let k = c.args.self.now in
    let there : text_at k.bytes.now k.start ≡ Ok k.text.now = k.there (omega (arith, c.requires)) in
    let good = subst IsUtf8 c.range_from.ensures.value c.range_from.utf8 in
    text_within k.bytes.now k.text.now k.start c.args.from there c.requires good ∙ ap Ok (sym c.range_from.ensures.value)
