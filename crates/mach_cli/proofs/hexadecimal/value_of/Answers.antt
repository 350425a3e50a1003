use Rattle.std.proofs.Common.{◌∙◌, ◌≤◌, length, sym, arith}
use Rattle.mach_cli.proofs.HexWords.{value_read}
use Rattle.mach_cli.proofs.hexadecimal.value_of.Goals as goal

pub returns : goal.returns
returns c =
    let plus = c.starts_with.ensures.byte (omega arith) (omega arith) (λ w o h. h) in
    let few : length c.args.digits.now ≤ c.args.most = omega arith in
    c.ok.ensures.value
    ∙ value_read c.args.most c.args.digits.now c.from_str_radix.result c.requires few (sym plus ∙ c.if-starts_with.false) c.from_str_radix.ensures.value
