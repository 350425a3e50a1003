use Rattle.std.proofs.Common.{◌≡◌, [], drop, length, rules, arith}
use Rattle.std.proofs.lemmas.List.{drop_all}
use Rattle.mach_cli.proofs.Padding.{digits_from}
use Rattle.mach_cli.proofs.digits.digits_in.Goals as goal

pub digits-init : goal.digits-init
digits-init c =
    let long : length c.args.text.now ≡ 64 = search rules in
    let none : drop 64 c.args.text.now ≡ [] = drop_all 64 c.args.text.now (omega (arith, long)) in
    (omega arith, digits_from c.args.base c.args.number (drop 64 c.args.text.now) none)
