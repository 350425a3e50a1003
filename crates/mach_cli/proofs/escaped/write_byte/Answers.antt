use Rattle.std.proofs.Common.{◌≡◌, ◌∷◌, ◌∙◌, [], false, rules, sym}
use Rattle.std.proofs.Output.{has_written_of_eq}
use Rattle.std.proofs.lemmas.Fmt.{hex_byte}
use Rattle.mach_cli.proofs.escaped.write_byte.Goals as goal

pub returns-in-Ok : goal.returns-in-Ok
returns-in-Ok g c plain ok =
    let text : (92 ∷ 120 ∷ c.digit.result ∷ c.digit-2.result ∷ []) ≡ c.in-Ok.text.now = search rules in
    has_written_of_eq _ _ _ _ _ (sym text ∙ rw (hex_byte false c.args.byte c.ranges.byte.fits) (search rules)) (c.write_str.ensures.writes plain ok)
