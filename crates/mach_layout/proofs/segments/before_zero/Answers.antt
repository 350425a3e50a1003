use Rattle.std.proofs.Common.{rules, tests, ap, take, ◌∙◌}
use Rattle.std.proofs.lemmas.Iterator.{YieldsList-from_slice}
use Rattle.std.proofs.lemmas.Iterator.Search.{position_from_yields_List}
use Rattle.mach_base.specs.Text.{is_zero}
use Rattle.mach_layout.proofs.Names.{first_place_or_len}
use Rattle.mach_layout.proofs.segments.before_zero.Goals as goal

pub returns : goal.returns
returns c =
    let name = c.args.name.now in
    let found = position_from_yields_List is_zero _ _ c.position.result c.position.ensures.ran
    (YieldsList-from_slice name c.iter.ensures.rest) (λ x b q k. search (rules, tests)) in
    ap (λ n. take n name) (c.unwrap_or-len.ensures ∙ first_place_or_len is_zero name c.position.result found)
