use Rattle.std.proofs.Common.{◌∙◌, ◌+◌, ◌∷◌, take, sym, ap, subst}
use Rattle.std.proofs.lemmas.List.{take_rest}
use Rattle.memchr.specs.Find.{IsFirstByte, is_byte}
use Rattle.mach_cli.specs.Listed.{listed_names}
use Rattle.mach_cli.proofs.ListedNames.{name_on, last_name}
use Rattle.mach_cli.proofs.named.first_name.Goals as goal

pub returns-in-Some-clause-first : goal.returns-in-Some-clause-first
returns-in-Some-clause-first c =
    let list = c.args.list.now in
    let end = c.args.end in
    name_on end list c.in-Some.at (subst (IsFirstByte (is_byte end) list) c.in-Some.is c.memchr.ensures)
    ∙ ap (λ following. take c.in-Some.at list ∷ listed_names end following) (sym (take_rest list (c.in-Some.at + 1)))

pub returns-in-None-clause-last : goal.returns-in-None-clause-last
returns-in-None-clause-last c =
    let list = c.args.list.now in
    last_name c.args.end list (subst (IsFirstByte (is_byte c.args.end) list) c.in-None.is c.memchr.ensures)
