use Rattle.std.proofs.Common.{ap, rules}
use Rattle.mach_c_places.proofs.walk_numbers.numbers_of.Goals as goal

pub returns-clause-state : goal.returns-clause-state
returns-clause-state c = λ named. rw (c.place_in.ensures.text c.args.state.now.settings.name.now named, c.flag-2.ensures, c.flag-3.ensures) (search rules)

pub returns-clause-site : goal.returns-clause-site
returns-clause-site c = λ named.
    let s = c.args.state.now.settings in
    ap (λ n. record { name_place = n; library = s.library }) (c.place_in.ensures.place s.name.now named)
