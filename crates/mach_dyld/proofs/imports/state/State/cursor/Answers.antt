use Rattle.std.proofs.Common.{rules}
use Rattle.std.proofs.Common.{ap}
use Rattle.mach_dyld.proofs.imports.state.State.cursor.Goals as goal

pub returns-clause-state : goal.returns-clause-state
returns-clause-state c = λ named. rw (c.place_in.ensures.text c.args.self.now.settings.name.now named, c.flag.ensures, c.flag-2.ensures) (search rules)

pub returns-clause-site : goal.returns-clause-site
returns-clause-site c = λ named.
    let s = c.args.self.now.settings in
    ap (λ n. record { name_place = n; library = s.library }) (c.place_in.ensures.place s.name.now named)
