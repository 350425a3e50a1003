use Rattle.machinfo.specs.Initializers.{inits_left}
use Rattle.machinfo.proofs.json.write_inits.Goals as goal

pub returns-clause-shown : goal.returns-clause-shown
returns-clause-shown g c = λ bytes opened.
    let written = c.in_ok-write_items.ensures in
    (written.0, record { fields = inits_left c.in_ok-list.list; has = c.in_ok-list.ensures bytes opened; members = written.1 }, written.2)
