use Rattle.machinfo.proofs.summary.print_list.Goals as goal

pub returns : goal.returns
returns g c =
    let l = c.in_ok-outcome.ensures in
    (l.text, record { rest = c.in_ok-outcome.outcome.left; lines = l.lines }, l.written)
