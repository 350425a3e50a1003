use Rattle.machinfo.proofs.part_lines.print_after.Goals as goal

pub returns : goal.returns
returns g c = λ bytes opened.
    let printed = c.in_ok-use_list.ensures bytes opened in
    let lines = rw c.past_name.ensures at printed.1 in
    (printed.0, (c.in_ok-use_list.field-0.left, lines), printed.2)
