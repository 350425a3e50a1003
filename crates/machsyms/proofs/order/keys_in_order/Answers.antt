use Rattle.machsyms.proofs.order.keys_in_order.Goals as goal

pub returns : goal.returns
returns g c = record { given = c.in_ok-keys.keys.items; are_keys = c.in_ok-keys.ensures; are_sorted = c.in_ok-sort_keys.ensures }
