use Rattle.machsign.proofs.write_found.Goals as goal

pub returns-clause-written : goal.returns-clause-written
returns-clause-written g c = λ zero.
    let found = c.run_entitlements.ensures.written zero in
    (found.0, found.1, found.2, c.run_entitlements.ensures.flushed zero)
