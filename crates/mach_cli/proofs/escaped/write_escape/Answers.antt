use Rattle.std.proofs.Common.{sym, arith}
use Rattle.std.proofs.lemmas.List.{length-take-le}
use Rattle.mach_cli.proofs.Written.{hidden_within}
use Rattle.mach_cli.proofs.escaped.write_escape.Goals as goal

pub slice_bounds-write_bytes-end : goal.slice_bounds-write_bytes-end
slice_bounds-write_bytes-end g c =
    let within = hidden_within c.args.bytes.now in
    sym (length-take-le _ _ (omega (arith, within, c.hidden_len.ensures)))
