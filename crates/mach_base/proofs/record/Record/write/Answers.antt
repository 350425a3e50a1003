use Rattle.std.proofs.Common.{◌≡◌, ◌+◌, ◌-◌, length, take, drop, ap, ◌∙◌, arith}
use Rattle.std.proofs.lemmas.List.{length-drop, length-take}
use Rattle.mach_base.proofs.Spelled.{length-spelling, record_at-spelling}
use Rattle.mach_base.proofs.record.Record.write.Goals as goal

pub copy_from_slice-requires : goal.copy_from_slice-requires
copy_from_slice-requires g c =
    omega (
      arith,
      length-take (c.args.offset + c.SIZE-2.result - c.args.offset) (drop c.args.offset c.args.bytes.now),
      length-drop c.args.offset c.args.bytes.now,
      ap length (c.as_slice.ensures ∙ c.bytes_of-spelled.ensures.spelled),
      length-spelling c.args.le g.Self.Record.fields (g.Self.Record.values c.args.self.now) c.bytes_of-spelled.ensures.fits,
      g.met.Self.Record.lawful.sized,
      c.SIZE.ensures,
      c.SIZE-2.ensures,
    )

pub returns-clause-read_back : goal.returns-clause-read_back
returns-clause-read_back g c =
    let front = take c.args.offset c.args.bytes.now in
    let len : length front ≡ c.args.offset = omega (arith, length-take c.args.offset c.args.bytes.now) in
    let rest = drop (c.args.offset + c.SIZE-2.result - c.args.offset) (drop c.args.offset c.args.bytes.now) in
    rw (c.copy_from_slice.ensures.after, c.as_slice.ensures, c.bytes_of-spelled.ensures.spelled)
    (record_at-spelling c.args.le g.Self.Record.fields (g.Self.Record.values c.args.self.now) c.args.offset front rest len
    c.bytes_of-spelled.ensures.fits (omega (arith, g.met.Self.Record.lawful.sized, g.met.Self.Record.lawful.some)))
