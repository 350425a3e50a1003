-- A command is at the place where it was read.
use Rattle.std.proofs.Common.{◌≡◌, ℕ, ◌-◌, cond, ltb, List, length, Ok, Err, inl, inr, sym, ap}
use Rattle.mach_base.specs.declared.context.Endian.{Endian}
use Rattle.mach_base.specs.Fault.{malformed}
use Rattle.mach_base.specs.Record.{Value, number_among, record_at}
use Rattle.mach_base.proofs.Binds.{bind_ok, chosen, same_ok}
use Rattle.mach_records.specs.LoadCommandHeader.{header_fields}
use Rattle.mach_load.specs.Commands.{row_of}
use Rattle.mach_load.specs.Command.{Command, body_at, command_by, command_at}

pub offset_is : (le : Endian) (bytes : List ℕ) (s : ℕ) (c : Command) → command_at le bytes s ≡ Ok c → c.offset ≡ s
offset_is le bytes s c e =
    let header = bind_ok (record_at le header_fields bytes s)
    (λ (h : List Value). cond (ltb (length bytes - s) (number_among h 1)) (Err malformed) (command_by (row_of (number_among h 0)) le bytes s)) c e in
    let found = command_by (row_of (number_among header.0 0)) le bytes s in
    elim (chosen (ltb (length bytes - s) (number_among header.0 1)) (Err malformed) found (Ok c) header.2) [
      | inl none ↦ absurd (let wrong = none.1 in cc)
      | inr is ↦
          let row = row_of (number_among header.0 0) in
          let values = bind_ok (body_at row.body le bytes s) (λ (vs : List Value). Ok (record { offset = s; kind = row.kind; values = vs })) c is.1 in
          sym (ap (λ (x : Command). x.offset) (same_ok values.2))
    ]
