use Rattle.std.proofs.Common.{ℕ, length, min, refl}
use Rattle.std.proofs.lemmas.List.{drop-replicate}
use Rattle.mach_command_fields.proofs.fields.CommandField.padded_name.Goals as goal

pub returns : goal.returns
returns c =
    let words = c.args.self.now.name.now in
    rw (c.copy_from_slice.ensures.after, c.min-end.ensures, c.as_bytes-words.ensures.value, drop-replicate {X = ℕ} (min (length words) 23) 24 0) refl
