use Rattle.std.proofs.Common.{List, ℕ, drop}
use Rattle.std.specs.Io.KnownBytes.{Appends}
use Rattle.goblin_mach.specs.OpenImage.{IsLossyImage}
use Rattle.mach_cli.proofs.AddressRows.{Completed}
use Rattle.mach_cli.proofs.address.view.write_rows.Given as goal

abbrev pub invariant-addresses : goal.invariant-addresses
invariant-addresses g l =
    (text : List ℕ) × Appends (g.O.Write.contents l.fn.out) (g.O.Write.contents l.out) text
    × ((bytes : List ℕ) → IsLossyImage bytes 0 l.loaded.image.now
    → Completed (g.R.AddressRow.row_text l.form l.file) l.loaded.load_address bytes l.addresses text l.whole l.is_first (drop l.address-index l.addresses))
