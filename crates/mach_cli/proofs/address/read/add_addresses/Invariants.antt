use Rattle.mach_cli.proofs.AddressesRead.{Reads}
use Rattle.mach_cli.proofs.address.read.add_addresses.Given as goal

abbrev pub invariant-lines : goal.invariant-lines
invariant-lines g l = Reads l.lines l.fn.addresses.items l.addresses.items l.index
