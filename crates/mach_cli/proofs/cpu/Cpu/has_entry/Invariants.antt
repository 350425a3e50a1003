use Rattle.std.proofs.Common.{◌≡◌, false, take}
use Rattle.std.specs.List.{list_any}
use Rattle.mach_cli.specs.Cpus.{is_selected}
use Rattle.mach_cli.proofs.cpu.Cpu.has_entry.Given as goal

abbrev pub invariant-archs : goal.invariant-archs
invariant-archs l = list_any (is_selected l.self) (take l.arch-index l.archs) ≡ false
