use Rattle.std.proofs.Common.{◌-◌, arith}
use Rattle.mach_base.proofs.ItemLists.{length-items_from}
use Rattle.mach_parts.specs.ArchForms.{arch_in}
use Rattle.goblin_mach.proofs.fat_file.arches.ArchIterator.new.Goals as goal

pub returns-clause-bounded : goal.returns-clause-bounded
returns-clause-bounded g c = omega (arith, c.ranges.narches, length-items_from (arch_in g.R.ArchRecord.arch_form c.args.bytes.now) 0 (c.args.narches - 0))
