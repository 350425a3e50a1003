-- What a caller sees of a load command that goblin's table lacks.
use Rattle.mach_records.specs.Contents.{target_triple_command_values}
use Rattle.mach_records.specs.Linkedit.{linkedit_data_command_values}
use Rattle.mach_load.specs.Newer.{Newer}
use Rattle.mach_load.specs.Newer as newer
use Rattle.mach_load.specs.declared.newer.NewerCommand.{NewerCommand}
use Rattle.mach_load.specs.declared.newer.NewerCommand.TheVariants as v

abbrev pub newer_view : NewerCommand → Newer
newer_view (v.AtomInfo c) = record { kind = newer.atom_info; values = linkedit_data_command_values c }
newer_view (v.FunctionVariants c) = record { kind = newer.function_variants; values = linkedit_data_command_values c }
newer_view (v.FunctionVariantFixups c) = record { kind = newer.function_variant_fixups; values = linkedit_data_command_values c }
newer_view (v.TargetTriple c) = record { kind = newer.target_triple; values = target_triple_command_values c }
