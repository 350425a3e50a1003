use Rattle.std.proofs.Common.{map, arith}
use Rattle.std.proofs.lemmas.List.{length-map}
use Rattle.mach_command_fields.specs.CommandTables.{field_place}
use Rattle.mach_command_fields.proofs.Within.{no_more_fields}
use Rattle.mach_command_fields.proofs.fields.CommandFields.of.Goals as goal

pub returns-clause-most : goal.returns-clause-most
returns-clause-most c =
    let rest = c.fields_of.result.now in
    let own = c.command_slice-own.result.now in
    let fewer = no_more_fields c.args.le own own c.args.place (map field_place rest) in
    let as_many = length-map rest field_place in
    let most = c.fields_of.ensures.most in
    omega (arith, fewer, as_many, most)
