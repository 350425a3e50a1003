use Rattle.std.proofs.Common.{length}
use Rattle.mach_base.specs.Fault.{too_big}
use Rattle.mach_records.specs.LoadCommandHeader.{header_fields, header_values}
use Rattle.mach_load.specs.Commands.{row_of}
use Rattle.mach_load.proofs.CommandFronts.{record-inside, by_there, refused_there}
use Rattle.mach_load.proofs.variant.CommandVariant.read.Goals as goal

pub returns-in-Some : goal.returns-in-Some
returns-in-Some c =
    let inside = record-inside c.args.le header_fields c.args.bytes.now c.args.offset (header_values c.args.header) c.requires in
    by_there c.args.le c.args.bytes.now c.args.offset inside (row_of c.args.header.cmd) c.in-Some.found (rw (← c.rest_at-rest.ensures) c.in-Some.ensures.ok)

pub returns-in-None : goal.returns-in-None
returns-in-None c =
    let inside = record-inside c.args.le header_fields c.args.bytes.now c.args.offset (header_values c.args.header) c.requires in
    refused_there c.args.le c.args.bytes.now c.args.offset inside (row_of c.args.header.cmd)
    (too_big c.quick.new.lacking (length c.rest_at-rest.result.now)) (rw (← c.rest_at-rest.ensures) c.in-None.ensures.err)
