use Rattle.mach_dyld.proofs.BindNames.{arith}
use Rattle.mach_dyld.proofs.BindPlaced.{outside_named, place_inside, place_outside}
use Rattle.mach_dyld.proofs.imports.cursor.place_in.Goals as goal

pub returns-then-place-bytes-clause-place : goal.returns-then-place-bytes-clause-place
returns-then-place-bytes-clause-place c = λ name named. place_inside c.args.bytes.now name c.args.place named

pub returns-else-place-bytes-clause-text : goal.returns-else-place-bytes-clause-text
returns-else-place-bytes-clause-text c = λ name named. outside_named c.args.bytes.now name c.args.place (omega arith) named

pub returns-else-place-bytes-clause-place : goal.returns-else-place-bytes-clause-place
returns-else-place-bytes-clause-place c = λ name named. place_outside c.args.bytes.now name c.args.place (omega arith) named
