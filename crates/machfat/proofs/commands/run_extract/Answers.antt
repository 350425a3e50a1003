use Rattle.std.proofs.lemmas.Result.{IfErr-at_err}
use Rattle.mach_fat_writer.specs.Changes.{indexed_entry_in}
use Rattle.machfat.specs.Refusals.{Refuses, IsRefusal}
use Rattle.machfat.proofs.Placed.{ok_then}
use Rattle.machfat.proofs.commands.run_extract.Goals as goal

pub returns-clause-extracted : goal.returns-clause-extracted
returns-clause-extracted g c = λ zero.
    ok_then _ c.extract.result (c.status.ensures.only zero) c.extract.ensures.extracted (λ whole found. (found.0, found.1, (whole, found.2)))

pub returns-clause-refused : goal.returns-clause-refused
returns-clause-refused g c = λ one.
    let reported = c.status.ensures.refused one in
    let bytes = c.args.bytes.now in
    (reported.0, IfErr-at_err (IsRefusal (Refuses bytes (indexed_entry_in bytes c.args.index))) reported.1 c.extract.ensures.refused, reported.2)
