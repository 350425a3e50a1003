use Rattle.std.proofs.Common.{sym, ap, ◌∙◌, arith}
use Rattle.mach_fat_writer.specs.Entries.{entry_views, fat_entry_view}
use Rattle.mach_fat_writer.specs.FatForms.{fat_front}
use Rattle.std.proofs.lemmas.List.{length-map}
use Rattle.mach_fat_writer.proofs.Places.{ends_following}
use Rattle.mach_fat_writer.proofs.Set.{all_set, table_is}
use Rattle.mach_fat_writer.proofs.into.set_all.Goals as goal

pub set_front-table-requires-clause-room : goal.set_front-table-requires-clause-room
set_front-table-requires-clause-room g c =
    let later = ends_following c.args.from (entry_views c.args.entries.now) in
    let table = c.requires.table in
    let room = c.requires.room in
    omega (arith, later, table, room)

pub set_records-requires-clause-room : goal.set_records-requires-clause-room
set_records-requires-clause-room g c =
    let later = ends_following c.args.from (entry_views c.args.entries.now) in
    let table = table_is g.R.FatRecord.form g.R.Record.SIZE g.R.Record.fields c.args.entries.now c.args.from
    g.met.R.Record.lawful.sized g.met.R.FatRecord.has_form.0 c.requires.table in
    let room = c.requires.room in
    let front = c.set_front-table.ensures.end in
    let long = c.set_front-table.ensures.len in
    omega (arith, later, table, room, front, long)

pub returns : goal.returns
returns g c =
    let es = entry_views c.args.entries.now in
    let table = table_is g.R.FatRecord.form g.R.Record.SIZE g.R.Record.fields c.args.entries.now c.args.from
    g.met.R.Record.lawful.sized g.met.R.FatRecord.has_form.0 c.requires.table in
    let first = c.set_front-table.ensures.end in
    let second = c.set_records.ensures.end in
    all_set g.R.FatRecord.form es c.args.from c.args.out.now c.set_front-table.new.out c.set_records.new.out c.set_contents.new.out
    c.set_front-table.result c.set_records.result c.set_contents.result c.requires.table
    (c.set_front-table.ensures.front ∙ ap (fat_front g.R.FatRecord.form) (sym (length-map c.args.entries.now fat_entry_view)))
    c.set_front-table.ensures.rest
    (record { front = c.set_records.ensures.front; rest = c.set_records.ensures.rest; long = c.set_records.ensures.len }) (omega (arith, table, first, second))
    (omega (arith, second))
    (record { front = c.set_contents.ensures.front; rest = c.set_contents.ensures.rest; long = c.set_contents.ensures.len }) c.set_contents.ensures.end
