use Rattle.std.proofs.Common.{◌≡◌, Ok, subst}
use Rattle.mach_fat_writer.specs.Entries.{entry_views, fat_entry_view}
use Rattle.mach_fat_writer.specs.Changes.{replaced_among}
use Rattle.mach_fat_writer.specs.Unfit.{RefusesAs}
use Rattle.mach_fat_writer.specs.FatTables.{form_of}
use Rattle.mach_fat_writer.proofs.Replaced.{fat_refused, new_refused, cpu_refused, replaced_there}
use Rattle.mach_fat_writer.proofs.changed.replaced_in.Goals as goal

pub returns-in-Err-clause-refused : goal.returns-in-Err-clause-refused
returns-in-Err-clause-refused g c = fat_refused c.args.bytes.now c.args.new.now (form_of c.args.form) c.in-Err.why c.in-Err.ensures

pub returns-in-Err-entry_of-clause-refused : goal.returns-in-Err-entry_of-clause-refused
returns-in-Err-entry_of-clause-refused g c =
    new_refused c.args.bytes.now c.args.new.now (form_of c.args.form) (entry_views c.in-Ok.entries.items) c.in-Err-entry_of.why c.in-Ok.ensures
    c.in-Err-entry_of.ensures

pub returns-in-Ok-replaced_among-clause-entries : goal.returns-in-Ok-replaced_among-clause-entries
returns-in-Ok-replaced_among-clause-entries g c =
    let e = fat_entry_view c.in-Ok-entry_of.entry in
    let replaced = entry_views c.in-Ok-replaced_among.replaced.items in
    replaced_there c.args.bytes.now c.args.new.now (form_of c.args.form) (entry_views c.in-Ok.entries.items) replaced e c.in-Ok.ensures
    c.in-Ok-entry_of.ensures
    (subst (λ es. replaced_among (entry_views es) e ≡ Ok replaced) c.as_slice.ensures.value c.in-Ok-replaced_among.ensures)

pub returns-clause-refused : goal.returns-clause-refused
returns-clause-refused g c =
    let e = fat_entry_view c.in-Ok-entry_of.entry in
    let why = c.in-Err-replaced_among.why in
    cpu_refused c.args.bytes.now c.args.new.now (form_of c.args.form) (entry_views c.in-Ok.entries.items) e why c.in-Ok.ensures
    c.in-Ok-entry_of.ensures
    (subst (λ es. RefusesAs why (replaced_among (entry_views es) e)) c.as_slice.ensures.value c.in-Err-replaced_among.ensures)
