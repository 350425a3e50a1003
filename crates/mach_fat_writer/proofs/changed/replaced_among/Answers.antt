use Rattle.std.proofs.Common.{◌∙◌, ap, map, sym}
use Rattle.std.proofs.lemmas.List.{take_all}
use Rattle.mach_fat_writer.specs.Entries.{entry_views, fat_entry_view}
use Rattle.mach_fat_writer.specs.Changes.{replaced_entry}
use Rattle.mach_fat_writer.proofs.Replaced.{none_replaced, replaced_are}
use Rattle.mach_fat_writer.proofs.changed.replaced_among.Goals as goal

pub returns-then-not-has_cpu_of : goal.returns-then-not-has_cpu_of
returns-then-not-has_cpu_of g c =
    none_replaced c.args.entries.now (fat_entry_view c.args.new.now) (sym c.has_cpu_of.ensures ∙ c.if-not-has_cpu_of.true)

pub returns : goal.returns
returns g c =
    let new = fat_entry_view c.args.new.now in
    replaced_are c.args.entries.now new c.loop-entry.replaced.items (sym c.has_cpu_of.ensures ∙ c.if-not-has_cpu_of.false)
    (c.loop-entry.invariant
    ∙ ap (λ es. map (replaced_entry new) (entry_views es)) (take_all c.loop-entry.entry-index c.args.entries.now c.loop-entry-test.false))
