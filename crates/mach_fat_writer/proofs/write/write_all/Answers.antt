use Rattle.std.proofs.Common.{◌≡◌, ◌++◌, ℕ, List, length, sym, ap, ◌∙◌}
use Rattle.std.proofs.lemmas.List.{length-map}
use Rattle.mach_fat_writer.specs.Entries.{fat_entry_view, entry_views}
use Rattle.mach_fat_writer.specs.FatForms.{fat_front, fat_records, fat_contents}
use Rattle.mach_fat_writer.proofs.Files.{bytes_are}
use Rattle.mach_fat_writer.proofs.write.write_all.Goals as goal

pub returns-clause-written : goal.returns-clause-written
returns-clause-written g c =
    let form = g.R.FatRecord.form in
    let given = c.args.entries.now in
    let es = entry_views given in
    let front : c.put_front.new.out.items ≡ fat_front form (length es) =
    c.in_ok-put_front.ensures
    ∙ (ap (λ (xs : List ℕ). xs ++ fat_front form (length given)) c.in_ok-out.ensures.items ∙ ap (fat_front form) (sym (length-map given fat_entry_view)))
    in
    c.in_ok-put_contents.ensures
    ∙ (ap (λ (xs : List ℕ). xs ++ fat_contents c.args.from es)
    (c.in_ok-put_records.ensures ∙ ap (λ (xs : List ℕ). xs ++ fat_records form c.args.from es) front)
    ∙ bytes_are form es c.args.from c.requires.table)
