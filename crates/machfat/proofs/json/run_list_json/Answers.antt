use Rattle.std.proofs.Common.{◌≡◌, ℕ, List, Option, Ok, Bool, true, false, arith, inl, subst}
use Rattle.std.specs.Io.Buffered.{writer_contents}
use Rattle.std.specs.Io.KnownBytes.{Appends}
use Rattle.machfat.specs.Lines.{ReportsDocument, document_text}
use Rattle.machfat.specs.ListedFiles.{ListedFile, has_at_most, listed_file_in}
use Rattle.machfat.proofs.json.run_list_json.Goals as goal

reports : (limit : ℕ) (file bytes : List ℕ) (found : ListedFile) (whole : Bool) (old new : Option (List ℕ)) → listed_file_in bytes ≡ Ok found
    → whole ≡ has_at_most limit found → Appends old new (document_text limit file bytes found) → ReportsDocument limit file bytes whole old new
reports limit file bytes found whole old new is enough written = record { file = found; is_file = is; is_whole = enough; written = written }

pub returns-in-Ok-clause-listed : goal.returns-in-Ok-clause-listed
returns-in-Ok-clause-listed g c = λ zero.
    let contents = writer_contents g.W.Write.contents in
    subst
    (λ (limit : ℕ). ReportsDocument limit c.args.file.now c.args.bytes.now true (contents c.args.out.now) (contents c.list_as.new.out))
    c.most_items.ensures
    (reports c.most_items.result c.args.file.now c.args.bytes.now _ _ _ _ c.in-Ok.ensures.held (c.list_as.ensures.whole zero)
    (c.list_as.ensures.listed (omega (arith, zero))))

pub returns-in-Ok-clause-refused : goal.returns-in-Ok-clause-refused
returns-in-Ok-clause-refused g c = λ one.
    let contents = writer_contents g.W.Write.contents in
    inl (subst
    (λ (limit : ℕ). ReportsDocument limit c.args.file.now c.args.bytes.now false (contents c.args.out.now) (contents c.list_as.new.out))
    c.most_items.ensures
    (reports c.most_items.result c.args.file.now c.args.bytes.now _ _ _ _ c.in-Ok.ensures.held (c.list_as.ensures.more one)
    (c.list_as.ensures.listed (omega (arith, one)))))
