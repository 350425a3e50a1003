-- The message about a fat file that can't be created.
use Rattle.std.specs.Prelude.{ℕ, List, [], slice_get, Option, Some, None}
use Rattle.std.specs.Borrow.{Bor}
use Rattle.mach_fat_writer.specs.declared.refusal.MakeRefusal.{MakeRefusal}
use Rattle.mach_fat_writer.specs.declared.refusal.MakeRefusal.TheVariants.{OfFile, OfAll}
use Rattle.machfat.specs.Outside.{refused_entries}
use Rattle.machfat.specs.Refusals.{refusal_line}
use Rattle.machfat.specs.declared.refusal.Refusal.TheVariants.{Refused, Entries}

abbrev pub now_or_none : Option (Bor (List ℕ)) → List ℕ
now_or_none (Some text) = text.now
now_or_none None = []

-- the name of a file, or its bytes, by its index among the given ones
abbrev pub given_text : List (Bor (List ℕ)) → ℕ → List ℕ
given_text texts i = now_or_none (slice_get texts i)

-- the line on the error output about files with these names and bytes, with the name of the file that is refused, or of the target
abbrev pub make_line : (names files : List (Bor (List ℕ))) → List ℕ → MakeRefusal → List ℕ
make_line names files target (OfFile refusal) =
    refusal_line (given_text names refusal.file) (Entries (refused_entries (given_text files refusal.file) refusal.why))
make_line names files target (OfAll e) = refusal_line target (Refused e)
