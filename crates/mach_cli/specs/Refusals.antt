-- Why nothing is shown of a file or of an image, and the line that reports it.
use Rattle.std.specs.Prelude.{ℕ, List, ◌++◌, codes, Result, Ok, Err}
use Rattle.std.specs.Fmt.{decimal}
use Rattle.mach_base.specs.Fault.{Fault}
use Rattle.mach_base.specs.Words.{described, words_of}
use Rattle.mach_base.specs.declared.error.Error.{Error}
use Rattle.goblin_mach.specs.Items.{ContentView, archive_member, no_member, whole_file}
use Rattle.mach_cli.specs.Cpus.{no_entry_words, other_words}
use Rattle.goblin_mach.specs.FirstBytes.{foreign_words}
use Rattle.mach_cli.specs.Foreigners.{refused_words}
use Rattle.mach_cli.specs.Labels.{LabelView, label_suffix}
use Rattle.mach_cli.specs.TableEntries.{left_out_words, outside_words}
use Rattle.mach_cli.specs.declared.refusal.Refusal.{Refusal}
use Rattle.mach_cli.specs.declared.refusal.Refusal.TheVariants as refusals

abbrev pub memory_words : List ℕ
memory_words = codes "out of memory"

-- so many images of a file are shown, and there are more
abbrev pub limit_words : ℕ → List ℕ
limit_words count = codes "limit: only the first " ++ (decimal count ++ codes " of its images are shown")

-- the words of a refusal
abbrev pub refusal_reason : Refusal → List ℕ
refusal_reason (refusals.Kind kind) = foreign_words kind
refusal_reason (refusals.Fault words) = words_of (described words)
refusal_reason (refusals.OtherImage cpu) = other_words cpu
refusal_reason (refusals.NoEntry cpu) = no_entry_words cpu
refusal_reason refusals.Memory = memory_words
refusal_reason (refusals.Lacks words) = words.now
refusal_reason (refusals.OutOfFile outside) = outside_words outside
refusal_reason (refusals.LeftOut count) = left_out_words count
refusal_reason (refusals.Limit count) = limit_words count

-- why no image opens in the content of an item; of a member that isn't Mach-O it is its kind
abbrev pub content_words : ContentView → Error → List ℕ
content_words (archive_member m) e = refused_words m.bytes e
content_words (whole_file bytes) e = words_of e
content_words no_member e = words_of e

abbrev pub item_words : Result ContentView Fault → Error → List ℕ
item_words (Ok content) e = content_words content e
item_words (Err f) e = words_of e

-- the line on the error output that says why nothing, or no more, is shown of what has a label in a file; `names` are those of
-- the program and of the file
abbrev pub label_complaint : (names : List ℕ) → LabelView → (words : List ℕ) → List ℕ
label_complaint names label words = names ++ (label_suffix label ++ (codes ": " ++ (words ++ codes "\n")))

-- the same of the file itself
abbrev pub complaint : (names words : List ℕ) → List ℕ
complaint names words = names ++ (codes ": " ++ (words ++ codes "\n"))
