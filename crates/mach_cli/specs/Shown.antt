-- What a program shows of a file: the text on its output, and the reasons for refusals on its error output.
use Rattle.std.specs.Prelude.{◌≡◌, ◌==◌, ℕ, List, [], ◌∷◌, ◌++◌, codes, Bool, true, false, ◌&&◌, not, Option, Some, None, Result, Ok, Err, nat_lt}
use Rattle.std.specs.Prelude.{if◌then◌else◌}
use Rattle.std.specs.Io.KnownBytes.{Appends}
use Rattle.mach_base.specs.Answer.{ErrorMeets}
use Rattle.mach_base.specs.Fault.{Fault}
use Rattle.mach_base.specs.declared.error.Error.{Error}
use Rattle.mach_parts.specs.ArchForms.{arch_form_32}
use Rattle.mach_parts.specs.declared.fat.FatArch.{FatArch}
use Rattle.goblin_mach.specs.FatFile.{FatFile, fat_file_in, arches_in}
use Rattle.goblin_mach.specs.File.{HasFatMagic}
use Rattle.goblin_mach.specs.Image.{ImageFault, LossyFault, LossyOpens, Opens}
use Rattle.goblin_mach.specs.Items.{ContentView, ItemView, archive_member, content_bytes, items_in, no_member, whole_file}
use Rattle.goblin_mach.specs.View.{IsReported, ReportsFault, ViewFault}
use Rattle.mach_cli.specs.Bounds.{most_images}
use Rattle.mach_cli.specs.Cpus.{misses, IsTaken, no_entry_words, other_words}
use Rattle.mach_cli.specs.declared.cpu.Cpu.{Cpu}
use Rattle.mach_cli.specs.Foreigners.{refused_words}
use Rattle.mach_cli.specs.Labels.{LabelView, label_of, unlabelled}
use Rattle.mach_cli.specs.Names.{names_text}
use Rattle.mach_cli.specs.Refusals.{complaint, content_words, item_words, label_complaint, limit_words, memory_words}
use Rattle.mach_cli.specs.Selected.{omitted_of, parts_within}
use Rattle.mach_cli.specs.PartsOf.{items_before}
use Rattle.mach_cli.specs.Sinks.{SinkTexts}
use Rattle.mach_cli.specs.TableEntries.{archs_left_out, archs_shown, left_out_words, outside_at, outside_words}
use Rattle.mach_cli.specs.declared.document.Document.{Document}
use Rattle.mach_cli.specs.declared.entries.OutOfFile.{OutOfFile}
use Rattle.mach_cli.specs.declared.image_view.Outcome.{Outcome}
use Rattle.mach_cli.specs.declared.omitted.Omitted.{Omitted}

-- What a program prints of an image, with no more than `left` lines or rows: a relation of that number, the bytes at whose
-- start the image opens, the text, whether that is whole, and how many more lines may be printed after it.
abbrev pub ImageLines : Type 1
ImageLines = (left : ℕ) → (bytes text : List ℕ) → (whole : Bool) → (rest : ℕ) → Type 0

-- the lines of a program that has no limit
abbrev pub without_limit : (List ℕ → List ℕ → Bool → Type 0) → ImageLines
without_limit lines = λ left bytes text whole rest. lines bytes text whole

-- what is shown: the text on the output, the complaints on the error output, whether nothing was refused and each image is whole,
-- and how many more lines may be printed for later images
pub record Shown : Type 0 where
  pub text : List ℕ
  pub message : List ℕ
  pub whole : Bool
  pub left : ℕ

-- nothing yet
abbrev pub nothing : (left : ℕ) → Shown
nothing left = record { text = []; message = []; whole = true; left = left }

-- one after the other
abbrev pub both : Shown → Shown → Shown
both first second = record {
  text = first.text ++ second.text;
  message = first.message ++ second.message;
  whole = first.whole && second.whole;
  left = second.left;
}

-- How a file is shown: by the texts of a sink, with the names of the program and of the file, under the file's name, with what a program
-- prints of an image, and whether in lossy mode if strict mode refuses an image.
pub record Way : Type 1 where
  pub texts : SinkTexts
  pub names : List ℕ
  pub file : List ℕ
  pub is_lossy : Bool
  pub lines : ImageLines

abbrev pub way_of : SinkTexts → (program file : List ℕ) → (is_lossy : Bool) → ImageLines → Way
way_of texts program file is_lossy lines =
    record { texts = texts; names = names_text program file; file = file; is_lossy = is_lossy; lines = lines }

abbrev pub way_in : {V K : Type 0} → SinkTexts → (V → (file : List ℕ) → (limit : ℕ) → ImageLines) → Document V K → Way
way_in texts lines d = way_of texts d.names.program.now d.names.file.now d.is_lossy (lines d.view.now d.names.file.now d.limit)

-- Something is shown, with this outcome, and written on the two outputs.
pub record Prints (Shows : Shown → Type 0) (outcome : Outcome) (out_old out_new err_old err_new : Option (List ℕ)) : Type 0 where
  pub shown : Shown
  pub shows : Shows shown
  pub whole : shown.whole ≡ outcome.whole
  pub left : shown.left ≡ outcome.left
  pub text : Appends out_old out_new shown.text
  pub message : Appends err_old err_new shown.message

-- The bytes are a fat file whose table lies in them, and these are its records.
pub record IsFatTable (bytes : List ℕ) (file : FatFile) (archs : List FatArch) : Type 0 where
  pub magic : HasFatMagic bytes
  pub is_file : fat_file_in bytes ≡ Ok file
  pub table : arches_in file ≡ Ok archs

-- A fault of an item: it can't be read, or no image opens in it, by the faults of a mode: `ImageFault` or `LossyFault`.
abbrev pub FaultOfItem : (InMode : List ℕ → ℕ → Fault → Type 0) → Result ContentView Fault → Fault → Type 0
FaultOfItem InMode (Ok (whole_file bytes)) f = InMode bytes 0 f
FaultOfItem InMode (Ok (archive_member m)) f = InMode m.bytes 0 f
FaultOfItem InMode (Ok no_member) f = ⊥
FaultOfItem InMode (Err fault) f = fault ≡ f

-- an image may open in it
abbrev pub IsMemberOrFile : ContentView → Type 0
IsMemberOrFile (whole_file bytes) = Unit {0}
IsMemberOrFile (archive_member m) = Unit {0}
IsMemberOrFile no_member = ⊥

-- what isn't shown for a reason
abbrev pub not_shown : Way → LabelView → (words : List ℕ) → (left : ℕ) → Shown
not_shown w label words left =
    record { text = w.texts.refused_image label words; message = label_complaint w.names label words; whole = false; left = left }

-- How an image opens, and what is reported of it first: strictly, and nothing; or, if that is selected, in lossy mode, and the fault for which
-- strict mode refuses it.
pub data OpensAfter (is_lossy : Bool) (bytes : List ℕ) (IsFault : Fault → Type 0) (words : Error → List ℕ) : Option (List ℕ) → Type 0 where
  opens_strictly : Opens bytes 0 → OpensAfter is_lossy bytes IsFault words None
  opens_lossily : (e : Error) → is_lossy ≡ true → ReportsFault IsFault e → LossyOpens bytes 0 → OpensAfter is_lossy bytes IsFault words (Some (words e))

-- What is shown of an image that opens: what the program prints of it, or that memory ran out.
pub data ShowsImage (w : Way) (left : ℕ) (label : LabelView) (bytes : List ℕ) : Shown → Type 0 where
  image_printed : (text : List ℕ) (whole : Bool) (rest : ℕ) → w.lines left bytes text whole rest
      → ShowsImage w left label bytes (record { text = text ++ w.texts.image_end; message = []; whole = whole; left = rest })
  no_memory : ShowsImage w left label bytes (not_shown w label memory_words left)

-- what is shown after these words are reported, if there are some; then it isn't whole
abbrev pub after_report : Way → LabelView → Option (List ℕ) → Shown → Shown
after_report w label None shown = shown
after_report w label (Some words) shown =
    record { text = shown.text; message = label_complaint w.names label words ++ shown.message; whole = false; left = shown.left }

abbrev pub ShowsAfter : (w : Way) → (left : ℕ) → (label : LabelView) → (bytes : List ℕ) → Option (List ℕ) → Shown → Type 0
ShowsAfter w left label bytes words shown = (one : Shown) × ShowsImage w left label bytes one × (shown ≡ after_report w label words one)

-- What is shown of an item that is begun under its label, and may be an entry that is out of the file: its image; that it is an archive without
-- members; or why it isn't shown, a fault that it has, that memory ran out, or that it is out of the file. If lossy mode is selected, a fault of
-- strict mode is reported, and lossy mode refuses it too.
pub data ShowsItem (w : Way) (left : ℕ) (label : LabelView) : Option OutOfFile → Result ContentView Fault → Shown → Type 0 where
  an_image : (content : ContentView) (words : Option (List ℕ)) (shown : Shown)
      → OpensAfter w.is_lossy (content_bytes content) (FaultOfItem ImageFault (Ok content)) (content_words content) words
      → ShowsAfter w left label (content_bytes content) words shown → ShowsItem w left label None (Ok content) shown
  no_image : (content : Result ContentView Fault) (e : Error) → ErrorMeets (FaultOfItem ImageFault content) e
      → (w.is_lossy ≡ true → IsReported e → (f : Fault) × FaultOfItem LossyFault content f)
      → ShowsItem w left label None content (not_shown w label (item_words content e) left)
  an_archive : ShowsItem w left label None (Ok no_member) (record { text = w.texts.archive; message = []; whole = true; left = left })
  no_part : (outside : OutOfFile) (content : Result ContentView Fault)
      → ShowsItem w left label (Some outside) content (not_shown w label (outside_words outside) left)

-- what is before an item: a separator, if it isn't the first, and what begins an image
abbrev pub item_front : SinkTexts → (file : List ℕ) → (is_first : Bool) → LabelView → List ℕ
item_front k file is_first label = (if is_first then [] else k.separator) ++ k.image_front file label

abbrev pub after : (front : List ℕ) → Shown → Shown
after front shown = record { text = front ++ shown.text; message = shown.message; whole = shown.whole; left = shown.left }

-- What is shown of these items of a file, in order. An item has no more lines than those before it left.
pub data ShowsItems (w : Way) (bytes : List ℕ) : (is_first : Bool) → (left : ℕ) → List ItemView → Shown → Type 0 where
  no_items : (is_first : Bool) (left : ℕ) → ShowsItems w bytes is_first left [] (nothing left)
  first_item : (is_first : Bool) (left : ℕ) (x : ItemView) (xs : List ItemView) (shown later : Shown)
      → ShowsItem w left (label_of x.place x.content) (outside_at arch_form_32 bytes x.place.entry) x.content shown
      → ShowsItems w bytes false shown.left xs later
      → ShowsItems w bytes is_first left (x ∷ xs) (both (after (item_front w.texts w.file is_first (label_of x.place x.content)) shown) later)

-- a file with what is shown of its one image
abbrev pub whole_of : Way → Shown → Shown
whole_of w shown = record {
  text = w.texts.file_front 0 ++ (item_front w.texts w.file true unlabelled ++ (shown.text ++ w.texts.file_end false (codes "image") w.file));
  message = shown.message;
  whole = shown.whole;
  left = shown.left;
}

-- the lines that say that the limit leaves out more images, if it does, and how many entries are left out, if there are some
abbrev pub line_if : (names : List ℕ) → (occurs : Bool) → (words : List ℕ) → List ℕ
line_if names occurs words = if occurs then complaint names words else []

abbrev pub omitted_lines : (names : List ℕ) → Omitted → List ℕ
omitted_lines names o = line_if names o.is_cut (limit_words (most_images o.limit)) ++ line_if names (nat_lt 0 o.left_out) (left_out_words o.left_out)

-- a fat file with what is shown of its items, and what is omitted
abbrev pub fat_of : Way → Omitted → Shown → Shown
fat_of w o shown = record {
  text = w.texts.file_front o.left_out ++ (shown.text ++ w.texts.file_end o.is_cut (codes "fat file") w.file);
  message = shown.message ++ omitted_lines w.names o;
  whole = shown.whole && (not o.is_cut && (o.left_out == 0));
  left = shown.left;
}

-- the items of a fat file with these records, up to the first entry that isn't shown
abbrev pub archs_items : (bytes : List ℕ) → List FatArch → List ItemView
archs_items bytes archs = items_before (archs_shown bytes archs) (items_in bytes)

-- a file of which nothing is shown, and why
abbrev pub refused_for : Way → (words : List ℕ) (left : ℕ) → Shown
refused_for w words left = record { text = w.texts.refused_file w.file words; message = complaint w.names words; whole = false; left = left }

-- What is shown of a file: its one image, if its cpu is selected; of a fat file the selected items of its first entries, as long as
-- these have no more bytes together than the file; or why it is refused, a fault that it has, or that memory ran out. The
-- limit is that of the lines of all its images together, and of its images (`most_images`).
pub data ShowsFile (w : Way) (cpu : Cpu) (limit : ℕ) (bytes : List ℕ) : Shown → Type 0 where
  one_image : (words : Option (List ℕ)) (shown : Shown) → IsTaken cpu bytes true
      → OpensAfter w.is_lossy bytes (ViewFault bytes) (refused_words bytes) words → ShowsAfter w limit unlabelled bytes words shown
      → ShowsFile w cpu limit bytes (whole_of w shown)
  other_image : IsTaken cpu bytes false → ShowsFile w cpu limit bytes (refused_for w (other_words cpu) limit)
  fat_file : (file : FatFile) (archs : List FatArch) (shown : Shown) → IsFatTable bytes file archs → misses cpu archs ≡ false
      → ShowsItems w bytes true limit (parts_within (most_images limit) cpu (archs_items bytes archs)) shown
      → ShowsFile w cpu limit bytes (fat_of w (omitted_of limit cpu (archs_items bytes archs) (archs_left_out bytes archs)) shown)
  no_entry : (file : FatFile) (archs : List FatArch) → IsFatTable bytes file archs → misses cpu archs ≡ true
      → ShowsFile w cpu limit bytes (refused_for w (no_entry_words cpu) limit)
  refused_file : (e : Error) → ErrorMeets (ViewFault bytes) e → (w.is_lossy ≡ true → IsReported e → (f : Fault) × LossyFault bytes 0 f)
      → ShowsFile w cpu limit bytes (refused_for w (refused_words bytes e) limit)
