-- What a call shows: its files in order, each under its title, and the worst status.
use Rattle.std.specs.Prelude.{◌≡◌, ◌==◌, ◌&&◌, ℕ, List, [], ◌∷◌, Bool, true, false, Option, Some, None, Result, Ok, length, max, not}
use Rattle.std.specs.Borrow.{Bor}
use Rattle.std.specs.Io.Buffered.{writer_buffer, writer_contents}
use Rattle.std.specs.Io.KnownBytes.{Appends}
use Rattle.std.specs.Str.{IsUtf8}
use Rattle.std.specs.declared.io.buffered.BufWriter.{BufWriter}
use Rattle.mach_base.specs.Answer.{FailsAs}
use Rattle.mach_base.specs.Fault.{Fault}
use Rattle.mach_base.specs.declared.error.Error.{Error}
use Rattle.goblin_mach.specs.Inputs.{begins_any_archive}
use Rattle.goblin_mach.specs.Items.{ItemView}
use Rattle.mach_cli.specs.Bounds.{most_images, most_items}
use Rattle.mach_cli.specs.FirstMagic.{begins_fat}
use Rattle.mach_cli.specs.InOrder.{InOrder}
use Rattle.mach_cli.specs.Listed.{are_several, listed_names, name_end}
use Rattle.mach_cli.specs.Labels.{LabelView, label_of, unlabelled}
use Rattle.mach_cli.specs.PartsOf.{parts_left_out, shown_parts}
use Rattle.mach_cli.specs.TableEntries.{outside_at}
use Rattle.mach_cli.specs.declared.entries.OutOfFile.{OutOfFile}
use Rattle.mach_parts.specs.ArchForms.{arch_form_64}
use Rattle.mach_cli.specs.FileTitles.{IsUnreadStatus, title_text}
use Rattle.mach_cli.specs.Selected.{are_missed, are_more, parts_within}
use Rattle.mach_cli.specs.Shown.{ImageLines, Shown, ShowsFile, way_of}
use Rattle.mach_cli.specs.ShownParts.{PartShown, shown_in, shows_file, shows_nothing, shows_within}
use Rattle.mach_cli.specs.Sinks.{SinkTexts, json_texts, nm_texts, text_texts}
use Rattle.mach_cli.specs.Statuses.{status_by}
use Rattle.mach_cli.specs.Titles.{IsUnder, titled_contents}
use Rattle.mach_cli.specs.declared.cpu.Cpu.{Cpu}
use Rattle.mach_cli.specs.declared.files.Files.{Files}
use Rattle.mach_cli.specs.declared.files.Run.{Run}
use Rattle.mach_cli.specs.declared.named.Others.{Others}
use Rattle.mach_cli.specs.declared.image_files.ImageFiles.{ImageFiles}
use Rattle.mach_cli.specs.declared.titled.Titled.{Titled}

-- How a file is shown: a relation of its name and its bytes, a writer before and after, and the exit status.
abbrev pub Showing : Type 0 → Type 1
Showing W = (name bytes : List ℕ) → (old new : W) → (status : ℕ) → Type 0

-- The images of a file are shown: its lines, by a view, are put together by a sink. All is written out.
pub record ShowsImages {W B : Type 0} (k : SinkTexts) (program : List ℕ) (cpu : Cpu) (is_lossy : Bool) (limit : ℕ)
    (lines : (file : List ℕ) → (limit : ℕ) → ImageLines) (contents : W → Option (List ℕ)) (name bytes : List ℕ) (old new : BufWriter W B)
    (status : ℕ) : Type 0 where
  pub shown : Shown
  pub is_shown : let most = most_items limit bytes in ShowsFile (way_of k program name is_lossy (lines name most)) cpu most bytes shown
  pub is_status : status ≡ status_by shown.whole
  pub written : Appends (writer_contents contents old) (writer_contents contents new) shown.text
  pub flushed : writer_buffer new ≡ []

-- How a call shows files, whether these may be several, whether titles are those of `llvm-nm`, and what the program shows of each.
pub record Manner (W B : Type 0) : Type 1 where
  pub call : Files
  pub are_several : Bool
  pub is_nm : Bool
  pub shows : Showing (BufWriter (Titled W) B)

abbrev pub manner_of : {W B : Type 0} → Files → (are_several is_nm : Bool) → Showing (BufWriter (Titled W) B) → Manner W B
manner_of call are_several is_nm shows = record { call = call; are_several = are_several; is_nm = is_nm; shows = shows }

abbrev pub manner_in : {S W B : Type 0} → (S → Showing (BufWriter (Titled W) B)) → Run S W B → Manner W B
manner_in shows run = manner_of run.files run.are_several run.is_nm (shows run.shows.now)

-- What is shown of a file: the file itself, under its name and without a label; or a part of it, under its own name.
pub record NamedPart : Type 0 where
  pub file : List ℕ
  pub name : List ℕ
  pub label : LabelView

abbrev pub file_itself : (file : List ℕ) → NamedPart
file_itself file = record { file = file; name = file; label = unlabelled }

-- Whether bytes have a title. If titles are those of `llvm-nm`, a fat file of 32 bits has none: the headings of its entries name it.
abbrev pub have_title : Files → (is_nm is_titled : Bool) → (bytes : List ℕ) → Bool
have_title call is_nm is_titled bytes = (is_titled && call.has_titles) && not (is_nm && begins_fat bytes)

-- Bytes are shown under a name, with a title if they may have one; or nothing is shown, since memory ran out for the title.
pub data ShowsTitled {W B : Type 0} (m : Manner W B) (is_titled : Bool) (p : NamedPart) (bytes : List ℕ) (old new : BufWriter (Titled W) B)
    : (status : ℕ) → Type 0 where
  under_title : (between : BufWriter (Titled W) B) (status : ℕ)
      → IsUnder (title_text (have_title m.call m.is_nm is_titled bytes) m.is_nm p.file p.name p.label) old between
      → m.shows p.name bytes between new status → ShowsTitled m is_titled p bytes old new status
  without_title : have_title m.call m.is_nm is_titled bytes ≡ true → new ≡ old → ShowsTitled m is_titled p bytes old new 1

-- What is shown of a part that is selected: nothing of an entry that is out of the file; nothing of an archive without members; the file
-- itself, or what is within it under its own name and label; or nothing, since it can't be read or memory ran out.
pub data ShowsPartAs {W B : Type 0} (m : Manner W B) (file : List ℕ) (label : LabelView) (old new : BufWriter (Titled W) B)
    : Option OutOfFile → Result PartShown Fault → (status : ℕ) → Type 0 where
  outside_part : (outside : OutOfFile) (part : Result PartShown Fault) → new ≡ old → ShowsPartAs m file label old new (Some outside) part 1
  empty_archive : new ≡ old → ShowsPartAs m file label old new None (Ok shows_nothing) 0
  the_file : (bytes : List ℕ) (status : ℕ) → ShowsTitled m m.are_several (file_itself file) bytes old new status
      → ShowsPartAs m file label old new None (Ok (shows_file bytes)) status
  within_it : (name bytes : List ℕ) (status : ℕ) → ShowsTitled m true (record { file = file; name = name; label = label }) bytes old new status
      → ShowsPartAs m file label old new None (Ok (shows_within name bytes)) status
  refused_part : (part : Result PartShown Fault) (e : Error) → FailsAs e part → new ≡ old → ShowsPartAs m file label old new None part 1

abbrev pub ShowsPart : {W B : Type 0} → Manner W B → (file bytes : List ℕ) → ItemView → (old new : BufWriter (Titled W) B) → (status : ℕ) → Type 0
ShowsPart m file bytes x old new status =
    ShowsPartAs m file (label_of x.place x.content) old new (outside_at arch_form_64 bytes x.place.entry) (shown_in file x.place.entry x.content) status

-- The status of a file by its parts: 1 at least if the limit leaves out some that are selected, or if entries are left out.
abbrev pub parts_status : Files → (bytes : List ℕ) → (status : ℕ) → ℕ
parts_status call bytes status =
    max status (status_by (not (are_more (most_images call.limit) call.cpu (shown_parts bytes)) && (parts_left_out bytes == 0)))

-- What is shown of the bytes of a file: its first parts that are selected, as many as the limit allows, in order; or nothing, if none is
-- selected; or the file as a whole, if the call doesn't show parts.
pub data ShowsBytes {W B : Type 0} (m : Manner W B) (file bytes : List ℕ) (old new : BufWriter (Titled W) B) : (status : ℕ) → Type 0 where
  in_parts : (status : ℕ) → m.call.has_parts ≡ true → are_missed m.call.cpu (begins_any_archive bytes) (shown_parts bytes) ≡ false
      → InOrder (ShowsPart m file bytes) (parts_within (most_images m.call.limit) m.call.cpu (shown_parts bytes)) old new status
      → ShowsBytes m file bytes old new (parts_status m.call bytes status)
  none_selected : m.call.has_parts ≡ true → are_missed m.call.cpu (begins_any_archive bytes) (shown_parts bytes) ≡ true → new ≡ old
      → ShowsBytes m file bytes old new 1
  undivided : (status : ℕ) → m.call.has_parts ≡ false → ShowsTitled m m.are_several (file_itself file) bytes old new status
      → ShowsBytes m file bytes old new status

-- What is shown of a file of a name: of some bytes, those that are read; or nothing, since they can't be read.
pub data ShowsNamed {W B : Type 0} (m : Manner W B) (file : List ℕ) (old new : BufWriter (Titled W) B) : (status : ℕ) → Type 0 where
  read_file : (bytes : List ℕ) (status : ℕ) → ShowsBytes m file bytes old new status → ShowsNamed m file old new status
  unread_file : (status : ℕ) → IsUnreadStatus status → new ≡ old → ShowsNamed m file old new status

-- What is shown of a name in a list: nothing of an empty one, and nothing of one that isn't text, which is a misuse.
pub data ShowsListed {W B : Type 0} (m : Manner W B) (name : List ℕ) (old new : BufWriter (Titled W) B) : (status : ℕ) → Type 0 where
  empty_name : length name ≡ 0 → new ≡ old → ShowsListed m name old new 0
  listed_file : (status : ℕ) → IsUtf8 name → ShowsNamed m name old new status → ShowsListed m name old new status
  no_text : (IsUtf8 name → ⊥) → new ≡ old → ShowsListed m name old new 2

-- What is shown of a list of names, each of which ends with a byte.
pub data ShowsList {W B : Type 0} (m : Manner W B) (end : ℕ) (old new : BufWriter (Titled W) B) : (status : ℕ) → Type 0 where
  read_list : (bytes : List ℕ) (status : ℕ) → InOrder (ShowsListed m) (listed_names end bytes) old new status → ShowsList m end old new status
  unread_list : (status : ℕ) → IsUnreadStatus status → new ≡ old → ShowsList m end old new status

-- the status of the arguments that aren't text
abbrev pub no_text_status : {X : Type 0} → List X → ℕ
no_text_status [] = 0
no_text_status (x ∷ xs) = 2

-- What a call shows: its files, then those of its lists. The status is the worst, also of arguments that aren't text.
pub record ShowsCall {W B X : Type 0} (m : Manner W B) (files lists : List (Bor (List ℕ))) (end : ℕ) (no_texts : List X)
    (old new : BufWriter (Titled W) B) (worst : ℕ) : Type 0 where
  pub between : BufWriter (Titled W) B
  pub of_files : ℕ
  pub of_lists : ℕ
  pub files_shown : InOrder (λ file. ShowsNamed m file.now) files old between of_files
  pub lists_shown : InOrder (λ list. ShowsList m end) lists between new of_lists
  pub is_worst : worst ≡ max (max (no_text_status no_texts) of_files) of_lists

-- The same by the arguments of a call: its words that are files, and the others.
abbrev pub ShowsFilesBy : {W B A : Type 0} → (is_nm : Bool) → Files → Showing (BufWriter (Titled W) B) → (files : List (Bor (List ℕ))) → Others A
    → (old new : BufWriter (Titled W) B) → (worst : ℕ) → Type 0
ShowsFilesBy is_nm call shows files o old new worst =
    ShowsCall (manner_of call (are_several (length files) o.lists.items o.no_texts.items) is_nm shows) files o.lists.items (name_end o.ends_with_nul)
    o.no_texts.items old new worst

abbrev pub ShowsFiles : {W B A : Type 0} → Files → Showing (BufWriter (Titled W) B) → (files : List (Bor (List ℕ))) → Others A
    → (old new : BufWriter (Titled W) B) → (worst : ℕ) → Type 0
ShowsFiles call shows = ShowsFilesBy false call shows

-- How the files of a call are shown whose images are: part by part, without titles if objects are shown.
abbrev pub files_of : {T J : Type 0} → ImageFiles T J → Files
files_of s = record { program = s.program; cpu = s.cpu; has_titles = s.has_titles && not s.is_json; has_parts = true; limit = s.limit }

-- What a call shows whose images are shown, put together by a sink.
abbrev pub ShowsBy : {T J W B A : Type 0} → SinkTexts → (is_nm : Bool) → ImageFiles T J → (program : List ℕ)
    → (lines : (file : List ℕ) → (limit : ℕ) → ImageLines) → (contents : W → Option (List ℕ)) → (files : List (Bor (List ℕ))) → Others A
    → (old new : BufWriter (Titled W) B) → (worst : ℕ) → Type 0
ShowsBy k is_nm s program lines contents = ShowsFilesBy is_nm (files_of s) (ShowsImages k program s.cpu s.is_lossy s.limit lines (titled_contents contents))

-- their lines as text
abbrev pub ShowsText : {T J W B A : Type 0} → ImageFiles T J → (program : List ℕ) → (lines : (file : List ℕ) → (limit : ℕ) → ImageLines)
    → (contents : W → Option (List ℕ)) → (files : List (Bor (List ℕ))) → Others A → (old new : BufWriter (Titled W) B) → (worst : ℕ) → Type 0
ShowsText s program lines contents = ShowsBy text_texts false s program lines contents

-- their lines as text, under the headings of `llvm-nm`
abbrev pub ShowsNm : {T J W B A : Type 0} → ImageFiles T J → (program : List ℕ) → (lines : (file : List ℕ) → (limit : ℕ) → ImageLines)
    → (contents : W → Option (List ℕ)) → (files : List (Bor (List ℕ))) → Others A → (old new : BufWriter (Titled W) B) → (worst : ℕ) → Type 0
ShowsNm s program lines contents = ShowsBy nm_texts true s program lines contents

-- their objects as JSON
abbrev pub ShowsJson : {T J W B A : Type 0} → ImageFiles T J → (program : List ℕ) → (objects : (file : List ℕ) → (limit : ℕ) → ImageLines)
    → (contents : W → Option (List ℕ)) → (files : List (Bor (List ℕ))) → Others A → (old new : BufWriter (Titled W) B) → (worst : ℕ) → Type 0
ShowsJson s program objects contents = ShowsBy json_texts false s program objects contents
