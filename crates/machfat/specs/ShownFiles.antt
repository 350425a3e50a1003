-- What a call shows of its files, by what it selects.
use Rattle.std.specs.Prelude.{◌≡◌, ◌⊎◌, ℕ, List, [], ◌∷◌, codes, Bool, true, false, Option}
use Rattle.std.specs.Borrow.{Bor}
use Rattle.std.specs.Io.Buffered.{writer_buffer, writer_contents}
use Rattle.std.specs.Io.KnownBytes.{Appends}
use Rattle.std.specs.declared.io.buffered.BufWriter.{BufWriter}
use Rattle.mach_layout.specs.declared.fault.LayoutFault.{LayoutFault}
use Rattle.mach_cli.specs.Bounds.{most_items}
use Rattle.mach_cli.specs.ShownCalls.{Showing, ShowsFiles}
use Rattle.mach_cli.specs.Titles.{titled_contents}
use Rattle.mach_cli.specs.declared.cpu.Cpu.TheVariants.{Any}
use Rattle.mach_cli.specs.declared.files.Files.{Files}
use Rattle.mach_cli.specs.declared.named.Others.{Others}
use Rattle.mach_cli.specs.declared.titled.Titled.{Titled}
use Rattle.machfat.specs.Faults.{ReportsFatFaults}
use Rattle.machfat.specs.ListedFiles.{listed_file_in}
use Rattle.machfat.specs.Lines.{ReportsDocument, ReportsList, refusal_document}
use Rattle.machfat.specs.Members.{AreFileLines}
use Rattle.machfat.specs.Refusals.{Refuses, RefusesFaults, RefusesFile, RefusesMembers, refusal_line, refusal_words}
use Rattle.machfat.specs.Written.{WritesAs}
use Rattle.machfat.specs.declared.refusal.Refusal.{Refusal}
use Rattle.machfat.specs.declared.shown.Selected.{Selected}
use Rattle.machfat.specs.declared.shown.Shown.{Shown}
use Rattle.machfat.specs.declared.shown.Shown.TheVariants.{Records, Object, Faults, Members}

-- What holds of a status: one of 0, and one of 1.
abbrev pub ByStatus : (zero one : Type 0) → (status : ℕ) → Type 0
ByStatus zero one status = (status ≡ 0 → zero) × (status ≡ 1 → one)

-- The object of a refused file was written, and the line that says why.
pub record RefusesObject (file bytes : List ℕ) (out_old out_new err_old err_new : Option (List ℕ)) : Type 0 where
  pub refusal : Refusal
  pub occurs : Refuses bytes (listed_file_in bytes) refusal
  pub written : Appends out_old out_new (refusal_document file (refusal_words refusal))
  pub said : Appends err_old err_new (refusal_line file refusal)

-- A fault of the layout, and those after it, were reported.
pub record ReportsSomeFaults (limit : ℕ) (bytes : List ℕ) (old new : Option (List ℕ)) : Type 0 where
  pub fault : LayoutFault
  pub faults : List LayoutFault
  pub reported : ReportsFatFaults limit bytes (fault ∷ faults) old new

-- What the program says of a file by what is selected, given the bytes of both outputs before and after. With status 0 all of it
-- was written, and there is no fault. With status 1 there are more lines than the limit, or faults; or the file is refused.
abbrev pub SaysOf : Shown → (limit : ℕ) (file bytes : List ℕ) (out_old out_new err_old err_new : Option (List ℕ)) (status : ℕ) → Type 0
SaysOf Records limit file bytes out_old out_new err_old err_new status = ByStatus (ReportsList limit file bytes true out_old out_new)
    (ReportsList limit file bytes false out_old out_new ⊎ RefusesFile (Refuses bytes (listed_file_in bytes)) file out_old out_new err_old err_new) status
SaysOf Object limit file bytes out_old out_new err_old err_new status = ByStatus (ReportsDocument limit file bytes true out_old out_new)
    (ReportsDocument limit file bytes false out_old out_new ⊎ RefusesObject file bytes out_old out_new err_old err_new) status
SaysOf Faults limit file bytes out_old out_new err_old err_new status = ByStatus (ReportsFatFaults limit bytes [] out_old out_new)
    (ReportsSomeFaults limit bytes out_old out_new ⊎ RefusesFile (RefusesFaults bytes) file out_old out_new err_old err_new) status
SaysOf Members limit file bytes out_old out_new err_old err_new status = ByStatus (WritesAs (AreFileLines limit bytes) true out_old out_new)
    (WritesAs (AreFileLines limit bytes) false out_old out_new ⊎ RefusesFile (RefusesMembers bytes) file out_old out_new err_old err_new) status

-- What is selected of a file is shown, at most a limit and no more than the file has bytes. All is written out.
pub record ShowsSelected {W B : Type 0} (s : Selected) (contents : W → Option (List ℕ)) (name bytes : List ℕ) (old new : BufWriter W B)
    (status : ℕ) : Type 0 where
  pub err_old : Option (List ℕ)
  pub err_new : Option (List ℕ)
  pub said : SaysOf s.shown (most_items s.limit bytes) name bytes (writer_contents contents old) (writer_contents contents new) err_old err_new status
  pub flushed : writer_buffer new ≡ []

-- whether what is shown may have titles: an object has its name in it
abbrev pub has_titles : Shown → Bool
has_titles Records = true
has_titles Object = false
has_titles Faults = true
has_titles Members = true

-- How the files of a call are shown: each as a whole, whatever its cpu.
pub record AreShownWhole (shown : Shown) (call : Files) : Type 0 where
  pub program : call.program.name.now ≡ codes "machfat"
  pub cpu : call.cpu ≡ Any
  pub titles : call.has_titles ≡ has_titles shown
  pub undivided : call.has_parts ≡ false

-- What a call shows: of each of its files what is selected.
pub record ShowsSelectedFiles {W B A : Type 0} (s : Selected) (contents : W → Option (List ℕ)) (files : List (Bor (List ℕ))) (others : Others A)
    (old new : BufWriter (Titled W) B) (worst : ℕ) : Type 0 where
  pub call : Files
  pub is_call : AreShownWhole s.shown call
  pub shown : ShowsFiles call (ShowsSelected s (titled_contents contents)) files others old new worst
