-- A program and its libraries, resolved, as C sees it. The numbers are those of `goblin_mach.h` (GM_PLACE_FOUND and GM_UNUSED_GIVEN_BEFORE, and
-- those after them).
use Rattle.std.specs.Prelude.{◌≡◌, ℕ, List, [], ◌∷◌, drop, length, map, Bool, false}
use Rattle.std.specs.List.{list_all}
use Rattle.mach_base.specs.Fault.{Fault, fault_of, malformed, no_memory}
use Rattle.mach_resolve.specs.Answers.{Answer, is_settled}
use Rattle.mach_resolve.specs.Follow.{SymbolPlace, found, leads_back, no_library, missing, not_given, not_found, no_main}
use Rattle.mach_resolve.specs.Given.{GivenFile}
use Rattle.mach_resolve.specs.Note.{Note, given_before, nothing_for}
use Rattle.mach_resolve.specs.ResolveViews.{answer_view, note_view_of}
use Rattle.mach_resolve.specs.Resolved.{IsResolved, ResolveFault}
use Rattle.mach_resolve.specs.declared.failure.ResolveFailure.{ResolveFailure}
use Rattle.mach_resolve.specs.declared.failure.ResolveFailure.TheVariants as failures
use Rattle.goblin_mach_c.specs.BindingRows.{ordinal_number, provider_number}
use Rattle.goblin_mach_c.specs.Codes.{code_of_fault}
use Rattle.goblin_mach_c.specs.Fill.{Fills}
use Rattle.goblin_mach_c.specs.GivenFiles.{AreGiven, PartFault}
use Rattle.goblin_mach_c.specs.Opened.{flag}
use Rattle.goblin_mach_c.specs.declared.given_files.gm_given_file.{gm_given_file}
use Rattle.goblin_mach_c.specs.declared.resolve.AnswerRows.{AnswerRows}
use Rattle.goblin_mach_c.specs.declared.resolve.UnusedRows.{UnusedRows}
use Rattle.goblin_mach_c.specs.declared.resolve.gm_answer.{gm_answer}
use Rattle.goblin_mach_c.specs.declared.resolve.gm_resolution.{gm_resolution}
use Rattle.goblin_mach_c.specs.declared.resolve.gm_unused_file.{gm_unused_file}

abbrev pub place_number : SymbolPlace → ℕ
place_number (found number file address is_absolute) = 0
place_number (leads_back library) = 1
place_number (no_library library) = 2
place_number (missing library) = 3
place_number (not_given library reexported) = 4
place_number not_found = 5
place_number no_main = 6

-- ---- the file in which a name is found, and its address; 0 if it has no place

abbrev pub found_file : SymbolPlace → ℕ
found_file (found number file address is_absolute) = number
found_file _ = 0

abbrev pub found_address : SymbolPlace → ℕ
found_address (found number file address is_absolute) = address
found_address _ = 0

abbrev pub is_found_absolute : SymbolPlace → Bool
is_found_absolute (found number file address is_absolute) = is_absolute
is_found_absolute _ = false

-- ---- rows

abbrev pub answer_row : Answer → gm_answer
answer_row a =
    record {
      address = found_address a.place;
      file = found_file a.place;
      library = ordinal_number a.provider;
      provider = provider_number a.provider;
      place = place_number a.place;
      is_absolute = flag (is_found_absolute a.place);
      is_weak = flag a.is_weak;
      is_settled = flag (is_settled a);
      reserved = 0;
    }

-- a library that isn't used
abbrev pub unused_row : Note → gm_unused_file
unused_row (given_before library name) = record { file = library; why = 0; cputype = 0 }
unused_row (nothing_for library cputype) = record { file = library; why = 1; cputype = cputype }

-- ---- the rows that are left

abbrev pub answer_rows_left : AnswerRows → List gm_answer
answer_rows_left it = map answer_row (map answer_view (drop it.next it.answers.now))

abbrev pub unused_rows_left : UnusedRows → List gm_unused_file
unused_rows_left it = map unused_row (map note_view_of (drop it.next it.notes.now))

-- ---- what is written

-- The start of one array has rows for the answers, and that of the other for the notes. The numbers say how many each has, how many
-- notes there are, whether there are more bindings, and whether all answers are settled.
pub record WritesAnswers (answers : List Answer) (notes : List Note) (more : Bool) (old new : List gm_answer) (unused_old unused_new : List gm_unused_file)
    (r : gm_resolution) : Type 0 where
  pub rows : Fills (map answer_row answers) old new r.answers
  pub unused : Fills (map unused_row notes) unused_old unused_new r.unused
  pub all_unused : r.all_unused ≡ length notes
  pub more_is : r.more ≡ flag more
  pub settled : r.is_settled ≡ flag (list_all is_settled answers)
  pub file : r.file ≡ 0

-- ---- the files of a call: a program, and libraries

-- these are the answers, the notes and whether there are more bindings, for at most `limit` answers
pub record HasResolved (limit : ℕ) (bytes : List ℕ) (files : List gm_given_file) (answers : List Answer) (notes : List Note) (more : Bool) : Type 0 where
  pub program : GivenFile
  pub libraries : List GivenFile
  pub given : AreGiven bytes files (program ∷ libraries)
  pub resolved : IsResolved limit program libraries answers notes more

-- they were written: an answer for each of the first bindings of the program, as many as there are and fit
pub record WritesResolved (bytes : List ℕ) (files : List gm_given_file) (old new : List gm_answer) (unused_old unused_new : List gm_unused_file)
    (r : gm_resolution) : Type 0 where
  pub answers : List Answer
  pub notes : List Note
  pub more : Bool
  pub has : HasResolved (length old) bytes files answers notes more
  pub writes : WritesAnswers answers notes more old new unused_old unused_new r

-- A fault with the number of its file: of a part, or of what is resolved. It is malformed to give no file.
pub data RefusesGiven (limit : ℕ) (bytes : List ℕ) (files : List gm_given_file) : ℕ → Fault → Type 0 where
  of_part : {n : ℕ} {f : Fault} → PartFault bytes files n f → RefusesGiven limit bytes files n f
  of_given : {n : ℕ} {f : Fault} (program : GivenFile) (libraries : List GivenFile) → AreGiven bytes files (program ∷ libraries)
      → ResolveFault limit program libraries n f → RefusesGiven limit bytes files n f
  of_none : files ≡ [] → RefusesGiven limit bytes files 0 malformed

-- nothing was written but the number of the file that was refused
abbrev pub refused_in : ℕ → gm_resolution
refused_in n = record { answers = 0; unused = 0; all_unused = 0; file = n; more = 0; is_settled = 0 }

-- the code of a failure, and the number of its file
abbrev pub IsFailureCode : ResolveFailure → (code file : ℕ) → Type 0
IsFailureCode (failures.Refused number error) code file = (code ≡ code_of_fault (fault_of error)) × (file ≡ number)
IsFailureCode failures.Memory code file = (code ≡ code_of_fault no_memory) × (file ≡ 0)
