-- A program and its libraries, resolved.
use Rattle.std.specs.Prelude.{◌≡◌, ◌<◌, ℕ, List, ◌∷◌, ◌++◌, map, take, length, nat_lt, unwrap_or, Bool, Result, Ok, Err}
use Rattle.mach_base.specs.Context.{pointer_size}
use Rattle.mach_base.specs.Fault.{Fault}
use Rattle.mach_parts.specs.Bindings.{Binding}
use Rattle.mach_base.specs.Text.{texts}
use Rattle.goblin_mach.specs.Bindings.{AreImageBindings}
use Rattle.goblin_mach.specs.Facts.{OfImage, HasBindings}
use Rattle.goblin_mach.specs.Fixups.{chained_view}
use Rattle.goblin_mach.specs.Image.{Opens}
use Rattle.goblin_mach.specs.Libraries.{libraries_in}
use Rattle.goblin_mach.specs.OpenImage.{binds_view, ctx_view, segments_view}
use Rattle.goblin_mach.specs.Subjects.{own_name_in}
use Rattle.goblin_mach.specs.declared.macho.MachO.{MachO}
use Rattle.mach_resolve.specs.Files.{File, TrieFaultAt}
use Rattle.mach_resolve.specs.Answers.{Program, Answer, AreAnswers}
use Rattle.mach_resolve.specs.Given.{GivenFile, Gathered, GathersAll, GivenFault, may_be_absent}
use Rattle.mach_resolve.specs.Note.{Note}

-- The bytes are this program: they open; its name is its own name, or its path; and these are all bindings of it.
pub record IsProgram (g : GivenFile) (p : Program) (items : List (Result Binding Fault)) : Type 0 where
  pub opens : Opens g.bytes 0
  pub name : OfImage g.bytes 0 (λ ctx cs. p.name ≡ unwrap_or (own_name_in g.bytes cs) g.path)
  pub absences : OfImage g.bytes 0 (λ ctx cs. p.may_be_absent ≡ may_be_absent (libraries_in ctx.le g.bytes cs))
  pub bindings_are : HasBindings g.bytes 0 items

-- These are the answers for the first `limit` bindings of a program, in order, found in the program and some libraries; these are
-- the notes about unused libraries; and this is whether the program has more bindings.
pub record IsResolved (limit : ℕ) (program : GivenFile) (libraries : List GivenFile) (answers : List Answer) (notes : List Note) (more : Bool) : Type 0 where
  pub files : List File
  pub gathered : GathersAll program libraries (record { files = files; notes = notes })
  pub known : Program
  pub items : List (Result Binding Fault)
  pub is_program : IsProgram program known items
  pub bindings : List Binding
  pub are_first : take limit items ≡ map (λ b. Ok b) bindings
  pub are_answers : AreAnswers files known bindings answers
  pub more_is : more ≡ nat_lt limit (length items)

-- a fault for which a program is refused; a fault of its bindings is among the first `limit`
pub data ResolveFault (limit : ℕ) (program : GivenFile) (libraries : List GivenFile) : ℕ → Fault → Type 0 where
  of_file : {n : ℕ} {f : Fault} → GivenFault program libraries n f → ResolveFault limit program libraries n f
  of_bindings : {f : Fault} (bindings : List Binding) (rest : List (Result Binding Fault))
      → HasBindings program.bytes 0 (map (λ b. Ok b) bindings ++ Err f ∷ rest)
      → length bindings < limit → ResolveFault limit program libraries 0 f
  of_trie : {n : ℕ} {f : Fault} (all : Gathered) → GathersAll program libraries all → TrieFaultAt all.files n f → ResolveFault limit program libraries n f

-- ---- an opened image

abbrev pub HoldsItems : {A : Type 0} → MachO A → List (Result Binding Fault) → Type 0
HoldsItems m items =
    AreImageBindings (binds_view m) (chained_view m) (pointer_size (ctx_view m).container) (texts m.libs.items) (segments_view m) items

-- These are its first `limit` bindings, and this is whether it has more.
pub record HoldsFirst {A : Type 0} (limit : ℕ) (m : MachO A) (bindings : List Binding) (more : Bool) : Type 0 where
  pub items : List (Result Binding Fault)
  pub holds : HoldsItems m items
  pub are_first : take limit items ≡ map (λ b. Ok b) bindings
  pub more_is : more ≡ nat_lt limit (length items)

-- a fault of one of its first `limit` bindings, or of the trie of a file
pub data AnswerFault {A : Type 0} (limit : ℕ) (files : List File) (m : MachO A) : ℕ → Fault → Type 0 where
  of_bindings : {f : Fault} (bindings : List Binding) (rest : List (Result Binding Fault)) → HoldsItems m (map (λ b. Ok b) bindings ++ Err f ∷ rest)
      → length bindings < limit → AnswerFault limit files m 0 f
  of_trie : {n : ℕ} {f : Fault} → TrieFaultAt files n f → AnswerFault limit files m n f
