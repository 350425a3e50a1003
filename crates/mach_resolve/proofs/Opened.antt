-- A program that was opened, and what it says.
use Rattle.std.proofs.Common.{◌≡◌, ◌∙◌, ℕ, Bool, List, Option, Result, unwrap_or, ap}
use Rattle.mach_base.specs.Fault.{Fault}
use Rattle.mach_parts.specs.Bindings.{Binding}
use Rattle.goblin_mach.specs.Facts.{OfImage, HasName, HasLibrariesByKind, HasBindings}
use Rattle.goblin_mach.specs.Image.{Opens}
use Rattle.goblin_mach.specs.Libraries.{LibraryView, libraries_in}
use Rattle.goblin_mach.specs.OpenImage.{IsImage, commands_view}
use Rattle.goblin_mach.specs.Subjects.{own_name_in}
use Rattle.goblin_mach.specs.declared.macho.MachO.{MachO}
use Rattle.mach_resolve.specs.Answers.{Program}
use Rattle.mach_resolve.specs.Given.{GivenFile, Gathered, GathersAll, may_be_absent}
use Rattle.mach_resolve.specs.Resolved.{IsProgram, HoldsItems, AnswerFault, ResolveFault, of_bindings, of_trie}

name_said : (bytes path name : List ℕ) (own : Option (List ℕ)) → name ≡ unwrap_or own path → HasName bytes 0 own
    → OfImage bytes 0 (λ ctx cs. name ≡ unwrap_or (own_name_in bytes cs) path)
name_said bytes path name own is has =
    record { ctx = has.ctx; cs = has.cs; opens = has.opens; holds = is ∙ ap (λ (o : Option (List ℕ)). unwrap_or o path) has.holds }

absences_said : (bytes : List ℕ) (absences : List Bool) (libraries : List LibraryView) → absences ≡ may_be_absent libraries
    → HasLibrariesByKind bytes 0 libraries → OfImage bytes 0 (λ ctx cs. absences ≡ may_be_absent (libraries_in ctx.le bytes cs))
absences_said bytes absences libraries is has =
    record { ctx = has.ctx; cs = has.cs; opens = has.opens; holds = is ∙ ap may_be_absent has.holds }

opens_as : {A : Type 0} (bytes : List ℕ) (m : MachO A) → IsImage bytes 0 m → Opens bytes 0
opens_as bytes m is = (is.ctx, commands_view m, is.opens)

-- the program whose image was opened
pub is_program : {A : Type 0} (g : GivenFile) (m : MachO A) (p : Program) (items : List (Result Binding Fault)) (own : Option (List ℕ))
    (libraries : List LibraryView)
    → IsImage g.bytes 0 m → p.name ≡ unwrap_or own g.path → HasName g.bytes 0 own → p.may_be_absent ≡ may_be_absent libraries
    → HasLibrariesByKind g.bytes 0 libraries → HasBindings g.bytes 0 items → IsProgram g p items
is_program g m p items own libraries is name has absences are all = record {
  opens = opens_as g.bytes m is;
  name = name_said g.bytes g.path p.name own name has;
  absences = absences_said g.bytes p.may_be_absent libraries absences are;
  bindings_are = all;
}

-- a fault of answering the bindings of an opened program is a fault of the program or of a trie
pub more_faults : {A : Type 0} (limit : ℕ) (p : GivenFile) (ls : List GivenFile) (m : MachO A) (all : Gathered) → GathersAll p ls all
    → ((items : List (Result Binding Fault)) → HoldsItems m items → HasBindings p.bytes 0 items) → (n : ℕ) (f : Fault) → AnswerFault limit all.files m n f
    → ResolveFault limit p ls n f
more_faults limit p ls m all gathered occur n f (of_bindings bindings rest holds within) = of_bindings bindings rest (occur _ holds) within
more_faults limit p ls m all gathered occur n f (of_trie occurs) = of_trie all gathered occurs
