-- No fault occurs if a file opens, and which of the three kinds it is.
use Rattle.std.proofs.Common.{◌≡◌, ℕ, List, Result, Ok, Err, true, false, refl, sym, ◌∙◌, subst}
use Rattle.std.specs.Prelude.{IsOk, IfErr}
use Rattle.mach_base.specs.declared.error.Error.{Error}
use Rattle.mach_base.specs.Answer.{ErrorMeets, IsOkUnlessMemory}
use Rattle.mach_base.specs.Fault.{Fault}
use Rattle.mach_base.proofs.Faults.{ErrorMeets-in}
use Rattle.mach_archive.specs.Archives.{archive_in}
use Rattle.goblin_mach.specs.Image.{Opens, ImageFault}
use Rattle.goblin_mach.specs.OpenImage.{IsImage}
use Rattle.goblin_mach.specs.File.{MachOpens, MachFault, IsMach}
use Rattle.goblin_mach.specs.declared.mach.Mach.{Mach}
use Rattle.goblin_mach.specs.declared.mach.Mach.TheVariants as files
use Rattle.goblin_mach.proofs.Files.{header-there, fault-excludes_mach}
use Rattle.goblin_mach.specs.Inputs.{begins_any_archive, IsNeither, InputOpens, InputFault, opens_archive, opens_fat_64, opens_mach}
use Rattle.goblin_mach.specs.Inputs.{of_archive, of_fat_64, of_mach, IsInput, IsOfMach, input_of_mach}
use Rattle.goblin_mach.specs.declared.input.Input.{Input}
use Rattle.goblin_mach.specs.declared.input.Input.TheVariants as inputs

not_both : {X : Type 0} (r : Result X Fault) (f : Fault) → IsOk r → r ≡ Err f → ⊥
not_both (Ok x) f ok is = cc
not_both (Err e) f ok is = cc

-- bytes don't both begin like an archive and not
one_kind : (bytes : List ℕ) → begins_any_archive bytes ≡ true → begins_any_archive bytes ≡ false → ⊥
one_kind bytes is other = let wrong = sym is ∙ other in cc

pub fault-excludes_input : (bytes : List ℕ) (f : Fault) → InputFault bytes f → InputOpens bytes → ⊥
fault-excludes_input bytes _ (of_archive f is bad) (opens_archive same ok) = not_both (archive_in bytes) f ok bad
fault-excludes_input bytes _ (of_archive f is bad) (opens_fat_64 fat) = one_kind bytes is fat.no_archive
fault-excludes_input bytes _ (of_archive f is bad) (opens_mach neither opens) = one_kind bytes is neither.no_archive
fault-excludes_input bytes _ (of_fat_64 f other magic bad) (opens_archive is ok) = one_kind bytes is other
fault-excludes_input bytes _ (of_fat_64 f other magic bad) (opens_fat_64 fat) = header-there bytes f fat.header bad
fault-excludes_input bytes _ (of_fat_64 f other magic bad) (opens_mach neither opens) = neither.no_fat_64 magic
fault-excludes_input bytes _ (of_mach f neither fault) (opens_archive is ok) = one_kind bytes is neither.no_archive
fault-excludes_input bytes _ (of_mach f neither fault) (opens_fat_64 fat) = neither.no_fat_64 fat.magic
fault-excludes_input bytes _ (of_mach f neither fault) (opens_mach same opens) = fault-excludes_mach bytes f fault opens

-- a result whose errors are faults is Ok if the bytes open
pub ok_where_input : {X : Type 0} (r : Result X Error) (bytes : List ℕ) → IfErr r (ErrorMeets (InputFault bytes)) → InputOpens bytes → IsOkUnlessMemory r
ok_where_input (Ok x) bytes h opens = tt
ok_where_input (Err e) bytes h opens = ErrorMeets-in (InputFault bytes) (λ _. ⊥) e (λ f fault. fault-excludes_input bytes f fault opens) h

-- bytes of neither kind open as `Mach::parse` opens them
pub opens_as_mach : (bytes : List ℕ) → IsNeither bytes → InputOpens bytes → MachOpens Opens bytes
opens_as_mach bytes neither (opens_archive is ok) = absurd (one_kind bytes is neither.no_archive)
opens_as_mach bytes neither (opens_fat_64 fat) = absurd (neither.no_fat_64 fat.magic)
opens_as_mach bytes neither (opens_mach same opens) = opens

pub faults_as_mach : (bytes : List ℕ) (f : Fault) → IsNeither bytes → InputFault bytes f → MachFault ImageFault bytes f
faults_as_mach bytes _ neither (of_archive f is bad) = absurd (one_kind bytes is neither.no_archive)
faults_as_mach bytes _ neither (of_fat_64 f other magic bad) = absurd (neither.no_fat_64 magic)
faults_as_mach bytes _ neither (of_mach f same fault) = fault

pub held_as_mach : {A : Type 0} (bytes : List ℕ) (x : Input A) → IsNeither bytes → IsInput bytes x → IsOfMach bytes x
held_as_mach bytes (inputs.Archive a) neither is = absurd (one_kind bytes is.0 neither.no_archive)
held_as_mach bytes (inputs.Fat64 m) neither is = absurd (neither.no_fat_64 is.1)
held_as_mach bytes (inputs.Fat m) neither is = (files.Fat m, refl, is.1)
held_as_mach bytes (inputs.Image m) neither is = (files.Binary m, refl, is.1)

given_as_mach : {A : Type 0} (bytes : List ℕ) (m : Mach A) → IsNeither bytes → IsMach IsImage bytes m → IsInput bytes (input_of_mach m)
given_as_mach bytes (files.Fat m) neither is = (neither, is)
given_as_mach bytes (files.Binary m) neither is = (neither, is)

pub mach_as_held : {A : Type 0} (bytes : List ℕ) (x : Input A) → IsNeither bytes → IsOfMach bytes x → IsInput bytes x
mach_as_held {A} bytes x neither of = subst (λ (y : Input A). IsInput bytes y) (sym of.1) (given_as_mach bytes of.0 neither of.2)
