-- Laws of the bindings of every image: there is one list of them, and when they agree with its imports.
use Rattle.std.specs.Prelude.{◌≡◌, ℕ, List, ◌∷◌, Option, Some, None, Result}
use Rattle.mach_base.specs.Context.{pointer_size}
use Rattle.mach_base.specs.Fault.{Fault}
use Rattle.mach_parts.specs.Bindings.{Binding}
use Rattle.mach_parts.specs.Segment.{SegmentView}
use Rattle.mach_dyld.specs.BindingLaws.{AreReadAlike, EachReports, ReportOneForOne}
use Rattle.mach_dyld.specs.Imports.{BindRanges, Import, input_in}
use Rattle.mach_dyld.specs.Streams.{Placed}
use Rattle.mach_chained.specs.Fixups.{Fixup}
use Rattle.goblin_mach.specs.Facts.{OfImage, HasBindings, HasFixups, HasImportItems, HasLibraries}
use Rattle.goblin_mach.specs.Fixups.{chained_place_in}
use Rattle.goblin_mach.specs.Subjects.{binds_in, libs_in, lossy_segments_in}

-- an image has at most one list of fixups up to the first fault, and at most one of bindings
abbrev pub HasOneListOfFixups : Type 0
HasOneListOfFixups = (bytes : List ℕ) (o : ℕ) (items others : List (Result Fixup Fault)) → HasFixups bytes o items → HasFixups bytes o others → items ≡ others

abbrev pub HasOneListOfBindings : Type 0
HasOneListOfBindings =
    (bytes : List ℕ) (o : ℕ) (items others : List (Result Binding Fault)) → HasBindings bytes o items → HasBindings bytes o others → items ≡ others

-- imports and bindings read the instructions of some binds alike
abbrev pub AreAlike : Option BindRanges → ℕ → List (List ℕ) → List SegmentView → Type 0
AreAlike None pointer libs segments = Unit {0}
AreAlike (Some b) pointer libs segments = (ps : List Placed) × (qs : List Placed) × AreReadAlike (input_in b pointer libs segments) b.non_lazy b.lazy ps qs

-- they do so for the binds of an image, which has no chained fixups
abbrev pub HasAlikeBinds : List ℕ → ℕ → Type 0
HasAlikeBinds bytes o = OfImage bytes o (λ ctx cs.
    AreAlike (binds_in bytes cs) (pointer_size ctx.container) (libs_in bytes cs) (lossy_segments_in ctx bytes cs) × (chained_place_in cs ≡ None))

-- then each binding agrees with the import at its place; the image itself counts as the first of its libraries
abbrev pub ReportTheSame : Type 0
ReportTheSame = (bytes : List ℕ) (o : ℕ) (first : List ℕ) (libs : List (List ℕ)) (imports : List (Result Import Fault)) (bindings : List (Result Binding Fault))
    → HasLibraries bytes o (first ∷ libs) → HasAlikeBinds bytes o → HasImportItems bytes o imports → HasBindings bytes o bindings
    → EachReports first imports bindings × ReportOneForOne first imports bindings
