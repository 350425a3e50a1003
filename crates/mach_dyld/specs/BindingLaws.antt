-- Laws of all bindings: how they follow from the instructions in order, where they lie, and when they agree with the imports.
use Rattle.std.specs.Prelude.{◌≡◌, ◌≢◌, ◌⊎◌, ◌<◌, ℕ, ℤ, pos, List, [], ◌∷◌, ◌++◌, map, All, reverse, bit_and}
use Rattle.std.specs.Prelude.{Bool, true, false, Option, Some, None, Result, Ok, Err, IfOk}
use Rattle.std.specs.List.{AllByRecursion, filter_map}
use Rattle.mach_base.specs.Fault.{Fault}
use Rattle.mach_dyld.specs.Instructions.{byte_at}
use Rattle.mach_dyld.specs.Streams.{Input, Range, Placed, IsStream, IsLongest}
use Rattle.mach_dyld.specs.Binds.{Bind, is_done, nearer_than, count_in, library_in, symbol_name_in, segment_in, addend_in}
use Rattle.mach_dyld.specs.Imports.{Import}
use Rattle.mach_dyld.specs.BindItems.{AreBindItems}
use Rattle.mach_dyld.specs.BindLast.{IsLast}
use Rattle.mach_dyld.specs.BindAddresses.{LiesWhole, LiesWholeInSome}
use Rattle.mach_parts.specs.Bindings.{Provider, of_library, itself, main_executable, flat, weak_lookup}
use Rattle.mach_parts.specs.Bindings.{Binding}
use Rattle.mach_dyld.specs.Bindings.{SetBefore, binding_of, ordinal_in, last_ordinal, bindings_at, bindings_in, AreBindings}

-- The ordinal of a bind is the one set last before it, or 0. `IsLast` goes back to the last DONE. Streams of bindings have
-- none: `bindings_row` reads an opcode 0x00 as `nothing`.
abbrev pub FindsLastOrdinal : Type 0
FindsLastOrdinal = (bytes : List ℕ) (ps : List Placed) → IsLast (pos 0) (ordinal_in bytes) ps (last_ordinal bytes (reverse ps))

-- the last instruction of a list adds the bindings found by looking back over the instructions before it
abbrev pub AddsBindings : Type 0
AddsBindings = (x : Input) (r : Range) (ps : List Placed) (p : Placed)
    → bindings_in x r (ps ++ p ∷ []) ≡ bindings_in x r ps ++ bindings_at x r (reverse ps) p

-- two streams have at most one list of items
abbrev pub StreamsHaveOneListOfBindings : Type 0
StreamsHaveOneListOfBindings = (x : Input) (non_lazy lazy : Range) (ps qs ps' qs' : List Placed) (items others : List (Result Binding Fault))
    → AreBindings x non_lazy lazy ps qs items → AreBindings x non_lazy lazy ps' qs' others → items ≡ others

-- the pointer of a bind's binding is in the bind's segment
abbrev pub BindingLiesIn : Type 0
BindingLiesIn = (x : Input) (g : SetBefore) (b : Bind) (found : Binding) → binding_of x g b ≡ Ok found
    → LiesWhole x.segments b.segment found.address x.pointer

-- the pointer of each binding is in one of the segments
abbrev pub BindingsLieIn : Type 0
BindingsLieIn = (x : Input) (non_lazy lazy : Range) (ps qs : List Placed) (items : List (Result Binding Fault))
    → AreBindings x non_lazy lazy ps qs items → All (λ item. IfOk item (λ b. LiesWholeInSome x.segments b.address x.pointer)) items

-- ---- agreement with imports

-- its opcode is not 3
abbrev pub IsPlain : List ℕ → Placed → Type 0
IsPlain bytes p = (byte : ℕ) → byte_at bytes p.place ≡ Ok byte → bit_and byte 0xf0 ≢ 0x30

-- what imports and bindings both have, the library by its name
pub record Reported : Type 0 where
  pub name : List ℕ
  pub library : Option (List ℕ)
  pub offset : ℕ
  pub address : ℕ
  pub addend : ℤ
  pub is_weak : Bool
  pub is_lazy : Bool

abbrev pub reported_by_import : Import → Reported
reported_by_import i = record {
  name = i.name;
  library = Some i.dylib;
  offset = i.offset;
  address = i.address;
  addend = i.addend;
  is_weak = i.is_weak;
  is_lazy = i.is_lazy;
}

-- the name of a library; the image itself has the first name of the list
abbrev pub library_name : List ℕ → Provider → Option (List ℕ)
library_name first (of_library ordinal name) = Some name
library_name first itself = Some first
library_name first main_executable = None
library_name first flat = None
library_name first weak_lookup = None

abbrev pub reported_by_binding : List ℕ → Binding → Reported
reported_by_binding first b = record {
  name = b.name;
  library = library_name first b.provider;
  offset = b.offset;
  address = b.address;
  addend = b.addend;
  is_weak = b.is_weak;
  is_lazy = b.is_lazy;
}

abbrev pub reported_item : {A : Type 0} → (A → Reported) → Result A Fault → Result Reported Fault
reported_item report (Ok i) = Ok (report i)
reported_item report (Err f) = Err f

-- each binding agrees with the import at its place, and the bindings end where the imports do, or at a fault
abbrev pub EachReports : List ℕ → List (Result Import Fault) → List (Result Binding Fault) → Type 0
EachReports first imports [] = imports ≡ []
EachReports first imports (Err f ∷ bindings) = Unit {0}
EachReports first [] (Ok b ∷ bindings) = ⊥
EachReports first (i ∷ imports) (Ok b ∷ bindings) = (reported_item reported_by_import i ≡ Ok (reported_by_binding first b)) × EachReports first imports bindings

-- after the last DONE, an instruction has the operand: the list has the nearest first
abbrev pub IsSetAnew : {A : Type 0} → (Placed → Option A) → List Placed → Type 0
IsSetAnew operand back = filter_map operand (nearer_than is_done back) ≢ []

-- a library, a name with its flags and a segment are set there; an addend is set there, or nowhere
pub record AreSetAnew (back : List Placed) : Type 0 where
  pub library : IsSetAnew library_in back
  pub name : IsSetAnew symbol_name_in back
  pub segment : IsSetAnew segment_in back
  pub addend : IsSetAnew addend_in back ⊎ (filter_map addend_in back ≡ [])

-- this holds before each instruction that binds
abbrev pub SetsAnew : List Placed → Type 0
SetsAnew ps = (front : List Placed) (p : Placed) (following : List Placed) → ps ≡ front ++ p ∷ following → 0 < count_in p → AreSetAnew (reverse front)

-- after the first DONE there are only DONEs
abbrev pub EndsInDones : List Placed → Type 0
EndsInDones ps =
    (front : List Placed) × (dones : List Placed) × (ps ≡ front ++ dones)
    × AllByRecursion (λ p. is_done p ≡ false) front × AllByRecursion (λ p. is_done p ≡ true) dones

-- The instructions of two streams, as imports read them, which bindings read alike. None of them has opcode 3. The non-lazy
-- ones are all of their range, and end in DONEs. The settings of a lazy bind are made after the last DONE.
pub record AreReadAlike (x : Input) (non_lazy lazy : Range) (ps qs : List Placed) : Type 0 where
  pub whole : IsStream x non_lazy ps
  pub lazy_stop : Option Fault
  pub lazy_longest : IsLongest x lazy qs lazy_stop
  pub plain : AllByRecursion (IsPlain x.bytes) ps
  pub lazy_plain : AllByRecursion (IsPlain x.bytes) qs
  pub ends : EndsInDones ps
  pub anew : SetsAnew qs

-- if bindings have no fault, they agree with the imports one for one, so there are equally many
abbrev pub ReportOneForOne : List ℕ → List (Result Import Fault) → List (Result Binding Fault) → Type 0
ReportOneForOne first imports bindings =
    (list : List Binding) → bindings ≡ map Ok list → map (reported_item reported_by_import) imports ≡ map (λ b. Ok (reported_by_binding first b)) list

-- this holds for bindings and imports of streams that are read alike, over a list of libraries that isn't empty
abbrev pub StreamsReportTheSame : Type 0
StreamsReportTheSame = (x : Input) (non_lazy lazy : Range) (first : List ℕ) (others : List (List ℕ)) (ps qs ps' qs' us vs : List Placed)
    (imports : List (Result Import Fault)) (bindings : List (Result Binding Fault)) → x.libs ≡ first ∷ others → 0 < x.pointer → lazy.is_lazy ≡ true
    → AreReadAlike x non_lazy lazy ps qs → AreBindItems x non_lazy lazy ps' qs' imports → AreBindings x non_lazy lazy us vs bindings
    → EachReports first imports bindings × ReportOneForOne first imports bindings
