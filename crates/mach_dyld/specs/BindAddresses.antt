-- The addresses of the imports of binds.
use Rattle.std.specs.Prelude.{◌≡◌, ◌+◌, ◌<◌, ◌≤◌, ℕ, List, All, Some, Result, Ok, IfOk, slice_get}
use Rattle.mach_base.specs.Fault.{Fault}
use Rattle.mach_parts.specs.Segment.{SegmentView}
use Rattle.mach_dyld.specs.Streams.{Input, Range, Placed}
use Rattle.mach_dyld.specs.Binds.{Bind}
use Rattle.mach_dyld.specs.Imports.{Import, import_of, BindRanges, ListsImports}
use Rattle.mach_dyld.specs.BindItems.{AreBindItems}

-- the address is in the segment of this number
abbrev pub LiesIn : List SegmentView → ℕ → ℕ → Type 0
LiesIn segments number address =
    (s : SegmentView) × (slice_get segments number ≡ Some s) × (s.command.vmaddr ≤ address) × (address < s.command.vmaddr + s.command.vmsize)

-- it is in one of the segments
abbrev pub LiesInSome : List SegmentView → ℕ → Type 0
LiesInSome segments address = (number : ℕ) × LiesIn segments number address

-- `len` bytes from the address on are in the segment of this number
abbrev pub LiesWhole : List SegmentView → ℕ → ℕ → ℕ → Type 0
LiesWhole segments number address len =
    (s : SegmentView) × (slice_get segments number ≡ Some s) × (s.command.vmaddr ≤ address) × (address + len ≤ s.command.vmaddr + s.command.vmsize)

-- they are in one of the segments
abbrev pub LiesWholeInSome : List SegmentView → ℕ → ℕ → Type 0
LiesWholeInSome segments address len = (number : ℕ) × LiesWhole segments number address len

-- the import of a bind is in the bind's segment
abbrev pub BindLiesIn : Type 0
BindLiesIn = (x : Input) (b : Bind) (i : Import) → import_of x b ≡ Ok i → LiesIn x.segments b.segment i.address

-- each import of a list is in one of the segments
abbrev pub ListLiesIn : Type 0
ListLiesIn = (b : BindRanges) (pointer : ℕ) (libs : List (List ℕ)) (segments : List SegmentView) (list : List Import)
    → ListsImports b pointer libs segments list → All (λ i. LiesInSome segments i.address) list

-- so is each import of an iterator
abbrev pub ItemsLieIn : Type 0
ItemsLieIn = (x : Input) (non_lazy lazy : Range) (ps qs : List Placed) (items : List (Result Import Fault))
    → AreBindItems x non_lazy lazy ps qs items
    → All (λ item. IfOk item (λ i. LiesInSome x.segments i.address)) items
