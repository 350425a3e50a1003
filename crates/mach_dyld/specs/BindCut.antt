-- A bind range that is cut after a DONE, and the lists of single streams.
use Rattle.std.specs.Prelude.{◌≡◌, ◌+◌, ◌-◌, ◌↔◌, ℕ, List, [], ◌∷◌, ◌++◌, map, true, Ok}
use Rattle.mach_parts.specs.Segment.{SegmentView}
use Rattle.mach_dyld.specs.Streams.{Input, Range, Placed, IsBeginning, IsStream}
use Rattle.mach_dyld.specs.Binds.{is_done}
use Rattle.mach_dyld.specs.Imports.{Import, imports_in, BindRanges, input_in, ListsImports}

-- these are the imports of all binds of one stream
abbrev pub HasList : Input → Range → List Import → Type 0
HasList x r list = (ps : List Placed) × IsStream x r ps × (imports_in x r ps ≡ map Ok list)

-- the list of both streams is that of the non-lazy stream, then that of the lazy stream
abbrev pub ListsByStream : Type 0
ListsByStream = (b : BindRanges) (pointer : ℕ) (libs : List (List ℕ)) (segments : List SegmentView) (list : List Import)
    → ListsImports b pointer libs segments list
    ↔ ((one : List Import) × (two : List Import) × HasList (input_in b pointer libs segments) b.non_lazy one
    × HasList (input_in b pointer libs segments) b.lazy two × (list ≡ one ++ two))

-- the import with its sequence raised by a number
abbrev pub raised : ℕ → Import → Import
raised n i = record i { start_of_sequence_offset = i.start_of_sequence_offset + n }

-- the range up to a place, and the range from there on
abbrev pub front_range : Range → ℕ → Range
front_range r cut = record { from = r.from; upto = cut; is_lazy = r.is_lazy }

abbrev pub rest_range : Range → ℕ → Range
rest_range r cut = record { from = cut; upto = r.upto; is_lazy = r.is_lazy }

-- If the first instructions of a range end with a DONE, the range has a list exactly if its parts before and after that
-- place have one. It is the list of the first part, then that of the second with the sequences raised by the first part's
-- length.
abbrev pub CutsAfterDone : Type 0
CutsAfterDone = (x : Input) (r : Range) (front : List Placed) (d : Placed) (list : List Import)
    → IsBeginning x r (front ++ d ∷ []) → is_done d ≡ true
    → HasList x r list
    ↔ ((one : List Import) × (two : List Import) × HasList x (front_range r d.after) one
    × HasList x (rest_range r d.after) two × (list ≡ one ++ map (raised (d.after - r.from)) two))
