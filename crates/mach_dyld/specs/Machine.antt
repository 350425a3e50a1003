-- Two streams of instructions that make items by rules, read one after the other, with settings that run forward. Callers
-- don't need it: the contracts of what they call say that the items at the start are those of the definitions.
use Rattle.std.specs.Prelude.{◌≡◌, ◌+◌, ◌-◌, ◌%◌, ◌^◌, ◌<◌, ◌≤◌, ℕ, zero, suc, pos, List, [], ◌∷◌, ◌++◌, map, length, Bool, true, false}
use Rattle.std.specs.Prelude.{Option, Some, None, Result, Ok, Err, IsErr, nat_lt, if◌then◌else◌}
use Rattle.mach_base.specs.Answer.{◌>>=◌}
use Rattle.mach_base.specs.Fault.{Fault, malformed, fault_item}
use Rattle.mach_parts.specs.Segment.{segment_view}
use Rattle.mach_dyld.specs.Instructions as instructions
use Rattle.mach_dyld.specs.Instructions.{done, library, symbol, addend, segment, advance, binds, nothing, strong, byte_at}
use Rattle.mach_dyld.specs.Streams.{Input, Range, Placed, Reader}
use Rattle.mach_dyld.specs.Binds.{Bind, row_count, stride_of, rows_in, stride_in}
use Rattle.mach_dyld.specs.Faults.{upto_fault}
use Rattle.mach_base.specs.Text.{texts}
use Rattle.mach_dyld.specs.NamePlaces.{NameIsSet}
use Rattle.mach_dyld.specs.declared.imports.settings.Settings.{Settings}
use Rattle.mach_dyld.specs.declared.imports.source.Source.{Source}
use Rattle.mach_dyld.specs.declared.imports.state.State as state
use Rattle.mach_dyld.specs.declared.imports.stream.Stop.{Stop}
use Rattle.mach_dyld.specs.declared.imports.stream.Stop.TheVariants as stops
use Rattle.mach_dyld.specs.declared.imports.stream.Stream.{Stream}

-- ---- rules

-- The rules of streams that make items A, with settings M beyond those of a bind: the settings at the start of a range, by
-- whether it is the lazy one; the settings after an instruction, by its opcode byte; what is read at a place of a range; and
-- the item of a bind.
pub record Rules (M A : Type 0) : Type 0 where
  pub first : Bool → M
  pub set : ℕ → M → M
  pub read : Range → ℕ → List ℕ → Reader
  pub makes : Input → Bind → M → Result A Fault

abbrev pub reader_by : {M A : Type 0} → Rules M A → Input → Range → Reader
reader_by u x r = u.read r x.pointer x.bytes

-- each instruction ends after its place
abbrev pub Moves : Reader → Type 0
Moves reader = (place : ℕ) (found : instructions.Instruction × ℕ) → reader place ≡ Ok found → place < found.1

-- and none is read where there is no byte
pub record ReadsForward {M A : Type 0} (u : Rules M A) : Type 0 where
  pub moves : (r : Range) (pointer : ℕ) (bytes : List ℕ) → Moves (u.read r pointer bytes)
  pub bytes : (r : Range) (pointer : ℕ) (bytes : List ℕ) (place : ℕ) (f : Fault) → byte_at bytes place ≡ Err f → u.read r pointer bytes place ≡ Err f

-- the settings after an instruction, by the byte at its place
abbrev pub set_after : {M A : Type 0} → Rules M A → Result ℕ Fault → M → M
set_after u (Err f) m = m
set_after u (Ok byte) m = u.set byte m

-- ---- the instructions read from a place on

pub record ReadAhead : Type 0 where
  pub read : List Placed
  pub stop : Option Fault

abbrev pub goes_on : ℕ → Result (instructions.Instruction × ℕ) Fault → (ℕ → ReadAhead) → ReadAhead
goes_on place (Err f) rest = record { read = []; stop = Some f }
goes_on place (Ok found) rest = record {
  read = record { place = place; instruction = found.0; after = found.1 } ∷ (rest found.1).read;
  stop = (rest found.1).stop;
}

unfoldable pub reading_within : ℕ → Reader → ℕ → ℕ → ReadAhead
reading_within zero reader upto place = record { read = []; stop = None }
reading_within (suc n) reader upto place =
    if nat_lt place upto then goes_on place (reader place) (reading_within n reader upto)
    else record { read = []; stop = None }

abbrev pub reading_from : Reader → ℕ → ℕ → ReadAhead
reading_from reader upto place = reading_within (upto - place) reader upto place

-- ---- settings

abbrev pub fresh : Bool → ℕ → Bind
fresh is_lazy sequence = record {
  is_lazy = is_lazy;
  library = 0;
  flags = 0;
  name = [];
  addend = pos 0;
  segment = 0;
  offset = 0;
  sequence = sequence;
}

unfoldable pub moved : ℕ → Bind → Bind
moved by b = record b { offset = (b.offset + by) % 2 ^ 64 }

-- the settings after an instruction that ends so far from the range's start, apart from its binds
unfoldable pub set_by : instructions.Instruction → ℕ → Bind → Bind
set_by done end b = fresh b.is_lazy end
set_by (library number) end b = record b { library = number }
set_by (symbol flags name) end b = record b { flags = flags; name = name }
set_by (addend value) end b = record b { addend = value }
set_by (segment number offset) end b = record b { segment = number; offset = offset % 2 ^ 64 }
set_by (advance by) end b = moved by b
set_by (binds count skip) end b = b
set_by nothing end b = b
set_by (strong flags name) end b = record b { flags = flags; name = name }

-- `count` binds, each a stride further than the one before
unfoldable pub strides : Bind → ℕ → ℕ → List Bind
strides b stride zero = []
strides b stride (suc k) = b ∷ strides (moved stride b) stride k

unfoldable pub after_strides : Bind → ℕ → ℕ → Bind
after_strides b stride zero = b
after_strides b stride (suc k) = after_strides (moved stride b) stride k

-- the items of instructions, by the settings before them
unfoldable pub run : {M A : Type 0} → Rules M A → Input → Range → Bind → M → List Placed → List (Result A Fault)
run u x r b m [] = []
run u x r b m (p ∷ ps) =
    let c = set_by p.instruction (p.after - r.from) b in
    let n = set_after u (byte_at x.bytes p.place) m in
    map (λ d. u.makes x d n) (strides c (stride_in x.pointer p) (rows_in p))
    ++ run u x r (after_strides c (stride_in x.pointer p) (rows_in p)) n ps

-- ---- the state of an iterator

pub record State : Type 0 where
  pub range : Range
  pub settings : Bind
  -- the rows left of the last instruction, and the advance after each
  pub count : ℕ
  pub stride : ℕ
  pub place : ℕ
  pub ended : Bool

-- the state at the start of a range
abbrev pub start_of : Range → State
start_of r = record { range = r; settings = fresh r.is_lazy 0; count = 0; stride = 0; place = r.from; ended = false }

-- the state after an instruction
unfoldable pub executed : ℕ → instructions.Instruction → ℕ → State → State
executed pointer i after s = record {
  range = s.range;
  settings = set_by i (after - s.range.from) s.settings;
  count = row_count i;
  stride = stride_of pointer i % 2 ^ 64;
  place = after;
  ended = s.ended;
}

-- the state after what was read, if anything was
abbrev pub executed_by : ℕ → Result (instructions.Instruction × ℕ) Fault → State → Result State Fault
executed_by pointer there s = there >>= λ found. Ok (executed pointer found.0 found.1 s)

-- the items of the rest of its range
unfoldable pub rest_of : {M A : Type 0} → Rules M A → Input → M → State → List (Result A Fault)
rest_of u x m s =
    let ahead = reading_from (reader_by u x s.range) s.range.upto s.place in
    map (λ d. u.makes x d m) (strides s.settings s.stride s.count)
    ++ run u x s.range (after_strides s.settings s.stride s.count) m ahead.read
    ++ fault_item ahead.stop

-- the items of the rest of its range and, after the non-lazy stream, of the lazy stream
unfoldable pub items_of : {M A : Type 0} → Rules M A → Input → Range → M → State → List (Result A Fault)
items_of u x lazy m s =
    if s.ended then []
    else upto_fault (rest_of u x m s ++ (if s.range.is_lazy then [] else rest_of u x (u.first true) (start_of lazy)))

-- the number of instructions left to read
unfoldable pub reads_of : {M A : Type 0} → Rules M A → Input → Range → State → ℕ
reads_of u x lazy s =
    if s.ended then 0
    else length (reading_from (reader_by u x s.range) s.range.upto s.place).read
    + (if s.range.is_lazy then 0 else length (reading_from (reader_by u x lazy) lazy.upto lazy.from).read)

-- ---- the values of the code, as the definitions have them

abbrev pub bind_of : Settings → Bind
bind_of s = record {
  is_lazy = s.is_lazy;
  library = s.library;
  flags = s.flags;
  name = s.name.now;
  addend = s.addend;
  segment = s.segment;
  offset = s.offset;
  sequence = s.sequence;
}

abbrev pub input_of : Source → Input
input_of s = record { bytes = s.bytes.now; pointer = s.pointer; libs = texts s.libs.now; segments = map segment_view s.segments.now }

abbrev pub range_of : state.State → Range
range_of s = record { from = s.from; upto = s.upto; is_lazy = s.settings.is_lazy }

abbrev pub state_of : state.State → State
state_of s = record {
  range = range_of s;
  settings = bind_of s.settings;
  count = s.count;
  stride = s.stride;
  place = s.place;
  ended = s.ended;
}

abbrev pub lazy_of : {M : Type 0} → Stream M → Range
lazy_of it = record { from = it.lazy_from; upto = it.lazy_upto; is_lazy = true }

-- the items that are left, up to the first fault
unfoldable pub items_left : {M A : Type 0} → Rules M A → Stream M → List (Result A Fault)
items_left u it = items_of u (input_of it.source) (lazy_of it) it.more (state_of it.state)

-- the number of instructions left to read
unfoldable pub opcodes_left : {M A : Type 0} → Rules M A → Stream M → ℕ
opcodes_left u it = reads_of u (input_of it.source) (lazy_of it) (state_of it.state)

-- what was read, as an item or a fault
abbrev pub item_read : {I E A : Type 0} → (I → A) → (E → Fault) → Result I E → Result A Fault
item_read seen fault (Ok i) = Ok (seen i)
item_read seen fault (Err e) = Err (fault e)

-- all that was left is a fault, and now nothing is left
abbrev pub Fails : {M A : Type 0} → Rules M A → Stream M → Stream M → Fault → Type 0
Fails u old new f = (items_left u old ≡ Err f ∷ []) × (items_left u new ≡ [])

abbrev pub next_read : {M A : Type 0} → Rules M A → Stream M → Result (instructions.Instruction × ℕ) Fault
next_read u it = u.read (range_of it.state) it.source.pointer it.source.bytes.now it.state.place

-- the next instruction can't be read, and this is its opcode byte, if there is one
pub record IsNextUnreadable {M A : Type 0} (u : Rules M A) (it : Stream M) (byte : ℕ) : Type 0 where
  pub count : it.state.count ≡ 0
  pub on : it.state.ended ≡ false
  pub within : it.state.place < it.state.upto
  pub fault : IsErr (next_read u it)
  pub opcode : it.state.place < length it.source.bytes.now → byte_at it.source.bytes.now it.state.place ≡ Ok byte

-- the next bind makes no item
pub record MakesNothing {M A : Type 0} (u : Rules M A) (it : Stream M) : Type 0 where
  pub count : 0 < it.state.count
  pub on : it.state.ended ≡ false
  pub none : u.makes (input_of it.source) (bind_of it.state.settings) it.more ≡ Err malformed

-- no item comes, for this reason
abbrev pub StopsFor : {M A : Type 0} → Rules M A → Stream M → Stop → Type 0
StopsFor u it (stops.Instruction byte) = IsNextUnreadable u it byte
StopsFor u it stops.Bind = MakesNothing u it

-- both streams are at their end
pub record IsAtEnd {M : Type 0} (it : Stream M) : Type 0 where
  pub count : it.state.count ≡ 0
  pub on : it.state.ended ≡ false
  pub past : it.state.upto ≤ it.state.place
  pub is_lazy : it.state.settings.is_lazy ≡ true

-- the item is that of a bind with these settings, apart from the offset
abbrev pub IsMadeBy : {M A : Type 0} → Rules M A → Stream M → A → Type 0
IsMadeBy u it i = (offset : ℕ) × (u.makes (input_of it.source) (record (bind_of it.state.settings) { offset = offset }) it.more ≡ Ok i)

-- it has ended: nothing is left
pub record HasEnded {M A : Type 0} (u : Rules M A) (it : Stream M) : Type 0 where
  pub ended : it.state.ended ≡ true
  pub left : items_left u it ≡ []

-- it reads this input, and has the place of its name
pub record IsOver {M : Type 0} (x : Input) (lazy : Range) (it : Stream M) : Type 0 where
  pub source : input_of it.source ≡ x
  pub lazy_is : lazy_of it ≡ lazy
  pub named : NameIsSet it.source.bytes.now it.state.settings

-- it reads the same input as before, and has the place of its name if it had it before
pub record Keeps {M : Type 0} (old new : Stream M) : Type 0 where
  pub source : new.source ≡ old.source
  pub lazy_is : lazy_of new ≡ lazy_of old
  pub named : NameIsSet old.source.bytes.now old.state.settings → NameIsSet old.source.bytes.now new.state.settings
