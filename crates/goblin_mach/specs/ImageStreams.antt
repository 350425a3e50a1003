-- What dyld rebases in an image, and what it binds weakly: the streams of opcodes that a command names (`mach-o/loader.h`,
-- struct dyld_info_command), and the rebases among the fixups of its chains (`mach-o/fixup-chains.h`).
use Rattle.std.specs.Prelude.{◌≡◌, ℕ, List, [], ◌∷◌, ◌++◌, Option, Some, None, option_map, Result, Ok, Err}
use Rattle.mach_base.specs.Fault.{Fault}
use Rattle.mach_base.specs.Record.{number_among, Value}
use Rattle.mach_base.specs.declared.context.Endian.{Endian}
use Rattle.mach_load.specs.Command.{Command}
use Rattle.mach_load.specs.Commands.{Kind, dyld_info, dyld_info_only}
use Rattle.mach_parts.specs.Segment.{SegmentView}
use Rattle.mach_dyld.specs.Bindings.{upto_fault}
use Rattle.mach_dyld.specs.Streams.{Placed}
use Rattle.mach_chained.specs.Fixups.{Fixup}
use Rattle.mach_chained.specs.Header.{Fixups}
use Rattle.mach_chained.specs.Pointers.{KindOfFixup, rebase}
use Rattle.mach_dyld.specs.Cut.{CutStream, cut_input, cut_range, cut_stream}
use Rattle.mach_dyld.specs.Rebases.{AreOpcodeRebases, Rebase}
use Rattle.mach_dyld.specs.WeakBinds.{AreWeakBinds, WeakBind}
use Rattle.mach_dyld.specs.declared.rebases.RebaseKind.TheVariants.{Pointer}
use Rattle.goblin_mach.specs.Fixups.{AreImageFixups}
use Rattle.goblin_mach.specs.Readings.{Reading, read_of, last_of}

-- ---- the places of the streams

-- the stream at two numbers of a command, if it names opcodes
abbrev pub opcodes_of : (off size : ℕ) → Kind → List ℕ → List Value → Option CutStream
opcodes_of off size dyld_info bytes values = Some (cut_stream bytes (number_among values off) (number_among values size))
opcodes_of off size dyld_info_only bytes values = Some (cut_stream bytes (number_among values off) (number_among values size))
opcodes_of off size _ bytes values = None

-- the stream of rebases; reading it from a command never fails
abbrev pub rebase_stream_by : List ℕ → Reading CutStream
rebase_stream_by bytes c = option_map (λ s. Ok s) (opcodes_of 2 3 c.kind bytes c.values)

-- the stream of weak binds
abbrev pub weak_stream_by : List ℕ → Reading CutStream
weak_stream_by bytes c = option_map (λ s. Ok s) (opcodes_of 6 7 c.kind bytes c.values)

-- the streams of an image: those of the last command that names opcodes
abbrev pub rebase_stream_in : List ℕ → List Command → Option CutStream
rebase_stream_in bytes cs = last_of (read_of (rebase_stream_by bytes) cs)

abbrev pub weak_stream_in : List ℕ → List Command → Option CutStream
weak_stream_in bytes cs = last_of (read_of (weak_stream_by bytes) cs)

-- ---- weak binds

-- these are the weak binds of an image, up to the first fault; there are none if no command names any
abbrev pub AreImageWeakBinds : Option CutStream → ℕ → List SegmentView → List (Result WeakBind Fault) → Type 0
AreImageWeakBinds None pointer segments items = items ≡ []
AreImageWeakBinds (Some s) pointer segments items = (ps : List Placed) × AreWeakBinds (cut_input s pointer segments) (cut_range s) ps items

-- ---- rebases

-- these are the rebases of its opcodes, up to the first fault; there are none if no command names any
abbrev pub AreRebasesByOpcodes : Option CutStream → Endian → ℕ → List SegmentView → List (Result Rebase Fault) → Type 0
AreRebasesByOpcodes None le pointer segments items = items ≡ []
AreRebasesByOpcodes (Some s) le pointer segments items =
    (ps : List Placed) × AreOpcodeRebases (cut_input s pointer segments) le (cut_range s) ps items

-- the rebase that a fixup is, if it is one: of a pointer
abbrev pub rebase_by : Fixup → KindOfFixup → Option Rebase
rebase_by f (rebase target) =
    Some (record { segment = f.segment; offset = f.offset; address = f.address; target = target; kind = Pointer; auth = f.auth })
rebase_by f _ = None

abbrev pub rebase_in : Fixup → Option Rebase
rebase_in f = rebase_by f f.kind

abbrev pub rebases_before : Option Rebase → List (Result Rebase Fault) → List (Result Rebase Fault)
rebases_before None rest = rest
rebases_before (Some r) rest = Ok r ∷ rest

-- the rebases among some fixups, in order, with their faults
abbrev pub rebases_among : List (Result Fixup Fault) → List (Result Rebase Fault)
rebases_among [] = []
rebases_among (Err f ∷ items) = Err f ∷ rebases_among items
rebases_among (Ok f ∷ items) = rebases_before (rebase_in f) (rebases_among items)

-- these are the rebases of an image: those of its opcodes, then those of its chains, up to and including the first fault
pub record AreImageRebases (opcodes : Option CutStream) (chained : Result (Option Fixups) Fault) (le : Endian) (pointer : ℕ)
    (segments : List SegmentView) (items : List (Result Rebase Fault)) : Type 0 where
  pub by_opcodes : List (Result Rebase Fault)
  pub fixups : List (Result Fixup Fault)
  pub opcodes_are : AreRebasesByOpcodes opcodes le pointer segments by_opcodes
  pub fixups_are : AreImageFixups chained segments fixups
  pub are : items ≡ upto_fault (by_opcodes ++ rebases_among fixups)
