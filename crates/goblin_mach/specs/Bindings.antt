-- What dyld binds of an image, except the stream of weak binds: the bindings of its bind opcodes (`mach-o/loader.h`, the
-- constants BIND_OPCODE), first the non-lazy and then the lazy ones, followed by those of its chains
-- (`mach-o/fixup-chains.h`).
use Rattle.std.specs.Prelude.{◌≡◌, ℕ, List, [], ◌∷◌, ◌++◌, Option, Some, None, Result, Ok, Err}
use Rattle.mach_base.specs.Fault.{Fault}
use Rattle.mach_parts.specs.Bindings.{Binding}
use Rattle.mach_parts.specs.Segment.{SegmentView}
use Rattle.mach_dyld.specs.Bindings.{AreBindings, upto_fault}
use Rattle.mach_dyld.specs.Imports.{BindRanges, input_in}
use Rattle.mach_dyld.specs.Streams.{Placed}
use Rattle.mach_chained.specs.Bindings.{AreBindingItems}
use Rattle.mach_chained.specs.Header.{Fixups}
use Rattle.goblin_mach.specs.Fixups.{input_over}

-- these are the bindings of an image's bind opcodes, up to the first fault; there are none if it has no opcodes
abbrev pub AreOpcodeBindings : Option BindRanges → ℕ → List (List ℕ) → List SegmentView → List (Result Binding Fault) → Type 0
AreOpcodeBindings None pointer libs segments items = items ≡ []
AreOpcodeBindings (Some b) pointer libs segments items =
    (ps : List Placed) × (qs : List Placed) × AreBindings (input_in b pointer libs segments) b.non_lazy b.lazy ps qs items

-- These are the bindings of its chains, up to the first fault. There are none if it has no chains, and only a fault if the
-- header of its fixups can't be read.
abbrev pub AreChainBindings : Result (Option Fixups) Fault → List (List ℕ) → List SegmentView → List (Result Binding Fault) → Type 0
AreChainBindings (Err f) libs segments items = items ≡ Err f ∷ []
AreChainBindings (Ok None) libs segments items = items ≡ []
AreChainBindings (Ok (Some fixups)) libs segments items = AreBindingItems (input_over fixups segments) libs items

-- these are its bindings: those of the opcodes, then those of the chains, up to and including the first fault
pub record AreImageBindings (binds : Option BindRanges) (chained : Result (Option Fixups) Fault) (pointer : ℕ) (libs : List (List ℕ))
    (segments : List SegmentView) (items : List (Result Binding Fault)) : Type 0 where
  pub by_opcodes : List (Result Binding Fault)
  pub by_chains : List (Result Binding Fault)
  pub opcodes : AreOpcodeBindings binds pointer libs segments by_opcodes
  pub chains : AreChainBindings chained libs segments by_chains
  pub are : items ≡ upto_fault (by_opcodes ++ by_chains)
