-- What is left at a stop.
use Rattle.mach_dyld.proofs.BindNames.{◌≡◌, ◌-◌, ℕ, suc, [], ◌∷◌, true, Err, arith, Fault, malformed, input_of, lazy_of, state_of, items_left, opcodes_left}
use Rattle.mach_dyld.proofs.BindNames.{Rules, ReadsForward}
use Rattle.mach_dyld.specs.Machine.{IsNextUnreadable, MakesNothing, IsAtEnd, next_read}
use Rattle.mach_dyld.specs.declared.imports.stream.Stream.{Stream}
use Rattle.mach_dyld.proofs.BindSteps.{at_end, after_fault, after_refusal, after_range}

module _ {M A : Type 0} (u : Rules M A) (laws : ReadsForward u) (it : Stream M) where
  -- the fault of the instruction
  pub at_instruction : (byte : ℕ) (f : Fault) → IsNextUnreadable u it byte → next_read u it ≡ Err f → items_left u it ≡ Err f ∷ []
  unfolding items_left
  at_instruction byte f a e = after_fault u laws (input_of it.source) (lazy_of it) it.more (state_of it.state) a.count a.on f a.within e

  -- the fault of the bind
  pub at_bind : MakesNothing u it → items_left u it ≡ Err malformed ∷ []
  unfolding items_left
  at_bind a =
      let more = a.count in
      let k : it.state.count ≡ suc (it.state.count - 1) = omega (arith, more) in
      after_refusal u laws (input_of it.source) (lazy_of it) it.more (state_of it.state) (it.state.count - 1) malformed k a.on a.none

  -- nothing is left at the end of both streams, nor after it
  abbrev IsEmpty : Type 0
  IsEmpty = (items_left u it ≡ []) × (opcodes_left u it ≡ 0)

  pub left_at_end : IsAtEnd it → IsEmpty
  unfolding items_left opcodes_left
  left_at_end a = after_range u laws (input_of it.source) (lazy_of it) it.more (state_of it.state) a.count a.on a.is_lazy a.past

  pub after_end : it.state.ended ≡ true → IsEmpty
  unfolding items_left opcodes_left
  after_end e = at_end u laws (input_of it.source) (lazy_of it) it.more (state_of it.state) e
