-- Things that are shown in order.
use Rattle.std.specs.Prelude.{ℕ, List, [], ◌∷◌, max}

-- Things are shown in order, each from the state in which those before it left a writer. The status is the worst of theirs.
pub data InOrder {X W : Type 0} (Shows : X → (old new : W) → (status : ℕ) → Type 0) : List X → (old new : W) → (worst : ℕ) → Type 0 where
  none_left : (writer : W) → InOrder Shows [] writer writer 0
  first_then : (x : X) (xs : List X) (old between new : W) (status worst : ℕ) → Shows x old between status
      → InOrder Shows xs between new worst → InOrder Shows (x ∷ xs) old new (max status worst)
