-- Lines of an image's items, one after the other.
use Rattle.std.specs.Prelude.{◌≡◌, ℕ, List, Option, map}
use Rattle.std.specs.Io.KnownBytes.{Appends}
use Rattle.std.specs.List.{flat_map}

-- The text has a line for each answer, in order, and the answers read as these items.
pub record AreLines {A X : Type 0} (read : A → X) (line : A → List ℕ) (items : List X) (text : List ℕ) : Type 0 where
  pub answers : List A
  pub are_items : map read answers ≡ items
  pub is_text : text ≡ flat_map line answers

-- Such lines were written.
pub record WritesLines {A X : Type 0} (read : A → X) (line : A → List ℕ) (items : List X) (old new : Option (List ℕ)) : Type 0 where
  pub text : List ℕ
  pub lines : AreLines read line items text
  pub written : Appends old new text
