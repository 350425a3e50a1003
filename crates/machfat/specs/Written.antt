-- Lines of items, as many as are left of a limit, and how they are written.
use Rattle.std.specs.Prelude.{◌≡◌, ◌-◌, ℕ, List, take, length, nat_lt, Bool, Option}
use Rattle.std.specs.Io.KnownBytes.{Appends}
use Rattle.std.specs.List.{list_all}
use Rattle.mach_cli.specs.Lines.{AreLines}
use Rattle.mach_cli.specs.declared.listing.ListProgress.{ListProgress}

-- The text is a line for each of the first items, in order, no more than `left`. It is known whether these are whole, how many
-- more lines there may be, and whether there are more items.
pub record AreItemLines {A X : Type 0} (read : A → X) (line : A → List ℕ) (is_whole : X → Bool) (left : ℕ) (items : List X) (text : List ℕ)
    (t : ListProgress) : Type 0 where
  pub lines : AreLines read line (take left items) text
  pub whole : t.whole ≡ list_all is_whole (take left items)
  pub rest : t.left ≡ left - length items
  pub more : t.more ≡ nat_lt left (length items)

-- A text was written that satisfies `lines`, given what is known then.
pub record WritesAs {K : Type 0} (lines : List ℕ → K → Type 0) (known : K) (old new : Option (List ℕ)) : Type 0 where
  pub text : List ℕ
  pub are_lines : lines text known
  pub written : Appends old new text
