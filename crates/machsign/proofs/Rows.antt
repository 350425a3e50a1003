-- Lists whose rows can all be read.
use Rattle.std.proofs.Common.{◌≡◌, ◌++◌, ◌∷◌, [], ◌∙◌, ◌-◌, ℕ, Bool, List, Option, Result, Ok, Err, length, map, take, refl, ap, subst}
use Rattle.std.proofs.lemmas.List.{length-map, take-map}
use Rattle.std.specs.Io.KnownBytes.{Appends}
use Rattle.std.specs.List.{flat_map}
use Rattle.std.specs.Prelude.{codes, nat_lt}
use Rattle.mach_base.specs.Fault.{Fault}
use Rattle.mach_base.specs.declared.error.Error.{Error}
use Rattle.mach_cli.specs.JsonArrays.{row_object, with_commas, IsArrayOf}
use Rattle.mach_cli.specs.Lines.{WritesLines}
use Rattle.mach_cli.specs.Listings.{text_read, reported_line}

module _ {X : Type 0} (text : X → List ℕ) where
  -- the row of an item
  abbrev pub row : X → Result (List ℕ) Fault
  row x = Ok (text x)

  lines_reported : (word : List ℕ) (xs : List X) (answers : List (Result (List ℕ) Error)) → map text_read answers ≡ map row xs
      → flat_map (reported_line word) answers ≡ flat_map (λ x. text x ++ codes "\n") xs
  lines_reported word [] [] e = refl
  lines_reported word [] (a ∷ answers) e = absurd (cc)
  lines_reported word (x ∷ xs) [] e = absurd (cc)
  lines_reported word (x ∷ xs) (Ok a ∷ answers) e =
      let head : a ≡ text x = cc in
      let tail : map text_read answers ≡ map row xs = cc in
      ap (λ (t : List ℕ). (t ++ codes "\n") ++ flat_map (reported_line word) answers) head
      ∙ ap (λ (rest : List ℕ). (text x ++ codes "\n") ++ rest) (lines_reported word xs answers tail)
  lines_reported word (x ∷ xs) (Err a ∷ answers) e = absurd (cc)

  objects_reported : (xs : List X) (answers : List (Result (List ℕ) Error)) → map text_read answers ≡ map row xs → map row_object answers ≡ map text xs
  objects_reported [] [] e = refl
  objects_reported [] (a ∷ answers) e = absurd (cc)
  objects_reported (x ∷ xs) [] e = absurd (cc)
  objects_reported (x ∷ xs) (Ok a ∷ answers) e =
      let head : a ≡ text x = cc in
      let tail : map text_read answers ≡ map row xs = cc in
      ap (λ (t : List ℕ). t ∷ map row_object answers) head ∙ ap (λ (rest : List (List ℕ)). text x ∷ rest) (objects_reported xs answers tail)
  objects_reported (x ∷ xs) (Err a ∷ answers) e = absurd (cc)

  -- the lines that were written of the first items
  pub rows_lines : (word : List ℕ) (left : ℕ) (xs : List X) (old new : Option (List ℕ))
      → WritesLines text_read (reported_line word) (take left (map row xs)) old new
      → Appends old new (flat_map (λ x. text x ++ codes "\n") (take left xs))
  rows_lines word left xs old new w =
      subst (λ (t : List ℕ). Appends old new t)
      (w.lines.is_text ∙ lines_reported word (take left xs) w.lines.answers (w.lines.are_items ∙ take-map row left xs)) w.written

  -- the array of the first items
  pub rows_array : (left : ℕ) (xs : List X) (array : List ℕ) → IsArrayOf (take left (map row xs)) array
      → array ≡ codes "[" ++ (with_commas (map text (take left xs)) ++ codes "]")
  rows_array left xs array a =
      a.is_text ∙ ap (λ (objects : List (List ℕ)). codes "[" ++ (with_commas objects ++ codes "]"))
      (objects_reported (take left xs) a.answers (a.are_rows ∙ take-map row left xs))

  -- how many may be printed after them
  pub rows_left : (left : ℕ) (xs : List X) (n : ℕ) → n ≡ left - length (map row xs) → n ≡ left - length xs
  rows_left left xs n is = is ∙ ap (λ (count : ℕ). left - count) (length-map xs row)

  pub rows_more : (left : ℕ) (xs : List X) (b : Bool) → b ≡ nat_lt left (length (map row xs)) → b ≡ nat_lt left (length xs)
  rows_more left xs b is = is ∙ ap (λ (count : ℕ). nat_lt left count) (length-map xs row)
