-- A test that fails for the first items and for one more.
use Rattle.std.proofs.Common.{◌≡◌, ◌∙◌, ◌||◌, ℕ, ◌+◌, ◌<◌, Bool, false, List, length, take, get_or, ap}
use Rattle.std.proofs.lemmas.List.Folds.{list_any_more}
use Rattle.std.specs.List.{list_any}

-- the first items don't pass, nor does the next
pub none_more : {A : Type 0} (is : A → Bool) (xs : List A) (i : ℕ) (d : A) → i < length xs → list_any is (take i xs) ≡ false → is (get_or xs i d) ≡ false
    → list_any is (take (i + 1) xs) ≡ false
none_more is xs i d below before this =
    list_any_more is xs i d below ∙ ap (λ (front : Bool). front || is (get_or xs i d)) before ∙ this
