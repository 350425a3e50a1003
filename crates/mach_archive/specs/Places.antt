-- Texts of an archive, and their places in its bytes.
use Rattle.std.specs.Prelude.{◌≡◌, ◌≤◌, ◌+◌, ℕ, List, length, take, drop}

-- some bytes of an archive, and their place in it
pub record PlacedText : Type 0 where
  pub place : ℕ
  pub text : List ℕ

-- the bytes after the first n, and the first n bytes
abbrev pub rest_of_text : ℕ → PlacedText → PlacedText
rest_of_text n p = record { place = p.place + n; text = drop n p.text }

abbrev pub front_of_text : ℕ → PlacedText → PlacedText
front_of_text n p = record { place = p.place; text = take n p.text }

-- the text is in the bytes at a place
pub record IsTextAt (text bytes : List ℕ) (place : ℕ) : Type 0 where
  pub within : place + length text ≤ length bytes
  pub same : take (length text) (drop place bytes) ≡ text
