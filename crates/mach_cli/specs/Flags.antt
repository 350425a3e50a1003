-- Bits that have names, as they are printed.
use Rattle.std.specs.Prelude.{◌≡◌, ◌==◌, ℕ, List, [], ◌∷◌, ◌++◌, codes, Bool, true, false, bit_and, bit_xor, Option, if◌then◌else◌}
use Rattle.std.specs.Io.KnownBytes.{Appends}
use Rattle.mach_base.specs.Named.{Named}
use Rattle.mach_cli.specs.Listings.{hex_text}

-- the separator before a name: a parenthesis before the first, a comma between two
abbrev pub before_text : (is_first : Bool) → List ℕ
before_text true = codes " ("
before_text false = codes ","

-- the bits without a name, as one number, if any are left
abbrev pub other_flags_text : (is_first : Bool) → ℕ → List ℕ
other_flags_text is_first rest = if rest == 0 then [] else before_text is_first ++ hex_text rest

-- the names of the bits that are set, in order, and then the bits without a name
abbrev pub flag_words_text : (is_first : Bool) → List Named → ℕ → List ℕ
flag_words_text is_first [] rest = other_flags_text is_first rest
flag_words_text is_first (x ∷ xs) rest =
    if bit_and rest x.number == 0 then flag_words_text is_first xs rest
    else before_text is_first ++ (x.name ++ flag_words_text false xs (bit_xor rest x.number))

-- The text for one bit was written: its name, or nothing.
pub record WritesWord (word : Named) (is_first : Bool) (rest : ℕ) (is_next_first : Bool) (rest_next : ℕ) (old new : Option (List ℕ)) : Type 0 where
  pub text : List ℕ
  pub written : Appends old new text
  pub occurs : (words : List Named) → flag_words_text is_first (word ∷ words) rest ≡ text ++ flag_words_text is_next_first words rest_next

-- the parenthesis after them, if there are any
abbrev pub end_text : ℕ → List ℕ
end_text flags = if flags == 0 then [] else codes ")"

-- the number, and the names in parentheses; for 0 the number alone
abbrev pub worded_flags_text : List Named → ℕ → List ℕ
worded_flags_text words flags = hex_text flags ++ (flag_words_text true words flags ++ end_text flags)
