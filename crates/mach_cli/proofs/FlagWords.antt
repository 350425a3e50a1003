-- The names of a number's bits, one after the other.
use Rattle.std.proofs.Common.{◌≡◌, ◌++◌, ◌∷◌, ◌∙◌, ◌+◌, ◌<◌, ℕ, List, Bool, cond, length, map, drop, get_or, true, false, sym, ap}
use Rattle.std.proofs.lemmas.List.{append_assoc, at_drop_more}
use Rattle.std.specs.Prelude.{◌==◌, bit_and, bit_xor}
use Rattle.mach_base.specs.Named.{Named}
use Rattle.mach_records.specs.FlagNames.{flag_named}
use Rattle.mach_records.specs.declared.flag_names.FlagName.{FlagName}
use Rattle.mach_cli.specs.Flags.{before_text, flag_words_text}

module _ (first : Bool) (x : Named) (words : List Named) (rest : ℕ) where
  abbrev there : List ℕ
  there = before_text first ++ (x.name ++ flag_words_text false words (bit_xor rest x.number))

  -- a bit that isn't set
  pub word_absent : (bit_and rest x.number == 0) ≡ true → flag_words_text first (x ∷ words) rest ≡ flag_words_text first words rest
  word_absent none = ap (λ (b : Bool). cond b (flag_words_text first words rest) there) none

  -- a bit that is set
  pub word_there : (bit_and rest x.number == 0) ≡ false
      → flag_words_text first (x ∷ words) rest ≡ (before_text first ++ x.name) ++ flag_words_text false words (bit_xor rest x.number)
  word_there some = ap (λ (b : Bool). cond b (flag_words_text first words rest) there) some
      ∙ sym (append_assoc (before_text first) x.name (flag_words_text false words (bit_xor rest x.number)))

-- one more name was written
pub words_more : (all text one : List ℕ) (first next : Bool) (rest left : ℕ) (words : List FlagName) (i : ℕ) (d : FlagName) → i < length words
    → all ≡ text ++ flag_words_text first (map flag_named (drop i words)) rest
    → ((following : List Named) → flag_words_text first (flag_named (get_or words i d) ∷ following) rest ≡ one ++ flag_words_text next following left)
    → all ≡ (text ++ one) ++ flag_words_text next (map flag_named (drop (i + 1) words)) left
words_more all text one first next rest left words i d inside is occurs =
    let following = map flag_named (drop (i + 1) words) in
    is ∙ ap (λ more. text ++ more) (at_drop_more (λ (some : List FlagName). flag_words_text first (map flag_named some) rest) words i d inside
    ∙ occurs following)
    ∙ sym (append_assoc text one (flag_words_text next following left))
