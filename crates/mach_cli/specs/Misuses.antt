-- The texts of what is wrong with the arguments of a call.
use Rattle.std.specs.Prelude.{◌≡◌, ◌≤◌, ◌+◌, ◌/◌, ℕ, List, Option, Some, None, ◌++◌, codes, length, min, IfSome}
use Rattle.std.specs.Fmt.{decimal}
use Rattle.std.specs.Str.{chars}
use Rattle.strsim.specs.Edits.{osa_table}
use Rattle.mach_cli.specs.CallWords.{no_text_words}
use Rattle.mach_cli.specs.Escapes.{escaped_bytes, escaped_text}
use Rattle.mach_cli.specs.declared.flag.Nearest.{Nearest}
use Rattle.mach_cli.specs.declared.misuse.Misuse.{Misuse}
use Rattle.mach_cli.specs.declared.misuse.Misuse.TheVariants.{UnknownOption, UnknownWord, NoList, NoNumber, NoCpu, NoName, NoAddress, NoAddressLine}
use Rattle.mach_cli.specs.declared.misuse.Misuse.TheVariants.{InputTwice, NoColor, Together, Missing, NoText}

abbrev pub misuse_words : Misuse → List ℕ
misuse_words (UnknownOption word) = codes "unknown option '" ++ (escaped_text word.now ++ codes "'")
misuse_words (UnknownWord word) = codes "unknown word '" ++ (escaped_text word.now ++ codes "'")
misuse_words (NoList word instead) = codes "no list '" ++ (escaped_text word.now ++ (codes "'; " ++ instead.now))
misuse_words (NoNumber word) = codes "'" ++ (escaped_text word.now ++ codes "' is not a number")
misuse_words (NoCpu word) = codes "'" ++ (escaped_text word.now ++ codes "' is not a cpu")
misuse_words (NoName word) = codes "'" ++ (escaped_text word.now ++ codes "' is not a name of at most 16 bytes")
misuse_words (NoAddress word) = codes "'" ++ (escaped_text word.now ++ codes "' is not an address")
misuse_words (NoAddressLine line) =
    line.what.now ++ (codes " " ++ (decimal line.number ++ (codes ", '" ++ (escaped_bytes line.bytes.now ++ codes "', is not an address"))))
misuse_words InputTwice = codes "standard input can't be read twice"
misuse_words (NoColor word) = codes "'" ++ (escaped_text word.now ++ codes "' is not auto, always or never")
misuse_words (Together options) = options.now ++ codes " can't be given together"
misuse_words (Missing what) = codes "no " ++ (what.now ++ codes " is given")
misuse_words (NoText word) = no_text_words word.what.now word.number word.bytes.now

-- the unknown word, if that is the misuse
abbrev pub unknown_in : Misuse → Option (List ℕ)
unknown_in (UnknownOption word) = Some word.now
unknown_in (UnknownWord word) = Some word.now
unknown_in (NoList word instead) = None
unknown_in (NoNumber word) = None
unknown_in (NoCpu word) = None
unknown_in (NoName word) = None
unknown_in (NoAddress word) = None
unknown_in (NoAddressLine line) = None
unknown_in InputTwice = None
unknown_in (NoColor word) = None
unknown_in (Together options) = None
unknown_in (Missing what) = None
unknown_in (NoText word) = None

-- ---- what was meant

-- how many letters are put in, left out, changed or swapped with the next, to come from one word to another
abbrev pub edits_between : (word name : List ℕ) → ℕ
edits_between word name = (osa_table (chars word) (chars name)).last_row (length (chars name))

-- the most edits that lead from a word to one that it may mean: two, and no more than half of its bytes
abbrev pub most_edits : List ℕ → ℕ
most_edits word = min (length word / 2) 2

-- A name is another word, and it is near.
abbrev pub IsNear : (word name : List ℕ) → Type 0
IsNear word name = (1 ≤ edits_between word name) × (edits_between word name ≤ most_edits word)

-- The nearest name so far is near, or the same; if there is none, a near one is nearer.
pub record AreNear (word : List ℕ) (n : Nearest) : Type 0 where
  pub few : n.edits ≤ most_edits word + 1
  pub near : IfSome n.name (λ name. (n.edits ≡ edits_between word name.now) × (n.edits ≤ most_edits word))
