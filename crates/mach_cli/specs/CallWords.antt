-- The arguments of a call, as the system gives them.
use Rattle.std.specs.Prelude.{◌≡◌, ℕ, List, [], ◌++◌, codes, string_bytes}
use Rattle.std.specs.Fmt.{decimal}
use Rattle.std.specs.Str.{IsUtf8}
use Rattle.mach_cli.specs.Escapes.{escaped_bytes}
use Rattle.mach_cli.specs.declared.word.Word.{Word}
use Rattle.mach_cli.specs.declared.word.Word.TheVariants.{Text, Bytes}

-- the text of an argument; empty if it isn't text
abbrev pub word_text : Word → List ℕ
word_text (Text text) = string_bytes text
word_text (Bytes number bytes) = []

-- why an argument of this number, or a name in a list, isn't taken, and what to do instead
abbrev pub no_text_words : (what : List ℕ) → (number : ℕ) → (bytes : List ℕ) → List ℕ
no_text_words what number bytes =
    what ++ (codes " " ++ (decimal number ++ (codes ", '" ++ (escaped_bytes bytes ++ codes "', is no UTF-8: give such a file on standard input, as '-'"))))

-- The argument of this number with these bytes: their text if they are UTF-8.
abbrev pub ReadsAs : (number : ℕ) → (bytes : List ℕ) → Word → Type 0
ReadsAs number bytes (Text text) = string_bytes text ≡ bytes
ReadsAs number bytes (Bytes n kept) = (n ≡ number) × (kept.items ≡ bytes) × (IsUtf8 bytes → ⊥)
