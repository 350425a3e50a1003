-- The words of a program's lines that are painted where output is coloured.
use Rattle.std.specs.Prelude.{◌≡◌, ◌≢◌, ◌==◌, ◌||◌, ◌&&◌, ◌<◌, ◌-◌, ℕ, List, [], ◌∷◌, ◌++◌, codes, length, take, drop, Bool, false, nat_eq, nat_lt}
use Rattle.std.specs.Prelude.{if◌then◌else◌, Option, Some, None, slice_get, get_or}
use Rattle.std.specs.Io.KnownBytes.{Appends}
use Rattle.std.specs.List.{starts_with}
use Rattle.mach_cli.specs.declared.painted.Painted.{Painted}
use Rattle.mach_cli.specs.declared.painted.Painted.TheVariants.{Plain, Coloured}

-- what says that something is at fault, that it is refused, or that a segment is both writable and executable
abbrev pub painted_words : List (List ℕ)
painted_words = codes "fault:" ∷ codes "malformed:" ∷ codes "not sound" ∷ codes "refused:" ∷ codes "unreadable:" ∷ codes "w+x" ∷ []

-- a space or a line feed
abbrev pub is_blank : ℕ → Bool
is_blank b = b == 0x20 || b == 0x0a

abbrev pub ends_word : Option ℕ → Bool
ends_word (Some next) = is_blank next
ends_word None = false

-- whether a text begins with a word, and a blank after it
abbrev pub begins_word : (word text : List ℕ) → Bool
begins_word word text = ends_word (slice_get text (length word)) && starts_with nat_eq text word

-- how many bytes the first of some words takes that a text begins with; 0 if it begins with none
abbrev pub word_len : List (List ℕ) → List ℕ → ℕ
word_len [] text = 0
word_len (word ∷ words) text = if begins_word word text then length word else word_len words text

abbrev pub painted_len : List ℕ → ℕ
painted_len text = word_len painted_words text

-- whether a painted word begins at a place of a text, after a blank
abbrev pub is_painted_at : List ℕ → ℕ → Bool
is_painted_at text at = nat_lt 0 at && (is_blank (get_or text (at - 1) 0) && nat_lt 0 (painted_len (drop at text)))

-- red, and the end of it (ECMA-48, select graphic rendition)
abbrev pub in_red : List ℕ → List ℕ
in_red text = 0x1b ∷ codes "[31m" ++ (text ++ 0x1b ∷ codes "[0m")

-- What is written for the first n bytes of a text: in red if they are a painted word at its start.
abbrev pub painted_first : (n : ℕ) → List ℕ → List ℕ
painted_first n text = if painted_len text == 0 then take n text else in_red (take n text)

-- These bytes are a painted word at the start of a text, and no more; or they end before the next painted word.
abbrev pub StopsAtPainted : (n : ℕ) → List ℕ → Type 0
StopsAtPainted n text =
    (painted_len text ≢ 0 → n ≡ painted_len text) × (painted_len text ≡ 0 → (i : ℕ) → i < n → is_painted_at text i ≡ false)

-- The bytes that a writer was given, if they are known. Where output is coloured some of them are painted.
abbrev pub painted_contents : {W : Type 0} → (W → Option (List ℕ)) → Painted W → Option (List ℕ)
painted_contents contents (Plain w) = contents w
painted_contents contents (Coloured w) = None

-- The writer passed on the first n bytes of a text, painted where output is coloured.
abbrev pub PaintsOn : {W : Type 0} → (W → Option (List ℕ)) → (old new : Painted W) → (n : ℕ) → List ℕ → Type 0
PaintsOn contents (Plain v) (Plain w) n text = Appends (contents v) (contents w) (take n text)
PaintsOn contents (Plain v) (Coloured w) n text = ⊥
PaintsOn contents (Coloured v) (Plain w) n text = ⊥
PaintsOn contents (Coloured v) (Coloured w) n text = Appends (contents v) (contents w) (painted_first n text) × StopsAtPainted n text

-- a writer that wraps another
abbrev pub painter_of : {W : Type 0} → (is_coloured : Bool) → W → Painted W
painter_of is_coloured w = if is_coloured then Coloured w else Plain w
