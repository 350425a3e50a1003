-- What a terminal gets of some bytes.
use Rattle.std.specs.Prelude.{◌==◌, ◌||◌, ◌&&◌, ℕ, List, [], ◌∷◌, Bool, not, nat_lt, flat_map, if◌then◌else◌, Option, None}
use Rattle.std.specs.Io.KnownBytes.{Appends}
use Rattle.mach_cli.specs.Escapes.{escape_text}
use Rattle.mach_cli.specs.declared.terminal.ForTerminal.{ForTerminal}
use Rattle.mach_cli.specs.declared.terminal.ForTerminal.TheVariants.{Plain, Shown}

-- a byte that may change what a terminal shows: a control character except a line feed
abbrev pub is_control : ℕ → Bool
is_control n = nat_lt n 0x20 && not (n == 0x0a) || n == 0x7f

-- what a terminal gets of a byte
abbrev pub shown_byte : ℕ → List ℕ
shown_byte n = if is_control n then escape_text n else n ∷ []

-- what it gets of some bytes
abbrev pub shown_text : List ℕ → List ℕ
shown_text bytes = flat_map shown_byte bytes

-- The bytes that a writer was given, if they are known. On a terminal some of them are escaped.
abbrev pub contents_of : {W : Type 0} → (W → Option (List ℕ)) → ForTerminal W → Option (List ℕ)
contents_of contents (Plain w) = contents w
contents_of contents (Shown w) = None

-- The writer passed these bytes on; a terminal got their escaped form.
abbrev pub HandsOn : {W : Type 0} → (W → Option (List ℕ)) → (old new : ForTerminal W) → List ℕ → Type 0
HandsOn contents (Plain v) (Plain w) bytes = Appends (contents v) (contents w) bytes
HandsOn contents (Plain v) (Shown w) bytes = ⊥
HandsOn contents (Shown v) (Plain w) bytes = ⊥
HandsOn contents (Shown v) (Shown w) bytes = Appends (contents v) (contents w) (shown_text bytes)

-- a writer that wraps another
abbrev pub writer_for : {W : Type 0} → (is_terminal : Bool) → W → ForTerminal W
writer_for is_terminal w = if is_terminal then Shown w else Plain w
