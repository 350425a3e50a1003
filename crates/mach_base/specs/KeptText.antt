-- What callers see of a reader that keeps a text.
use Rattle.std.specs.Prelude.{ℕ, List}
use Rattle.mach_base.specs.declared.kept_text.KeptText.{KeptText}

-- the bytes whose texts are read
abbrev pub kept_bytes : KeptText → List ℕ
kept_bytes k = k.bytes.now
