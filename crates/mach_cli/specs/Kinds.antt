-- What a member or an entry is, by its first bytes.
use Rattle.std.specs.Prelude.{ℕ, List, codes, length, take, nat_le, if◌then◌else◌}
use Rattle.mach_base.specs.declared.hint.Hint.{Hint}
use Rattle.mach_base.specs.declared.hint.Hint.TheVariants.{Mach, MachFat, Archive, Unknown}
use Rattle.mach_parts.specs.Magic.{hint_in}

-- the words for what the first bytes hint at
abbrev pub hint_text : Hint → List ℕ
hint_text Archive = codes "archive"
hint_text (Mach said) = codes "image"
hint_text (MachFat count) = codes "fat file"
hint_text (Unknown number) = codes "unknown"

-- the kind, by the first 16 bytes
abbrev pub entry_kind : List ℕ → List ℕ
entry_kind entry = if nat_le 16 (length entry) then hint_text (hint_in (take 16 entry)) else codes "too short"
