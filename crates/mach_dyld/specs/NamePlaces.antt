-- The place of the name in a bind's settings.
use Rattle.std.specs.Prelude.{◌≡◌, ◌⊎◌, ◌^◌, ◌-◌, ℕ, List, [], Result, Ok, Err}
use Rattle.mach_base.specs.Fault.{Fault}
use Rattle.mach_base.specs.Text.{text_at}
use Rattle.mach_dyld.specs.declared.imports.settings.Settings.{Settings}

-- a name is the text at a place; or it has no bytes, and the place is the last of 64 bits
abbrev pub IsNamed : List ℕ → List ℕ → ℕ → Type 0
IsNamed bytes name place = ((name ≡ []) × (place ≡ 2 ^ 64 - 1)) ⊎ (text_at bytes place ≡ Ok name)

-- no name was set
abbrev pub IsUnnamed : Settings → Type 0
IsUnnamed s = (s.name.now ≡ []) × (s.name_place ≡ 2 ^ 64 - 1)

-- the name is the text at its place, if one was set
abbrev pub NameIsSet : List ℕ → Settings → Type 0
NameIsSet bytes s = IsNamed bytes s.name.now s.name_place

-- the text, if there is one
abbrev pub text_or_none : Result (List ℕ) Fault → List ℕ
text_or_none (Ok text) = text
text_or_none (Err f) = []
