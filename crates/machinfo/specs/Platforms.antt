-- Platforms as they are shown.
use Rattle.std.specs.Prelude.{ℕ, List, codes, unwrap_or}
use Rattle.mach_records.specs.NumberNames as names

-- the name of a platform; "unknown" if it has none
abbrev pub platform_word : ℕ → List ℕ
platform_word number = unwrap_or (names.platform_name number) (codes "unknown")
