-- Entries of a fat file that overlap. They are audited as long as they have no more bytes together than the file.
use Rattle.std.specs.Prelude.{◌<◌, ◌≤◌, ◌+◌, ℕ, Bool, true, List, length, take, min, if◌then◌else◌}
use Rattle.std.specs.List.{sum_by}
use Rattle.mach_parts.specs.ArchForms.{ArchForm}
use Rattle.mach_parts.specs.Fat.{part_of}

-- each entry is selected
abbrev pub every : {R : Type 0} → R → Bool
every arch = true

-- how many bytes of the file a record of a form names, if it is selected
abbrev pub selected_len : {R : Type 0} → ArchForm R → (R → Bool) → List ℕ → R → ℕ
selected_len form selects bytes arch = if selects arch then length (part_of bytes (form.offset arch) (form.size arch)) else 0

-- how many bytes the selected records name in total
abbrev pub selected_bytes : {R : Type 0} → ArchForm R → (R → Bool) → List ℕ → List R → ℕ
selected_bytes form selects bytes archs = sum_by (selected_len form selects bytes) archs

-- in total they name more bytes than the file has
abbrev pub AreOverlaid : {R : Type 0} → ArchForm R → (R → Bool) → List ℕ → List R → Type 0
AreOverlaid form selects bytes archs = length bytes < selected_bytes form selects bytes archs

-- The first n are audited: n is the greatest number up to `limit` for which these have no more bytes together than the file.
pub record AreGoneOver {R : Type 0} (form : ArchForm R) (selects : R → Bool) (limit : ℕ) (bytes : List ℕ) (archs : List R) (n : ℕ) : Type 0 where
  pub few : n ≤ min limit (length archs)
  pub room : selected_bytes form selects bytes (take n archs) ≤ length bytes
  pub met : n < min limit (length archs) → AreOverlaid form selects bytes (take (n + 1) archs)
