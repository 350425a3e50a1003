-- The leading groups of some bytes, at most nine: the common part of both kinds of LEB128 numbers.
use Rattle.std.specs.Prelude.{◌≡◌, ℕ, ◌+◌, ◌^◌, ◌<◌, ◌≤◌, List, length, take, slice_index}
use Rattle.mach_base.specs.declared.leb128.Groups.{Groups}
use Rattle.mach_base.specs.Leb128.{groups_value}

-- each of the first n bytes has bit 7 set
abbrev pub GoOn : List ℕ → ℕ → Type 0
GoOn bytes n = (k : ℕ) → k < n → 128 ≤ slice_index bytes k

-- the groups up to the first byte with bit 7 clear, or the first nine
pub record AreFront (bytes : List ℕ) (groups : Groups) : Type 0 where
  pub inside : groups.index < length bytes
  pub at_most_nine : groups.index ≤ 8
  pub go_on : GoOn bytes groups.index
  pub last : groups.last ≡ slice_index bytes groups.index
  pub ninth : 128 ≤ groups.last → groups.index ≡ 8
  pub value : groups.value ≡ groups_value (take (groups.index + 1) bytes)
  pub below : groups.value < groups.weight
  pub weight : groups.weight ≡ 128 ^ (groups.index + 1)
  pub fits : groups.weight ≤ 2 ^ 63
