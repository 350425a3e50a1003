-- LEB128: numbers in groups of seven bits, as dyld reads them in export tries and bind opcodes.
use Rattle.std.specs.Prelude.{◌≡◌, ◌==◌, ℕ, ◌+◌, ◌-◌, ◌*◌, ◌%◌, ◌^◌, ◌<◌, ◌≤◌, ℤ, pos, ◌-ℤ◌, Bool, ◌&&◌, ◌||◌, ◌⊎◌, List, [], ◌∷◌, length, take, drop}
use Rattle.std.specs.Prelude.{slice_index, Option, Some, None, option_map, Result, Ok, Err, nat_le, nat_lt, if◌then◌else◌}
use Rattle.mach_base.specs.declared.leb128.Uleb128.{Uleb128}
use Rattle.mach_base.specs.declared.leb128.Sleb128.{Sleb128}
use Rattle.mach_base.specs.Fault.{Fault, bad_offset, bad_input}

-- the number of some groups: the sum of each byte's low seven bits times 128 to the power of its place
abbrev pub groups_value : List ℕ → ℕ
groups_value [] = 0
groups_value (b ∷ bs) = b % 128 + 128 * groups_value bs

-- every byte but the last has bit 7 set, and the last has it clear
abbrev pub IsGroups : List ℕ → Type 0
IsGroups [] = ⊥
IsGroups (b ∷ []) = b < 128
IsGroups (b ∷ c ∷ bs) = (128 ≤ b) × IsGroups (c ∷ bs)

-- these bytes spell n: one to ten groups, of which the tenth, if any, is 0 or 1
pub record IsUleb (spelled : List ℕ) (n : ℕ) : Type 0 where
  pub groups : IsGroups spelled
  pub at_most_ten : length spelled ≤ 10
  pub tenth : slice_index spelled 9 ≤ 1
  pub value : n ≡ groups_value spelled

-- these bytes lie at s and spell n
pub record Spells (bytes : List ℕ) (s : ℕ) (spelled : List ℕ) (n : ℕ) : Type 0 where
  pub here : take (length spelled) (drop s bytes) ≡ spelled
  pub uleb : IsUleb spelled n

-- the last of some groups
abbrev pub last_group : List ℕ → ℕ
last_group groups = slice_index groups (length groups - 1)

-- the signed number of some groups: their number, less 128 to the power of their count if the last is 64 or more
abbrev pub signed_value : List ℕ → ℤ
signed_value groups =
    if nat_lt (last_group groups) 64 then pos (groups_value groups)
    else pos (groups_value groups) -ℤ pos (128 ^ length groups)

-- these bytes spell the signed number z: one to ten groups, of which the tenth, if any, is 0 or 127
pub record IsSleb (spelled : List ℕ) (z : ℤ) : Type 0 where
  pub groups : IsGroups spelled
  pub at_most_ten : length spelled ≤ 10
  pub tenth : (slice_index spelled 9 ≡ 0) ⊎ (slice_index spelled 9 ≡ 127)
  pub value : z ≡ signed_value spelled

-- these bytes lie at s and spell the signed number z
pub record SpellsSigned (bytes : List ℕ) (s : ℕ) (spelled : List ℕ) (z : ℤ) : Type 0 where
  pub here : take (length spelled) (drop s bytes) ≡ spelled
  pub sleb : IsSleb spelled z

-- the bytes up to and with the first whose bit 7 is clear
abbrev pub first_groups : List ℕ → Option (List ℕ)
first_groups [] = None
first_groups (b ∷ bs) = if nat_lt b 128 then Some (b ∷ []) else option_map (λ others. b ∷ others) (first_groups bs)

-- whether groups spell a number of 64 bits
abbrev pub is_short : List ℕ → Bool
is_short groups = nat_le (length groups) 10 && nat_le (slice_index groups 9) 1

-- whether groups spell a signed number of 64 bits
abbrev pub is_short_signed : List ℕ → Bool
is_short_signed groups = nat_le (length groups) 10 && (slice_index groups 9 == 0 || slice_index groups 9 == 127)

-- the value of these groups and the place after them, if they lie at s and are short enough
abbrev pub spelled_at : {V : Type 0} → (List ℕ → Bool) → (List ℕ → V) → List ℕ → ℕ → Option (List ℕ)
    → Result (V × ℕ) Fault
spelled_at short value bytes s None = Err (bad_input (length bytes - s))
spelled_at short value bytes s (Some groups) =
    if short groups then Ok (value groups, s + length groups) else Err (bad_input (length bytes - s))

-- the value of the groups with which the bytes from s on begin, or the reason why there is none
abbrev pub leb_at : {V : Type 0} → (List ℕ → Bool) → (List ℕ → V) → List ℕ → ℕ → Result (V × ℕ) Fault
leb_at short value bytes s =
    if nat_le (length bytes) s then Err (bad_offset s)
    else spelled_at short value bytes s (first_groups (drop s bytes))

-- The number spelled at s and the place after its spelling, or the reason why there is none.
-- By the law `one_spelling` they are the number and the end of the spelling in Spells.
unfoldable pub uleb_at : List ℕ → ℕ → Result (ℕ × ℕ) Fault
uleb_at bytes s = leb_at is_short groups_value bytes s

-- The same for a signed number. By the law `one_signed_spelling` it agrees with SpellsSigned.
unfoldable pub sleb_at : List ℕ → ℕ → Result (ℤ × ℕ) Fault
sleb_at bytes s = leb_at is_short_signed signed_value bytes s

-- the number that was read, and how many bytes spell it
abbrev pub uleb_number : Uleb128 → ℕ
uleb_number u = u.value

abbrev pub uleb_size : Uleb128 → ℕ
uleb_size u = u.size

-- the number that a signed one spells
abbrev pub sleb_number : Sleb128 → ℤ
sleb_number u = u.value

abbrev pub sleb_size : Sleb128 → ℕ
sleb_size u = u.size
