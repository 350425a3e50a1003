-- Relocations (`mach-o/reloc.h`, struct relocation_info).
use Rattle.std.specs.Prelude.{ℕ, ◌+◌, ◌-◌, ◌*◌, ◌/◌, ◌%◌, ◌^◌, ℤ, pos, negsuc, List, [], ◌∷◌, Result, Ok, nat_lt, if◌then◌else◌}
use Rattle.mach_base.specs.declared.context.Endian.{Endian}
use Rattle.mach_base.specs.Answer.{◌>>=◌}
use Rattle.mach_base.specs.Fault.{Fault}
use Rattle.mach_base.specs.Record.{Field, num, Value, number_is, bytes_are, number_among, record_at}
use Rattle.mach_base.specs.Items.{items_from}
use Rattle.mach_parts.specs.declared.relocation.RelocationInfo.{RelocationInfo}

-- The value of a signed four-byte number: the unsigned number with the same bits, in two's complement.
-- Only numbers from -2^31 to 2^31 - 1 have 32 bits; any other number has a value that no field can hold.
abbrev pub value_of_signed : ℤ → Value
value_of_signed (pos n) = if nat_lt n (2 ^ 31) then number_is n else bytes_are (n ∷ [])
value_of_signed (negsuc n) = if nat_lt n (2 ^ 31) then number_is (2 ^ 32 - (n + 1)) else bytes_are (n ∷ n ∷ [])

-- the signed number of a value
abbrev pub signed_of : Value → ℤ
signed_of (number_is n) = if nat_lt n (2 ^ 31) then pos n else negsuc (2 ^ 32 - (n + 1))
signed_of (bytes_are []) = pos 0
signed_of (bytes_are (n ∷ [])) = pos n
signed_of (bytes_are (n ∷ _ ∷ _)) = negsuc n

-- the signed number of the first value
abbrev pub first_signed : List Value → ℤ
first_signed [] = pos 0
first_signed (v ∷ vs) = signed_of v

-- struct relocation_info
abbrev pub relocation_fields : List Field
relocation_fields = num 4 ∷ num 4 ∷ []

abbrev pub relocation_values : RelocationInfo → List Value
relocation_values r = value_of_signed r.r_address ∷ number_is r.r_info ∷ []

abbrev pub relocation_of_values : List Value → RelocationInfo
relocation_of_values vs = record { r_address = first_signed vs; r_info = number_among vs 1 }

-- the number in `count` bits of n, the lowest of which is bit `first`
abbrev pub bits_from : ℕ → ℕ → ℕ → ℕ
bits_from first count n = n / 2 ^ first % 2 ^ count

-- the relocation at a place, or the reason why there is none
abbrev pub relocation_at : Endian → List ℕ → ℕ → Result RelocationInfo Fault
relocation_at le bytes s = record_at le relocation_fields bytes s >>= (λ vs. Ok (relocation_of_values vs))

-- relocation k, if relocation 0 is at `reloff`
abbrev pub relocation_item : Endian → List ℕ → ℕ → ℕ → Result RelocationInfo Fault
relocation_item le bytes reloff k = relocation_at le bytes (reloff + 8 * k)

-- `count` relocations from `reloff` on
abbrev pub relocations_at : Endian → List ℕ → ℕ → ℕ → List (Result RelocationInfo Fault)
relocations_at le bytes reloff count = items_from (relocation_item le bytes reloff) 0 count
