-- Numbers of some bytes in either byte order, and the bounded read. Every field of `mach-o/loader.h` is such a number.
use Rattle.std.specs.Prelude.{ℕ, ◌+◌, ◌-◌, ◌^◌, min, List, length, take, drop, Result, Ok, Err, nat_le, if◌then◌else◌, ◌==◌, Bool, not}
use Rattle.byteorder.specs.Endian.{little_number, big_number, little_bytes, big_bytes}
use Rattle.mach_base.specs.declared.context.Endian.{Endian}
use Rattle.mach_base.specs.declared.context.Endian.TheVariants.{Little, Big}
use Rattle.mach_base.specs.Fault.{Fault, bad_offset, too_big}

-- the number of the first n bytes: the sum of each byte times 256 to the power of its place, counted from the lowest byte
abbrev pub number : Endian → ℕ → List ℕ → ℕ
number Little n bytes = little_number n bytes
number Big n bytes = big_number n bytes

-- the n bytes of a number
abbrev pub number_bytes : Endian → ℕ → ℕ → List ℕ
number_bytes Little n x = little_bytes n x
number_bytes Big n x = big_bytes n x

-- the bytes from s on, if s lies in the bytes
abbrev pub rest_from : List ℕ → ℕ → Result (List ℕ) Fault
rest_from bytes s = if nat_le (length bytes) s then Err (bad_offset s) else Ok (drop s bytes)

-- The bounded read: n bytes at s if they lie in the bytes, or else the reason why not.
abbrev pub bounded : {A : Type 0} → ℕ → List ℕ → ℕ → A → Result A Fault
bounded n bytes s found =
    if nat_le (length bytes) s then Err (bad_offset s)
    else (if nat_le (s + n) (length bytes) then Ok found else Err (too_big n (length bytes - s)))

-- the n bytes at s
abbrev pub slice_at : ℕ → List ℕ → ℕ → Result (List ℕ) Fault
slice_at n bytes s = bounded n bytes s (take n (drop s bytes))

-- the number of the n bytes at s
abbrev pub number_at : Endian → ℕ → List ℕ → ℕ → Result ℕ Fault
number_at le n bytes s = bounded n bytes s (number le n (drop s bytes))

-- n, if n bytes lie at s, or else the reason why not
abbrev pub room_at : ℕ → List ℕ → ℕ → Result ℕ Fault
room_at n bytes s = bounded n bytes s n

-- s + n, or the last place of 64 bits if the sum exceeds it. No byte is there, so a read there fails as it would at the sum.
abbrev pub place_after : ℕ → ℕ → ℕ
place_after s n = min (s + n) (2 ^ 64 - 1)

-- a number other than 0 means yes
abbrev pub says_yes : ℕ → Bool
says_yes n = not (n == 0)
