-- Versions and UUIDs as they are printed (`mach-o/loader.h`: version_min_command, source_version_command, uuid_command).
use Rattle.std.specs.Prelude.{◌/◌, ◌%◌, ◌^◌, ◌-◌, ℕ, List, [], ◌++◌, take, drop, flat_map, codes, true, false}
use Rattle.std.specs.Fmt.{decimal, digits, padded_integral, format_spec}

-- a version of 16, 8 and 8 bits
abbrev pub version_text : ℕ → List ℕ
version_text n = decimal (n / 65536) ++ codes "." ++ decimal (n / 256 % 256) ++ codes "." ++ decimal (n % 256)

-- a version of 24, 10, 10, 10 and 10 bits
abbrev pub source_version_text : ℕ → List ℕ
source_version_text n =
    decimal (n / 2 ^ 40)
    ++ (codes "."
    ++ (decimal (n / 2 ^ 30 % 1024)
    ++ (codes "." ++ (decimal (n / 2 ^ 20 % 1024) ++ (codes "." ++ (decimal (n / 2 ^ 10 % 1024) ++ (codes "." ++ decimal (n % 1024))))))))

-- a byte in two hexadecimal digits of upper case
abbrev pub upper_byte : ℕ → List ℕ
upper_byte n = padded_integral (format_spec 32 0 4 2 (2 ^ 64 - 1)) false [] (digits 16 true n)

abbrev pub upper_bytes : List ℕ → List ℕ
upper_bytes bytes = flat_map upper_byte bytes

-- a UUID, in five groups
abbrev pub uuid_text : List ℕ → List ℕ
uuid_text u =
    upper_bytes (take 4 u)
    ++ (codes "-"
    ++ (upper_bytes (take 2 (drop 4 u))
    ++ (codes "-"
    ++ (upper_bytes (take 2 (drop 6 u))
    ++ (codes "-" ++ (upper_bytes (take 2 (drop 8 u)) ++ (codes "-" ++ upper_bytes (take 6 (drop 10 u)))))))))
