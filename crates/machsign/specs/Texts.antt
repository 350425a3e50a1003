-- Hashes, pages, versions and blobs, as they are printed.
use Rattle.std.specs.Prelude.{◌==◌, ◌/◌, ◌%◌, ◌^◌, ℕ, List, ◌++◌, codes, if◌then◌else◌}
use Rattle.std.specs.Fmt.{decimal}
use Rattle.mach_signature.specs.declared.hash.HashType.{HashType}
use Rattle.mach_signature.specs.declared.hash.HashType.TheVariants.{Sha1, Sha256, Sha256Truncated, Sha384}

abbrev pub hash_name : HashType → List ℕ
hash_name Sha1 = codes "sha1"
hash_name Sha256 = codes "sha256"
hash_name Sha256Truncated = codes "sha256-truncated"
hash_name Sha384 = codes "sha384"

-- the page size, by its power of 2; 0 is any size
abbrev pub pages_text : ℕ → List ℕ
pages_text power = if power == 0 then codes "pages of any size" else codes "pages of " ++ decimal (2 ^ power)

-- a version of 16, 8 and 8 bits
abbrev pub runtime_text : ℕ → List ℕ
runtime_text n =
    decimal (n / 2 ^ 16) ++ (codes "." ++ (decimal (n / 2 ^ 8 % 2 ^ 8) ++ (codes "." ++ decimal (n % 2 ^ 8))))
