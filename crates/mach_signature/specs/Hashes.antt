-- The hashes of a code directory (`cs_blobs.h`, CS_HASHTYPE; FIPS 180-4).
use Rattle.std.specs.Prelude.{ℕ, List, take, Option, Some, None, ◌==◌, if◌then◌else◌}
use Rattle.sha1.specs.Sha1.{sha1}
use Rattle.sha2.specs.Sha256.{sha256}
use Rattle.sha2.specs.Sha512.{sha384}
use Rattle.mach_signature.specs.declared.hash.HashBytes.{HashBytes}
use Rattle.mach_signature.specs.declared.hash.HashBytes.TheVariants.{Of20, Of32, Of48}
use Rattle.mach_signature.specs.declared.hash.HashType.{HashType}
use Rattle.mach_signature.specs.declared.hash.HashType.TheVariants.{Sha1, Sha256, Sha256Truncated, Sha384}

-- the four hashes that are read, by their numbers
abbrev pub hash_type_of : ℕ → Option HashType
hash_type_of n =
    if n == 1 then Some Sha1
    else if n == 2 then Some Sha256
    else if n == 3 then Some Sha256Truncated
    else if n == 4 then Some Sha384
    else None

-- how many bytes a hash has
abbrev pub hash_len : HashType → ℕ
hash_len Sha1 = 20
hash_len Sha256 = 32
hash_len Sha256Truncated = 20
hash_len Sha384 = 48

-- the rank of a hash: of two directories the one of the higher rank counts
abbrev pub hash_rank : HashType → ℕ
hash_rank Sha1 = 1
hash_rank Sha256Truncated = 2
hash_rank Sha256 = 3
hash_rank Sha384 = 4

-- the bytes of a hash
abbrev pub hash_bytes : HashBytes → List ℕ
hash_bytes (Of20 bytes) = bytes
hash_bytes (Of32 bytes) = bytes
hash_bytes (Of48 bytes) = bytes

-- the hash of some bytes
unfoldable pub hash_of : HashType → List ℕ → List ℕ
hash_of Sha1 bytes = sha1 bytes
hash_of Sha256 bytes = sha256 bytes
hash_of Sha256Truncated bytes = take 20 (sha256 bytes)
hash_of Sha384 bytes = sha384 bytes
