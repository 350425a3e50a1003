-- The code directories of a signature, and the one that counts.
use Rattle.std.specs.Prelude.{◌≡◌, ℕ, List, [], ◌∷◌, filter, filter_map, flat_map, codes, Option, Some, None, Result, Ok, Err, ◌==◌, if◌then◌else◌}
use Rattle.std.specs.List.{range_with_len}
use Rattle.mach_base.specs.Answer.{◌>>=◌}
use Rattle.mach_base.specs.Fault.{Fault, malformed}
use Rattle.mach_base.specs.Sums.{found_or_malformed}
use Rattle.mach_base.specs.declared.error.Error.{Error}
use Rattle.mach_base.specs.declared.error.Error.TheVariants as errors
use Rattle.mach_signature.specs.Directories.{Directory, directory_at}
use Rattle.mach_signature.specs.Hashes.{hash_rank}
use Rattle.mach_signature.specs.Slots.{is_directory_slot}
use Rattle.mach_signature.specs.SuperBlob.{SuperBlob, slot_at, blob_at}

-- the slot of a directory, and the directory, or why it can't be read
abbrev pub SlotDirectory : Type 0
SlotDirectory = ℕ × Result Directory Fault

-- the blob of a number, as a directory
unfoldable pub directory_in : SuperBlob → ℕ → Result Directory Fault
directory_in s k = blob_at s k >>= (λ blob. directory_at blob.bytes)

-- the directory that a blob is, by its slot
abbrev pub directory_entry : SuperBlob → ℕ → Option SlotDirectory
directory_entry s k = if is_directory_slot (slot_at s k) then Some (slot_at s k, directory_in s k) else None

-- all directories with their slots, in the order of the index
abbrev pub directories_of : SuperBlob → List SlotDirectory
directories_of s = filter_map (directory_entry s) (range_with_len 0 s.count)

-- the refusal of the first that can't be read
abbrev pub first_refused : List SlotDirectory → Option Fault
first_refused [] = None
first_refused ((slot, Ok d) ∷ ds) = first_refused ds
first_refused ((slot, Err f) ∷ ds) = Some f

-- the directory, if it can be read
abbrev pub readable_one : Result Directory Fault → List Directory
readable_one (Ok d) = d ∷ []
readable_one (Err f) = []

abbrev pub readable_directories : List SlotDirectory → List Directory
readable_directories ds = flat_map (λ (x : SlotDirectory). readable_one x.1) ds

-- those whose hash has the given rank
abbrev pub filter_rank : ℕ → List Directory → List Directory
filter_rank rank ds = filter (λ d. hash_rank d.hash == rank) ds

-- the directory, if there is one; two or more are malformed
abbrev pub at_most_one : List Directory → Result (Option Directory) Fault
at_most_one [] = Ok None
at_most_one (d ∷ []) = Ok (Some d)
at_most_one (d ∷ e ∷ ds) = Err malformed

-- the directory whose hash has the rank; two of one rank are malformed
abbrev pub of_rank : ℕ → List SlotDirectory → Result (Option Directory) Fault
of_rank rank ds = at_most_one (filter_rank rank (readable_directories ds))

abbrev pub or_lower : Option Directory → Option Directory → Option Directory
or_lower None lower = lower
or_lower (Some d) lower = Some d

-- the directory of the highest rank
abbrev pub highest_of : List SlotDirectory → Result (Option Directory) Fault
highest_of ds = do
  sha384 ← of_rank 4 ds
  sha256 ← of_rank 3 ds
  truncated ← of_rank 2 ds
  sha1 ← of_rank 1 ds
  Ok (or_lower sha384 (or_lower sha256 (or_lower truncated sha1)))

abbrev pub none_refused : Option Fault → Result Directory Fault → Result Directory Fault
none_refused None there = there
none_refused (Some f) there = Err f

-- The directory that counts: all can be read, no two have the same hash, and this one has the highest rank.
unfoldable pub directory_of : SuperBlob → Result Directory Fault
directory_of s = none_refused (first_refused (directories_of s)) (highest_of (directories_of s) >>= found_or_malformed)

-- ---- the text of a refusal

-- why no directory counts although all can be read: two have the same hash, or there is none
pub data NoneCounts : Type 0 where
  two_of_one_hash : NoneCounts
  no_directory : NoneCounts

abbrev pub words_of_none : NoneCounts → List ℕ
words_of_none two_of_one_hash = codes "two code directories of one hash"
words_of_none no_directory = codes "no code directory"

abbrev pub none_counts : Result (Option Directory) Fault → Option NoneCounts
none_counts (Ok (Some d)) = None
none_counts (Ok None) = Some no_directory
none_counts (Err f) = Some two_of_one_hash

-- the text of an error
abbrev pub SaysWords : Error → List ℕ → Type 0
SaysWords (errors.Malformed msg) words = msg.now ≡ words
SaysWords (errors.BadMagic magic) words = ⊥
SaysWords (errors.Scroll e) words = ⊥
SaysWords (errors.BufferTooShort count what) words = ⊥
SaysWords (errors.Memory e) words = ⊥

-- an error gives the reason why none counts
abbrev pub SaysNoneCounts : Error → SuperBlob → Type 0
SaysNoneCounts e s = (why : NoneCounts) × (none_counts (highest_of (directories_of s)) ≡ Some why) × SaysWords e (words_of_none why)
