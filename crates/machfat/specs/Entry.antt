-- What is written of an entry.
use Rattle.std.specs.Prelude.{ℕ, List, Option}
use Rattle.std.specs.Io.KnownBytes.{Appends}
use Rattle.machfat.specs.declared.created.NewFile.{NewFile}
use Rattle.machfat.specs.declared.created.WholeFile.{WholeFile}

-- A file took exactly these bytes between two states; `contents` is what it holds, if that is known.
abbrev pub Took : {F : Type 0} → (F → Option (List ℕ)) → (old new : F) → List ℕ → Type 0
Took contents old new bytes = Appends (contents old) (contents new) bytes

-- a file as it was created; as it is after it was filled
abbrev pub as_created : {F : Type 0} → NewFile F → F
as_created new = new.file

abbrev pub as_written : {F : Type 0} → WholeFile F → F
as_written whole = whole.file

-- A file took exactly these bytes, from its creation on.
pub record TookInAll {F : Type 0} (contents : F → Option (List ℕ)) (whole : WholeFile F) (bytes : List ℕ) : Type 0 where
  pub new : NewFile F
  pub took : Took contents (as_created new) (as_written whole) bytes

-- A file of the system was created, and took these bytes and no others.
abbrev pub WasWritten : {F : Type 0} → (F → Option (List ℕ)) → List ℕ → Type 0
WasWritten {F} contents bytes = (whole : WholeFile F) × TookInAll contents whole bytes
