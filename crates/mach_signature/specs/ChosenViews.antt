-- What contracts see of the code directories of a signature.
use Rattle.std.specs.Prelude.{ℕ, List, Option, Result}
use Rattle.mach_base.specs.declared.error.Error.{Error}
use Rattle.mach_base.specs.Fault.{Fault}
use Rattle.mach_base.specs.Items.{read_as}
use Rattle.mach_signature.specs.Chosen.{SlotDirectory, directory_entry}
use Rattle.mach_signature.specs.Directories.{Directory}
use Rattle.mach_signature.specs.DirectoryViews.{directory_view}
use Rattle.mach_signature.specs.Numbered.{reported_left}
use Rattle.mach_signature.specs.SignViews.{signature_view}
use Rattle.mach_signature.specs.declared.directories.Directories.{Directories}
use Rattle.mach_signature.specs.declared.directories.DirectoryBlobs.{DirectoryBlobs}
use Rattle.mach_signature.specs.declared.directory.CodeDirectory.{CodeDirectory}

-- a directory with its slot, as it was read
abbrev pub slot_directory_read : (ℕ × Result CodeDirectory Error) → SlotDirectory
slot_directory_read found = (found.0, read_as directory_view found.1)

abbrev pub blob_count : DirectoryBlobs → ℕ
blob_count b = b.signature.count

abbrev pub directory_reported : DirectoryBlobs → ℕ → Option SlotDirectory
directory_reported b k = directory_entry (signature_view b.signature) k

-- the items that an iterator has left
abbrev pub directories_left : Directories → List SlotDirectory
directories_left it = reported_left blob_count directory_reported it.reported
