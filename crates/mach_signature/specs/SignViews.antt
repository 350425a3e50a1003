-- What contracts see of a signature.
use Rattle.std.specs.Prelude.{ℕ, ◌-◌, List, Result}
use Rattle.mach_base.specs.declared.error.Error.{Error}
use Rattle.mach_base.specs.Fault.{Fault}
use Rattle.mach_base.specs.Items.{items_from, read_as}
use Rattle.mach_signature.specs.SuperBlob.{SuperBlob, BlobThere, blob_at}
use Rattle.mach_signature.specs.declared.signature.CodeSignature.{CodeSignature}
use Rattle.mach_signature.specs.declared.signature.Blob.{Blob}
use Rattle.mach_signature.specs.declared.signature.Blobs.{Blobs}

abbrev pub signature_view : CodeSignature → SuperBlob
signature_view s = record { bytes = s.bytes.now; count = s.count }

abbrev pub blob_view : Blob → BlobThere
blob_view b = record { slot = b.slot; offset = b.offset; magic = b.magic; bytes = b.bytes.now }

-- a blob, as it was read
abbrev pub blob_read : Result Blob Error → Result BlobThere Fault
blob_read answer = read_as blob_view answer

-- the items that an iterator has left
abbrev pub blobs_left : Blobs → List (Result BlobThere Fault)
blobs_left it = items_from (blob_at (signature_view it.signature)) it.index (it.signature.count - it.index)
