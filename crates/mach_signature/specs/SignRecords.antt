-- The records of a signature (`cs_blobs.h`).
use Rattle.std.specs.Prelude.{List, [], ◌∷◌}
use Rattle.mach_base.specs.Record.{Field, num, Value, number_is, number_among}
use Rattle.mach_signature.specs.declared.records.SuperBlobHead.{SuperBlobHead}
use Rattle.mach_signature.specs.declared.records.BlobHead.{BlobHead}

-- struct __SC_SuperBlob, without its index
abbrev pub super_blob_fields : List Field
super_blob_fields = num 4 ∷ num 4 ∷ num 4 ∷ []

abbrev pub super_blob_values : SuperBlobHead → List Value
super_blob_values h = number_is h.magic ∷ number_is h.length ∷ number_is h.count ∷ []

abbrev pub super_blob_of_values : List Value → SuperBlobHead
super_blob_of_values vs = record { magic = number_among vs 0; length = number_among vs 1; count = number_among vs 2 }

-- struct __SC_GenericBlob
abbrev pub blob_head_fields : List Field
blob_head_fields = num 4 ∷ num 4 ∷ []

abbrev pub blob_head_values : BlobHead → List Value
blob_head_values h = number_is h.magic ∷ number_is h.length ∷ []

abbrev pub blob_head_of_values : List Value → BlobHead
blob_head_of_values vs = record { magic = number_among vs 0; length = number_among vs 1 }
