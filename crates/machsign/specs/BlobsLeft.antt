-- The blobs that are left to print.
use Rattle.std.specs.Prelude.{ℕ, List, map, filter_map, Result, Ok}
use Rattle.mach_base.specs.Fault.{Fault}
use Rattle.mach_signature.specs.SignViews.{blobs_left}
use Rattle.machsign.specs.Blobs.{blob_reported, other_blob}
use Rattle.machsign.specs.declared.blobs.BlobRow.{BlobRow}
use Rattle.machsign.specs.declared.blobs.OtherBlob.{OtherBlob}
use Rattle.machsign.specs.declared.blobs.OtherBlobs.{OtherBlobs}

abbrev pub blob_row_text : BlobRow → List ℕ
blob_row_text row = blob_reported row.form row.blob

abbrev pub blobs_yet : OtherBlobs → List OtherBlob
blobs_yet it = filter_map other_blob (blobs_left it.blobs)

abbrev pub blob_rows_left : OtherBlobs → List (Result (List ℕ) Fault)
blob_rows_left it = map (λ b. Ok (blob_reported it.form b)) (blobs_yet it)
