-- Blobs as rows.
use Rattle.std.proofs.Common.{◌≡◌, ◌++◌, ◌-◌, ◌∙◌, [], ℕ, List, Option, Result, length, map, take, ap, subst}
use Rattle.std.specs.Io.KnownBytes.{Appends}
use Rattle.std.specs.List.{flat_map}
use Rattle.std.specs.Prelude.{codes, nat_lt}
use Rattle.mach_base.specs.Fault.{Fault}
use Rattle.mach_cli.specs.JsonArrays.{with_commas, WritesArray}
use Rattle.mach_cli.specs.Listings.{WritesRows}
use Rattle.mach_cli.specs.declared.listing.ListProgress.{ListProgress}
use Rattle.machsign.specs.Blobs.{blob_reported}
use Rattle.machsign.specs.BlobsLeft.{blob_rows_left, blobs_yet}
use Rattle.machsign.specs.declared.blobs.OtherBlob.{OtherBlob}
use Rattle.machsign.specs.declared.blobs.OtherBlobs.{OtherBlobs}
use Rattle.machsign.specs.declared.form.Form.{Form}
use Rattle.machsign.specs.declared.form.Form.TheVariants.{Lines, Objects}
use Rattle.machsign.proofs.Rows.{row, rows_array, rows_left, rows_lines, rows_more}

-- the rows of the blobs that are left to print, in a form
pub blob_rows_are : (it : OtherBlobs) (form : Form) (blobs : List OtherBlob) → blobs_yet it ≡ blobs → it.form ≡ form
    → blob_rows_left it ≡ map (row (blob_reported form)) blobs
blob_rows_are it form blobs are is =
    ap (λ (xs : List OtherBlob). map (row (blob_reported it.form)) xs) are ∙ ap (λ (f : Form). map (row (blob_reported f)) blobs) is

module _ (it : OtherBlobs) (blobs : List OtherBlob) (left : ℕ) (old new : Option (List ℕ)) (t : ListProgress) (are : blobs_yet it ≡ blobs) where
  -- the lines of blobs, how many may be printed after them, and whether there are more
  pub blobs_written : it.form ≡ Lines → WritesRows [] left (blob_rows_left it) old new t
      → Appends old new (flat_map (λ b. blob_reported Lines b ++ codes "\n") (take left blobs)) × (t.left ≡ left - length blobs)
      × (t.more ≡ nat_lt left (length blobs))
  blobs_written is written =
      let rows = subst (λ (rows : List (Result (List ℕ) Fault)). WritesRows [] left rows old new t) (blob_rows_are it Lines blobs are is) written in (
        rows_lines (blob_reported Lines) [] left blobs old new rows.lines,
        rows_left (blob_reported Lines) left blobs t.left rows.rest,
        rows_more (blob_reported Lines) left blobs t.more rows.more,
      )

  -- the same for the array of blobs
  pub blobs_arrayed : it.form ≡ Objects → WritesArray left (blob_rows_left it) old new t
      → Appends old new (codes "[" ++ (with_commas (map (blob_reported Objects) (take left blobs)) ++ codes "]")) × (t.left ≡ left - length blobs)
      × (t.more ≡ nat_lt left (length blobs))
  blobs_arrayed is written =
      let rows = subst (λ (rows : List (Result (List ℕ) Fault)). WritesArray left rows old new t) (blob_rows_are it Objects blobs are is) written in (
        subst (λ (text : List ℕ). Appends old new text) (rows_array (blob_reported Objects) left blobs rows.text rows.array) rows.written,
        rows_left (blob_reported Objects) left blobs t.left rows.counts.rest,
        rows_more (blob_reported Objects) left blobs t.more rows.counts.more,
      )
