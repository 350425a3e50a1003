-- Entries of a fat file that overlap.
use Rattle.std.proofs.Common.{◌≡◌, ◌<◌, ◌≤◌, ◌+◌, ◌∙◌, ℕ, Bool, List, length, take, get_or, ap, arith, take_all}
use Rattle.std.proofs.lemmas.List.{take_more}
use Rattle.std.proofs.lemmas.List.Sums.{sum_by_push, sum_by-take-le}
use Rattle.mach_parts.specs.ArchForms.{ArchForm}
use Rattle.mach_audit.specs.Overlaid.{AreGoneOver, AreOverlaid, selected_bytes, selected_len}

module _ {R : Type 0} (form : ArchForm R) (selects : R → Bool) (bytes : List ℕ) (archs : List R) where
  pub bytes_more : (i : ℕ) (d : R) → i < length archs
      → selected_bytes form selects bytes (take (i + 1) archs)
      ≡ selected_bytes form selects bytes (take i archs) + selected_len form selects bytes (get_or archs i d)
  bytes_more i d less =
      ap (selected_bytes form selects bytes) (take_more archs i d less)
      ∙ sum_by_push (selected_len form selects bytes) (take i archs) (get_or archs i d)

  -- if not all of them are audited, though the limit is not reached, they are overlaid
  pub overlaid_by : (limit n : ℕ) → AreGoneOver form selects limit bytes archs n → n < length archs → n < limit → AreOverlaid form selects bytes archs
  overlaid_by limit n gone more under =
      let past = gone.met (omega (arith, more, under)) in
      omega (arith, past, sum_by-take-le (selected_len form selects bytes) archs (n + 1))

  -- if all are audited, they aren't overlaid
  pub not_overlaid : (limit n : ℕ) → AreGoneOver form selects limit bytes archs n → length archs ≤ n → AreOverlaid form selects bytes archs → ⊥
  not_overlaid limit n gone all overlaid = omega (arith, gone.room, ap (selected_bytes form selects bytes) (take_all n archs all), overlaid)
