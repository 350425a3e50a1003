-- The lines of an archive.
use Rattle.std.specs.Prelude.{◌≡◌, ◌&&◌, ◌||◌, ℕ, List, ◌++◌, not}
use Rattle.mach_archive.specs.Archives.{ArchiveView}
use Rattle.mach_cli.specs.Listings.{cut_line}
use Rattle.mach_cli.specs.declared.listing.ListProgress.{ListProgress}
use Rattle.mach_cli.specs.declared.image_view.Outcome.{Outcome}
use Rattle.machfat.specs.MemberLines.{AreMemberLines}
use Rattle.machfat.specs.SymbolLines.{AreIndexLines}

-- The text is the lines of an archive: of its members, then of the symbols of its index, together no more than `left`; and if
-- there are more, a line that says that `limit` are printed. It is whole if there are no more, and no line has a fault.
pub record AreArchiveLines (limit left : ℕ) (a : ArchiveView) (text : List ℕ) (o : Outcome) : Type 0 where
  pub members : List ℕ
  pub symbols : List ℕ
  pub first : ListProgress
  pub second : ListProgress
  pub are_members : AreMemberLines a left members first
  pub are_symbols : AreIndexLines a first.left symbols second
  pub is_text : text ≡ members ++ (symbols ++ cut_line limit (first.more || second.more))
  pub is_whole : o.whole ≡ ((first.whole && second.whole) && not (first.more || second.more))
  pub is_left : o.left ≡ second.left
