-- What an image has at an address (`mach-o/loader.h`, struct section and LC_FUNCTION_STARTS; `mach-o/nlist.h`, n_sect and n_value).
use Rattle.std.specs.Prelude.{ℕ, List}
use Rattle.goblin_mach.specs.Image.{LossyOpens}
use Rattle.goblin_mach.specs.LookedUpFacts.{HasFunctionAt, HasSymbolAt}
use Rattle.goblin_mach.specs.SlotFacts.{HasSectionAt}
use Rattle.goblin_mach.specs.declared.addresses.FoundAt.{FoundAt}

-- The image at the start of the bytes, opened in strict or in lossy mode, has this at an address: the first section that holds it; the
-- nearest symbol of that section at or below it (IsSymbolAt); and the function that begins at the last function start at or below it,
-- in that section (IsFunctionAt).
pub record IsFoundAt (bytes : List ℕ) (address : ℕ) (found : FoundAt) : Type 0 where
  pub opens : LossyOpens bytes 0
  pub section : HasSectionAt bytes 0 address found.section
  pub symbol : HasSymbolAt bytes 0 address found.symbol
  pub function : HasFunctionAt bytes 0 address found.function
