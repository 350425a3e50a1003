-- What an image has at addresses, a row for each.
use Rattle.std.specs.Prelude.{◌≡◌, ◌+◌, ◌-◌, ◌^◌, ◌&&◌, ℕ, List, [], ◌∷◌, ◌++◌, Bool, true, false, nat_le, nat_lt, if◌then◌else◌, Option, Some, None, is_some}
use Rattle.goblin_mach.specs.AddressFound.{IsFoundAt}
use Rattle.goblin_mach.specs.Facts.{HasBase}
use Rattle.goblin_mach.specs.declared.addresses.FoundAt.{FoundAt}

-- An address before sliding, in an image of this base. If its first byte is loaded at an address, there is none below that, and none
-- of more than 64 bits; else it is the same.
abbrev pub unslid_address : (load_address : Option ℕ) → (base address : ℕ) → Option ℕ
unslid_address None base address = Some address
unslid_address (Some start) base address =
    if nat_le start address && nat_lt (address - start + base) (2 ^ 64) then Some (address - start + base) else None

-- This is found at an address before sliding: what the image has there. Without an address it is nothing.
abbrev pub IsFoundUnslid : (bytes : List ℕ) → Option ℕ → FoundAt → Type 0
IsFoundUnslid bytes (Some address) found = IsFoundAt bytes address found
IsFoundUnslid bytes None found = found ≡ record { section = None; symbol = None; function = None }

-- The image at the start of the bytes has this at an address, where it is loaded.
pub record IsFoundLoaded (load_address : Option ℕ) (bytes : List ℕ) (address : ℕ) (found : FoundAt) : Type 0 where
  pub base : ℕ
  pub has_base : HasBase bytes 0 base
  pub is_found : IsFoundUnslid bytes (unslid_address load_address base address) found

-- The text has a row for each address, in order: what the image has there. It is whole if a section holds each.
pub data AreAddressRows (row : (is_first : Bool) → (address : ℕ) → FoundAt → List ℕ) (load_address : Option ℕ) (bytes : List ℕ)
    : (is_first : Bool) → List ℕ → (text : List ℕ) → (whole : Bool) → Type 0 where
  no_rows : (is_first : Bool) → AreAddressRows row load_address bytes is_first [] [] true
  row_then : (is_first : Bool) (address : ℕ) (addresses : List ℕ) (found : FoundAt) (text : List ℕ) (whole : Bool)
      → IsFoundLoaded load_address bytes address found → AreAddressRows row load_address bytes false addresses text whole
      → AreAddressRows row load_address bytes is_first (address ∷ addresses) (row is_first address found ++ text) (is_some found.section && whole)
