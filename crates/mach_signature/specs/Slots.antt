-- The slots of a signature: what each is for, and the magic of its blob (`cs_blobs.h`).
use Rattle.std.specs.Prelude.{ℕ, Bool, true, false, nat_le, ◌==◌, ◌&&◌, ◌||◌, if◌then◌else◌}
use Rattle.mach_signature.specs.declared.slots.SlotMagic.{SlotMagic}
use Rattle.mach_signature.specs.declared.slots.SlotMagic.TheVariants.{Only, NoBlob, Any}

-- the slots of code directories: the first and five alternate ones
abbrev pub is_directory_slot : ℕ → Bool
is_directory_slot slot = slot == 0 || (nat_le 0x1000 slot && nat_le slot 0x1004)

-- what such a slot seals may be another file, and is no blob
abbrev pub is_outside : ℕ → Bool
is_outside slot = slot == 1 || slot == 3 || slot == 4 || slot == 6

-- which magic a blob of the slot has; slots that aren't named here may have blobs of any magic
abbrev pub slot_magic : ℕ → SlotMagic
slot_magic slot =
    if is_directory_slot slot then Only 0xfade0c02
    else if is_outside slot then NoBlob
    else if slot == 2 then Only 0xfade0c01
    else if slot == 5 then Only 0xfade7171
    else if slot == 7 then Only 0xfade7172
    else if nat_le 8 slot && nat_le slot 11 then Only 0xfade8181
    else if slot == 0x10000 then Only 0xfade0b01
    else Any

abbrev pub is_magic_of : SlotMagic → ℕ → Bool
is_magic_of (Only only) magic = magic == only
is_magic_of NoBlob magic = false
is_magic_of Any magic = true

-- the slot may have a blob of this magic
abbrev pub has_magic : ℕ → ℕ → Bool
has_magic slot magic = is_magic_of (slot_magic slot) magic
