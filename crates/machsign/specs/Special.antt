-- The special slots of a code directory, as they are printed: those that seal something or have a fault, and as lines some that
-- seal nothing.
use Rattle.std.specs.Prelude.{ℕ, ◌+◌, ◌==◌, ◌||◌, Bool, List, [], ◌++◌, codes, map, filter_map, if◌then◌else◌, Option, Some, None}
use Rattle.std.specs.Fmt.{decimal}
use Rattle.std.specs.List.{range_with_len}
use Rattle.mach_cli.specs.JsonArrays.{with_commas}
use Rattle.mach_cli.specs.SignatureNames.{bytes_text}
use Rattle.mach_signature.specs.AsSigned.{SignedImage}
use Rattle.mach_signature.specs.Directories.{Directory}
use Rattle.mach_signature.specs.SignWords.{slot_words}
use Rattle.mach_signature.specs.Special.{SlotView, seen_slot, shown_slot}
use Rattle.mach_signature.specs.declared.special.SlotState.{SlotState}
use Rattle.mach_signature.specs.declared.special.SlotState.TheVariants.{AsSigned, OtherFile, Unreadable, Unknown, Unsealed, Changed, Absent}
use Rattle.machsign.specs.declared.form.Form.{Form}
use Rattle.machsign.specs.declared.form.Form.TheVariants.{Lines, Objects}

-- the text in one form or in the other
abbrev pub by_form : Form → (line object : List ℕ) → List ℕ
by_form Lines line object = line
by_form Objects line object = object

-- ---- the words of the state of a slot

abbrev pub state_text : SlotState → List ℕ
state_text AsSigned = codes "as signed"
state_text OtherFile = codes "of another file"
state_text Unreadable = codes "unreadable"
state_text Unknown = codes "not known"
state_text Unsealed = codes "not sealed"
state_text Changed = codes "not what was signed"
state_text Absent = codes "sealed, and absent"

-- ---- which slots are shown

-- the slots that have a line even if they seal nothing: the Info.plist, the requirements, the resources, and the entitlements in
-- XML and in DER
abbrev pub has_line : ℕ → Bool
has_line k = k == 1 || k == 2 || k == 3 || k == 5 || k == 7

abbrev pub or_unsealed : ℕ → Option SlotView → Option SlotView
or_unsealed k (Some s) = Some s
or_unsealed k None = if has_line k then Some (seen_slot k [] Unsealed) else None

-- a slot in a form: as an object if it is shown, as a line also if it seals nothing
abbrev pub slot_in : Form → SignedImage → Directory → ℕ → Option SlotView
slot_in Lines x d k = or_unsealed k (shown_slot x d k)
slot_in Objects x d k = shown_slot x d k

-- these slots up to 11, from 1 on
abbrev pub slots_in : Form → SignedImage → Directory → List SlotView
slots_in form x d = filter_map (λ k. slot_in form x d (k + 1)) (range_with_len 0 11)

-- ---- their texts

-- what a line has before the state of a slot that seals something
abbrev pub sealed_text : SlotState → List ℕ
sealed_text AsSigned = codes "sealed, "
sealed_text OtherFile = codes "sealed, "
sealed_text Unreadable = codes "sealed, "
sealed_text Changed = codes "sealed, "
sealed_text Unknown = []
sealed_text Unsealed = []
sealed_text Absent = []

-- the hash of a slot that seals another file
abbrev pub hash_after : SlotState → List ℕ → List ℕ
hash_after AsSigned hash = []
hash_after OtherFile hash = codes ", " ++ bytes_text hash
hash_after Unreadable hash = []
hash_after Unknown hash = []
hash_after Unsealed hash = []
hash_after Changed hash = []
hash_after Absent hash = []

abbrev pub slot_line : SlotView → List ℕ
slot_line s = (codes "  " ++ (slot_words s.number ++ (codes ": " ++ (sealed_text s.state ++ state_text s.state)))) ++ hash_after s.state s.hash

abbrev pub special_slot_object : SlotView → List ℕ
special_slot_object s =
    codes "{\"hash\":\"" ++ (bytes_text s.hash ++ (codes "\",\"name\":\"" ++ (slot_words s.number
    ++ (codes "\",\"slot\":" ++ (decimal s.number ++ (codes ",\"state\":\"" ++ (state_text s.state ++ codes "\"}")))))))

abbrev pub slot_reported : Form → SlotView → List ℕ
slot_reported form s = by_form form (slot_line s) (special_slot_object s)

-- the array of them
abbrev pub slots_array : SignedImage → Directory → List ℕ
slots_array x d = codes "[" ++ (with_commas (map special_slot_object (slots_in Objects x d)) ++ codes "]")
