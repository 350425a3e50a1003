-- The words of a signature's fault: its kind, its owner, and its place.
use Rattle.std.specs.Prelude.{ℕ, List, [], ◌++◌, codes, Option, Some, None}
use Rattle.std.specs.Fmt.{decimal}
use Rattle.mach_signature.specs.SignWords.{slot_words}
use Rattle.mach_signature.specs.declared.fault.CodeFault.{CodeFault}
use Rattle.mach_signature.specs.declared.fault.CodeFault.TheVariants as code
use Rattle.mach_signature.specs.declared.fault.DirectoryFault.{DirectoryFault}
use Rattle.mach_signature.specs.declared.fault.DirectoryFault.TheVariants as directory
use Rattle.mach_signature.specs.declared.fault.SignatureFault.{SignatureFault}
use Rattle.mach_signature.specs.declared.fault.SignatureFault.TheVariants as signature
use Rattle.mach_signature.specs.declared.fault.SpecialFault.{SpecialFault}
use Rattle.mach_signature.specs.declared.fault.SpecialFault.TheVariants as special
use Rattle.machaudit.specs.declared.signature_text.SignaturePlace.{SignaturePlace}
use Rattle.machaudit.specs.declared.signature_text.SignaturePlace.TheVariants as signed

-- the owner of a fault: the directory of a slot, or the signature itself
abbrev pub owner_words : (slot : Option ℕ) → List ℕ
owner_words (Some slot) = slot_words slot
owner_words None = codes "signature"

-- the place of a fault; none if it is the whole signature or directory
abbrev pub signature_place_words : SignaturePlace → List ℕ
signature_place_words signed.Whole = []
signature_place_words (signed.Blob index) = codes "blob " ++ decimal index
signature_place_words (signed.Page index) = codes "page " ++ decimal index
signature_place_words (signed.Special slot) = slot_words slot

abbrev pub code_kind : CodeFault → List ℕ
code_kind (code.Scattered place) = codes "scattered"
code_kind (code.Limit limit len) = codes "limit"
code_kind (code.Slots slots pages) = codes "slots"
code_kind (code.Page index start end) = codes "page"

abbrev pub code_place : CodeFault → SignaturePlace
code_place (code.Page index start end) = signed.Page index
code_place other = signed.Whole

abbrev pub special_kind : SpecialFault → List ℕ
special_kind (special.Unknown slot) = codes "unknown"
special_kind (special.Unsealed slot) = codes "unsealed"
special_kind (special.Changed slot) = codes "special"
special_kind (special.Absent slot) = codes "absent"

abbrev pub special_place : SpecialFault → SignaturePlace
special_place (special.Unknown slot) = signed.Special slot
special_place (special.Unsealed slot) = signed.Special slot
special_place (special.Changed slot) = signed.Special slot
special_place (special.Absent slot) = signed.Special slot

abbrev pub directory_kind : DirectoryFault → List ℕ
directory_kind (directory.Identifier e) = codes "unreadable"
directory_kind (directory.Team e) = codes "unreadable"
directory_kind (directory.Short limit dataoff) = codes "short"
directory_kind (directory.Code fault) = code_kind fault
directory_kind (directory.Special fault) = special_kind fault

abbrev pub directory_place : DirectoryFault → SignaturePlace
directory_place (directory.Code fault) = code_place fault
directory_place (directory.Special fault) = special_place fault
directory_place other = signed.Whole

abbrev pub signature_kind : SignatureFault → List ℕ
signature_kind (signature.Blob index error) = codes "unreadable"
signature_kind (signature.Magic index slot magic) = codes "magic"
signature_kind (signature.Refused e) = codes "unreadable"
signature_kind (signature.First fault) = directory_kind fault
signature_kind (signature.Alternate slot fault) = directory_kind fault

abbrev pub signature_place : SignatureFault → SignaturePlace
signature_place (signature.Blob index error) = signed.Blob index
signature_place (signature.Magic index slot magic) = signed.Blob index
signature_place (signature.Refused e) = signed.Whole
signature_place (signature.First fault) = directory_place fault
signature_place (signature.Alternate slot fault) = directory_place fault

-- the slot of the directory that has the fault, if a directory has it
abbrev pub signature_slot : SignatureFault → Option ℕ
signature_slot (signature.Blob index error) = None
signature_slot (signature.Magic index slot magic) = None
signature_slot (signature.Refused e) = Some 0
signature_slot (signature.First fault) = Some 0
signature_slot (signature.Alternate slot fault) = Some slot
