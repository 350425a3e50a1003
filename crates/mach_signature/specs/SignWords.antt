-- The texts of the faults of a signature.
use Rattle.std.specs.Prelude.{ℕ, List, [], ◌∷◌, ◌++◌, false, codes}
use Rattle.std.specs.Fmt.{decimal, digits}
use Rattle.mach_base.specs.Named.{Named, name_or}
use Rattle.mach_base.specs.Words.{words_of}
use Rattle.mach_signature.specs.declared.fault.CodeFault.{CodeFault}
use Rattle.mach_signature.specs.declared.fault.CodeFault.TheVariants as code
use Rattle.mach_signature.specs.declared.fault.SpecialFault.{SpecialFault}
use Rattle.mach_signature.specs.declared.fault.SpecialFault.TheVariants as special
use Rattle.mach_signature.specs.declared.fault.DirectoryFault.{DirectoryFault}
use Rattle.mach_signature.specs.declared.fault.DirectoryFault.TheVariants as directory
use Rattle.mach_signature.specs.declared.fault.SignatureFault.{SignatureFault}
use Rattle.mach_signature.specs.declared.fault.SignatureFault.TheVariants as signature

-- a number in hexadecimal
abbrev pub hexadecimal : ℕ → List ℕ
hexadecimal n = digits 16 false n

abbrev pub slot_names : List Named
slot_names =
    record { number = 0; name = codes "code directory" }
    ∷ record { number = 1; name = codes "info.plist" }
    ∷ record { number = 2; name = codes "requirements" }
    ∷ record { number = 3; name = codes "resources" }
    ∷ record { number = 4; name = codes "application" }
    ∷ record { number = 5; name = codes "entitlements" }
    ∷ record { number = 6; name = codes "disk image" }
    ∷ record { number = 7; name = codes "der entitlements" }
    ∷ record { number = 8; name = codes "launch constraint self" }
    ∷ record { number = 9; name = codes "launch constraint parent" }
    ∷ record { number = 10; name = codes "launch constraint responsible" }
    ∷ record { number = 11; name = codes "library constraint" }
    ∷ record { number = 0x1000; name = codes "alternate 1" }
    ∷ record { number = 0x1001; name = codes "alternate 2" }
    ∷ record { number = 0x1002; name = codes "alternate 3" }
    ∷ record { number = 0x1003; name = codes "alternate 4" }
    ∷ record { number = 0x1004; name = codes "alternate 5" }
    ∷ record { number = 0x10000; name = codes "cms" }
    ∷ record { number = 0x10001; name = codes "identification" }
    ∷ record { number = 0x10002; name = codes "ticket" }
    ∷ []

-- the name of a slot
abbrev pub slot_words : ℕ → List ℕ
slot_words slot = name_or (codes "slot 0x" ++ hexadecimal slot) slot_names slot

abbrev pub code_fault_words : CodeFault → List ℕ
code_fault_words (code.Scattered place) = codes "scattered at " ++ (decimal place ++ codes ": pages are not looked at")
code_fault_words (code.Limit limit len) = codes "covers 0x" ++ (hexadecimal limit ++ (codes " of 0x" ++ (hexadecimal len ++ codes " bytes")))
code_fault_words (code.Slots slots pages) = decimal slots ++ (codes " code slots for " ++ (decimal pages ++ codes " pages"))
code_fault_words (code.Page index start end) =
    codes "page " ++ (decimal index ++ (codes ": 0x" ++ (hexadecimal start ++ (codes "..0x" ++ (hexadecimal end ++ codes " is not what was signed")))))

abbrev pub special_fault_words : SpecialFault → List ℕ
special_fault_words (special.Unknown slot) = slot_words slot ++ codes ": not known"
special_fault_words (special.Unsealed slot) = slot_words slot ++ codes ": not sealed"
special_fault_words (special.Changed slot) = slot_words slot ++ codes ": not what was signed"
special_fault_words (special.Absent slot) = slot_words slot ++ codes ": sealed, and absent"

abbrev pub directory_fault_words : DirectoryFault → List ℕ
directory_fault_words (directory.Identifier e) = codes "identifier: " ++ words_of e
directory_fault_words (directory.Team e) = codes "team: " ++ words_of e
directory_fault_words (directory.Short limit dataoff) = codes "covers 0x" ++ (hexadecimal limit ++ (codes ", and begins at 0x" ++ hexadecimal dataoff))
directory_fault_words (directory.Code fault) = code_fault_words fault
directory_fault_words (directory.Special fault) = special_fault_words fault

-- one line; the line of an alternate directory begins with the name of its slot
abbrev pub signature_fault_words : SignatureFault → List ℕ
signature_fault_words (signature.Blob index error) = codes "blob " ++ (decimal index ++ (codes ": " ++ words_of error))
signature_fault_words (signature.Magic index slot magic) =
    codes "blob " ++ (decimal index ++ (codes ": " ++ (slot_words slot ++ (codes ": magic 0x" ++ hexadecimal magic))))
signature_fault_words (signature.Refused e) = codes "code directory: " ++ words_of e
signature_fault_words (signature.First fault) = directory_fault_words fault
signature_fault_words (signature.Alternate slot fault) = slot_words slot ++ (codes ": " ++ directory_fault_words fault)
