-- What is printed of the entitlements of a signature in XML and in DER.
use Rattle.std.specs.Prelude.{ℕ, List, [], ◌++◌, codes, Option, Some, None}
use Rattle.mach_signature.specs.declared.entitlements.agreement.Agreement.{Agreement}
use Rattle.mach_signature.specs.declared.entitlements.agreement.Agreement.TheVariants.{Same, Different, UnreadableXml, UnreadableDer}

abbrev pub agreement_words : Agreement → List ℕ
agreement_words Same = codes "entitlements: XML and DER say the same"
agreement_words Different = codes "fault: the entitlements in XML and those in DER don't say the same"
agreement_words UnreadableXml = codes "fault: the entitlements in XML can't be read, and aren't compared with those in DER"
agreement_words UnreadableDer = codes "fault: the entitlements in DER can't be read, and aren't compared with those in XML"

-- the line, if there are both
abbrev pub agreement_line : Option Agreement → List ℕ
agreement_line None = []
agreement_line (Some a) = agreement_words a ++ codes "\n"

-- the same as a value of JSON
abbrev pub agreement_object : Option Agreement → List ℕ
agreement_object None = codes "null"
agreement_object (Some Same) = codes "\"same\""
agreement_object (Some Different) = codes "\"different\""
agreement_object (Some UnreadableXml) = codes "\"unreadable XML\""
agreement_object (Some UnreadableDer) = codes "\"unreadable DER\""
