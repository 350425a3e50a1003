-- Whether the entitlements of a signature in XML and those in DER say the same.
use Rattle.std.specs.Prelude.{ℕ, List, length, nat_lt, if◌then◌else◌, Bool, true, false, Option, Some, None, Result, Ok, Err}
use Rattle.mach_base.specs.Answer.{◌>>=◌}
use Rattle.mach_base.specs.Fault.{Fault, malformed}
use Rattle.mach_signature.specs.SuperBlob.{SuperBlob, content_of}
use Rattle.mach_signature.specs.EntitlementDer.{der_start}
use Rattle.mach_signature.specs.EntitlementReads.{entries_at, rest_or}
use Rattle.mach_signature.specs.EntitlementSpans.{SpanView}
use Rattle.mach_signature.specs.EntitlementValues.{Entitled, same_groups}
use Rattle.mach_signature.specs.EntitlementXml.{most_steps, xml_finish, xml_start}
use Rattle.mach_signature.specs.declared.entitlements.agreement.Agreement.{Agreement}
use Rattle.mach_signature.specs.declared.entitlements.agreement.Agreement.TheVariants.{Same, Different, UnreadableXml, UnreadableDer}
use Rattle.mach_signature.specs.declared.entitlements.parts.Group.TheVariants.{Dictionary}
use Rattle.mach_signature.specs.declared.entitlements.parts.Notation.{Notation}
use Rattle.mach_signature.specs.declared.entitlements.parts.Notation.TheVariants.{Xml, Der}

-- the values of the outer dictionary, with what follows it if that is known
abbrev pub start_in : Notation → List ℕ → Result (SpanView × Option SpanView) Fault
start_in Xml bytes = xml_start bytes
start_in Der bytes = der_start bytes

-- what follows the outer dictionary ends as it must
abbrev pub finish_in : Notation → List ℕ → Result (List ℕ) Fault
finish_in Xml bytes = xml_finish bytes
finish_in Der bytes = Ok bytes

abbrev pub finished : Notation → Option SpanView → Entitled × SpanView → Result Entitled Fault
finished notation rest r = finish_in notation (rest_or rest r.1).bytes >>= (λ last. Ok r.0)

abbrev pub entitled_after : Notation → SpanView × Option SpanView → Result Entitled Fault
entitled_after notation start = entries_at most_steps Dictionary start.0 >>= finished notation start.1

-- entitlements of more bytes than these aren't read
abbrev pub most_bytes : ℕ
most_bytes = 262144

-- The entitlements that bytes are in a notation.
unfoldable pub entitled_in : Notation → List ℕ → Result Entitled Fault
entitled_in notation bytes = if nat_lt most_bytes (length bytes) then Err malformed else start_in notation bytes >>= entitled_after notation

abbrev pub agreement_by : Result Entitled Fault → Result Entitled Fault → Agreement
agreement_by (Err f) second = UnreadableXml
agreement_by (Ok xs) (Err f) = UnreadableDer
agreement_by (Ok xs) (Ok ys) = if same_groups Dictionary xs ys then Same else Different

-- whether both say the same, differ, or can't be compared
abbrev pub agreement_of : (xml der : List ℕ) → Agreement
agreement_of xml der = agreement_by (entitled_in Xml xml) (entitled_in Der der)

-- the same of what a signature has, if it has both
abbrev pub agreement_if_both : (xml der : Result (Option (List ℕ)) Fault) → Option Agreement
agreement_if_both (Err f) der = None
agreement_if_both (Ok None) der = None
agreement_if_both (Ok (Some xml)) (Err f) = None
agreement_if_both (Ok (Some xml)) (Ok None) = None
agreement_if_both (Ok (Some xml)) (Ok (Some der)) = Some (agreement_of xml der)

-- the same of a signature, by the first blobs of slots 5 and 7
abbrev pub agreement_in : SuperBlob → Option Agreement
agreement_in s = agreement_if_both (content_of s 5) (content_of s 7)

-- they don't differ, and are compared if there are both
abbrev pub is_agreed : Option Agreement → Bool
is_agreed None = true
is_agreed (Some Same) = true
is_agreed (Some Different) = false
is_agreed (Some UnreadableXml) = false
is_agreed (Some UnreadableDer) = false
