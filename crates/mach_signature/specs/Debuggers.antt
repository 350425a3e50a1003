-- Whether the entitlements of a signature let debuggers attach.
use Rattle.std.specs.Prelude.{ℕ, List, [], ◌∷◌, codes, ◌||◌, Bool, false, Option, Some, None, Result, Ok, Err}
use Rattle.mach_base.specs.Answer.{◌>>=◌}
use Rattle.mach_base.specs.Fault.{Fault, malformed}
use Rattle.mach_signature.specs.EntitlementAgreement.{entitled_in}
use Rattle.mach_signature.specs.EntitlementSpans.{Unread, plain_here, group_here}
use Rattle.mach_signature.specs.EntitlementValues.{Entitled, has_true_under, is_plain_true}
use Rattle.mach_signature.specs.SuperBlob.{SuperBlob, content_of}
use Rattle.mach_signature.specs.declared.entitlements.parts.Notation.{Notation}
use Rattle.mach_signature.specs.declared.entitlements.parts.Notation.TheVariants.{Xml, Der}

-- what is read of a value at once is the boolean true
abbrev pub is_true_here : Unread → Bool
is_true_here (plain_here p) = is_plain_true p
is_true_here (group_here g s) = false

-- the key of iOS or that of macOS is true
abbrev pub lets_debuggers : Entitled → Bool
lets_debuggers xs = has_true_under (codes "get-task-allow") xs || has_true_under (codes "com.apple.security.get-task-allow") xs

abbrev pub lets_debuggers_if_read : Result Entitled Fault → Result Bool Fault
lets_debuggers_if_read (Ok xs) = Ok (lets_debuggers xs)
lets_debuggers_if_read (Err f) = Err malformed

-- the same of entitlements in a notation; others, if there are none
abbrev pub lets_debuggers_or : Result Bool Fault → Notation → Option (List ℕ) → Result Bool Fault
lets_debuggers_or others notation None = others
lets_debuggers_or others notation (Some []) = others
lets_debuggers_or others notation (Some (b ∷ bs)) = lets_debuggers_if_read (entitled_in notation (b ∷ bs))

-- the same of a signature: of its entitlements in DER if it has some, and else of those in XML
abbrev pub allows_debuggers : SuperBlob → Result Bool Fault
allows_debuggers s = content_of s 7 >>= lets_debuggers_or (content_of s 5 >>= lets_debuggers_or (Ok false) Xml) Der
