use Rattle.std.proofs.Common.{◌≡◌, ◌++◌, length}
use Rattle.mach_signature.specs.EntitlementSpans.{spelled_text}
use Rattle.mach_signature.specs.EntitlementViews.{seen_span, spelled_left}
use Rattle.goblin_mach_c.proofs.entitlement_rows.add_text.Given as goal

-- what was added, and what is left of the text, is all of it
abbrev pub invariant-bytes : goal.invariant-bytes
invariant-bytes l = l.texts.items ++ spelled_left l.left ≡ l.fn.texts.items ++ spelled_text (seen_span l.fn.text)

abbrev pub decreases-bytes : goal.decreases-bytes
decreases-bytes l = length (spelled_left l.left)
