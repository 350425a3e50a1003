-- Whether a dictionary has the boolean true under a key, entry by entry.
use Rattle.std.proofs.Common.{◌≡◌, ℕ, List, Bool, true, false, Result, Ok, Err, refl, sym, ap}
use Rattle.std.specs.Prelude.{◌&&◌, IsErr}
use Rattle.std.specs.Str.{bytes_eq}
use Rattle.mach_base.specs.Fault.{Fault, malformed}
use Rattle.mach_signature.specs.Debuggers.{is_true_here, lets_debuggers_if_read}
use Rattle.mach_signature.specs.EntitlementReads.{entries_at, value_at}
use Rattle.mach_signature.specs.EntitlementSpans.{SpanView, no_bytes, Unread, plain_here, group_here}
use Rattle.mach_signature.specs.EntitlementValues.{Entitlement, plain, group, Entitled, entry, has_true_under, is_true_entitlement}
use Rattle.mach_signature.proofs.EntitlementSteps.{both_read}

same_value : (x y : Entitlement × SpanView) → ◌≡◌ {A = Result (Entitlement × SpanView) Fault} (Ok x) (Ok y) → is_true_entitlement y.0 ≡ is_true_entitlement x.0
same_value x y e = let same : x ≡ y = cc in ap (λ (z : Entitlement × SpanView). is_true_entitlement z.0) (sym same)

-- whether a value that can be read is the boolean true shows at once
pub true_at_once : (n : ℕ) (u : Unread) (v : Entitlement × SpanView) → value_at n u ≡ Ok v → is_true_entitlement v.0 ≡ is_true_here u
true_at_once n (plain_here p) v e = same_value (plain p, no_bytes) v e
true_at_once n (group_here g s) v e =
    let r = both_read (entries_at n g s) (λ r. Ok (group g r.0, r.1)) v e in same_value (group g r.first.0, r.first.1) v r.is_second

pub true_here : (n : ℕ) (key k : List ℕ) (u : Unread) (v : Entitlement × SpanView) (rest : Entitled) → value_at n u ≡ Ok v
    → (is_true_here u && bytes_eq k key) ≡ true → true ≡ has_true_under key (entry k v.0 rest)
true_here n key k u v rest read is = rw (true_at_once n u v read, is) refl

pub true_later : (n : ℕ) (key k : List ℕ) (u : Unread) (v : Entitlement × SpanView) (rest : Entitled) (answer : Bool) → value_at n u ≡ Ok v
    → (is_true_here u && bytes_eq k key) ≡ false → answer ≡ has_true_under key rest → answer ≡ has_true_under key (entry k v.0 rest)
true_later n key k u v rest answer read is same = rw (true_at_once n u v read, is) same

-- entitlements that can't be read
pub unread : (r : Result Entitled Fault) → IsErr r → lets_debuggers_if_read r ≡ Err malformed
unread (Ok xs) bad = absurd (cc)
unread (Err f) bad = refl
