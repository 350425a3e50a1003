-- Lines in which only the last byte is a line feed.
use Rattle.std.proofs.Common.{rules, ◌≡◌, ◌++◌, ◌∷◌, [], ℕ, List, Bool, true, false, Option, Some, None, Result, Ok, Err, refl}
use Rattle.std.specs.Fmt.{decimal}
use Rattle.std.specs.Prelude.{codes, ◌==◌, ◌&&◌}
use Rattle.std.specs.List.{list_all}
use Rattle.mach_base.specs.Fault.{Fault}
use Rattle.mach_base.specs.Named.{Named, name_or}
use Rattle.mach_cli.specs.Escapes.{has_no_feed, IsOneLine}
use Rattle.mach_cli.specs.SignatureNames.{name_text}
use Rattle.mach_cli.proofs.OneLine.{no_feeds, no_feed-append, no_feed-decimal, no_feed-hex, no_feed-if, line-end, line-more}
use Rattle.mach_signature.specs.SignWords.{hexadecimal, slot_names, slot_words}
use Rattle.mach_signature.specs.declared.fault.SpecialFault.{SpecialFault}
use Rattle.machsign.specs.Blobs.{blob_text}
use Rattle.machsign.specs.Blocks.{checked_text, name_line, slots_words}
use Rattle.machsign.specs.Kinds.{cms_words, kind_line, signature_words, unchecked_line, why_unknown}
use Rattle.mach_signature.specs.Special.{SlotView}
use Rattle.machsign.specs.Special.{hash_after, sealed_text, slot_line, state_text}
use Rattle.mach_signature.specs.declared.kind.Cms.{Cms}
use Rattle.mach_signature.specs.declared.kind.Cms.TheVariants as messages
use Rattle.mach_signature.specs.declared.kind.Kind.{Kind}
use Rattle.mach_signature.specs.declared.special.SlotState.{SlotState}
use Rattle.mach_signature.specs.declared.special.SlotState.TheVariants.{AsSigned, OtherFile, Unreadable, Unknown, Unsealed, Changed, Absent}

both_true : (a b : Bool) → (a && b) ≡ true → (a ≡ true) × (b ≡ true)
both_true true b e = (refl, e)
both_true false b e = absurd (cc)

no_feed-name_or : (other : List ℕ) (names : List Named) (n : ℕ) → has_no_feed other ≡ true → list_all (λ x. has_no_feed x.name) names ≡ true
    → has_no_feed (name_or other names n) ≡ true
no_feed-name_or other [] n one all = one
no_feed-name_or other (x ∷ xs) n one all =
    let parts = both_true (has_no_feed x.name) (list_all (λ x. has_no_feed x.name) xs) all in
    no_feed-if (n == x.number) x.name (name_or other xs n) parts.0 (no_feed-name_or other xs n one parts.1)

no_feed-slot : (slot : ℕ) → has_no_feed (slot_words slot) ≡ true
no_feed-slot slot =
    no_feed-name_or (codes "slot 0x" ++ hexadecimal slot) slot_names slot (no_feed-append (codes "slot 0x") (hexadecimal slot) refl (no_feed-hex slot)) refl

no_feed-name : (name : Result (Option (List ℕ)) Fault) → has_no_feed (name_text name) ≡ true
no_feed-name (Ok None) = refl
no_feed-name (Ok (Some name)) = search (no_feeds, rules)
no_feed-name (Err f) = refl

no_feed-state : (state : SlotState) → has_no_feed (state_text state) ≡ true
no_feed-state AsSigned = refl
no_feed-state OtherFile = refl
no_feed-state Unreadable = refl
no_feed-state Unknown = refl
no_feed-state Unsealed = refl
no_feed-state Changed = refl
no_feed-state Absent = refl

no_feed-sealed : (state : SlotState) → has_no_feed (sealed_text state) ≡ true
no_feed-sealed AsSigned = refl
no_feed-sealed OtherFile = refl
no_feed-sealed Unreadable = refl
no_feed-sealed Unknown = refl
no_feed-sealed Unsealed = refl
no_feed-sealed Changed = refl
no_feed-sealed Absent = refl

no_feed-hash : (state : SlotState) (hash : List ℕ) → has_no_feed (hash_after state hash) ≡ true
no_feed-hash AsSigned hash = refl
no_feed-hash OtherFile hash = search (no_feeds, rules)
no_feed-hash Unreadable hash = refl
no_feed-hash Unknown hash = refl
no_feed-hash Unsealed hash = refl
no_feed-hash Changed hash = refl
no_feed-hash Absent hash = refl

no_feed-slot_line : (s : SlotView) → has_no_feed (slot_line s) ≡ true
no_feed-slot_line s = search (no_feeds, no_feed-slot, no_feed-sealed, no_feed-state, no_feed-hash, rules)

no_feed-blob : (slot len : ℕ) → has_no_feed (blob_text slot len) ≡ true
no_feed-blob slot len = search (no_feeds, no_feed-slot, rules)

no_feed-cms : (cms : Cms) → has_no_feed (cms_words cms) ≡ true
no_feed-cms messages.Lacking = refl
no_feed-cms (messages.Long len) = search (no_feeds, rules)
no_feed-cms messages.Unreadable = refl

no_feed-why : (cms : Cms) → has_no_feed (why_unknown cms) ≡ true
no_feed-why messages.Lacking = refl
no_feed-why (messages.Long len) = refl
no_feed-why messages.Unreadable = refl

no_feed-signature : (k : Kind) → has_no_feed (signature_words k) ≡ true
no_feed-signature k = search (no_feeds, no_feed-cms, rules)

no_feed-slots : (faults : List SpecialFault) → has_no_feed (slots_words faults) ≡ true
no_feed-slots [] = refl
no_feed-slots (fault ∷ faults) = refl

pub kind_is_line : (k : Kind) → IsOneLine (kind_line k)
kind_is_line k =
    line-more (codes "signature: ") (signature_words k ++ codes "\n") refl (line-end (signature_words k) (no_feed-signature k))

pub unchecked_is_line : (cms : Cms) → IsOneLine (unchecked_line cms)
unchecked_is_line cms =
    line-more (codes "not checked: who signed (") (why_unknown cms ++ codes ")\n") refl
    (line-more (why_unknown cms) (codes ")\n") (no_feed-why cms) (line-end (codes ")") refl))

pub checked_is_line : (sound pages : ℕ) (faults : List SpecialFault) → IsOneLine (checked_text sound pages (slots_words faults))
checked_is_line sound pages faults =
    let last = codes " pages as signed, special slots " ++ (slots_words faults ++ codes "\n") in
    line-more (codes "  checked: ") (decimal sound ++ (codes " of " ++ (decimal pages ++ last))) refl
    (line-more (decimal sound) (codes " of " ++ (decimal pages ++ last)) (no_feed-decimal sound)
    (line-more (codes " of ") (decimal pages ++ last) refl
    (line-more (decimal pages) last (no_feed-decimal pages)
    (line-more (codes " pages as signed, special slots ") (slots_words faults ++ codes "\n") refl (line-end (slots_words faults) (no_feed-slots faults))))))

pub name_is_line : (label : List ℕ) (name : Result (Option (List ℕ)) Fault) → has_no_feed label ≡ true → IsOneLine (name_line label name)
name_is_line label name one =
    let text = name_text name ++ codes "\n" in
    line-more (codes "  ") (label ++ (codes ": " ++ text)) refl
    (line-more label (codes ": " ++ text) one (line-more (codes ": ") text refl (line-end (name_text name) (no_feed-name name))))

pub slot_is_line : (s : SlotView) → IsOneLine (slot_line s ++ codes "\n")
slot_is_line s = line-end (slot_line s) (no_feed-slot_line s)

pub blob_is_line : (slot len : ℕ) → IsOneLine (blob_text slot len ++ codes "\n")
blob_is_line slot len = line-end (blob_text slot len) (no_feed-blob slot len)
