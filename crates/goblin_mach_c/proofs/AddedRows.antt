-- Rows of entitlements, added one after the other.
use Rattle.std.proofs.Common.{◌≡◌, ◌++◌, ◌∷◌, ◌+◌, ◌∙◌, [], ℕ, List, Option, Result, Ok, length, refl, sym, ap, subst}
use Rattle.std.proofs.lemmas.Option.{IfSome_then}
use Rattle.std.proofs.lemmas.List.{append-nil, append_assoc, length-append}
use Rattle.std.specs.Prelude.{IfSome}
use Rattle.mach_base.specs.Fault.{Fault}
use Rattle.mach_signature.specs.EntitlementReads.{entries_at, value_at}
use Rattle.mach_signature.specs.EntitlementSpans.{SpanView, no_bytes, plain_here, group_here}
use Rattle.mach_signature.specs.EntitlementValues.{Entitled, Entitlement, PlainEntitlement, entry, group, plain}
use Rattle.mach_signature.specs.EntitlementViews.{seen_span}
use Rattle.mach_signature.specs.declared.entitlements.parts.Group.{Group}
use Rattle.mach_signature.specs.declared.entitlements.parts.Span.{Span}
use Rattle.mach_signature.proofs.EntitlementSteps.{both_read}
use Rattle.goblin_mach_c.specs.EntitlementRows.{AddsRows, text_of_plain, rows_of, rows_under, texts_of, texts_place, texts_under, unread_entitlement_row}
use Rattle.goblin_mach_c.specs.declared.entitlement_rows.Gathered.{Gathered}
use Rattle.goblin_mach_c.specs.declared.entitlement_rows.gm_entitlement_item.{gm_entitlement_item}

ok_is : {A : Type 0} (x y : A) → ◌≡◌ {A = Result A Fault} (Ok x) (Ok y) → x ≡ y
ok_is x y e = cc

-- nothing was added
pub adds_none : (a : Gathered) → AddsRows [] [] a a
adds_none a = record { are_rows = sym (append-nil a.items.items); are_texts = sym (append-nil a.texts.items) }

adds_both : (rows others : List gm_entitlement_item) (texts more : List ℕ) (a m b : Gathered) → AddsRows rows texts a m → AddsRows others more m b
    → AddsRows (rows ++ others) (texts ++ more) a b
adds_both rows others texts more a m b first second = record {
  are_rows = second.are_rows ∙ ap (λ (front : List gm_entitlement_item). front ++ others) first.are_rows ∙ append_assoc a.items.items rows others;
  are_texts = second.are_texts ∙ ap (λ (front : List ℕ). front ++ more) first.are_texts ∙ append_assoc a.texts.items texts more;
}

-- a group that was read, and its values
pub record GroupRead (steps : ℕ) (g : Group) (s : SpanView) (v : Entitlement × SpanView) : Type 0 where
  pub values : Entitled × SpanView
  pub are : entries_at steps g s ≡ Ok values
  pub whole : (group g values.0, values.1) ≡ v

pub group_read : (steps : ℕ) (g : Group) (s : SpanView) (v : Entitlement × SpanView) → value_at steps (group_here g s) ≡ Ok v → GroupRead steps g s v
group_read steps g s v is =
    let r = both_read (entries_at steps g s) (λ x. Ok (group g x.0, x.1)) v is in
    record { values = r.first; are = r.is_first; whole = ok_is (group g r.first.0, r.first.1) v r.is_second }

-- the place of the texts that come next
place_after : (rows : List gm_entitlement_item) (texts : List ℕ) (a m : Gathered) → AddsRows rows texts a m → texts_place m ≡ texts_place a + length texts
place_after rows texts a m adds = ap (λ (t : List ℕ). length t) adds.are_texts ∙ length-append a.texts.items texts

module _ (depth : ℕ) (key : List ℕ) where
  -- a plain value was added
  pub adds_plain : (steps : ℕ) (p : PlainEntitlement) (v : Entitlement × SpanView) (a b : Gathered) → value_at steps (plain_here p) ≡ Ok v
      → AddsRows (unread_entitlement_row depth (texts_place a) key (plain_here p) ∷ []) (key ++ text_of_plain p) a b
      → (no_bytes ≡ v.1) × AddsRows (rows_under depth (texts_place a) key v.0) (texts_under key v.0) a b
  adds_plain steps p v a b is adds =
      subst (λ (v : Entitlement × SpanView). (no_bytes ≡ v.1) × AddsRows (rows_under depth (texts_place a) key v.0) (texts_under key v.0) a b)
      (ok_is (plain p, no_bytes) v is) (refl, adds)

  -- a group was added, and its values
  pub adds_group : (g : Group) (s end : SpanView) (v : Entitlement × SpanView) (x : Entitled × SpanView) (a m b : Gathered)
      → (group g x.0, x.1) ≡ v → end ≡ x.1
      → AddsRows (unread_entitlement_row depth (texts_place a) key (group_here g s) ∷ []) (key ++ []) a m
      → AddsRows (rows_of (depth + 1) (texts_place m) x.0) (texts_of x.0) m b
      → (end ≡ v.1) × AddsRows (rows_under depth (texts_place a) key v.0) (texts_under key v.0) a b
  adds_group g s end v x a m b same ends first others =
      let head = unread_entitlement_row depth (texts_place a) key (group_here g s) in
      let place : texts_place m ≡ texts_place a + length key =
      place_after (head ∷ []) (key ++ []) a m first ∙ ap (λ (t : List ℕ). texts_place a + length t) (append-nil key) in
      let both = adds_both (head ∷ []) (rows_of (depth + 1) (texts_place m) x.0) (key ++ []) (texts_of x.0) a m b first others in
      let rows = subst (λ (at : ℕ). AddsRows (head ∷ rows_of (depth + 1) at x.0) ((key ++ []) ++ texts_of x.0) a b) place both in
      let within = rows_of (depth + 1) (texts_place a + length key) x.0 in
      let whole = subst (λ (t : List ℕ). AddsRows (head ∷ within) (t ++ texts_of x.0) a b) (append-nil key) rows in
      subst (λ (v : Entitlement × SpanView). (end ≡ v.1) × AddsRows (rows_under depth (texts_place a) key v.0) (texts_under key v.0) a b) same (ends, whole)

  -- a value was added, and those after it
  adds_entry : (value : Entitlement) (others : Entitled) (a m b : Gathered)
      → AddsRows (rows_under depth (texts_place a) key value) (texts_under key value) a m
      → AddsRows (rows_of depth (texts_place m) others) (texts_of others) m b
      → AddsRows (rows_of depth (texts_place a) (entry key value others)) (texts_of (entry key value others)) a b
  adds_entry value others a m b first rest =
      let place = place_after (rows_under depth (texts_place a) key value) (texts_under key value) a m first in
      subst (λ (at : ℕ). AddsRows (rows_under depth (texts_place a) key value ++ rows_of depth at others) (texts_under key value ++ texts_of others) a b) place
      (adds_both (rows_under depth (texts_place a) key value) (rows_of depth (texts_place m) others) (texts_under key value) (texts_of others) a m b first rest)

  -- the same, if memory didn't run out
  pub entry_added : (value : Entitlement) (others x : Entitled × SpanView) (a m b : Gathered) (result : Option Span)
      → x ≡ (entry key value others.0, others.1) → AddsRows (rows_under depth (texts_place a) key value) (texts_under key value) a m
      → IfSome result (λ end. (seen_span end ≡ others.1) × AddsRows (rows_of depth (texts_place m) others.0) (texts_of others.0) m b)
      → IfSome result (λ end. (seen_span end ≡ x.1) × AddsRows (rows_of depth (texts_place a) x.0) (texts_of x.0) a b)
  entry_added value others x a m b result whole first rest =
      rw whole (IfSome_then result rest (λ end q. (q.0, adds_entry value others.0 a m b first q.1)))
