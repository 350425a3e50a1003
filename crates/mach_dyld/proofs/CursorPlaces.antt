-- The place of an export that a cursor returned.
use Rattle.mach_dyld.proofs.TrieNames.{◌≡◌, ◌==◌, ◌>>=◌, ℕ, List, cond, Option, None, Some, Result, Ok, Err, sym, ap, subst, ◌∙◌, inl, inr}
use Rattle.mach_dyld.proofs.TrieNames.{Fault, Branch, Info, Node, slice_get, bind_ok, chosen, same_ok, found_or_malformed, sum_of, uleb_at, text_at, own_at}
use Rattle.mach_dyld.proofs.TrieNames.{children_at, terminal_at, inner_at, node_at}
use Rattle.mach_dyld.specs.Cursors.{IsOwnAt, IsReexportAt, place_at}
use Rattle.mach_dyld.specs.Nodes as Nodes
use Rattle.mach_dyld.specs.Nodes.{InfoKind, a_regular, a_reexport, a_stub, info_kind, info_of_kind, library, spelled_from}
unfoldable use Rattle.mach_dyld.specs.Nodes.{info_at, regular_at, reexport_at, stub_at}
use Rattle.mach_dyld.specs.Trie.{regular, reexport, stub}

found_is : {A : Type 0} (o : Option A) (x : A) → found_or_malformed o ≡ Ok x → o ≡ Some x
found_is None x e = absurd (cc)
found_is (Some y) x e = cc

module _ (bytes : List ℕ) (libs : List (List ℕ)) (lib : List ℕ) (name : Option (List ℕ)) (said : ℕ) where
  abbrev there : Info
  there = reexport lib name said

  -- a regular export or a stub is no re-export
  no_regular : (flags place : ℕ) → regular_at bytes flags place ≡ Ok there → ⊥
  unfolding regular_at
  no_regular flags place e = let a = bind_ok (uleb_at bytes place) (λ (n : ℕ × ℕ). Ok (regular n.0 flags)) there e in absurd (let x = a.2 in cc)

  no_stub : (flags place : ℕ) → stub_at bytes flags place ≡ Ok there → ⊥
  unfolding stub_at
  no_stub flags place e =
      let made = λ (n m : ℕ × ℕ). stub (spelled_from place n) (spelled_from n.1 m) flags in
      let a = bind_ok (uleb_at bytes place) (λ (n : ℕ × ℕ). uleb_at bytes n.1 >>= λ (m : ℕ × ℕ). Ok (made n m)) there e in
      let b = bind_ok (uleb_at bytes a.0.1) (λ (m : ℕ × ℕ). Ok (made a.0 m)) there a.2 in absurd (let x = b.2 in cc)

  a_reexport_of : (kind : InfoKind) (flags place : ℕ) → info_of_kind kind bytes libs flags place ≡ Ok there → reexport_at bytes libs flags place ≡ Ok there
  a_reexport_of a_regular flags place e = absurd (no_regular flags place e)
  a_reexport_of a_reexport flags place e = e
  a_reexport_of a_stub flags place e = absurd (no_stub flags place e)

  -- the parts of a re-export
  in_reexport : (flags place : ℕ) → reexport_at bytes libs flags place ≡ Ok there
      → (found : ℕ × ℕ) × (uleb_at bytes place ≡ Ok found) × IsReexportAt bytes libs lib name (Some found)
  unfolding reexport_at
  in_reexport flags place e =
      let made = λ (text : List ℕ) (l : List ℕ). reexport l (Nodes.name_of text) flags in
      let a = bind_ok (uleb_at bytes place)
      (λ (n : ℕ × ℕ). text_at bytes n.1 >>= λ (text : List ℕ). library libs n.0 >>= λ (l : List ℕ). Ok (made text l)) there e in
      let b = bind_ok (text_at bytes a.0.1) (λ (text : List ℕ). library libs a.0.0 >>= λ (l : List ℕ). Ok (made text l)) there a.2 in
      let d = bind_ok (library libs a.0.0) (λ (l : List ℕ). Ok (made b.0 l)) there b.2 in
      let same : made b.0 d.0 ≡ there = same_ok d.2 in
      let lib_is : d.0 ≡ lib = cc in
      let name_is : name ≡ Nodes.name_of b.0 = cc in
      (a.0, a.1, (found_is (slice_get libs a.0.0) d.0 d.1 ∙ ap Some lib_is, b.0, b.1, name_is))

  in_info : (flags place : ℕ) → Nodes.info_at bytes libs flags place ≡ Ok there
      → (found : ℕ × ℕ) × (uleb_at bytes place ≡ Ok found) × IsReexportAt bytes libs lib name (Some found)
  unfolding info_at
  in_info flags place e = in_reexport flags place (a_reexport_of (info_kind flags) flags place e)

  -- the same after the size
  in_own : (size place : ℕ) (own : Info × ℕ) → own_at bytes libs size place ≡ Ok own → own.0 ≡ there
      → (flags : ℕ × ℕ) × (uleb_at bytes place ≡ Ok flags) × (found : ℕ × ℕ) × (uleb_at bytes flags.1 ≡ Ok found)
      × IsReexportAt bytes libs lib name (Some found)
  in_own size place own e is =
      let made = λ (info : Info). sum_of place size >>= λ (after : ℕ). Ok (info, after) in
      let a = bind_ok (uleb_at bytes place) (λ (flags : ℕ × ℕ). Nodes.info_at bytes libs flags.0 flags.1 >>= made) own e in
      let b = bind_ok (Nodes.info_at bytes libs a.0.0 a.0.1) made own a.2 in
      let d = bind_ok (sum_of place size) (λ (after : ℕ). Ok (b.0, after)) own b.2 in
      let same : (b.0, d.0) ≡ own = same_ok d.2 in
      let info : b.0 ≡ own.0 = ap (λ (x : Info × ℕ). x.0) same in
      let f = in_info a.0.0 a.0.1 (b.1 ∙ ap Ok (info ∙ is)) in
      (a.0, a.1, f.0, f.1, f.2)

  module _ (from start : ℕ) (branches : List Branch) where
    abbrev node : Node
    node = record { own = Some there; branches = branches }

    no_inner : (place : ℕ) → inner_at bytes from place ≡ Ok node → ⊥
    unfolding inner_at
    no_inner place e =
        let a = bind_ok (children_at bytes from place) (λ (bs : List Branch). Ok (record { own = None; branches = bs })) node e in
        let same = ap (λ (n : Node). n.own) (same_ok a.2) in absurd (cc)

    in_terminal : (size place : ℕ) → terminal_at bytes libs from size place ≡ Ok node
        → (own : Info × ℕ) × (own_at bytes libs size place ≡ Ok own) × (own.0 ≡ there)
    unfolding terminal_at
    in_terminal size place e =
        let a = bind_ok (own_at bytes libs size place)
        (λ (own : Info × ℕ). children_at bytes from own.1 >>= λ (bs : List Branch). Ok (record { own = Some own.0; branches = bs })) node e in
        let b = bind_ok (children_at bytes from a.0.1) (λ (bs : List Branch). Ok (record { own = Some a.0.0; branches = bs })) node a.2 in
        let same = ap (λ (n : Node). n.own) (same_ok b.2) in
        (a.0, a.1, cc)

    in_node : node_at bytes libs from start ≡ Ok node → (found : ℕ × ℕ) × (place_at bytes start ≡ Ok found) × IsReexportAt bytes libs lib name (Some found)
    unfolding node_at
    in_node e =
        let a = bind_ok (uleb_at bytes start)
        (λ (size : ℕ × ℕ). cond (size.0 == 0) (inner_at bytes from size.1) (terminal_at bytes libs from size.0 size.1)) node e in
        elim (chosen (a.0.0 == 0) (inner_at bytes from a.0.1) (terminal_at bytes libs from a.0.0 a.0.1) (Ok node) a.2) [
          | inl wrong ↦ absurd (no_inner a.0.1 wrong.1)
          | inr good ↦ (
              let t = in_terminal a.0.0 a.0.1 good.1 in
              let o = in_own a.0.0 a.0.1 t.0 t.1 t.2 in
              let following = λ (flags : ℕ × ℕ). uleb_at bytes flags.1 in
              let first = ap (λ (r : Result (ℕ × ℕ) Fault). r >>= λ (size : ℕ × ℕ). uleb_at bytes size.1 >>= following) a.1 in
              let second = ap (λ (r : Result (ℕ × ℕ) Fault). r >>= following) o.1 in
              (o.2, first ∙ second ∙ o.3, o.4))
        ]

-- at a re-export, its ordinal and its name there are read
pub reexport_there : (bytes : List ℕ) (libs : List (List ℕ)) (from start : ℕ) (lib : List ℕ) (name : Option (List ℕ)) (flags : ℕ)
    → IsOwnAt bytes libs from start (reexport lib name flags)
    → (found : ℕ × ℕ) × (place_at bytes start ≡ Ok found) × IsReexportAt bytes libs lib name (Some found)
reexport_there bytes libs from start lib name flags own = in_node bytes libs lib name flags from start own.0 own.1

-- the bytes in which the trie is held
module _ (bytes held : List ℕ) (libs : List (List ℕ)) (from start : ℕ) (lib : List ℕ) (name : Option (List ℕ)) (flags : ℕ) (same : held ≡ bytes)
    (own : IsOwnAt bytes libs from start (reexport lib name flags)) where
  abbrev place : (found : ℕ × ℕ) × (place_at bytes start ≡ Ok found) × IsReexportAt bytes libs lib name (Some found)
  place = reexport_there bytes libs from start lib name flags own

  pub place_found : (found : ℕ × ℕ) → place_at held start ≡ Ok found → IsReexportAt bytes libs lib name (Some found)
  place_found found e =
      let is : place.0 ≡ found = same_ok (sym place.1 ∙ ap (λ (b : List ℕ). place_at b start) (sym same) ∙ e) in
      subst (λ (f : ℕ × ℕ). IsReexportAt bytes libs lib name (Some f)) is place.2

  pub place_missed : (f : Fault) → place_at held start ≡ Err f → ⊥
  place_missed f e =
      let wrong : ◌≡◌ {A = Result (ℕ × ℕ) Fault} (Ok place.0) (Err f) = sym place.1 ∙ ap (λ (b : List ℕ). place_at b start) (sym same) ∙ e in
      absurd (cc)
