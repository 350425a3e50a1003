-- Bindings with the places of their names.
use Rattle.std.proofs.Common.{◌≡◌, ◌∙◌, ◌++◌, ◌∷◌, [], ℕ, List, Option, Some, None, Result, Ok, Err, IfOk, map, refl, sym, ap}
use Rattle.mach_base.specs.Fault.{Fault, fault_of}
use Rattle.mach_base.specs.declared.error.Error.{Error}
use Rattle.mach_dyld.specs.BindCursors.{placed_binding_read}
use Rattle.mach_dyld.specs.Bindings.{upto_fault}
use Rattle.mach_dyld.specs.Sites.{Site}
use Rattle.mach_dyld.specs.declared.bindings.OpcodeBindingIterator.{OpcodeBindingIterator}
use Rattle.mach_dyld.specs.declared.imports.cursor.PlacedBinding.{PlacedBinding}
use Rattle.mach_chained.specs.Bindings.{binding_by}
use Rattle.mach_chained.specs.Fixups.{Fixup, FixupInput}
use Rattle.mach_chained.specs.Header.{Fixups}
use Rattle.mach_chained.specs.Pointers.{KindOfFixup, rebase, bind, value}
use Rattle.mach_parts.specs.Bindings.{Binding, binding_view}
use Rattle.mach_parts.specs.Segment.{segment_view}
use Rattle.mach_parts.specs.declared.segment.Segment.{Segment}
use Rattle.goblin_mach.specs.Fixups.{base_of}
use Rattle.goblin_mach_c.specs.BindingPlaces.{AreBindingSitesAtStage, with_name_place, places_by, places_of}
use Rattle.goblin_mach_c.specs.BindingsAfter.{AreBindingsAtStage, ArePlacedAfter, BindingSource, ComesFirst, PlaceFirst, PlacedFirst}
use Rattle.goblin_mach_c.specs.BindingsAfter.{AreBindingRowsOver, bindings_by, chain_places, chains_by, opcode_rows_left, opcodes_placed}
use Rattle.goblin_mach_c.specs.BindingsAfter.{opcode_sites_left, unplaced}
use Rattle.goblin_mach_c.specs.FixupsAfter.{AreFixupsAfter, AreFixupRowsOver, fixup_rows_left}
use Rattle.goblin_mach_c.specs.ImportsAfter.{Binds}
use Rattle.goblin_mach_c.specs.Sited.{placed}
use Rattle.goblin_mach_c.specs.Stage.{stage_of}
use Rattle.goblin_mach_c.specs.declared.bindings.BindingRows.{BindingRows}
use Rattle.goblin_mach_c.specs.declared.bindings.gm_binding_cursor.{gm_binding_cursor}
use Rattle.goblin_mach_c.specs.declared.fixups.FixupRows.{FixupRows}
use Rattle.goblin_mach_c.specs.declared.fixups.FixupRows.TheVariants as variant
use Rattle.goblin_mach_c.proofs.BoundChains.{same_chains}

-- ---- without their places these are the bindings

of_one : (items : List (Result Binding Fault)) (places : List ℕ) → map unplaced (upto_fault (placed items places)) ≡ upto_fault items
of_one [] places = refl
of_one (Err f ∷ items) places = refl
of_one (Ok b ∷ items) [] = ap (λ l. Ok b ∷ l) (of_one items [])
of_one (Ok b ∷ items) (p ∷ places) = ap (λ l. Ok b ∷ l) (of_one items places)

pub of_both : (items : List (Result Binding Fault)) (places : List ℕ) (others : List (Result Binding Fault)) (other_places : List ℕ)
    → map unplaced (upto_fault (placed items places ++ placed others other_places)) ≡ upto_fault (items ++ others)
of_both [] places others other_places = of_one others other_places
of_both (Err f ∷ items) places others other_places = refl
of_both (Ok b ∷ items) [] others other_places = ap (λ l. Ok b ∷ l) (of_both items [] others other_places)
of_both (Ok b ∷ items) (p ∷ places) others other_places = ap (λ l. Ok b ∷ l) (of_both items places others other_places)

-- ---- what comes first

-- a binding and its place
pub first_placed : (r : Option (Result PlacedBinding Error)) (before after : List (Result Binding Fault)) (places places' : List ℕ)
    → ComesFirst before r after → PlaceFirst places r places' → PlacedFirst (placed before places) r (placed after places')
first_placed None before after places places' items own =
    (ap (λ (l : List (Result Binding Fault)). placed l places) items.0, ap (λ (l : List (Result Binding Fault)). placed l places') items.1)
first_placed (Some (Ok p)) before after places places' items own =
    ap (λ (l : List (Result Binding Fault)). placed l places) items ∙ ap (λ (l : List ℕ). placed (Ok (binding_view p.binding) ∷ after) l) own
first_placed (Some (Err e)) before after places places' items own = ([], ap (λ (l : List (Result Binding Fault)). placed l places) items.1)

-- a binding of the opcodes and its site
pub first_sited : (item : Result PlacedBinding Error) (before after : List (Result Binding Fault)) (sites sites' : List Site)
    → before ≡ placed_binding_read item ∷ after
    → IfOk item (λ p. (library : ℕ) × (sites ≡ record { name_place = p.name_place; library = library } ∷ sites'))
    → PlacedFirst (placed before (places_of sites)) (Some item) (placed after (places_of sites'))
first_sited (Ok p) before after sites sites' items own =
    ap (λ (l : List (Result Binding Fault)). placed l (places_of sites)) items
    ∙ ap (λ (l : List Site). placed (Ok (binding_view p.binding) ∷ after) (places_of l)) own.1
first_sited (Err e) before after sites sites' items own = ([], ap (λ (l : List (Result Binding Fault)). placed l (places_of sites)) items)

-- the others come after it
pub first_of_both : (item : Result PlacedBinding Error) (before after others : List (Result (Binding × ℕ) Fault)) → PlacedFirst before (Some item) after
    → PlacedFirst (before ++ others) (Some item) (after ++ others)
first_of_both (Ok p) before after others first = ap (λ (l : List (Result (Binding × ℕ) Fault)). l ++ others) first
first_of_both (Err e) before after others first = (first.0 ++ others, ap (λ (l : List (Result (Binding × ℕ) Fault)). l ++ others) first.1)

-- ---- those of the chains

-- a fixup that is no bind has no place
pub no_place : (x : FixupInput) (libs : List (List ℕ)) (f : Fixup) (kind : KindOfFixup) (at : ℕ) (chained : Fixups) (others : List ℕ)
    → binding_by x libs f kind ≡ None
    → with_name_place at chained kind others ≡ others
no_place x libs f (rebase target) at chained others none = refl
no_place x libs f (bind import addend) at chained others none = absurd (cc)
no_place x libs f (value number) at chained others none = refl

none_by : (at : ℕ) (chained : Result (Option Fixups) Fault) → [] ≡ places_by at chained []
none_by at (Err f) = refl
none_by at (Ok None) = refl
none_by at (Ok (Some c)) = refl

-- the places that are left are those of the fixups that are left
pub same_places : (chained : Result (Option Fixups) Fault) (x : Binds) (it : FixupRows) (at : ℕ)
    → AreFixupRowsOver (record { chained = chained; segments = x.segments }) it → chain_places it at ≡ places_by at chained (fixup_rows_left it)
same_places chained x (variant.Unread None) at over = none_by at chained
same_places chained x (variant.Unread (Some e)) at over =
    sym (ap (λ (r : Result (Option Fixups) Fault). places_by at r (Err (fault_of e) ∷ [])) over)
same_places chained x (variant.Chains it) at over =
    sym (ap (λ (r : Result (Option Fixups) Fault). places_by at r (fixup_rows_left (variant.Chains it))) over.0)

-- ---- what is left for the rows comes after a cursor

pub whole : (x : BindingSource) (c : gm_binding_cursor) (opcodes : Option OpcodeBindingIterator) (rows : FixupRows) (segments : List Segment) (base : ℕ)
    (libs : List (List ℕ)) (at : ℕ)
    → AreFixupRowsOver (record { chained = x.chained; segments = x.binds.segments }) rows → libs ≡ x.binds.libs → map segment_view segments ≡ x.binds.segments
    → base ≡ base_of x.binds.segments → at ≡ x.chains_at → AreBindingsAtStage (stage_of c.opcodes.stage) c.opcodes.binds x.binds (opcode_rows_left opcodes)
    → AreBindingSitesAtStage (stage_of c.opcodes.stage) c.opcodes.binds x.binds (opcode_sites_left opcodes)
    → AreFixupsAfter c.chains x.chained x.binds.segments (fixup_rows_left rows)
    → ArePlacedAfter c x (upto_fault (opcodes_placed opcodes ++ placed (chains_by rows segments base libs) (chain_places rows at)))
whole x c opcodes rows segments base libs at over libs_are segments_are base_is at_is items sites chains =
    let by_opcodes = opcode_rows_left opcodes in
    let opcode_places = places_of (opcode_sites_left opcodes) in
    let fixups = fixup_rows_left rows in
    let bound = same_chains x.chained x.binds rows segments base libs over libs_are segments_are base_is in
    let places = ap (chain_places rows) at_is ∙ same_places x.chained x.binds rows x.chains_at over in
    record {
      by_opcodes = by_opcodes;
      sites = opcode_sites_left opcodes;
      fixups = fixups;
      opcodes = items;
      opcode_sites = sites;
      chains = chains;
      are = ap (λ (l : List (Result Binding Fault)). upto_fault (placed by_opcodes opcode_places ++ placed l (chain_places rows at))) bound
          ∙ ap (λ (l : List ℕ). upto_fault (placed by_opcodes opcode_places ++ placed (bindings_by x.chained x.binds fixups) l)) places;
      bindings = record {
        by_opcodes = by_opcodes;
        fixups = fixups;
        opcodes = items;
        chains = chains;
        are = of_both by_opcodes opcode_places (chains_by rows segments base libs) (chain_places rows at)
            ∙ ap (λ (l : List (Result Binding Fault)). upto_fault (by_opcodes ++ l)) bound;
      };
    }

-- also if nothing is left of the opcodes
pub over_chains : (x : BindingSource) (it : BindingRows) → AreBindingRowsOver x it → AreBindingRowsOver x (record it { opcodes = None })
over_chains x it over = record {
  opcodes = tt;
  fixups = over.fixups;
  libs = over.libs;
  segments = over.segments;
  base = over.base;
  chains = over.chains;
  chains_at = over.chains_at;
  short = over.short;
}
