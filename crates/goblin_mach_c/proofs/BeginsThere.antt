-- If both parts of a cursor are at the start, the bindings after it are all those of the image.
use Rattle.std.proofs.Common.{◌≡◌, ◌++◌, ◌∙◌, [], ◌∷◌, ℕ, List, Option, Some, None, Result, Ok, Err, refl, sym, ap, subst}
use Rattle.mach_base.specs.Fault.{Fault}
use Rattle.mach_chained.specs.Fixups.{Fixup}
use Rattle.mach_chained.specs.Header.{Fixups}
use Rattle.mach_dyld.specs.Bindings.{upto_fault}
use Rattle.mach_parts.specs.Bindings.{Binding}
use Rattle.goblin_mach.specs.Bindings.{AreChainBindings, AreImageBindings}
use Rattle.goblin_mach.specs.Fixups.{AreImageFixups}
use Rattle.goblin_mach_c.specs.BindingsAfter as following
use Rattle.goblin_mach_c.specs.BindingsAfter.{AreBindingsAfter, bindings_by}
use Rattle.goblin_mach_c.specs.FixupsAfter as fixups
use Rattle.goblin_mach_c.specs.ImportsAfter.{Binds}
use Rattle.goblin_mach_c.specs.Stage.{stage_of}
use Rattle.goblin_mach_c.specs.declared.bindings.gm_binding_cursor.{gm_binding_cursor}

-- the bindings of all fixups are those of the chains
by_fixups : (chained : Result (Option Fixups) Fault) (x : Binds) (items : List (Result Fixup Fault)) → AreImageFixups chained x.segments items
    → AreChainBindings chained x.libs x.segments (bindings_by chained x items)
by_fixups (Err f) x items are = ap (bindings_by (Err f) x) are
by_fixups (Ok None) x items are = refl
by_fixups (Ok (Some c)) x items are = (items, are, refl)

-- and those of the chains are the bindings of all fixups
of_chains : (chained : Result (Option Fixups) Fault) (x : Binds) (bound : List (Result Binding Fault)) → AreChainBindings chained x.libs x.segments bound
    → (items : List (Result Fixup Fault)) × AreImageFixups chained x.segments items × (bound ≡ bindings_by chained x items)
of_chains (Err f) x bound are = (Err f ∷ [], refl, are)
of_chains (Ok None) x bound are = ([], refl, are)
of_chains (Ok (Some c)) x bound are = (are.0, are.1, are.2)

pub whole_list : (c : gm_binding_cursor) (x : Binds) (chained : Result (Option Fixups) Fault) (items : List (Result Binding Fault))
    → c.opcodes.stage ≡ 0 → c.chains.stage ≡ 0 → AreBindingsAfter c x chained items → AreImageBindings x.ranges chained x.pointer x.libs x.segments items
whole_list c x chained items p q b = record {
  by_opcodes = b.by_opcodes;
  by_chains = bindings_by chained x b.fixups;
  opcodes = subst (λ (n : ℕ). following.AreBindingsAtStage (stage_of n) c.opcodes.binds x b.by_opcodes) p b.opcodes;
  chains = by_fixups chained x b.fixups (subst (λ (n : ℕ). fixups.AreFixupsAtStage (stage_of n) c.chains.chains chained x.segments b.fixups) q b.chains);
  are = b.are;
}

pub after_start : (c : gm_binding_cursor) (x : Binds) (chained : Result (Option Fixups) Fault) (items : List (Result Binding Fault))
    → c.opcodes.stage ≡ 0 → c.chains.stage ≡ 0 → AreImageBindings x.ranges chained x.pointer x.libs x.segments items → AreBindingsAfter c x chained items
after_start c x chained items p q b =
    let found = of_chains chained x b.by_chains b.chains in
    record {
      by_opcodes = b.by_opcodes;
      fixups = found.0;
      opcodes = subst (λ (n : ℕ). following.AreBindingsAtStage (stage_of n) c.opcodes.binds x b.by_opcodes) (sym p) b.opcodes;
      chains = subst (λ (n : ℕ). fixups.AreFixupsAtStage (stage_of n) c.chains.chains chained x.segments found.0) (sym q) found.1;
      are = b.are ∙ ap (λ (l : List (Result Binding Fault)). upto_fault (b.by_opcodes ++ l)) found.2;
    }
