-- What is left of an iterator over bindings, and a list of bindings.
use Rattle.std.specs.Prelude.{◌≡◌, ℕ, suc, List, [], ◌∷◌, map, true, Result, Ok, Err, if◌then◌else◌}
use Rattle.mach_base.specs.Fault.{Fault}
use Rattle.mach_parts.specs.declared.binding.Binding as binding
use Rattle.mach_parts.specs.Bindings.{Binding, binding_view}
use Rattle.mach_base.specs.Text.{texts}
use Rattle.mach_chained.specs.declared.bindings.ChainedBindIterator.{ChainedBindIterator}
use Rattle.mach_chained.specs.Fixups.{Fixup}
use Rattle.mach_chained.specs.Bindings.{bindings_of}
use Rattle.mach_chained.specs.WalkViews.{fixup_input_of}
use Rattle.mach_chained.specs.FixupsLeft.{fixups_left}

abbrev pub bindings_view : List binding.Binding → List Binding
bindings_view items = map binding_view items

unfoldable pub chained_bindings_left : ChainedBindIterator → List (Result Binding Fault)
chained_bindings_left it =
    if it.ended then [] else bindings_of (fixup_input_of it.fixups.source) (texts it.libs.now) (fixups_left it.fixups)

-- it has ended: nothing is left, and that remains so
pub record HasEndedChainedBindings (it : ChainedBindIterator) : Type 0 where
  pub ended : it.ended ≡ true
  pub left : chained_bindings_left it ≡ []

-- how many of some items are fixups
abbrev pub fixup_count : List (Result Fixup Fault) → ℕ
fixup_count [] = 0
fixup_count (Err f ∷ items) = fixup_count items
fixup_count (Ok f ∷ items) = suc (fixup_count items)

-- how many pointers are left to be read, not counting that of a fault
unfoldable pub pointers_left : ChainedBindIterator → ℕ
pointers_left it = if it.ended then 0 else fixup_count (fixups_left it.fixups)
