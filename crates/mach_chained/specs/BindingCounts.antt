-- The number of bindings of an image.
use Rattle.std.specs.Prelude.{◌≡◌, ℕ, suc, List, [], ◌∷◌, map, length, None, Ok}
use Rattle.mach_chained.specs.Pointers.{KindOfFixup, rebase, bind, value}
use Rattle.mach_chained.specs.Fixups.{FixupInput}
use Rattle.mach_chained.specs.Chained.{PlacedFixup, fixup_items}
use Rattle.mach_parts.specs.Bindings.{Binding}
use Rattle.mach_chained.specs.Bindings.{bindings_of}

-- one more, if it is a bind
abbrev pub binds_more : KindOfFixup → ℕ → ℕ
binds_more (rebase target) n = n
binds_more (value number) n = n
binds_more (bind import inline) n = suc n

-- how many of some fixups are binds
abbrev pub bind_count : List PlacedFixup → ℕ
bind_count [] = 0
bind_count (p ∷ ps) = binds_more p.fixup.kind (bind_count ps)

-- a list has exactly as many bindings as there are binds
abbrev pub AsManyAsBinds : Type 0
AsManyAsBinds = (x : FixupInput) (libs : List (List ℕ)) (ps : List PlacedFixup) (list : List Binding)
    → bindings_of x libs (fixup_items ps None) ≡ map Ok list → length list ≡ bind_count ps
