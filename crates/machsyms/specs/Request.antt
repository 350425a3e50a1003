-- Which symbols are selected (`mach-o/nlist.h`).
use Rattle.std.specs.Prelude.{◌==◌, ℕ, List, Bool, true, false, not, ◌&&◌, ◌||◌, Result, Ok, Err, if◌then◌else◌}
use Rattle.mach_base.specs.Fault.{Fault}
use Rattle.mach_parts.specs.Symbols.{type_of, is_stab}
use Rattle.mach_parts.specs.declared.symbols.nlist.Nlist.{Nlist}
use Rattle.machsyms.specs.Letters.{is_local}
use Rattle.machsyms.specs.declared.selection.Request.{Request}

-- another image defines it: of type N_UNDF, external, and without a value
abbrev pub is_elsewhere : Nlist → Bool
is_elsewhere s =
    if is_stab s then false
    else (if is_local s then false
    else (type_of s.n_type == 0) && (s.n_value == 0))

-- Debugging entries have an option of their own. The other options leave out symbols that aren't external, that the image
-- defines, or that it doesn't.
abbrev pub takes_symbol : Request → Nlist → Bool
takes_symbol a s =
    (a.has_stabs || not (is_stab s))
    && ((not a.is_external || not (is_local s))
    && ((not a.is_undefined || is_elsewhere s)
    && (not a.is_defined || not (is_elsewhere s))))

-- a symbol that can't be read is always selected
abbrev pub takes : Request → Result (List ℕ × Nlist) Fault → Bool
takes a (Ok found) = takes_symbol a found.1
takes a (Err f) = true
