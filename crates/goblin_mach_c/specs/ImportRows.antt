-- Imports as C sees them.
use Rattle.std.specs.Prelude.{◌≡◌, ◌⊎◌, ℕ, pos, List, [], length, Some, Result, Ok, Err, slice_get}
use Rattle.mach_base.specs.Fault.{Fault}
use Rattle.mach_base.specs.Text.{text_at}
use Rattle.mach_dyld.specs.Imports.{Import}
use Rattle.mach_dyld.specs.Sites.{Site}
use Rattle.goblin_mach_c.specs.Codes.{code_of_fault}
use Rattle.goblin_mach_c.specs.Opened.{flag}
use Rattle.goblin_mach_c.specs.Sited.{reported_at}
use Rattle.goblin_mach_c.specs.declared.imports.gm_import.{gm_import}

-- a name is the text at a place; an empty one is reported at 0
abbrev pub IsNameAt : List ℕ → ℕ → List ℕ → Type 0
IsNameAt bytes place name = ((name ≡ []) × (place ≡ 0)) ⊎ (text_at bytes place ≡ Ok name)

-- an import with the place of its name and the ordinal of its library
abbrev pub import_row : (place library : ℕ) → Import → gm_import
import_row place library i =
    record {
      address = i.address;
      offset = i.offset;
      addend = i.addend;
      start_of_sequence_offset = i.start_of_sequence_offset;
      name = place;
      name_len = length i.name;
      library = library;
      size = i.size;
      is_weak = flag i.is_weak;
      is_lazy = flag i.is_lazy;
      code = 0;
      reserved = 0;
    }

-- why no further imports can be read
abbrev pub no_import : Fault → gm_import
no_import f =
    record {
      address = 0;
      offset = 0;
      addend = pos 0;
      start_of_sequence_offset = 0;
      name = 0;
      name_len = 0;
      library = 0;
      size = 0;
      is_weak = 0;
      is_lazy = 0;
      code = code_of_fault f;
      reserved = 0;
    }

-- The row has the numbers of the import, the place where its name was last set before its bind, and the number of a library that
-- was last set. The name is there, and that library has this ordinal.
pub record SaysImport (bytes : List ℕ) (libs : List (List ℕ)) (i : Import) (s : Site) (row : gm_import) : Type 0 where
  pub numbers : row ≡ import_row (reported_at i.name s.name_place) s.library i
  pub name : IsNameAt bytes row.name i.name
  pub library : slice_get libs row.library ≡ Some i.dylib

-- a row is that of an import with its site, or of the fault that ends them
abbrev pub IsImportRow : List ℕ → List (List ℕ) → Result (Import × Site) Fault → gm_import → Type 0
IsImportRow bytes libs (Ok i) row = SaysImport bytes libs i.0 i.1 row
IsImportRow bytes libs (Err f) row = row ≡ no_import f
