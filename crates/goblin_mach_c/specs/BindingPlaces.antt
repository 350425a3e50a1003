-- Where the names of bindings are. For the opcodes this is the place where the name was last set before the bind; for the chains
-- it is the place of the import's name in their data.
use Rattle.std.specs.Prelude.{◌≡◌, ◌+◌, ℕ, List, [], ◌∷◌, map, Option, Some, None, Result, Ok, Err}
use Rattle.mach_base.specs.Fault.{Fault}
use Rattle.mach_dyld.specs.Imports.{BindRanges, input_in}
use Rattle.mach_dyld.specs.SiteCursors.{AreBindingSites, binding_sites_after}
use Rattle.mach_dyld.specs.Sites.{Site}
use Rattle.mach_dyld.specs.declared.imports.cursor.BindCursor.{BindCursor}
use Rattle.mach_chained.specs.Fixups.{Fixup}
use Rattle.mach_chained.specs.Header.{Fixups}
use Rattle.mach_chained.specs.Imports.{name_place_at}
use Rattle.mach_chained.specs.Pointers.{KindOfFixup, rebase, bind, value}
use Rattle.goblin_mach_c.specs.ImportsAfter.{Binds}
use Rattle.goblin_mach_c.specs.Stage.{Stage, start, under_way, over}

-- ---- those of the opcodes

-- the sites of all bindings
abbrev pub AreAllBindingSites : Option BindRanges → Binds → List Site → Type 0
AreAllBindingSites None x sites = sites ≡ []
AreAllBindingSites (Some b) x sites = AreBindingSites (input_in b x.pointer x.libs x.segments) b.non_lazy b.lazy sites

-- those of the bindings after a place of the streams
abbrev pub opcode_sites_after : BindCursor → Option BindRanges → Binds → List Site
opcode_sites_after c None x = []
opcode_sites_after c (Some b) x = binding_sites_after (input_in b x.pointer x.libs x.segments) b.lazy c

-- those at a stage
abbrev pub AreBindingSitesAtStage : Stage → BindCursor → Binds → List Site → Type 0
AreBindingSitesAtStage start c x sites = AreAllBindingSites x.ranges x sites
AreBindingSitesAtStage under_way c x sites = sites ≡ opcode_sites_after c x.ranges x
AreBindingSitesAtStage over c x sites = sites ≡ []

abbrev pub places_of : List Site → List ℕ
places_of sites = map (λ (s : Site). s.name_place) sites

-- ---- those of the chains, whose data begin at a place

-- the offset of the data of an image's chains; 0 if it has none
abbrev pub data_place : Option (ℕ × ℕ) → ℕ
data_place None = 0
data_place (Some found) = found.0

-- a place of the data; if there is none no name is read
abbrev pub place_in_data : ℕ → Result ℕ Fault → ℕ
place_in_data at (Ok place) = at + place
place_in_data at (Err f) = 0

-- the place of a bind's name, before those of others
abbrev pub with_name_place : ℕ → Fixups → KindOfFixup → List ℕ → List ℕ
with_name_place at chained (bind import addend) rest = place_in_data at (name_place_at chained import) ∷ rest
with_name_place at chained (rebase target) rest = rest
with_name_place at chained (value number) rest = rest

-- those of the binds among some fixups, in order
abbrev pub places_in : ℕ → Fixups → List (Result Fixup Fault) → List ℕ
places_in at chained [] = []
places_in at chained (Err f ∷ fixups) = []
places_in at chained (Ok f ∷ fixups) = with_name_place at chained f.kind (places_in at chained fixups)

-- none if the header of the chains can't be read
abbrev pub places_by : ℕ → Result (Option Fixups) Fault → List (Result Fixup Fault) → List ℕ
places_by at (Err f) fixups = []
places_by at (Ok None) fixups = []
places_by at (Ok (Some chained)) fixups = places_in at chained fixups
