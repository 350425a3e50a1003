-- The places of names and the numbers of libraries after a cursor of binds.
use Rattle.std.specs.Prelude.{◌-◌, ◌^◌, ℕ, List, Result, Ok, Err}
use Rattle.mach_base.specs.Fault.{Fault}
use Rattle.mach_base.specs.Text.{text_at}
use Rattle.mach_dyld.specs.BindCursors.{state_in}
use Rattle.mach_dyld.specs.BindLeft.{import_rules}
use Rattle.mach_dyld.specs.Bindings.{opcode_at}
use Rattle.mach_dyld.specs.BindingsLeft.{binding_rules}
use Rattle.mach_dyld.specs.Instructions.{instruction_at}
use Rattle.mach_dyld.specs.Sites.{AreSites, Site, sites_left, sites_of}
use Rattle.mach_dyld.specs.Streams.{Input, Range}
use Rattle.mach_dyld.specs.declared.bindings.OpcodeBindingIterator.{OpcodeBindingIterator}
use Rattle.mach_dyld.specs.declared.imports.cursor.BindCursor.{BindCursor}
use Rattle.mach_dyld.specs.declared.imports.cursor.PlacedImport.{PlacedImport}
use Rattle.mach_dyld.specs.declared.imports.iterator.BindIterator.{BindIterator}

-- the place, if a text is there, else the last place of 64 bits
abbrev pub place_named : Result (List ℕ) Fault → ℕ → ℕ
place_named (Ok text) place = place
place_named (Err f) place = 2 ^ 64 - 1

-- the site in the numbers of a cursor, over some bytes
abbrev pub site_view : List ℕ → BindCursor → Site
site_view bytes c = record { name_place = place_named (text_at bytes c.name_place) c.name_place; library = c.library }

-- ---- imports

-- these are the sites of all binds of both streams
abbrev pub AreImportSites : Input → Range → Range → List Site → Type 0
AreImportSites x non_lazy lazy sites = AreSites (λ r. instruction_at x.pointer x.bytes) non_lazy lazy sites

-- the sites of the imports after a cursor, if this is the lazy stream
abbrev pub import_sites_after : Input → Range → BindCursor → List Site
import_sites_after x lazy c = sites_of (λ r. instruction_at x.pointer x.bytes) lazy (site_view x.bytes c) (state_in x.bytes c)

-- the sites of the imports that are left
abbrev pub import_sites_left : BindIterator → List Site
import_sites_left it = sites_left import_rules it.stream

-- the site of an import
abbrev pub site_of : PlacedImport → Site
site_of p = record { name_place = p.name_place; library = p.library }

-- ---- bindings

abbrev pub AreBindingSites : Input → Range → Range → List Site → Type 0
AreBindingSites x non_lazy lazy sites = AreSites (λ r. opcode_at r x.pointer x.bytes) non_lazy lazy sites

abbrev pub binding_sites_after : Input → Range → BindCursor → List Site
binding_sites_after x lazy c = sites_of (λ r. opcode_at r x.pointer x.bytes) lazy (site_view x.bytes c) (state_in x.bytes c)

abbrev pub binding_sites_left : OpcodeBindingIterator → List Site
binding_sites_left it = sites_left binding_rules it.stream
