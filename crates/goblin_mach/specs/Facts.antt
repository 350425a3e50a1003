-- What the bytes say of the image that opens at a place, subject by subject, and of a list of exports.
use Rattle.std.specs.Prelude.{◌≡◌, ◌≢◌, ℕ, List, take, Option, Some, Result, Ok, All, Any, slice_get}
use Rattle.mach_base.specs.Context.{pointer_size}
use Rattle.mach_base.specs.Fault.{Fault}
use Rattle.mach_base.specs.declared.context.Ctx.{Ctx}
use Rattle.mach_load.specs.Command.{Command}
use Rattle.mach_parts.specs.Segment.{SegmentView}
use Rattle.mach_parts.specs.Symbols.{SymbolTable}
use Rattle.mach_parts.specs.declared.symbols.nlist.Nlist.{Nlist}
use Rattle.mach_dyld.specs.Imports.{Import}
use Rattle.mach_dyld.specs.Trie as trie
use Rattle.mach_dyld.specs.TrieRange.{ExportsEnd}
use Rattle.mach_chained.specs.Fixups.{Fixup}
use Rattle.mach_chained.specs.Header.{Fixups}
use Rattle.mach_parts.specs.Bindings.{Binding}
use Rattle.goblin_mach.specs.Bindings.{AreImageBindings}
use Rattle.goblin_mach.specs.Fixups.{AreImageFixups, base_of, chained_in}
use Rattle.goblin_mach.specs.Libraries.{LibraryView, libraries_in}
use Rattle.goblin_mach.specs.LookUp.{IsAnswerInImage}
use Rattle.goblin_mach.specs.EntryPoint.{EntryPoint, entry_point_in}
use Rattle.goblin_mach.specs.Image.{LossyOpensAs}
use Rattle.mach_parts.specs.Magic.{cputype_at}
use Rattle.goblin_mach.specs.Readings.{read_of}
use Rattle.goblin_mach.specs.Relocations.{RelocatedSection, relocated_sections_in}
use Rattle.goblin_mach.specs.Subjects.{binds_in, ListsImageImports, ImageImportsFault, AreImageBindItems, lossy_segments_in, trie_in, ListsImageExports}
use Rattle.goblin_mach.specs.Subjects.{ImageExportsFault, own_name_in, libs_in, run_path_by, table_in, symbols_in, trie_or_empty}

-- An image opens at o, at least in lossy mode, and this holds of its context and its commands.
pub record OfImage (bytes : List ℕ) (o : ℕ) (Holds : Ctx → List Command → Type 0) : Type 0 where
  pub ctx : Ctx
  pub cs : List Command
  pub opens : LossyOpensAs bytes o ctx cs
  pub holds : Holds ctx cs

-- its load commands, in order
abbrev pub HasCommands : List ℕ → ℕ → List Command → Type 0
HasCommands bytes o commands = OfImage bytes o (λ ctx cs. commands ≡ cs)

-- its symbols: those of its last table, each with its name, or the fault of a symbol that can't be read
abbrev pub HasSymbols : List ℕ → ℕ → List (Result (List ℕ × Nlist) Fault) → Type 0
HasSymbols bytes o rows = OfImage bytes o (λ ctx cs. rows ≡ symbols_in (table_in ctx bytes cs))

-- its last table of symbols, if it has one
abbrev pub HasSymbolTable : List ℕ → ℕ → Option SymbolTable → Type 0
HasSymbolTable bytes o table = OfImage bytes o (λ ctx cs. table ≡ table_in ctx bytes cs)

-- its segments, in the order of their commands; data that aren't in the bytes are empty
abbrev pub HasSegments : List ℕ → ℕ → List SegmentView → Type 0
HasSegments bytes o segments = OfImage bytes o (λ ctx cs. segments ≡ lossy_segments_in ctx bytes cs)

-- its sections that have relocations, or the fault of the first section that can't be read
abbrev pub HasRelocations : List ℕ → ℕ → Result (List RelocatedSection) Fault → Type 0
HasRelocations bytes o found =
    OfImage bytes o (λ ctx cs. found ≡ relocated_sections_in ctx bytes (lossy_segments_in ctx bytes cs))

-- the name by which it is known as a library, if it has one
abbrev pub HasName : List ℕ → ℕ → Option (List ℕ) → Type 0
HasName bytes o name = OfImage bytes o (λ ctx cs. name ≡ own_name_in bytes cs)

-- its own name or "self", then the libraries that it names: the place of each is its ordinal
abbrev pub HasLibraries : List ℕ → ℕ → List (List ℕ) → Type 0
HasLibraries bytes o libs = OfImage bytes o (λ ctx cs. libs ≡ libs_in bytes cs)

-- its libraries, each with its ordinal and the way it is loaded
abbrev pub HasLibrariesByKind : List ℕ → ℕ → List LibraryView → Type 0
HasLibrariesByKind bytes o libraries = OfImage bytes o (λ ctx cs. libraries ≡ libraries_in ctx.le bytes cs)

-- the paths on which its libraries are searched
abbrev pub HasRunPaths : List ℕ → ℕ → List (List ℕ) → Type 0
HasRunPaths bytes o paths = OfImage bytes o (λ ctx cs. paths ≡ read_of (run_path_by bytes) cs)

-- the address at which it begins to run
abbrev pub HasEntryPoint : List ℕ → ℕ → EntryPoint → Type 0
HasEntryPoint bytes o point = OfImage bytes o (λ ctx cs. entry_point_in (cputype_at ctx bytes o) cs ≡ Ok point)

-- its exports: the list of its last trie, over its libraries
abbrev pub HasExports : List ℕ → ℕ → List trie.Entry → Type 0
HasExports bytes o list = OfImage bytes o (λ ctx cs. ListsImageExports (trie_in bytes cs) (libs_in bytes cs) list)

-- a fault occurs in its trie
abbrev pub HasExportsFault : List ℕ → ℕ → Fault → Type 0
HasExportsFault bytes o f = OfImage bytes o (λ ctx cs. ImageExportsFault (trie_in bytes cs) (libs_in bytes cs) f)

-- a walk of its trie ends after these exports, for this fault
abbrev pub HasExportsEnd : List ℕ → ℕ → List trie.Entry → Fault → Type 0
HasExportsEnd bytes o found f = OfImage bytes o (λ ctx cs. ExportsEnd (trie_or_empty (trie_in bytes cs)) (libs_in bytes cs) found f)

-- what it exports a name as, by the paths of its last trie, over its libraries: none if no path has the name
abbrev pub HasExportOf : List ℕ → ℕ → List ℕ → Option trie.Info → Type 0
HasExportOf bytes o name found = OfImage bytes o (λ ctx cs. IsAnswerInImage (trie_in bytes cs) (libs_in bytes cs) name found)

-- its imports: the list of its last binds, over its libraries and its segments
abbrev pub HasImports : List ℕ → ℕ → List Import → Type 0
HasImports bytes o list =
    OfImage bytes o (λ ctx cs. ListsImageImports (binds_in bytes cs) (pointer_size ctx.container) (libs_in bytes cs) (lossy_segments_in ctx bytes cs) list)

-- a fault occurs in its binds
abbrev pub HasImportsFault : List ℕ → ℕ → Fault → Type 0
HasImportsFault bytes o f =
    OfImage bytes o (λ ctx cs. ImageImportsFault (binds_in bytes cs) (pointer_size ctx.container) (libs_in bytes cs) (lossy_segments_in ctx bytes cs) f)

-- its imports one at a time, up to the first fault
abbrev pub HasImportItems : List ℕ → ℕ → List (Result Import Fault) → Type 0
HasImportItems bytes o items =
    OfImage bytes o (λ ctx cs. AreImageBindItems (binds_in bytes cs) (pointer_size ctx.container) (libs_in bytes cs) (lossy_segments_in ctx bytes cs) items)

-- its chained fixups, if it has any, or the fault of their header
abbrev pub HasChainedFixups : List ℕ → ℕ → Result (Option Fixups) Fault → Type 0
HasChainedFixups bytes o found = OfImage bytes o (λ ctx cs. found ≡ chained_in ctx bytes cs)

-- the address of its first byte in memory
abbrev pub HasBase : List ℕ → ℕ → ℕ → Type 0
HasBase bytes o address = OfImage bytes o (λ ctx cs. address ≡ base_of (lossy_segments_in ctx bytes cs))

-- the fixups of its chains one at a time, up to the first fault
abbrev pub HasFixups : List ℕ → ℕ → List (Result Fixup Fault) → Type 0
HasFixups bytes o items = OfImage bytes o (λ ctx cs. AreImageFixups (chained_in ctx bytes cs) (lossy_segments_in ctx bytes cs) items)

-- what dyld binds of it, over its libraries and its segments: by its opcodes, then by its chains, up to the first fault
abbrev pub HasBindings : List ℕ → ℕ → List (Result Binding Fault) → Type 0
HasBindings bytes o items =
    OfImage bytes o (λ ctx cs. AreImageBindings (binds_in bytes cs) (chained_in ctx bytes cs) (pointer_size ctx.container) (libs_in bytes cs)
    (lossy_segments_in ctx bytes cs) items)

-- an export of this name with this address is among them
abbrev pub IsExportedAt : List ℕ → ℕ → List trie.Entry → Type 0
IsExportedAt name address list = Any (λ e. (e.name ≡ name) × (e.offset ≡ address)) list

-- none of them has this name
abbrev pub IsNotExported : List ℕ → List trie.Entry → Type 0
IsNotExported name list = All (λ e. e.name ≢ name) list

-- export i of them is the first that has this name
pub record IsFirstExport (name : List ℕ) (list : List trie.Entry) (i : ℕ) (e : trie.Entry) : Type 0 where
  pub listed : slice_get list i ≡ Some e
  pub named : e.name ≡ name
  pub before : IsNotExported name (take i list)
