-- The views of the crate's own types.
use Rattle.std.specs.Prelude.{◌≡◌, ◌↔◌, ℕ, List, map, Option, option_map, Some, None, slice_get, IsTrue, if◌then◌else◌}
use Rattle.mach_base.specs.Text.{texts}
use Rattle.mach_dyld.specs.Trie.{Info}
use Rattle.mach_parts.specs.Bindings.{provider_view}
use Rattle.goblin_mach.specs.OpenImage.{trie_view}
use Rattle.mach_resolve.specs.Files as files
use Rattle.mach_resolve.specs.Following as following
use Rattle.mach_resolve.specs.Follow as follow
use Rattle.mach_resolve.specs.Special as special
use Rattle.mach_resolve.specs.Answers as answers
use Rattle.mach_resolve.specs.Note as note
use Rattle.mach_resolve.specs.Given as gathered
use Rattle.mach_resolve.specs.declared.file.File.{File}
use Rattle.mach_resolve.specs.declared.file.Files.{Files}
use Rattle.mach_resolve.specs.declared.reexports.Edge.{Edge}
use Rattle.mach_resolve.specs.declared.reexports.Met.{Met}
use Rattle.mach_resolve.specs.declared.follow.Symbol.{Symbol}
use Rattle.mach_resolve.specs.declared.follow.NamePlace.{NamePlace}
use Rattle.mach_resolve.specs.declared.follow.NamePlace.TheVariants.{Found, LeadsBack, NoLibrary, Missing, NotGiven, NotFound, NoMain}
use Rattle.mach_resolve.specs.declared.follow.Step.{Step}
use Rattle.mach_resolve.specs.declared.follow.Step.TheVariants.{Leads, Ends}
use Rattle.mach_resolve.specs.declared.special.Definition.{Definition}
use Rattle.mach_resolve.specs.declared.answers.Answer.{Answer}
use Rattle.mach_resolve.specs.declared.answers.Program.{Program}
use Rattle.mach_resolve.specs.declared.note.Note.{Note}
use Rattle.mach_resolve.specs.declared.note.Note.TheVariants.{GivenBefore, NothingFor}
use Rattle.mach_resolve.specs.declared.inputs.Gathered.{Gathered}

abbrev pub input_view : {A : Type 0} → File A → files.File
input_view f = record {
  number = f.number;
  name = f.name.now;
  is_main = f.is_main;
  reexports = texts f.reexports.items;
  trie = trie_view f.image;
  libs = texts f.image.libs.items;
}

abbrev pub input_views : {A : Type 0} → Files A → List files.File
input_views fs = map input_view fs.items.items

abbrev pub edge_view : Edge → following.Edge
edge_view e = record { from = e.from.now; to = e.to.now }

abbrev pub met_view : {A : Type 0} → Met A → following.Met
met_view m = record { places = m.places.items; gap = option_map edge_view m.gap }

abbrev pub symbol_view_of : Symbol → follow.Symbol
symbol_view_of s = record { library = s.library.now; name = s.name.now }

abbrev pub place_view_of : NamePlace → follow.SymbolPlace
place_view_of (Found number file address is_absolute) = follow.found number file.now address is_absolute
place_view_of (LeadsBack library) = follow.leads_back library.now
place_view_of (NoLibrary library) = follow.no_library library.now
place_view_of (Missing library) = follow.missing library.now
place_view_of (NotGiven library reexported) = follow.not_given library.now reexported.now
place_view_of NotFound = follow.not_found
place_view_of NoMain = follow.no_main

-- what an export of a file, looked up by this name, leads to: another symbol, or its address
abbrev pub LeadsToStep : files.File → Info → List ℕ → Step → Type 0
LeadsToStep g info name (Leads next) = follow.LeadsTo info name (symbol_view_of next)
LeadsToStep g info name (Ends place) =
    (address : ℕ) × (follow.address_of info ≡ Some address) × (place_view_of place ≡ follow.found g.number g.name address (follow.is_absolute info))

-- one step further, or the end
abbrev pub IsStep : List files.File → follow.Symbol → Step → Type 0
IsStep fs s (Leads next) = follow.IsReexport fs s (symbol_view_of next)
IsStep fs s (Ends place) = follow.IsEnd fs s (place_view_of place)

abbrev pub program_view : {A : Type 0} → Program A → answers.Program
program_view p = record { name = p.name.now; may_be_absent = p.may_be_absent.items }

abbrev pub answer_view : Answer → answers.Answer
answer_view a = record { name = a.name.now; provider = provider_view a.provider; place = place_view_of a.place; is_weak = a.is_weak }

-- the file at this place has this definition of a name, weak or not
pub record IsDefinition (fs : List files.File) (i : ℕ) (name : List ℕ) (d : Definition) : Type 0 where
  pub file : files.File
  pub info : Info
  pub address : ℕ
  pub listed : slice_get fs i ≡ Some file
  pub defines : special.Defines file name info address
  pub place_is : place_view_of d.place ≡ follow.found file.number file.name address (follow.is_absolute info)
  pub weak : IsTrue d.is_weak ↔ special.IsWeakDefinition info

-- the place of a definition, unless it is weak
abbrev pub strong_place : Option Definition → Option NamePlace
strong_place None = None
strong_place (Some d) = if d.is_weak then None else Some d.place

-- the first place, if there is one, else that of a definition
abbrev pub first_place : Option NamePlace → Option Definition → Option NamePlace
first_place (Some place) found = Some place
first_place None found = option_map (λ (d : Definition). d.place) found

abbrev pub note_view_of : Note → note.Note
note_view_of (GivenBefore library name) = note.given_before library name.now
note_view_of (NothingFor library cputype) = note.nothing_for library cputype

abbrev pub gathered_view : {A : Type 0} → Gathered A → gathered.Gathered
gathered_view g = record { files = input_views g.files; notes = map note_view_of g.notes.items }
