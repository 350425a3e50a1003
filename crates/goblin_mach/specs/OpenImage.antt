-- An image that was opened, and the fields that were read.
use Rattle.std.specs.Prelude.{◌↔◌, ◌≡◌, ◌⊎◌, ℕ, List, map, IsTrue, Ok, Option, option_map}
use Rattle.mach_base.specs.declared.context.Container.TheVariants.{Big}
use Rattle.mach_base.specs.declared.context.Ctx.{Ctx}
use Rattle.mach_base.specs.declared.context.Endian.TheVariants.{Little}
use Rattle.mach_base.specs.Fault.{Fault}
use Rattle.mach_load.specs.Command.{Command}
use Rattle.mach_load.specs.Variants.{command_of}
use Rattle.mach_parts.specs.Header.{IsHeader}
use Rattle.mach_parts.specs.Segment.{SegmentView, segment_view}
use Rattle.mach_parts.specs.Segments.{segments_in}
use Rattle.mach_parts.specs.SymbolViews.{table_of}
use Rattle.mach_dyld.specs.Exports.{text_in}
use Rattle.mach_base.specs.Text.{texts}
use Rattle.mach_dyld.specs.Imports.{BindRanges}
use Rattle.mach_dyld.specs.TrieRange.{TrieRange}
use Rattle.goblin_mach.specs.EntryPoint.{entry_point_in}
use Rattle.goblin_mach.specs.Image.{OpensAs, LossyOpensAs}
use Rattle.mach_parts.specs.Magic.{cputype_at}
use Rattle.goblin_mach.specs.Readings.{Reading, read_of, values_read, last_or, IsRefused}
use Rattle.goblin_mach.specs.Subjects.{table_by, id_by, trie_by, binds_by}
use Rattle.goblin_mach.specs.Subjects.{binds_in, library_by, segment_by, lossy_segments_in, trie_in, own_name_in, libs_in, run_path_by, table_in}
use Rattle.goblin_mach.specs.declared.fields.Fields.{Fields}
use Rattle.goblin_mach.specs.declared.macho.MachO.{MachO}
use Rattle.goblin_mach.specs.declared.single_value.Once.{Once}
use Rattle.goblin_mach.specs.declared.opened.Opened.{Opened}

-- the range of the export trie that an image holds, if it holds one
abbrev pub trie_view : {A : Type 0} → MachO A → Option TrieRange
trie_view m = m.export_trie

-- the ranges of the binds that it holds
abbrev pub binds_view : {A : Type 0} → MachO A → Option BindRanges
binds_view m = m.bind_interpreter

-- its segments
abbrev pub segments_view : {A : Type 0} → MachO A → List SegmentView
segments_view m = map segment_view (segments_in m.segments)

-- its commands
abbrev pub commands_view : {A : Type 0} → MachO A → List Command
commands_view m = map command_of m.load_commands.items

-- the bytes and the context in which it was opened, which its own methods read
abbrev pub bytes_view : {A : Type 0} → MachO A → List ℕ
bytes_view m = m.bytes.now

abbrev pub ctx_view : {A : Type 0} → MachO A → Ctx
ctx_view m = m.ctx

-- The fields of the image at o with this context, these commands and these segments: each is the header's record, the chain,
-- what the magic says, or a filter, a first or a last over the chain.
pub record HasFields {A : Type 0} (bytes : List ℕ) (o : ℕ) (ctx : Ctx) (parts : List SegmentView) (m : MachO A) : Type 0 where
  pub header : IsHeader ctx bytes o m.header
  pub little_endian : IsTrue m.little_endian ↔ (ctx.le ≡ Little)
  pub is_64 : IsTrue m.is_64 ↔ (ctx.container ≡ Big)
  pub segments : segments_view m ≡ parts
  pub symbols : option_map table_of m.symbols ≡ table_in ctx bytes (commands_view m)
  pub libs : texts m.libs.items ≡ libs_in bytes (commands_view m)
  pub rpaths : texts m.rpaths.items ≡ read_of (run_path_by bytes) (commands_view m)
  pub entry : entry_point_in (cputype_at ctx bytes o) (commands_view m) ≡ Ok (record { address = m.entry; old_style = m.old_style_entry })
  pub name : text_in m.name ≡ own_name_in bytes (commands_view m)
  pub trie : trie_view m ≡ trie_in bytes (commands_view m)
  pub binds : binds_view m ≡ binds_in bytes (commands_view m)
  pub bytes_is : bytes_view m ≡ bytes
  pub ctx_is : ctx_view m ≡ ctx

-- The image that opens at o, strictly: an image with some context opens there with its commands.
pub record IsImage {A : Type 0} (bytes : List ℕ) (o : ℕ) (m : MachO A) : Type 0 where
  pub ctx : Ctx
  pub opens : OpensAs bytes o ctx (commands_view m)
  pub fields : HasFields bytes o ctx (read_of (segment_by ctx bytes) (commands_view m)) m

-- The image that opens at o in lossy mode.
pub record IsLossyImage {A : Type 0} (bytes : List ℕ) (o : ℕ) (m : MachO A) : Type 0 where
  pub ctx : Ctx
  pub opens : LossyOpensAs bytes o ctx (commands_view m)
  pub fields : HasFields bytes o ctx (lossy_segments_in ctx bytes (commands_view m)) m

-- the commands that were read
abbrev pub commands_of : {A : Type 0} → Opened A → List Command
commands_of x = map command_of x.load_commands.items

-- what one more command says on the fields of which an image has one
pub record TakesOnce (ctx : Ctx) (bytes : List ℕ) (c : Command) (old new : Once) : Type 0 where
  pub symbols : option_map table_of new.symbols ≡ last_or (option_map table_of old.symbols) (values_read (table_by ctx bytes c))
  pub name : text_in new.name ≡ last_or (text_in old.name) (values_read (id_by bytes c))
  pub trie : new.export_trie ≡ last_or old.export_trie (values_read (trie_by bytes c))
  pub binds : new.bind_interpreter ≡ last_or old.bind_interpreter (values_read (binds_by bytes c))

-- a command on one of them can't be read, for this fault
abbrev pub IsOnceRefused : Ctx → List ℕ → Command → Fault → Type 0
IsOnceRefused ctx bytes c f = IsRefused (table_by ctx bytes c) f ⊎ IsRefused (id_by bytes c) f

-- each is a filter or a last over the commands, for these segments and libraries
pub record AreFields {A : Type 0} (ctx : Ctx) (bytes : List ℕ) (parts : List SegmentView) (libs : List (List ℕ)) (cs : List Command) (f : Fields A)
    : Type 0 where
  pub segments : map segment_view f.segments.items ≡ parts
  pub libs_are : texts f.libs.items ≡ libs
  pub rpaths : texts f.rpaths.items ≡ read_of (run_path_by bytes) cs
  pub symbols : option_map table_of f.once.symbols ≡ table_in ctx bytes cs
  pub name : text_in f.once.name ≡ own_name_in bytes cs
  pub trie : f.once.export_trie ≡ trie_in bytes cs
  pub binds : f.once.bind_interpreter ≡ binds_in bytes cs

-- what some commands say, before the image's own name is inserted before its libraries
abbrev pub AreTaken : {A : Type 0} → Ctx → List ℕ → Reading SegmentView → List Command → Fields A → Type 0
AreTaken ctx bytes segment cs f = AreFields ctx bytes (read_of segment cs) (read_of (library_by bytes) cs) cs f

-- the image built from what was read
pub record IsMadeOf {A : Type 0} (bytes : List ℕ) (x : Opened A) (f : Fields A) (m : MachO A) : Type 0 where
  pub commands : m.load_commands ≡ x.load_commands
  pub header : m.header ≡ x.header
  pub little_endian : IsTrue m.little_endian ↔ (x.ctx.le ≡ Little)
  pub is_64 : IsTrue m.is_64 ↔ (x.ctx.container ≡ Big)
  pub segments : segments_in m.segments ≡ f.segments.items
  pub symbols : m.symbols ≡ f.once.symbols
  pub libs : m.libs ≡ f.libs
  pub rpaths : m.rpaths ≡ f.rpaths
  pub entry : m.entry ≡ x.address
  pub old_style_entry : m.old_style_entry ≡ x.old_style_entry
  pub name : m.name ≡ f.once.name
  pub trie : trie_view m ≡ f.once.export_trie
  pub binds : binds_view m ≡ f.once.bind_interpreter
  pub bytes_is : bytes_view m ≡ bytes
  pub ctx_is : ctx_view m ≡ x.ctx

pub record SameFields {A B : Type 0} (m : MachO A) (n : MachO B) : Type 0 where
  pub header : m.header ≡ n.header
  pub commands : commands_view m ≡ commands_view n
  pub segments : segments_view m ≡ segments_view n
  pub symbols : option_map table_of m.symbols ≡ option_map table_of n.symbols
  pub libs : texts m.libs.items ≡ texts n.libs.items
  pub rpaths : texts m.rpaths.items ≡ texts n.rpaths.items
  pub entry : m.entry ≡ n.entry
  pub old_style_entry : m.old_style_entry ≡ n.old_style_entry
  pub name : text_in m.name ≡ text_in n.name
  pub little_endian : IsTrue m.little_endian ↔ IsTrue n.little_endian
  pub is_64 : IsTrue m.is_64 ↔ IsTrue n.is_64
  pub trie : trie_view m ≡ trie_view n
  pub binds : binds_view m ≡ binds_view n
