-- All that facts on an image refer to: as the bytes have it, and as an opened image holds it.
use Rattle.std.specs.Prelude.{◌≡◌, ℕ, List, Option, option_map}
use Rattle.mach_base.specs.declared.context.Ctx.{Ctx}
use Rattle.mach_load.specs.Command.{Command}
use Rattle.mach_parts.specs.Header.{header_in}
use Rattle.mach_parts.specs.Segment.{SegmentView}
use Rattle.mach_parts.specs.SymbolViews.{table_of}
use Rattle.mach_parts.specs.Symbols.{SymbolTable}
use Rattle.mach_parts.specs.declared.header.Header.{Header}
use Rattle.mach_dyld.specs.Exports.{text_in}
use Rattle.mach_base.specs.Text.{texts}
use Rattle.mach_dyld.specs.Imports.{BindRanges}
use Rattle.mach_dyld.specs.TrieRange.{TrieRange}
use Rattle.goblin_mach.specs.OpenImage.{commands_view, segments_view, trie_view, binds_view, ctx_view, bytes_view}
use Rattle.goblin_mach.specs.Readings.{read_of}
use Rattle.goblin_mach.specs.Subjects.{binds_in, lossy_segments_in, trie_in, own_name_in, libs_in, run_path_by, table_in}
use Rattle.goblin_mach.specs.declared.macho.MachO.{MachO}
use Rattle.goblin_mach.specs.Facts.{OfImage}

-- The parts of an image that facts refer to.
pub record Facts : Type 0 where
  pub ctx : Ctx
  pub bytes : List ℕ
  pub header : Header
  pub commands : List Command
  pub segments : List SegmentView
  pub symbols : Option SymbolTable
  pub libs : List (List ℕ)
  pub run_paths : List (List ℕ)
  pub name : Option (List ℕ)
  pub trie : Option TrieRange
  pub binds : Option BindRanges

-- those of the image at a place, by its commands
abbrev pub facts_in : Ctx → List ℕ → ℕ → List Command → Facts
facts_in ctx bytes o cs = record {
  ctx = ctx;
  bytes = bytes;
  header = header_in ctx.container ctx.le bytes o;
  commands = cs;
  segments = lossy_segments_in ctx bytes cs;
  symbols = table_in ctx bytes cs;
  libs = libs_in bytes cs;
  run_paths = read_of (run_path_by bytes) cs;
  name = own_name_in bytes cs;
  trie = trie_in bytes cs;
  binds = binds_in bytes cs;
}

-- those of an image, as it holds them
abbrev pub facts_view : {A : Type 0} → MachO A → Facts
facts_view m = record {
  ctx = ctx_view m;
  bytes = bytes_view m;
  header = m.header;
  commands = commands_view m;
  segments = segments_view m;
  symbols = option_map table_of m.symbols;
  libs = texts m.libs.items;
  run_paths = texts m.rpaths.items;
  name = text_in m.name;
  trie = trie_view m;
  binds = binds_view m;
}

-- the image at o opens, at least in lossy mode, and this holds of it
abbrev pub OfFacts : List ℕ → ℕ → (Facts → Type 0) → Type 0
OfFacts bytes o Says = OfImage bytes o (λ ctx cs. Says (facts_in ctx bytes o cs))

-- these are all parts of the image at o that facts refer to
abbrev pub HasFacts : List ℕ → ℕ → Facts → Type 0
HasFacts bytes o f = OfFacts bytes o (λ there. f ≡ there)
