-- The numbers of an image that opens.
use Rattle.std.specs.Prelude.{◌≡◌, ◌==◌, ◌<◌, ◌≤◌, ◌⊎◌, ℕ, ◌+◌, ◌-◌, List, length, Bool, true, false, not, Option, Some, None, option_map, Ok}
use Rattle.mach_base.specs.declared.context.Ctx.{Ctx}
use Rattle.mach_base.specs.Fault.{Fault, malformed}
use Rattle.mach_load.specs.Command.{Command}
use Rattle.mach_parts.specs.Header.{IsHeader, header_size}
use Rattle.mach_parts.specs.Symbols.{SymbolTable}
use Rattle.mach_parts.specs.declared.header.Header.{Header}
use Rattle.goblin_mach.specs.EntryPoint.{entry_point_in}
use Rattle.goblin_mach.specs.Fixups.{base_of, base_view}
use Rattle.goblin_mach.specs.Image.{AllReadable, ImageFault, LossyFault, LossyOpens, LossyOpensAs, Opens}
use Rattle.mach_parts.specs.Magic.{cputype_at}
use Rattle.goblin_mach.specs.Readings.{read_of}
use Rattle.goblin_mach.specs.Subjects.{libs_in, lossy_segment_by, lossy_segments_in, run_path_by, table_in}
use Rattle.mach_parts.specs.Segments.{segments_in}
use Rattle.mach_parts.specs.SymbolViews.{table_of}
use Rattle.goblin_mach.specs.declared.macho.MachO.{MachO}
use Rattle.std.specs.declared.alloc.Global.{Global}
use Rattle.mach_base.specs.declared.context.Container.{Container}
use Rattle.mach_base.specs.declared.context.Container.TheVariants as width
use Rattle.goblin_mach_c.specs.CViews.{gm_ctx_view}
use Rattle.goblin_mach_c.specs.declared.images.gm_image.{gm_image}

-- a flag of C: 1 says yes and 0 says no
abbrev pub flag : Bool → ℕ
flag true = 1
flag false = 0

-- whether a mode of opening is the lossy one; 0 is the strict one
abbrev pub lossy_mode : ℕ → Bool
lossy_mode mode = not (mode == 0)

-- the numbers of the header
pub record AreHeaderNumbers (h : Header) (c : gm_image) : Type 0 where
  pub magic : c.magic ≡ h.magic
  pub cputype : c.cputype ≡ h.cputype
  pub cpusubtype : c.cpusubtype ≡ h.cpusubtype
  pub filetype : c.filetype ≡ h.filetype
  pub flags : c.flags ≡ h.flags

-- the offset of a table's symbols, how many they are, and the offset of their names; all 0 if there is no table
abbrev pub AreTableNumbers : Option SymbolTable → ℕ → ℕ → ℕ → Type 0
AreTableNumbers None start count names = (start ≡ 0) × (count ≡ 0) × (names ≡ 0)
AreTableNumbers (Some t) start count names = (start ≡ t.start) × (count ≡ t.nsyms) × (names ≡ t.strtab)

-- These are the numbers of the image at o that has this context and these commands.
pub record AreNumbers (bytes : List ℕ) (o : ℕ) (ctx : Ctx) (cs : List Command) (c : gm_image) : Type 0 where
  pub place : c.offset ≡ o
  pub context : gm_ctx_view c ≡ ctx
  pub header : Header
  pub is_header : IsHeader ctx bytes o header
  pub header_numbers : AreHeaderNumbers header c
  pub first_command : c.first_command ≡ o + header_size ctx.container
  pub commands : c.commands ≡ length cs
  pub segments : c.segments ≡ length (read_of (lossy_segment_by ctx bytes) cs)
  pub libraries : c.libraries ≡ length (libs_in bytes cs) - 1
  pub run_paths : c.run_paths ≡ length (read_of (run_path_by bytes) cs)
  pub symbols : AreTableNumbers (table_in ctx bytes cs) c.symbols_at c.symbols c.names_at
  pub old_style : Bool
  pub entry : entry_point_in (cputype_at ctx bytes o) cs ≡ Ok (record { address = c.entry; old_style = old_style })
  pub entry_style : c.is_old_style_entry ≡ flag old_style
  pub base : c.base ≡ base_of (lossy_segments_in ctx bytes cs)
  pub reserved : c.reserved ≡ 0

-- An image opens at o in lossy mode, and strictly if that was requested, and these are its numbers.
pub record IsOpened (bytes : List ℕ) (o : ℕ) (c : gm_image) : Type 0 where
  pub ctx : Ctx
  pub commands : List Command
  pub opens : LossyOpensAs bytes o ctx commands
  pub strict : c.is_lossy ≡ 0 → AllReadable ctx bytes commands
  pub numbers : AreNumbers bytes o ctx commands c

-- whether an image opens at o, in lossy mode or strictly
abbrev pub OpensIn : Bool → List ℕ → ℕ → Type 0
OpensIn true bytes o = LossyOpens bytes o
OpensIn false bytes o = Opens bytes o

-- a fault that is there when it is opened so
abbrev pub FaultIn : Bool → List ℕ → ℕ → Fault → Type 0
FaultIn true bytes o f = LossyFault bytes o f
FaultIn false bytes o f = ImageFault bytes o f

-- a fault because of which it can't be opened with a number for a mode: one that is there, or that the number is no mode
abbrev pub FaultByMode : ℕ → List ℕ → ℕ → Fault → Type 0
FaultByMode mode bytes o f = ((mode ≤ 1) × FaultIn (lossy_mode mode) bytes o f) ⊎ ((1 < mode) × (f ≡ malformed))

-- ---- the numbers of an opened image

abbrev pub width_of : Bool → Container
width_of true = width.Big
width_of false = width.Little

-- the numbers of an image that was opened at o in a mode
pub record HoldsNumbers (m : MachO Global) (o : ℕ) (lossy : Bool) (c : gm_image) : Type 0 where
  pub place : c.offset ≡ o
  pub mode : c.is_lossy ≡ flag lossy
  pub is_64 : c.is_64 ≡ flag m.is_64
  pub is_little_endian : c.is_little_endian ≡ flag m.little_endian
  pub header : AreHeaderNumbers m.header c
  pub first_command : c.first_command ≡ o + header_size (width_of m.is_64)
  pub commands : c.commands ≡ length m.load_commands.items
  pub segments : c.segments ≡ length (segments_in m.segments)
  pub libraries : c.libraries ≡ length m.libs.items - 1
  pub run_paths : c.run_paths ≡ length m.rpaths.items
  pub symbols : AreTableNumbers (option_map table_of m.symbols) c.symbols_at c.symbols c.names_at
  pub entry : c.entry ≡ m.entry
  pub entry_style : c.is_old_style_entry ≡ flag m.old_style_entry
  pub base : c.base ≡ base_view m
  pub reserved : c.reserved ≡ 0
