-- What the commands of an image say as C sees it: segments, libraries and run paths.
use Rattle.std.specs.Prelude.{ℕ, List, [], ◌∷◌, length, Bool, bit_or, Option, Some, None, Result, Ok, Err, if◌then◌else◌}
use Rattle.mach_base.specs.declared.context.Endian.{Endian}
use Rattle.mach_base.specs.Fault.{Fault}
use Rattle.mach_load.specs.Command.{Command}
use Rattle.mach_parts.specs.Segment.{SegmentView}
use Rattle.goblin_mach.specs.Libraries.{NamedLibrary, named_by}
use Rattle.goblin_mach.specs.Subjects.{id_by, lossy_segment_by, name_place, run_path_by}
use Rattle.goblin_mach.specs.declared.libraries.LibraryAttributes.{LibraryAttributes}
use Rattle.goblin_mach.specs.declared.libraries.LibraryKind.{LibraryKind}
use Rattle.goblin_mach.specs.declared.libraries.LibraryKind.TheVariants.{Required, Weak, Reexport, Upward, Lazy}
use Rattle.goblin_mach_c.specs.CommandRows.{gm_commands_view}
use Rattle.goblin_mach_c.specs.CViews.{gm_ctx_view}
use Rattle.goblin_mach_c.specs.declared.images.gm_image.{gm_image}
use Rattle.goblin_mach_c.specs.declared.libraries.gm_library.{gm_library}
use Rattle.goblin_mach_c.specs.declared.ids.gm_id.{gm_id}
use Rattle.goblin_mach_c.specs.declared.run_paths.gm_run_path.{gm_run_path}
use Rattle.goblin_mach_c.specs.declared.segments.gm_segment.{gm_segment}

-- a row before others, if there is one
abbrev pub with_rows : {R : Type 0} → Option R → List R → List R
with_rows None rows = rows
with_rows (Some row) rows = row ∷ rows

-- the rows of the commands that have one, in order
abbrev pub rows_of : {R : Type 0} → (Command → Option R) → List Command → List R
rows_of row [] = []
rows_of row (c ∷ cs) = with_rows (row c) (rows_of row cs)

-- what was read, as C sees it; nothing if it couldn't be read
abbrev pub shown : {V R : Type 0} → (V → R) → Option (Result V Fault) → Option R
shown show None = None
shown show (Some (Ok v)) = Some (show v)
shown show (Some (Err f)) = None

-- A segment: its command is at `command`, and its data are `data_len` bytes of the file at `fileoff`.
abbrev pub segment_row : SegmentView → gm_segment
segment_row s =
    record {
      name = s.command.segname;
      vmaddr = s.command.vmaddr;
      vmsize = s.command.vmsize;
      fileoff = s.command.fileoff;
      filesize = s.command.filesize;
      command = s.offset;
      data_len = length s.bytes;
      maxprot = s.command.maxprot;
      initprot = s.command.initprot;
      sections = s.command.nsects;
      flags = s.command.flags;
    }

-- the segment that a command is, if it is one
abbrev pub segment_row_by : List ℕ → gm_image → Command → Option gm_segment
segment_row_by bytes image c = shown segment_row (lossy_segment_by (gm_ctx_view image) bytes c)

-- the segments of an image
abbrev pub segment_rows : List ℕ → gm_image → List gm_segment
segment_rows bytes image = rows_of (segment_row_by bytes image) (gm_commands_view bytes image)

-- the number of a kind of library
abbrev pub library_kind_number : LibraryKind → ℕ
library_kind_number Required = 0
library_kind_number Weak = 1
library_kind_number Reexport = 2
library_kind_number Upward = 3
library_kind_number Lazy = 4

-- a number if something holds, else 0
abbrev pub number_where : Bool → ℕ → ℕ
number_where holds n = if holds then n else 0

-- the number for how a library is used
abbrev pub attributes_number : LibraryAttributes → ℕ
attributes_number a =
    bit_or (bit_or (bit_or (number_where a.is_weak 1) (number_where a.is_reexport 2)) (number_where a.is_upward 4)) (number_where a.is_delayed 8)

-- A library: its name is `name_len` bytes at `name`.
abbrev pub library_row : Command → NamedLibrary → gm_library
library_row c l =
    record {
      name = name_place c;
      name_len = length l.name;
      kind = library_kind_number l.kind;
      timestamp = l.timestamp;
      current_version = l.current_version;
      compatibility_version = l.compatibility_version;
      attributes = attributes_number l.attributes;
      reserved = 0;
    }

-- the library that a command loads, if it does, and its name can be read
abbrev pub library_row_by : Endian → List ℕ → Command → Option gm_library
library_row_by le bytes c = shown (library_row c) (named_by le bytes c)

-- the libraries of an image, the one of ordinal 1 first
abbrev pub library_rows : List ℕ → gm_image → List gm_library
library_rows bytes image = rows_of (library_row_by (gm_ctx_view image).le bytes) (gm_commands_view bytes image)

-- A run path: `path_len` bytes at `path`.
abbrev pub run_path_row : Command → List ℕ → gm_run_path
run_path_row c path = record { path = name_place c; path_len = length path }

abbrev pub run_path_row_by : List ℕ → Command → Option gm_run_path
run_path_row_by bytes c = shown (run_path_row c) (run_path_by bytes c)

-- the run paths of an image
abbrev pub run_path_rows : List ℕ → gm_image → List gm_run_path
run_path_rows bytes image = rows_of (run_path_row_by bytes) (gm_commands_view bytes image)

-- A name of the image as a library: `name_len` bytes at `name`.
abbrev pub id_row : Command → List ℕ → gm_id
id_row c name = record { name = name_place c; name_len = length name }

abbrev pub id_row_by : List ℕ → Command → Option gm_id
id_row_by bytes c = shown (id_row c) (id_by bytes c)

-- these names; the last is the image's own
abbrev pub id_rows : List ℕ → gm_image → List gm_id
id_rows bytes image = rows_of (id_row_by bytes) (gm_commands_view bytes image)
