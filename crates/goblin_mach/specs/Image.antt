-- When an image opens, and its faults if it doesn't (`mach-o/loader.h`).
use Rattle.std.specs.Prelude.{◌≡◌, ℕ, ◌+◌, ◌/◌, ◌<◌, ◌≤◌, ◌⊎◌, List, length, codes, Some, None, Ok, Err, IsOk}
use Rattle.mach_base.specs.declared.context.Ctx.{Ctx}
use Rattle.mach_base.specs.Fault.{Fault, malformed, bad_magic, too_short}
use Rattle.mach_load.specs.Command.{Command}
use Rattle.mach_parts.specs.Header.{header_size}
use Rattle.goblin_mach.specs.Chain.{IsChain, IsBroken}
use Rattle.goblin_mach.specs.EntryPoint.{pointer_by, entry_point_in}
use Rattle.goblin_mach.specs.Subjects.{segment_by, library_by, id_by, run_path_by, table_by}
use Rattle.mach_parts.specs.Magic.{magic_at, cputype_at, ncmds_at, sizeofcmds_at}
use Rattle.goblin_mach.specs.Readings.{AllRead, IsUnread}

-- the magic at o is that of an image with context ctx, and 32 bytes are there
pub record HasHeader (bytes : List ℕ) (o : ℕ) (ctx : Ctx) : Type 0 where
  pub magic : ℕ
  pub magic_is : magic_at bytes o ≡ Ok (magic, Some ctx)
  pub room : o + 32 ≤ length bytes

-- the header's counts can be those of an image of as many bytes as these
pub record CountsFit (bytes : List ℕ) (o : ℕ) (ctx : Ctx) : Type 0 where
  pub ncmds : ncmds_at ctx bytes o ≤ sizeofcmds_at ctx bytes o / 8
  pub sizeofcmds : sizeofcmds_at ctx bytes o ≤ length bytes

-- as many commands as the header states follow it, one after the other
pub record HasChain (bytes : List ℕ) (o : ℕ) (ctx : Ctx) (cs : List Command) : Type 0 where
  pub chain : IsChain ctx.le bytes (o + header_size ctx.container) cs
  pub count : length cs ≡ ncmds_at ctx bytes o

-- An image with this context and this chain of commands opens at o in lossy mode. Each condition is a field. A thread's
-- state that holds the image's entry must have the registers of a known cpu, the one in the header. And the image must have
-- an entry.
pub record LossyOpensAs (bytes : List ℕ) (o : ℕ) (ctx : Ctx) (cs : List Command) : Type 0 where
  pub header : HasHeader bytes o ctx
  pub counts : CountsFit bytes o ctx
  pub chain : HasChain bytes o ctx cs
  pub threads : AllRead (pointer_by (cputype_at ctx bytes o)) cs
  pub entry : IsOk (entry_point_in (cputype_at ctx bytes o) cs)

-- All segments have their data, all names, ids and run paths are texts, and all symbol tables meet
-- their condition.
pub record AllReadable (ctx : Ctx) (bytes : List ℕ) (cs : List Command) : Type 0 where
  pub segments : AllRead (segment_by ctx bytes) cs
  pub libraries : AllRead (library_by bytes) cs
  pub ids : AllRead (id_by bytes) cs
  pub run_paths : AllRead (run_path_by bytes) cs
  pub tables : AllRead (table_by ctx bytes) cs

-- It opens strictly if it opens in lossy mode and all this can be read.
pub record OpensAs (bytes : List ℕ) (o : ℕ) (ctx : Ctx) (cs : List Command) : Type 0 where
  pub lossy : LossyOpensAs bytes o ctx cs
  pub readable : AllReadable ctx bytes cs

abbrev pub LossyOpens : List ℕ → ℕ → Type 0
LossyOpens bytes o = (ctx : Ctx) × (cs : List Command) × LossyOpensAs bytes o ctx cs

abbrev pub Opens : List ℕ → ℕ → Type 0
Opens bytes o = (ctx : Ctx) × (cs : List Command) × OpensAs bytes o ctx cs

-- The first commands of the image: those before a fault.
pub record HasFront (bytes : List ℕ) (o : ℕ) (ctx : Ctx) (front : List Command) : Type 0 where
  pub header : HasHeader bytes o ctx
  pub counts : CountsFit bytes o ctx
  pub chain : IsChain ctx.le bytes (o + header_size ctx.container) front
  pub count : length front ≤ ncmds_at ctx bytes o

-- All of the image's commands.
pub record HasWholeChain (bytes : List ℕ) (o : ℕ) (ctx : Ctx) (cs : List Command) : Type 0 where
  pub header : HasHeader bytes o ctx
  pub counts : CountsFit bytes o ctx
  pub chain : HasChain bytes o ctx cs

-- A fault of opening an image at o in lossy mode: of its magic, of a header after the magic, of the counts after the header,
-- of a command after those before it, of what a command says after the command, of the entry after all commands.
pub data LossyFault (bytes : List ℕ) (o : ℕ) : Fault → Type 0 where
  no_magic : (f : Fault) → magic_at bytes o ≡ Err f → LossyFault bytes o f
  other_magic : (magic : ℕ) → magic_at bytes o ≡ Ok (magic, None) → LossyFault bytes o (bad_magic magic)
  short_header : (magic : ℕ) (ctx : Ctx) → magic_at bytes o ≡ Ok (magic, Some ctx) → length bytes < o + 32 → LossyFault bytes o malformed
  too_many_commands : (ctx : Ctx) → HasHeader bytes o ctx → (sizeofcmds_at ctx bytes o / 8 < ncmds_at ctx bytes o) ⊎ (length bytes < sizeofcmds_at ctx bytes o)
      → LossyFault bytes o (too_short (ncmds_at ctx bytes o) (codes "load commands"))
  broken_chain : (ctx : Ctx) (f : Fault) → HasHeader bytes o ctx → CountsFit bytes o ctx
      → IsBroken ctx.le bytes (o + header_size ctx.container) (ncmds_at ctx bytes o) f → LossyFault bytes o f
  unknown_thread : (ctx : Ctx) (front : List Command) (f : Fault) → HasFront bytes o ctx front
      → IsUnread (pointer_by (cputype_at ctx bytes o)) front f → LossyFault bytes o f
  no_entry_point : (ctx : Ctx) (cs : List Command) (f : Fault) → HasWholeChain bytes o ctx cs
      → entry_point_in (cputype_at ctx bytes o) cs ≡ Err f → LossyFault bytes o f

-- A command among these can't be read as its subject requires, for this fault. Lossy mode skips it.
pub data IsUnreadable (ctx : Ctx) (bytes : List ℕ) (cs : List Command) : Fault → Type 0 where
  segment : (f : Fault) → IsUnread (segment_by ctx bytes) cs f → IsUnreadable ctx bytes cs f
  library : (f : Fault) → IsUnread (library_by bytes) cs f → IsUnreadable ctx bytes cs f
  id : (f : Fault) → IsUnread (id_by bytes) cs f → IsUnreadable ctx bytes cs f
  run_path : (f : Fault) → IsUnread (run_path_by bytes) cs f → IsUnreadable ctx bytes cs f
  table : (f : Fault) → IsUnread (table_by ctx bytes) cs f → IsUnreadable ctx bytes cs f

-- A fault of opening an image at o strictly.
pub data ImageFault (bytes : List ℕ) (o : ℕ) : Fault → Type 0 where
  of_lossy : (f : Fault) → LossyFault bytes o f → ImageFault bytes o f
  unreadable : (ctx : Ctx) (front : List Command) (f : Fault) → HasFront bytes o ctx front → IsUnreadable ctx bytes front f → ImageFault bytes o f
