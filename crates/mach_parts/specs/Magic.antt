-- The magic numbers and the header of an image (`mach-o/loader.h`, `mach-o/fat.h`), and the kind of a file by its first 16 bytes (`ar.h`).
use Rattle.std.specs.Prelude.{◌==◌, ℕ, ◌+◌, List, [], ◌∷◌, drop, Option, Some, None, Result, Ok, if◌then◌else◌, ◌++◌, codes, nat_eq, Bool, true, false}
use Rattle.std.specs.List.{starts_with}
use Rattle.mach_base.specs.Answer.{◌>>=◌}
use Rattle.mach_base.specs.Fault.{Fault}
use Rattle.mach_base.specs.Number.{number, number_at}
use Rattle.mach_base.specs.declared.context.Container.TheVariants as width
use Rattle.mach_base.specs.declared.context.Container.{Container}
use Rattle.mach_base.specs.declared.context.Ctx.{Ctx}
use Rattle.mach_base.specs.declared.context.Endian.TheVariants as order
use Rattle.mach_base.specs.declared.context.Endian.TheVariants.{Little, Big}
use Rattle.mach_base.specs.declared.context.Endian.{Endian}
use Rattle.mach_base.specs.declared.hint.Hint.TheVariants.{Mach, MachFat, Archive, Unknown}
use Rattle.mach_base.specs.declared.hint.Hint.{Hint}

-- a magic number, read as big-endian, and the context of an image that begins with it
pub record Magic : Type 0 where
  pub magic : ℕ
  pub ctx : Option Ctx

-- the five magics: those of 32-bit and 64-bit images in either byte order, and that of a fat file
abbrev pub magics : List Magic
magics =
    record { magic = 0xfeed_face; ctx = Some (record { container = width.Little; le = Big }) }
    ∷ record { magic = 0xcefa_edfe; ctx = Some (record { container = width.Little; le = Little }) }
    ∷ record { magic = 0xfeed_facf; ctx = Some (record { container = width.Big; le = Big }) }
    ∷ record { magic = 0xcffa_edfe; ctx = Some (record { container = width.Big; le = Little }) }
    ∷ record { magic = 0xcafe_babe; ctx = None }
    ∷ []

abbrev pub ctx_among : List Magic → ℕ → Option Ctx
ctx_among [] magic = None
ctx_among (m ∷ ms) magic = if magic == m.magic then m.ctx else ctx_among ms magic

-- the context of an image with this magic, if it is the magic of an image
abbrev pub ctx_of : ℕ → Option Ctx
ctx_of magic = ctx_among magics magic

-- the magic at a place with its context, or the reason why there is none
abbrev pub magic_at : List ℕ → ℕ → Result (ℕ × Option Ctx) Fault
magic_at bytes s = number_at Big 4 bytes s >>= λ magic. Ok (magic, ctx_of magic)

-- the header's field `cputype`, for the image at o
abbrev pub cputype_at : Ctx → List ℕ → ℕ → ℕ
cputype_at ctx bytes o = number ctx.le 4 (drop (o + 4) bytes)

-- the header's field `ncmds`
abbrev pub ncmds_at : Ctx → List ℕ → ℕ → ℕ
ncmds_at ctx bytes o = number ctx.le 4 (drop (o + 16) bytes)

-- the header's field `sizeofcmds`
abbrev pub sizeofcmds_at : Ctx → List ℕ → ℕ → ℕ
sizeofcmds_at ctx bytes o = number ctx.le 4 (drop (o + 20) bytes)

-- whether bytes begin like an archive: with "!<arch>" and the end of a line (`ar.h`, ARMAG)
abbrev pub begins_archive : List ℕ → Bool
begins_archive bytes = starts_with nat_eq bytes (codes "!<arch>" ++ 0x0a ∷ [])

abbrev pub is_lowest_first : Endian → Bool
is_lowest_first order.Little = true
is_lowest_first order.Big = false

abbrev pub has_64_bits : Container → Bool
has_64_bits width.Little = false
has_64_bits width.Big = true

-- the magic of an image gives its byte order and its width; the number of entries follows the magic of a fat file
abbrev pub hint_by : Option Ctx → List ℕ → Hint
hint_by (Some ctx) bytes = Mach (record { is_lsb = is_lowest_first ctx.le; is_64 = Some (has_64_bits ctx.container) })
hint_by None bytes =
    if number order.Big 4 bytes == 0xcafe_babe then MachFat (number order.Big 4 (drop 4 bytes))
    else Unknown (number order.Little 8 bytes)

-- the kind of a file by its first bytes: an archive is tested first
abbrev pub hint_in : List ℕ → Hint
hint_in bytes = if begins_archive bytes then Archive else hint_by (ctx_of (number order.Big 4 bytes)) bytes
