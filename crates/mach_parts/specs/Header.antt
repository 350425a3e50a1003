-- The header of an image (`mach-o/loader.h`, struct mach_header and mach_header_64).
use Rattle.std.specs.Prelude.{◌≡◌, ℕ, ◌%◌, ◌^◌, List, [], ◌∷◌, length, Ok, Err, nat_le, if◌then◌else◌}
use Rattle.mach_base.specs.declared.context.Endian.{Endian}
use Rattle.mach_base.specs.declared.context.Container.{Container}
use Rattle.mach_base.specs.declared.context.Container.TheVariants.{Little, Big}
use Rattle.mach_base.specs.declared.context.Ctx.{Ctx}
use Rattle.mach_base.specs.Fault.{malformed}
use Rattle.mach_base.specs.Front.{Found}
use Rattle.mach_base.specs.Record.{Field, num, Value, number_is, number_among, values_in, spelling}
use Rattle.mach_parts.specs.declared.header.Header32.{Header32}
use Rattle.mach_parts.specs.declared.header.Header64.{Header64}
use Rattle.mach_parts.specs.declared.header.Header.{Header}

-- struct mach_header
abbrev pub header32_fields : List Field
header32_fields = num 4 ∷ num 4 ∷ num 4 ∷ num 4 ∷ num 4 ∷ num 4 ∷ num 4 ∷ []

abbrev pub header32_values : Header32 → List Value
header32_values h =
    number_is h.magic ∷ number_is h.cputype ∷ number_is h.cpusubtype ∷ number_is h.filetype
    ∷ number_is h.ncmds ∷ number_is h.sizeofcmds ∷ number_is h.flags ∷ []

abbrev pub header32_of_values : List Value → Header32
header32_of_values vs =
    record {
      magic = number_among vs 0;
      cputype = number_among vs 1;
      cpusubtype = number_among vs 2;
      filetype = number_among vs 3;
      ncmds = number_among vs 4;
      sizeofcmds = number_among vs 5;
      flags = number_among vs 6;
    }

-- struct mach_header_64
abbrev pub header64_fields : List Field
header64_fields = num 4 ∷ num 4 ∷ num 4 ∷ num 4 ∷ num 4 ∷ num 4 ∷ num 4 ∷ num 4 ∷ []

abbrev pub header64_values : Header64 → List Value
header64_values h =
    number_is h.magic ∷ number_is h.cputype ∷ number_is h.cpusubtype ∷ number_is h.filetype
    ∷ number_is h.ncmds ∷ number_is h.sizeofcmds ∷ number_is h.flags ∷ number_is h.reserved ∷ []

abbrev pub header64_of_values : List Value → Header64
header64_of_values vs =
    record {
      magic = number_among vs 0;
      cputype = number_among vs 1;
      cpusubtype = number_among vs 2;
      filetype = number_among vs 3;
      ncmds = number_among vs 4;
      sizeofcmds = number_among vs 5;
      flags = number_among vs 6;
      reserved = number_among vs 7;
    }

-- the header of a 32-bit image has no reserved field; here it is 0
abbrev pub header_of_32 : Header32 → Header
header_of_32 h =
    record {
      magic = h.magic;
      cputype = h.cputype;
      cpusubtype = h.cpusubtype;
      filetype = h.filetype;
      ncmds = h.ncmds;
      sizeofcmds = h.sizeofcmds;
      flags = h.flags;
      reserved = 0;
    }

-- the header of a 64-bit image has all fields
abbrev pub held : Header64 → Header
held h =
    record {
      magic = h.magic;
      cputype = h.cputype;
      cpusubtype = h.cpusubtype;
      filetype = h.filetype;
      ncmds = h.ncmds;
      sizeofcmds = h.sizeofcmds;
      flags = h.flags;
      reserved = h.reserved;
    }

-- the low 32 bits of `ncmds` are kept
abbrev pub narrowed32 : Header → Header32
narrowed32 h =
    record {
      magic = h.magic;
      cputype = h.cputype;
      cpusubtype = h.cpusubtype;
      filetype = h.filetype;
      ncmds = h.ncmds % 2 ^ 32;
      sizeofcmds = h.sizeofcmds;
      flags = h.flags;
    }

abbrev pub narrowed64 : Header → Header64
narrowed64 h =
    record {
      magic = h.magic;
      cputype = h.cputype;
      cpusubtype = h.cpusubtype;
      filetype = h.filetype;
      ncmds = h.ncmds % 2 ^ 32;
      sizeofcmds = h.sizeofcmds;
      flags = h.flags;
      reserved = h.reserved;
    }

-- the size of an image's header in bytes
abbrev pub header_size : Container → ℕ
header_size Little = 28
header_size Big = 32

-- the header at o of an image of this width and byte order
abbrev pub header_in : Container → Endian → List ℕ → ℕ → Header
header_in Little le bytes o = header_of_32 (header32_of_values (values_in le header32_fields o bytes))
header_in Big le bytes o = held (header64_of_values (values_in le header64_fields o bytes))

abbrev pub IsHeader : Ctx → List ℕ → ℕ → Header → Type 0
IsHeader ctx bytes o h = h ≡ header_in ctx.container ctx.le bytes o

-- the header at the start of at least 32 bytes, also for a 32-bit image
abbrev pub header_front : Ctx → List ℕ → Found Header
header_front ctx bytes =
    if nat_le 32 (length bytes) then Ok (header_in ctx.container ctx.le bytes 0, header_size ctx.container)
    else Err malformed

-- the bytes of a header in a width and a byte order
abbrev pub header_spelling : Container → Endian → Header → List ℕ
header_spelling Little le h = spelling le header32_fields (header32_values (narrowed32 h))
header_spelling Big le h = spelling le header64_fields (header64_values (narrowed64 h))

-- a magic, and 0 in every other field
abbrev pub magic_alone : ℕ → Header
magic_alone magic =
    record {
      magic = magic;
      cputype = 0;
      cpusubtype = 0;
      filetype = 0;
      ncmds = 0;
      sizeofcmds = 0;
      flags = 0;
      reserved = 0;
    }

-- a header that says only its width
abbrev pub new_header : Container → Header
new_header Little = magic_alone 0xfeed_face
new_header Big = magic_alone 0xfeed_facf
