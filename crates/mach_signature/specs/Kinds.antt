-- What kind of signature it is: the flags of the code directory that is used (`cs_blobs.h`), and the CMS message.
use Rattle.std.specs.Prelude.{◌==◌, ℕ, List, length, bit_and, not, Bool, true, false, if◌then◌else◌, Option, Some, None, Result, Ok, Err}
use Rattle.mach_base.specs.Fault.{Fault}
use Rattle.mach_signature.specs.AsSigned.{SignedImage}
use Rattle.mach_signature.specs.Directories.{Directory}
use Rattle.mach_signature.specs.SuperBlob.{content_of}
use Rattle.mach_signature.specs.declared.kind.Cms.{Cms}
use Rattle.mach_signature.specs.declared.kind.Cms.TheVariants.{Lacking, Long, Unreadable}
use Rattle.mach_signature.specs.declared.kind.Kind.{Kind}

-- ---- the CMS message

-- by its content; an empty message is none
abbrev pub cms_by : Result (Option (List ℕ)) Fault → Cms
cms_by (Ok None) = Lacking
cms_by (Ok (Some content)) = if length content == 0 then Lacking else Long (length content)
cms_by (Err f) = Unreadable

-- what the first blob of slot 0x10000 has after its head
abbrev pub cms_of : SignedImage → Cms
cms_of x = cms_by (content_of x.signature 0x10000)

-- whether there is a message that can be read
abbrev pub has_cms : Cms → Bool
has_cms Lacking = false
has_cms (Long len) = true
has_cms Unreadable = false

-- ---- the flags

-- the kind of a signature of which a directory is used
abbrev pub kind_of : SignedImage → Directory → Kind
kind_of x d = record { flags = d.head.flags; cms = cms_of x }

abbrev pub has_flag : (flags bit : ℕ) → Bool
has_flag flags bit = not (bit_and flags bit == 0)

-- whether no one signed (CS_ADHOC)
abbrev pub is_ad_hoc : Kind → Bool
is_ad_hoc k = has_flag k.flags 0x2

-- whether a linker signed (CS_LINKER_SIGNED)
abbrev pub is_linker_signed : Kind → Bool
is_linker_signed k = has_flag k.flags 0x20000

-- whether the program is to run hardened (CS_RUNTIME)
abbrev pub has_hardened_runtime : Kind → Bool
has_hardened_runtime k = has_flag k.flags 0x10000

-- whether the signature itself requires that libraries are validated (CS_REQUIRE_LV)
abbrev pub has_library_validation : Kind → Bool
has_library_validation k = has_flag k.flags 0x2000
