-- The words of `nm -m` for a symbol (`mach-o/nlist.h`).
use Rattle.std.specs.Prelude.{◌==◌, ◌&&◌, ◌||◌, ℕ, ◌/◌, List, [], ◌++◌, codes, bit_and, Bool, not, Option, Some, None, option_map, Result, Ok, Err}
use Rattle.std.specs.Prelude.{if◌then◌else◌}
use Rattle.std.specs.Fmt.{decimal}
use Rattle.std.specs.Borrow.{Bor}
use Rattle.mach_base.specs.Fault.{Fault}
use Rattle.mach_base.specs.Text.{text_at}
use Rattle.mach_parts.specs.Bindings.{Provider, of_library, itself, main_executable, flat, weak_lookup}
use Rattle.mach_parts.specs.declared.segment.section.Section.{Section}
use Rattle.mach_parts.specs.Symbols.{type_of}
use Rattle.mach_parts.specs.declared.symbols.nlist.Nlist.{Nlist}
use Rattle.machsyms.specs.ShortNames.{short_library_name}
use Rattle.mach_cli.specs.NamesShown.{name_or_mark, name_shown}
use Rattle.machsyms.specs.declared.nm.origin.Origin.{Origin}
use Rattle.machsyms.specs.declared.nm.origin.Origin.TheVariants.{Unsaid, Executable, Lookup, Library, BadOrdinal}

-- whether one of these bits is set
abbrev pub has_bits : (mask n : ℕ) → Bool
has_bits mask n = not (bit_and n mask == 0)

-- words, if something is so
abbrev pub marked : Bool → List ℕ → List ℕ
marked is_so words = if is_so then words else []

-- how an undefined symbol is bound, by the three low bits of its flags (REFERENCE_FLAG_UNDEFINED_LAZY and the others)
abbrev pub undefined_words : (desc : ℕ) → List ℕ
undefined_words desc =
    if bit_and desc 7 == 1 then codes "(undefined [lazy bound]) "
    else (if bit_and desc 7 == 4 then codes "(undefined [private]) "
    else (if bit_and desc 7 == 5 then codes "(undefined [private lazy bound]) "
    else codes "(undefined) "))

-- how a common symbol is aligned, if that is given (GET_COMM_ALIGN)
abbrev pub common_alignment : (desc : ℕ) → ℕ
common_alignment desc = bit_and (desc / 256) 15

abbrev pub alignment_text : ℕ → List ℕ
alignment_text n = if n == 0 then [] else codes "(alignment 2^" ++ (decimal n ++ codes ") ")

-- the names of a section's segment and of the section
abbrev pub section_text : (is_raw : Bool) → Option Section → List ℕ
section_text is_raw None = codes "?,?"
section_text is_raw (Some s) =
    name_shown is_raw (name_or_mark (text_at s.segname 0)) ++ (codes "," ++ name_shown is_raw (name_or_mark (text_at s.sectname 0)))

-- what a symbol is, by its type: N_UNDF, N_ABS, N_INDR, N_SECT
abbrev pub kind_words : (is_raw : Bool) → Option Section → Nlist → List ℕ
kind_words is_raw section s =
    let kind = type_of s.n_type in
    if kind == 0x0 then (if s.n_value == 0 then undefined_words s.n_desc else codes "(common) " ++ alignment_text (common_alignment s.n_desc))
    else (if kind == 0x2 then codes "(absolute) "
    else (if kind == 0xa then codes "(indirect) "
    else (if kind == 0xe then codes "(" ++ (section_text is_raw section ++ codes ") ")
    else codes "(?) ")))

-- its scope: N_EXT and N_PEXT of its type, N_WEAK_REF and N_WEAK_DEF of its flags
abbrev pub local_words : Nlist → List ℕ
local_words s = if has_bits 0x10 s.n_type then codes "non-external (was a private external) " else codes "non-external "

abbrev pub private_words : Nlist → List ℕ
private_words s = if has_bits 0x80 s.n_desc then codes "weak private external " else codes "private external "

abbrev pub external_words : Nlist → List ℕ
external_words s =
    if has_bits 0x40 s.n_desc && has_bits 0x80 s.n_desc then codes "weak external automatically hidden "
    else (if has_bits 0x40 s.n_desc || has_bits 0x80 s.n_desc then codes "weak external "
    else codes "external ")

abbrev pub reach_words : Nlist → List ℕ
reach_words s =
    if not (has_bits 0x1 s.n_type) then local_words s
    else (if has_bits 0x10 s.n_type then private_words s
    else external_words s)

-- an external symbol that may be looked up by name at run time (REFERENCED_DYNAMICALLY)
abbrev pub is_referenced : Nlist → Bool
is_referenced s = has_bits 0x1 s.n_type && has_bits 0x10 s.n_desc

-- Flags of an object file's symbols: N_NO_DEAD_STRIP, and unless its type is N_UNDF N_SYMBOL_RESOLVER, N_ALT_ENTRY and
-- N_COLD_FUNC. And of any file's symbols: N_ARM_THUMB_DEF.
abbrev pub defined_mark : (filetype : ℕ) → Nlist → (mask : ℕ) → Bool
defined_mark filetype s mask = filetype == 1 && (not (type_of s.n_type == 0x0) && has_bits mask s.n_desc)

abbrev pub mark_words : (filetype : ℕ) → Nlist → List ℕ
mark_words filetype s =
    marked (filetype == 1 && has_bits 0x20 s.n_desc) (codes "[no dead strip] ")
    ++ (marked (defined_mark filetype s 0x100) (codes "[symbol resolver] ")
    ++ (marked (defined_mark filetype s 0x200) (codes "[alt entry] ")
    ++ (marked (defined_mark filetype s 0x400) (codes "[cold func] ")
    ++ marked (has_bits 0x8 s.n_desc) (codes "[Thumb] "))))

-- The library that provides a symbol, if the linker recorded one; nothing for the image itself and for a weak lookup.
abbrev pub provider_words : (is_raw : Bool) → (desc : ℕ) → Result Provider Fault → List ℕ
provider_words is_raw desc (Ok (of_library ordinal path)) = codes " (from " ++ (name_shown is_raw (short_library_name path) ++ codes ")")
provider_words is_raw desc (Ok itself) = []
provider_words is_raw desc (Ok main_executable) = codes " (from executable)"
provider_words is_raw desc (Ok flat) = codes " (dynamically looked up)"
provider_words is_raw desc (Ok weak_lookup) = []
provider_words is_raw desc (Err f) = codes " (from bad library ordinal " ++ (decimal (desc / 256) ++ codes ")")

abbrev pub origin_words : (is_raw : Bool) → (desc : ℕ) → Option (Result Provider Fault) → List ℕ
origin_words is_raw desc None = []
origin_words is_raw desc (Some giver) = provider_words is_raw desc giver

-- the same, by what the code keeps of it
abbrev pub origin_text : (is_raw : Bool) → Origin → List ℕ
origin_text is_raw Unsaid = []
origin_text is_raw Executable = codes " (from executable)"
origin_text is_raw Lookup = codes " (dynamically looked up)"
origin_text is_raw (Library path) = codes " (from " ++ (name_shown is_raw (short_library_name path.now) ++ codes ")")
origin_text is_raw (BadOrdinal ordinal) = codes " (from bad library ordinal " ++ (decimal ordinal ++ codes ")")

-- the words for a symbol of this name
abbrev pub symbol_words : (is_raw : Bool) → Option Section → (filetype : ℕ) → (name origin : List ℕ) → Nlist → List ℕ
symbol_words is_raw section filetype name origin s =
    kind_words is_raw section s
    ++ (marked (is_referenced s) (codes "[referenced dynamically] ") ++ (reach_words s ++ (mark_words filetype s ++ (name_shown is_raw name ++ origin))))

abbrev pub section_option_view : Option (Bor Section) → Option Section
section_option_view section = option_map (λ s. s.now) section
