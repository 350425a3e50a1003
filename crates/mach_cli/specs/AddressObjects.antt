-- What an image has at an address, as the members of its object.
use Rattle.std.specs.Prelude.{◌≡◌, ℕ, List, ◌++◌, codes, Bool, true, Option, Some, None, option_map}
use Rattle.std.specs.Fmt.{decimal}
use Rattle.mach_parts.specs.declared.segment.numbered.NumberedSection.{NumberedSection}
use Rattle.goblin_mach.specs.declared.macho.nearest.Function.{Function}
use Rattle.mach_cli.specs.JsonText.{name_in_field, string_or_null}
use Rattle.mach_cli.specs.AddressRows.{AreAddressRows}
use Rattle.mach_cli.specs.JsonArrays.{comma_before}
use Rattle.goblin_mach.specs.declared.addresses.FoundAt.{FoundAt}

-- a number; null if there is none
abbrev pub number_or_null : Option ℕ → List ℕ
number_or_null None = codes "null"
number_or_null (Some n) = decimal n

-- the addresses of the function, of its first byte and after its last one, as members
abbrev pub function_members : Option Function → List ℕ
function_members None = codes "\"function_end\":null,\"function_start\":null"
function_members (Some f) = codes "\"function_end\":" ++ (decimal f.end ++ (codes ",\"function_start\":" ++ decimal f.start))

-- the names of the section and of its segment, as members; null for one that is empty or can't be read
abbrev pub holder_members : Option NumberedSection → List ℕ
holder_members None = codes "\"section\":null,\"segment\":null"
holder_members (Some h) =
    codes "\"section\":"
    ++ (string_or_null (name_in_field h.section.sectname)
    ++ (codes ",\"segment\":" ++ string_or_null (name_in_field h.section.segname)))

-- the object of an address
abbrev pub at_object : (address : ℕ) → FoundAt → List ℕ
at_object address x =
    codes "{\"address\":"
    ++ (decimal address
    ++ (codes ",\"distance\":"
    ++ (number_or_null (option_map (λ s. s.distance) x.symbol)
    ++ (codes ","
    ++ (function_members x.function
    ++ (codes ","
    ++ (holder_members x.section
    ++ (codes ",\"symbol\":" ++ (string_or_null (option_map (λ s. s.name.now) x.symbol) ++ codes "}")))))))))

-- the same as an element of an array
abbrev pub at_element : (is_first : Bool) → (address : ℕ) → FoundAt → List ℕ
at_element is_first address found = comma_before is_first ++ at_object address found

-- The text is the members of the image at the start of the bytes: an array of what it has at these addresses, where it is loaded, and
-- its kind. The addresses don't count against the limit.
pub record AreAddressMembers (load_address : Option ℕ) (addresses : List ℕ) (file : List ℕ) (limit left : ℕ) (bytes : List ℕ) (text : List ℕ)
    (whole : Bool) (rest : ℕ) : Type 0 where
  pub elements : List ℕ
  pub rows : AreAddressRows at_element load_address bytes true addresses elements whole
  pub is_text : text ≡ codes "\"at\":[" ++ (elements ++ codes "],\"kind\":\"image\"")
  pub is_rest : rest ≡ left
