-- How a pointer is signed, and what a rebase adjusts, as the values of fields.
use Rattle.std.specs.Prelude.{ℕ, List, codes, Bool, true, false, Option, Some, None}
use Rattle.mach_parts.specs.PointerSigning.{Auth}
use Rattle.mach_dyld.specs.declared.rebases.RebaseKind.{RebaseKind}
use Rattle.mach_dyld.specs.declared.rebases.RebaseKind.TheVariants.{Pointer, TextAbsolute32, TextRelative32}

-- how a pointer is signed; if it isn't, the key and the diversity are 0, and no address is mixed in
abbrev pub has_auth : Option Auth → Bool
has_auth None = false
has_auth (Some a) = true

abbrev pub key_by : Option Auth → ℕ
key_by None = 0
key_by (Some a) = a.key

abbrev pub diversity_by : Option Auth → ℕ
diversity_by None = 0
diversity_by (Some a) = a.diversity

abbrev pub diverse_by : Option Auth → Bool
diverse_by None = false
diverse_by (Some a) = a.is_address_diverse

-- what a rebase adjusts
abbrev pub rebase_type : RebaseKind → List ℕ
rebase_type Pointer = codes "pointer"
rebase_type TextAbsolute32 = codes "absolute32"
rebase_type TextRelative32 = codes "relative32"
