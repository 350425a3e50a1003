-- Where dyld looks up a symbol that an image imports, by the ordinal of its bind (`mach-o/loader.h`, the constants BIND_SPECIAL_DYLIB).
use Rattle.std.specs.Prelude.{◌==◌, ℕ, ℤ, pos, negsuc, Bool, List, Option, Some, None, Result, Ok, Err, if◌then◌else◌, slice_get}
use Rattle.mach_base.specs.declared.error.Error.{Error}
use Rattle.mach_base.specs.Fault.{Fault, malformed, fault_of}
use Rattle.mach_parts.specs.declared.binding.Binding as declared_binding
use Rattle.mach_parts.specs.declared.binding.Provider as declared
use Rattle.mach_parts.specs.declared.binding.Provider.TheVariants as variants

pub data Provider : Type 0 where
  -- the library of this number in the image's list
  of_library : (ordinal : ℕ) (name : List ℕ) → Provider
  itself : Provider
  main_executable : Provider
  flat : Provider
  weak_lookup : Provider

abbrev pub named : ℕ → Option (List ℕ) → Result Provider Fault
named n None = Err malformed
named n (Some name) = Ok (of_library n name)

-- by an unsigned ordinal: 0 is the image itself, any other number a library
abbrev pub provider_by_number : List (List ℕ) → ℕ → Result Provider Fault
provider_by_number libs n = if n == 0 then Ok itself else named n (slice_get libs n)

-- by a negative ordinal: n is 0 for -1, 1 for -2, and so on
abbrev pub special_of : ℕ → Result Provider Fault
special_of n =
    if n == 0 then Ok main_executable
    else (if n == 1 then Ok flat
    else (if n == 2 then Ok weak_lookup
    else Err malformed))

-- by an ordinal: 0 is the image itself, a positive number a library, -1 the main
-- executable, -2 any image (flat), -3 the weak lookup; no other number has a provider
unfoldable pub provider_of : List (List ℕ) → ℤ → Result Provider Fault
provider_of libs (pos n) = provider_by_number libs n
provider_of libs (negsuc n) = special_of n

-- a pointer in memory that takes a symbol's address from a provider
pub record Binding : Type 0 where
  pub name : List ℕ
  pub provider : Provider
  -- its file offset
  pub offset : ℕ
  pub address : ℕ
  pub addend : ℤ
  pub is_weak : Bool
  pub is_lazy : Bool

-- ---- what a caller sees

abbrev pub provider_view : declared.Provider → Provider
provider_view (variants.Library ordinal name) = of_library ordinal name.now
provider_view variants.Itself = itself
provider_view variants.MainExecutable = main_executable
provider_view variants.Flat = flat
provider_view variants.WeakLookup = weak_lookup

abbrev pub binding_view : declared_binding.Binding → Binding
binding_view b = record {
  name = b.name.now;
  provider = provider_view b.provider;
  offset = b.offset;
  address = b.address;
  addend = b.addend;
  is_weak = b.is_weak;
  is_lazy = b.is_lazy;
}

abbrev pub binding_read : Result declared_binding.Binding Error → Result Binding Fault
binding_read (Ok b) = Ok (binding_view b)
binding_read (Err e) = Err (fault_of e)
