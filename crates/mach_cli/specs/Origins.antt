-- From which image a symbol comes, by a short name.
use Rattle.std.specs.Prelude.{ℕ, ℤ, pos, negsuc, ◌==◌, ◌-◌, List, [], ◌∷◌, codes, length, take, nat_eq, nat_lt, Option, Some, None, Result, Ok, Err}
use Rattle.std.specs.Prelude.{if◌then◌else◌}
use Rattle.std.specs.List.{after_last, ends_with}
use Rattle.mach_base.specs.Fault.{Fault}
use Rattle.mach_parts.specs.Bindings.{Provider, of_library, itself, main_executable, flat, weak_lookup}

-- the last component of a path: what follows its last slash, all of it if it has none
abbrev pub last_component : List ℕ → List ℕ
last_component path = after_last (λ b. b == 0x2f) path

-- a name without `.dylib` at its end
abbrev pub without_dylib : List ℕ → List ℕ
without_dylib name = if ends_with nat_eq name (codes ".dylib") then take (length name - 6) name else name

-- a name, unless it is empty
abbrev pub unless_empty : List ℕ → Option (List ℕ)
unless_empty [] = None
unless_empty (b ∷ bs) = Some (b ∷ bs)

-- The short name of a library: its path's last component without `.dylib`, if that isn't empty. A path of more than 1024 bytes
-- (`MAXPATHLEN` of `sys/param.h`), which no system opens, has none.
abbrev pub library_short_name : (path : List ℕ) → Option (List ℕ)
library_short_name path = if nat_lt 1024 (length path) then None else unless_empty (without_dylib (last_component path))

-- the short name of a provider
abbrev pub provider_name : Provider → Option (List ℕ)
provider_name (of_library ordinal path) = library_short_name path
provider_name itself = Some (codes "itself")
provider_name main_executable = Some (codes "main-executable")
provider_name flat = Some (codes "flat")
provider_name weak_lookup = Some (codes "weak-lookup")

-- the ordinal of a provider (`mach-o/loader.h`, BIND_SPECIAL_DYLIB)
abbrev pub ordinal_of : Provider → ℤ
ordinal_of (of_library ordinal name) = pos ordinal
ordinal_of itself = pos 0
ordinal_of main_executable = negsuc 0
ordinal_of flat = negsuc 1
ordinal_of weak_lookup = negsuc 2

-- the short name of the provider that an ordinal has, if it has one
abbrev pub origin_of : Result Provider Fault → Option (List ℕ)
origin_of (Ok provider) = provider_name provider
origin_of (Err f) = None
