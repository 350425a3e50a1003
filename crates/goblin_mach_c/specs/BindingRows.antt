-- Bindings as C sees them.
use Rattle.std.specs.Prelude.{◌≡◌, ◌≤◌, ◌+◌, ℕ, pos, List, length, take, drop, Result, Ok, Err}
use Rattle.mach_base.specs.Fault.{Fault}
use Rattle.mach_parts.specs.Bindings.{Binding, Provider, of_library, itself, main_executable, flat, weak_lookup}
use Rattle.goblin_mach_c.specs.Codes.{code_of_fault}
use Rattle.goblin_mach_c.specs.Opened.{flag}
use Rattle.goblin_mach_c.specs.Sited.{reported_at}
use Rattle.goblin_mach_c.specs.declared.bindings.gm_binding.{gm_binding}

-- the number of a provider
abbrev pub provider_number : Provider → ℕ
provider_number (of_library ordinal name) = 0
provider_number itself = 1
provider_number main_executable = 2
provider_number flat = 3
provider_number weak_lookup = 4

-- the ordinal of a library, 0 for other providers
abbrev pub ordinal_number : Provider → ℕ
ordinal_number (of_library ordinal name) = ordinal
ordinal_number itself = 0
ordinal_number main_executable = 0
ordinal_number flat = 0
ordinal_number weak_lookup = 0

-- a binding with the place of its name
abbrev pub binding_row : ℕ → Binding → gm_binding
binding_row place b =
    record {
      address = b.address;
      offset = b.offset;
      addend = b.addend;
      name = place;
      name_len = length b.name;
      library = ordinal_number b.provider;
      provider = provider_number b.provider;
      is_weak = flag b.is_weak;
      is_lazy = flag b.is_lazy;
      code = 0;
    }

-- why no further bindings can be read
abbrev pub no_binding : Fault → gm_binding
no_binding f =
    record {
      address = 0;
      offset = 0;
      addend = pos 0;
      name = 0;
      name_len = 0;
      library = 0;
      provider = 0;
      is_weak = 0;
      is_lazy = 0;
      code = code_of_fault f;
    }

-- the bytes of a name are at a place
pub record NameIsAt (bytes : List ℕ) (place : ℕ) (name : List ℕ) : Type 0 where
  pub within : place + length name ≤ length bytes
  pub there : take (length name) (drop place bytes) ≡ name

-- The row has the numbers of the binding and the place of its name, and the name is there.
pub record SaysBinding (bytes : List ℕ) (b : Binding) (place : ℕ) (row : gm_binding) : Type 0 where
  pub numbers : row ≡ binding_row (reported_at b.name place) b
  pub name : NameIsAt bytes row.name b.name

-- a row is that of a binding with the place of its name, or of the fault that ends them
abbrev pub IsBindingRow : List ℕ → Result (Binding × ℕ) Fault → gm_binding → Type 0
IsBindingRow bytes (Ok b) row = SaysBinding bytes b.0 b.1 row
IsBindingRow bytes (Err f) row = row ≡ no_binding f
