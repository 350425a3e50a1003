-- Weak binds as C sees them.
use Rattle.std.specs.Prelude.{◌≡◌, ℕ, pos, List, length, Result, Ok, Err}
use Rattle.mach_base.specs.Fault.{Fault}
use Rattle.mach_dyld.specs.WeakBinds.{WeakBind, strong_name, weakly_bound}
use Rattle.goblin_mach_c.specs.BindingRows.{NameIsAt}
use Rattle.goblin_mach_c.specs.Codes.{code_of_fault}
use Rattle.goblin_mach_c.specs.Opened.{flag}
use Rattle.goblin_mach_c.specs.Sited.{reported_at}
use Rattle.goblin_mach_c.specs.declared.weak_binds.gm_weak_bind.{gm_weak_bind}

abbrev pub weak_name : WeakBind → List ℕ
weak_name (strong_name name) = name
weak_name (weakly_bound b) = b.name

-- a weak bind with the place of its name; a name that the image defines itself has nothing else
abbrev pub weak_bind_row : ℕ → WeakBind → gm_weak_bind
weak_bind_row place (strong_name name) =
    record {
      address = 0;
      offset = 0;
      addend = pos 0;
      name = place;
      name_len = length name;
      is_strong = 1;
      is_weak = 0;
      code = 0;
      reserved = 0;
    }
weak_bind_row place (weakly_bound b) =
    record {
      address = b.address;
      offset = b.offset;
      addend = b.addend;
      name = place;
      name_len = length b.name;
      is_strong = 0;
      is_weak = flag b.is_weak;
      code = 0;
      reserved = 0;
    }

-- why no further weak binds can be read
abbrev pub no_weak_bind : Fault → gm_weak_bind
no_weak_bind f =
    record {
      address = 0;
      offset = 0;
      addend = pos 0;
      name = 0;
      name_len = 0;
      is_strong = 0;
      is_weak = 0;
      code = code_of_fault f;
      reserved = 0;
    }

-- The row has the numbers of the weak bind and the place of its name, and the name is there.
pub record SaysWeakBind (bytes : List ℕ) (w : WeakBind) (place : ℕ) (row : gm_weak_bind) : Type 0 where
  pub numbers : row ≡ weak_bind_row (reported_at (weak_name w) place) w
  pub name : NameIsAt bytes row.name (weak_name w)

-- a row is that of a weak bind with the place of its name, or of the fault that ends them
abbrev pub IsWeakRow : List ℕ → Result (WeakBind × ℕ) Fault → gm_weak_bind → Type 0
IsWeakRow bytes (Ok w) row = SaysWeakBind bytes w.0 w.1 row
IsWeakRow bytes (Err f) row = row ≡ no_weak_bind f
