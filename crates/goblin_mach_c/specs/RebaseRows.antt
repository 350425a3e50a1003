-- Rebases as C sees them.
use Rattle.std.specs.Prelude.{ℕ, Result, Ok, Err}
use Rattle.mach_base.specs.Fault.{Fault}
use Rattle.mach_dyld.specs.Rebases.{Rebase}
use Rattle.mach_dyld.specs.declared.rebases.RebaseKind.{RebaseKind}
use Rattle.mach_dyld.specs.declared.rebases.RebaseKind.TheVariants.{Pointer, TextAbsolute32, TextRelative32}
use Rattle.goblin_mach_c.specs.Codes.{code_of_fault}
use Rattle.goblin_mach_c.specs.FixupRows.{address_diverse, diversity_of, is_signed, key_of}
use Rattle.goblin_mach_c.specs.declared.rebases.gm_rebase.{gm_rebase}

-- the number of a kind, as in the opcodes
abbrev pub rebase_kind_number : RebaseKind → ℕ
rebase_kind_number Pointer = 1
rebase_kind_number TextAbsolute32 = 2
rebase_kind_number TextRelative32 = 3

-- a rebase, or why no further ones can be read
abbrev pub gm_rebase_view : Result Rebase Fault → gm_rebase
gm_rebase_view (Ok r) =
    record {
      address = r.address;
      offset = r.offset;
      target = r.target;
      segment = r.segment;
      kind = rebase_kind_number r.kind;
      is_signed = is_signed r.auth;
      key = key_of r.auth;
      diversity = diversity_of r.auth;
      is_address_diverse = address_diverse r.auth;
      code = 0;
      reserved = 0;
    }
gm_rebase_view (Err f) =
    record {
      address = 0;
      offset = 0;
      target = 0;
      segment = 0;
      kind = 0;
      is_signed = 0;
      key = 0;
      diversity = 0;
      is_address_diverse = 0;
      code = code_of_fault f;
      reserved = 0;
    }
