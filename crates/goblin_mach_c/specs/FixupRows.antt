-- The fixups of an image's chains as C sees them.
use Rattle.std.specs.Prelude.{ℕ, ℤ, pos, Option, Some, None, Result, Ok, Err}
use Rattle.mach_base.specs.Fault.{Fault}
use Rattle.mach_chained.specs.Fixups.{Fixup}
use Rattle.mach_chained.specs.Pointers.{KindOfFixup, bind, rebase, value}
use Rattle.mach_parts.specs.PointerSigning.{Auth}
use Rattle.goblin_mach_c.specs.Codes.{code_of_fault}
use Rattle.goblin_mach_c.specs.Opened.{flag}
use Rattle.goblin_mach_c.specs.declared.fixups.gm_fixup.{gm_fixup}

-- 0 a rebase, 1 a bind, 2 a number
abbrev pub fixup_kind_number : KindOfFixup → ℕ
fixup_kind_number (rebase target) = 0
fixup_kind_number (bind import addend) = 1
fixup_kind_number (value number) = 2

-- the address of a rebase, or the number
abbrev pub target_of_kind : KindOfFixup → ℕ
target_of_kind (rebase target) = target
target_of_kind (bind import addend) = 0
target_of_kind (value number) = number

abbrev pub import_of_kind : KindOfFixup → ℕ
import_of_kind (rebase target) = 0
import_of_kind (bind import addend) = import
import_of_kind (value number) = 0

abbrev pub addend_of_kind : KindOfFixup → ℤ
addend_of_kind (rebase target) = pos 0
addend_of_kind (bind import addend) = addend
addend_of_kind (value number) = pos 0

abbrev pub is_signed : Option Auth → ℕ
is_signed None = 0
is_signed (Some a) = 1

abbrev pub key_of : Option Auth → ℕ
key_of None = 0
key_of (Some a) = a.key

abbrev pub diversity_of : Option Auth → ℕ
diversity_of None = 0
diversity_of (Some a) = a.diversity

abbrev pub address_diverse : Option Auth → ℕ
address_diverse None = 0
address_diverse (Some a) = flag a.is_address_diverse

-- a fixup, or why the chains can't be read further
abbrev pub fixup_row : Result Fixup Fault → gm_fixup
fixup_row (Ok f) =
    record {
      address = f.address;
      offset = f.offset;
      target = target_of_kind f.kind;
      segment = f.segment;
      kind = fixup_kind_number f.kind;
      import = import_of_kind f.kind;
      addend = addend_of_kind f.kind;
      is_signed = is_signed f.auth;
      key = key_of f.auth;
      diversity = diversity_of f.auth;
      is_address_diverse = address_diverse f.auth;
      code = 0;
      reserved = 0;
    }
fixup_row (Err f) =
    record {
      address = 0;
      offset = 0;
      target = 0;
      segment = 0;
      kind = 0;
      import = 0;
      addend = pos 0;
      is_signed = 0;
      key = 0;
      diversity = 0;
      is_address_diverse = 0;
      code = code_of_fault f;
      reserved = 0;
    }
