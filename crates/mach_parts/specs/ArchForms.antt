-- The tables of fat files: a header of 8 bytes, followed by records of one size (`mach-o/fat.h`).
use Rattle.std.specs.Prelude.{◌≡◌, ℕ, ◌*◌, ◌<◌, List, Result, Ok}
use Rattle.mach_base.specs.Answer.{◌>>=◌}
use Rattle.mach_base.specs.Fault.{Fault}
use Rattle.mach_base.specs.Number.{place_after}
use Rattle.mach_base.specs.Record.{Field, Value, record_at}
use Rattle.mach_base.specs.declared.context.Endian.TheVariants.{Big}
use Rattle.mach_parts.specs.Fat.{fat_arch_fields, fat_arch_of_values}
use Rattle.mach_parts.specs.declared.fat.FatArch.{FatArch}
use Rattle.mach_parts.specs.FatRecords.{fat_arch_64_fields, fat_arch_64_of_values}
use Rattle.mach_parts.specs.declared.fat64.FatArch64.{FatArch64}

-- The form of a table's records: the size in bytes, the fields, and the record of some values. Also what a
-- record says of its entry: the CPU type and subtype, the offset, the size, and the alignment as an exponent of 2.
pub record ArchForm (R : Type 0) : Type 0 where
  pub stride : ℕ
  pub fields : List Field
  pub of_values : List Value → R
  pub cputype : R → ℕ
  pub cpusubtype : R → ℕ
  pub offset : R → ℕ
  pub size : R → ℕ
  pub align : R → ℕ

-- struct fat_arch, and struct fat_arch_64
abbrev pub arch_form_32 : ArchForm FatArch
arch_form_32 =
    record {
      stride = 20;
      fields = fat_arch_fields;
      of_values = fat_arch_of_values;
      cputype = λ a. a.cputype;
      cpusubtype = λ a. a.cpusubtype;
      offset = λ a. a.offset;
      size = λ a. a.size;
      align = λ a. a.align;
    }

abbrev pub arch_form_64 : ArchForm FatArch64
arch_form_64 =
    record {
      stride = 32;
      fields = fat_arch_64_fields;
      of_values = fat_arch_64_of_values;
      cputype = λ a. a.cputype;
      cpusubtype = λ a. a.cpusubtype;
      offset = λ a. a.offset;
      size = λ a. a.size;
      align = λ a. a.align;
    }

-- records of this size, with these fields and values, have this form
pub record IsArchForm {R : Type 0} (bytes : ℕ) (fields : List Field) (values : R → List Value) (form : ArchForm R) : Type 0 where
  pub sized : bytes ≡ form.stride
  pub some : 0 < form.stride
  pub same_fields : fields ≡ form.fields
  pub read_back : (x : R) → form.of_values (values x) ≡ x

-- the place of entry i's record, after the header; the records of n entries end at the place of entry n
abbrev pub arch_place_in : {R : Type 0} → ArchForm R → ℕ → ℕ
arch_place_in form i = place_after 8 (form.stride * i)

-- the record of entry i, or the reason why there is none
abbrev pub arch_in : {R : Type 0} → ArchForm R → List ℕ → ℕ → Result R Fault
arch_in form bytes i = record_at Big form.fields bytes (arch_place_in form i) >>= λ values. Ok (form.of_values values)
