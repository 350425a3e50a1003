-- What both forms of fat files have in common: their records hold the values of their entries.
use Rattle.std.proofs.Common.{◌≡◌, ℕ, ◌^◌, ◌<◌, ◌≤◌, length, refl, arith}
use Rattle.mach_base.specs.Record.{AllFit, number_among, size}
use Rattle.mach_fat_writer.specs.Entries.{FatEntryView}
use Rattle.mach_fat_writer.specs.FatForms.{FatForm, fat_form_32, fat_form_64}

-- a record of a form holds the numbers of an entry, each in its field
pub record HoldsEntries (form : FatForm) : Type 0 where
  pub magic : form.magic < 2 ^ 32
  pub some : 0 < size form.fields
  pub fits : (e : FatEntryView) (at : ℕ) → e.cputype < 2 ^ 32 → e.cpusubtype < 2 ^ 32 → e.align ≤ 15 → at ≤ form.most
      → length e.bytes ≤ form.most → AllFit form.fields (form.values e at)
  pub cputype : (e : FatEntryView) (at : ℕ) → number_among (form.values e at) 0 ≡ e.cputype
  pub cpusubtype : (e : FatEntryView) (at : ℕ) → number_among (form.values e at) 1 ≡ e.cpusubtype
  pub place : (e : FatEntryView) (at : ℕ) → number_among (form.values e at) 2 ≡ at
  pub len : (e : FatEntryView) (at : ℕ) → number_among (form.values e at) 3 ≡ length e.bytes
  pub align : (e : FatEntryView) (at : ℕ) → number_among (form.values e at) 4 ≡ e.align

pub holds_32 : HoldsEntries fat_form_32
holds_32 =
    record {
      magic = omega arith;
      some = omega arith;
      fits = λ e p type subtype align most len. (type, (subtype, (omega (arith, most), (omega (arith, len), (omega (arith, align), tt)))));
      cputype = λ e p. refl;
      cpusubtype = λ e p. refl;
      place = λ e p. refl;
      len = λ e p. refl;
      align = λ e p. refl;
    }

pub holds_64 : HoldsEntries fat_form_64
holds_64 =
    record {
      magic = omega arith;
      some = omega arith;
      fits = λ e p type subtype align most len.
          (type, (subtype, (omega (arith, most), (omega (arith, len), (omega (arith, align), (omega arith, tt))))));
      cputype = λ e p. refl;
      cpusubtype = λ e p. refl;
      place = λ e p. refl;
      len = λ e p. refl;
      align = λ e p. refl;
    }
