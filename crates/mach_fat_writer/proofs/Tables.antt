-- The table of a fat file, by the count of its header.
use Rattle.std.proofs.Common.{◌≡◌, ℕ, ◌+◌, ◌/◌, ◌≤◌, List, length, drop, nat_le, Result, Ok, Err, inl, inr, refl, sym, ap, ◌∙◌}
use Rattle.std.specs.Prelude.{IsErrAnd}
use Rattle.std.proofs.lemmas.Bool.{cases_Bool, le-leb}
use Rattle.mach_base.specs.Answer.{Gives}
use Rattle.mach_base.specs.Fault.{Fault, fault_of}
use Rattle.mach_base.specs.Items.{items_from, all_read}
use Rattle.mach_base.specs.Number.{number, bounded}
use Rattle.mach_base.specs.Record.{number_among, record_at, size, values_in}
use Rattle.mach_base.specs.declared.context.Endian.TheVariants.{Big}
use Rattle.mach_base.specs.declared.error.Error.{Error}
use Rattle.mach_base.proofs.Faults.{FailsAs-read}
use Rattle.mach_parts.specs.Fat.{fat_header_fields, fat_header_values}
use Rattle.mach_parts.specs.declared.fat.FatHeader.{FatHeader}
use Rattle.mach_fat_writer.specs.FatForms.{FatForm}
use Rattle.mach_fat_writer.specs.FatTables.{fat_record_in, fat_table_in}
use Rattle.mach_fat_writer.specs.declared.entry_record.EntryRecord.{EntryRecord}

-- what is read of a value that is there
abbrev read_of : {A B : Type 0} → (A → B) → Result A Fault → Result B Fault
read_of f (Ok x) = Ok (f x)
read_of f (Err e) = Err e

bounded_of : {A B : Type 0} (n : ℕ) (bytes : List ℕ) (s : ℕ) (f : A → B) (x : A) → read_of f (bounded n bytes s x) ≡ bounded n bytes s (f x)
bounded_of n bytes s f x = elim (cases_Bool (nat_le (length bytes) s)) [
  | inl past ↦ rw past refl
  | inr inside ↦ elim (cases_Bool (nat_le (s + n) (length bytes))) [
    | inl whole ↦ rw (inside, whole) refl
    | inr cut ↦ rw (inside, cut) refl
  ]
]

-- the count of a header that was read
pub header_count : (bytes : List ℕ) (h : FatHeader) → record_at Big fat_header_fields bytes 0 ≡ Ok (fat_header_values h)
    → bounded 8 bytes 0 (number Big 4 (drop 4 bytes)) ≡ Ok h.nfat_arch
header_count bytes h is =
    sym (bounded_of 8 bytes 0 (λ vs. number_among vs 1) (values_in Big fat_header_fields 0 bytes)) ∙ ap (read_of (λ vs. number_among vs 1)) is

-- a table that fits the bytes is the list of its records
pub table_is : (form : FatForm) (bytes : List ℕ) (n : ℕ) (records : Result (List EntryRecord) Fault)
    → bounded 8 bytes 0 (number Big 4 (drop 4 bytes)) ≡ Ok n → n ≤ length bytes / size form.fields
    → all_read (items_from (fat_record_in form bytes) 0 n) ≡ records → fat_table_in form bytes ≡ records
table_is form bytes n records header fits are = rw (header, le-leb n (length bytes / size form.fields) fits) are

-- a fault is the one that `?` returns
pub reported : {X Y : Type 0} (view : X → Y) (r : Result X Error) (e : Error) → IsErrAnd r (λ x. x ≡ e) → (there : Result Y Fault)
    → there ≡ Err (fault_of e) → Gives view r there
reported view (Ok x) e left there is = absurd left
reported view (Err x) e left there is = rw left (FailsAs-read e there is)
