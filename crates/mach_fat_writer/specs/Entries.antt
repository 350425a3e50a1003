-- The entries that a fat file is built from.
use Rattle.std.specs.Prelude.{◌≡◌, ◌++◌, true, ◌==◌, ◌&&◌, ◌||◌, ℕ, ◌+◌, ◌*◌, ◌^◌, Bool, false, List, [], ◌∷◌, map, Option, Some, None}
use Rattle.std.specs.List.{list_any}
use Rattle.mach_parts.specs.Cpu.{kind_of_cpu}
use Rattle.mach_fat_writer.specs.declared.entry.FatEntry.{FatEntry}

-- an entry: its cpu, the power of two that its offset is a multiple of, and its bytes
pub record FatEntryView : Type 0 where
  pub cputype : ℕ
  pub cpusubtype : ℕ
  pub align : ℕ
  pub bytes : List ℕ

abbrev pub fat_entry_view : FatEntry → FatEntryView
fat_entry_view e = record { cputype = e.cputype; cpusubtype = e.cpusubtype; align = e.align; bytes = e.bytes.now }

abbrev pub entry_views : List FatEntry → List FatEntryView
entry_views es = map fat_entry_view es

-- whether two entries are for one cpu; its capabilities, the top 8 bits, don't count
abbrev pub are_of_one_cpu : FatEntryView → FatEntryView → Bool
are_of_one_cpu e f = e.cputype == f.cputype && kind_of_cpu e.cpusubtype == kind_of_cpu f.cpusubtype

-- whether any two items, at different places in the list, pass a test
abbrev pub any_two : {A : Type 0} → (A → A → Bool) → List A → Bool
any_two test [] = false
any_two test (x ∷ xs) = list_any (test x) xs || any_two test xs

-- a number that entries share if they are for one cpu
abbrev pub cpu_number : FatEntryView → ℕ
cpu_number e = e.cputype * 2 ^ 24 + kind_of_cpu e.cpusubtype

abbrev pub is_last : Option ℕ → ℕ → Bool
is_last None n = false
is_last (Some last) n = last == n

-- whether any number equals the one before it; the one before the first is `last`
abbrev pub any_again : Option ℕ → List ℕ → Bool
any_again last [] = false
any_again last (n ∷ ns) = is_last last n || any_again (Some n) ns

-- two items of a list, the second after the first, pass a test
pub record HasTwo {A : Type 0} (test : A → A → Bool) (xs : List A) : Type 0 where
  pub before : List A
  pub first : A
  pub between : List A
  pub second : A
  pub after : List A
  pub is : xs ≡ before ++ first ∷ (between ++ second ∷ after)
  pub passes : test first second ≡ true
