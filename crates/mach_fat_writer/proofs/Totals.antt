-- Whether entries have more bytes than a number: the lengths before are subtracted from it.
use Rattle.std.proofs.Common.{◌≡◌, ℕ, ◌+◌, ◌-◌, ◌<◌, ◌≤◌, length, nat_lt, true, false, inl, inr, ◌∙◌, sym, ap, arith, List, drop, get_or}
use Rattle.std.proofs.lemmas.Bool.{cases_lt, lt-ltb, le-ltb}
use Rattle.std.proofs.lemmas.List.{at_drop_more, drop_all}
use Rattle.mach_fat_writer.specs.Entries.{entry_views}
use Rattle.mach_fat_writer.specs.declared.entry.FatEntry.{FatEntry}
use Rattle.mach_fat_writer.specs.EntriesRead.{entries_len}

pub sum_past : (left n rest : ℕ) → left < n → nat_lt left (n + rest) ≡ true
sum_past left n rest past = lt-ltb left (n + rest) (omega (arith, past))

pub sum_next : (left n rest : ℕ) → n ≤ left → nat_lt left (n + rest) ≡ nat_lt (left - n) rest
sum_next left n rest within = elim (cases_lt (left - n) rest) [
  | inl less ↦ lt-ltb left (n + rest) (omega (arith, within, less)) ∙ sym (lt-ltb (left - n) rest less)
  | inr out ↦ le-ltb left (n + rest) (omega (arith, within, out)) ∙ sym (le-ltb (left - n) rest out)
]

pub nothing_left : (left : ℕ) → nat_lt left 0 ≡ false
nothing_left left = le-ltb left 0 (omega arith)

-- entries from one on
module _ (es : List FatEntry) (i : ℕ) (d : FatEntry) (left : ℕ) (inside : i < length es) where
  pub larger_past : left < length (get_or es i d).bytes.now → nat_lt left (entries_len (entry_views (drop i es))) ≡ true
  larger_past past =
      at_drop_more (λ xs. nat_lt left (entries_len (entry_views xs))) es i d inside
      ∙ sum_past left (length (get_or es i d).bytes.now) (entries_len (entry_views (drop (i + 1) es))) past

  pub larger_next : length (get_or es i d).bytes.now ≤ left
      → nat_lt left (entries_len (entry_views (drop i es)))
      ≡ nat_lt (left - length (get_or es i d).bytes.now) (entries_len (entry_views (drop (i + 1) es)))
  larger_next within =
      at_drop_more (λ xs. nat_lt left (entries_len (entry_views xs))) es i d inside
      ∙ sum_next left (length (get_or es i d).bytes.now) (entries_len (entry_views (drop (i + 1) es))) within

pub larger_none : (es : List FatEntry) (i left : ℕ) → length es ≤ i → nat_lt left (entries_len (entry_views (drop i es))) ≡ false
larger_none es i left past = ap (λ xs. nat_lt left (entries_len (entry_views xs))) (drop_all i es past) ∙ nothing_left left
