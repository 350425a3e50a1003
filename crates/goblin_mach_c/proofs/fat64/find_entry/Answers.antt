use Rattle.std.proofs.Common.{rules, ◌≡◌, ◌<◌, ◌+◌, ◌-◌, ℕ, Bool, true, false, Some, refl, ap, ◌∙◌, sym}
use Rattle.std.specs.List.{find}
use Rattle.mach_base.specs.Items.{items_from}
use Rattle.mach_base.proofs.ItemLists.{items_from-first}
use Rattle.goblin_mach_c.specs.WideFatRows.{is_for, wide_row_at}
use Rattle.goblin_mach_c.specs.declared.fat64.gm_fat_entry64.{gm_fat_entry64}
use Rattle.goblin_mach_c.proofs.fat64.find_entry.Goals as goal

-- the first of the items that are left fits, or it does not
find-here : {X : Type 0} (fits : X → Bool) (item : ℕ → X) (i n : ℕ) → i < n → fits (item i) ≡ true → find fits (items_from item i (n - i)) ≡ Some (item i)
find-here fits item i n inside same = ap (find fits) (items_from-first item i n inside) ∙ rw same refl

find-later : {X : Type 0} (fits : X → Bool) (item : ℕ → X) (i n : ℕ) → i < n → fits (item i) ≡ false
    → find fits (items_from item i (n - i)) ≡ find fits (items_from item (i + 1) (n - (i + 1)))
find-later fits item i n inside other = ap (find fits) (items_from-first item i n inside) ∙ rw other refl

pub entries-preserved : goal.entries-preserved
entries-preserved c =
    let i = c.entries.index in
    let item : ℕ → ℕ × gm_fat_entry64 = λ k. (k, wide_row_at c.begins_fat_64-is_64.result c.args.bytes.now k) in
    let fits : ℕ × gm_fat_entry64 → Bool = λ entry. is_for c.args.cputype c.args.cpusubtype entry.1 in
    let other : fits (item i) ≡ false = search rules in
    sym (find-later fits item i c.count_by-count.result c.entries-test.true other) ∙ c.entries.invariant

pub returns-then-is_for : goal.returns-then-is_for
returns-then-is_for c =
    let i = c.entries.index in
    let item : ℕ → ℕ × gm_fat_entry64 = λ k. (k, wide_row_at c.begins_fat_64-is_64.result c.args.bytes.now k) in
    let fits : ℕ × gm_fat_entry64 → Bool = λ entry. is_for c.args.cputype c.args.cpusubtype entry.1 in
    let same : fits (item i) ≡ true = search rules in
    ap (λ (row : gm_fat_entry64). Some (i, row)) c.at-row.ensures
    ∙ (sym (find-here fits item i c.count_by-count.result c.entries-test.true same) ∙ c.entries.invariant)
