-- Where entries are: at multiples of their alignments, one after the other.
use Rattle.std.proofs.Common.{◌≡◌, ℕ, ◌+◌, ◌-◌, ◌*◌, ◌/◌, ◌%◌, ◌^◌, ◌<◌, ◌≤◌, List, [], ◌∷◌, ◌++◌, length, replicate, inl, inr, refl, ap, ◌∙◌, arith}
use Rattle.std.proofs.lemmas.Bool.{cases_eq}
use Rattle.std.proofs.lemmas.List.{length-append, length-replicate}
use Rattle.std.proofs.lemmas.Nat.{pow_pos, div-add-mod'}
use Rattle.std.proofs.Math.Nat.{mod-lt, mod_self, mod-eq_of_lt, add-mod_right, mul-mod_left}
use Rattle.mach_fat_writer.specs.Entries.{FatEntryView}
use Rattle.mach_fat_writer.specs.FatForms.{gap_after, fat_place_after, end_after, fat_end, fat_contents}

gap_fills : (from unit : ℕ) → 0 < unit → (from + (unit - from % unit) % unit) % unit ≡ 0
gap_fills from unit some = elim (cases_eq (from % unit) 0) [
  | inl none ↦
      let whole : (unit - from % unit) % unit ≡ 0 =
      ap (λ (n : ℕ). (unit - n) % unit) none ∙ (ap (λ (n : ℕ). n % unit) (let all : unit - 0 ≡ unit = omega arith in all) ∙ mod_self unit)
      in
      ap (λ (n : ℕ). (from + n) % unit) whole
      ∙ (ap (λ (n : ℕ). n % unit) (let same : from + 0 ≡ from = omega arith in same) ∙ none)
  | inr left ↦
      let below : from % unit < unit = mod-lt from some in
      let part : (unit - from % unit) % unit ≡ unit - from % unit =
      mod-eq_of_lt (let less : unit - from % unit < unit = omega (arith, below, left, some) in less)
      in
      let whole : from / unit * unit + from % unit ≡ from = div-add-mod' from unit in
      let sum : from + (unit - from % unit) ≡ from / unit * unit + unit = omega (arith, whole, below) in
      ap (λ (n : ℕ). (from + n) % unit) part
      ∙ (ap (λ (n : ℕ). n % unit) sum ∙ (add-mod_right (from / unit * unit) unit ∙ mul-mod_left (from / unit) unit))
]

-- the first multiple at a place or after it
pub first_multiple : (from align : ℕ)
    → ((from + gap_after from align) % 2 ^ align ≡ 0) × (from ≤ from + gap_after from align) × (from + gap_after from align < from + 2 ^ align)
first_multiple from align =
    let some : 0 < 2 ^ align = pow_pos align in
    let low : gap_after from align < 2 ^ align = mod-lt (2 ^ align - from % 2 ^ align) some in
    (gap_fills from (2 ^ align) some, omega arith, omega (arith, low))

pub ends_following : (from : ℕ) (es : List FatEntryView) → from ≤ fat_end from es
ends_following from [] = omega arith
ends_following from (e ∷ es) = let later = ends_following (end_after from e) es in omega (arith, later)

fat_end-append : (from : ℕ) (es fs : List FatEntryView) → fat_end from (es ++ fs) ≡ fat_end (fat_end from es) fs
fat_end-append from [] fs = refl
fat_end-append from (e ∷ es) fs = fat_end-append (end_after from e) es fs

-- an entry lies after all entries before it
pub occurs_after : (from : ℕ) (before : List FatEntryView) (e : FatEntryView) → from ≤ fat_place_after (fat_end from before) e
occurs_after from before e = let ends = ends_following from before in omega (arith, ends)

pub occur_apart : (from : ℕ) (before between : List FatEntryView) (e f : FatEntryView)
    → end_after (fat_end from before) e ≤ fat_place_after (fat_end from (before ++ e ∷ between)) f
occur_apart from before between e f =
    let whole : fat_end from (before ++ e ∷ between) ≡ fat_end (end_after (fat_end from before) e) between = fat_end-append from before (e ∷ between) in
    let following = ends_following (end_after (fat_end from before) e) between in
    omega (arith, whole, following)

-- how many bytes entries take with their padding
pub length-contents : (from : ℕ) (es : List FatEntryView) → from + length (fat_contents from es) ≡ fat_end from es
length-contents from [] = omega arith
length-contents from (e ∷ es) =
    let later = length-contents (end_after from e) es in
    let zeros : List ℕ = replicate (gap_after from e.align) 0 in
    let rest = fat_contents (end_after from e) es in
    omega (arith, later, length-append zeros (e.bytes ++ rest), length-append e.bytes rest, length-replicate {A = ℕ} (gap_after from e.align) 0)
