-- The records of a fat file, collected one by one, and what holds of each number below another.
use Rattle.std.proofs.Common.{◌≡◌, ℕ, ◌+◌, ◌/◌, ◌<◌, List, [], ◌∷◌, ◌++◌, length, Result, Ok, Err, inl, inr, refl, sym, ap, ◌∙◌, subst}
use Rattle.std.proofs.Common.{append_assoc, nat_le, true}
use Rattle.std.proofs.Common.{arith}
use Rattle.std.proofs.lemmas.Bool.{cases_lt}
use Rattle.std.proofs.lemmas.List.{append-nil}
use Rattle.mach_base.specs.Answer.{◌>>=◌}
use Rattle.mach_base.specs.Fault.{Fault}
use Rattle.mach_base.specs.Items.{all_read}
use Rattle.mach_parts.specs.ArchForms.{ArchForm}
use Rattle.mach_base.proofs.AllRead.{onto}
use Rattle.goblin_mach.specs.FatFile.{FatFile, archs_in, arch_table_in}

-- what holds of each number below another and of that one, holds below the next
pub below-next : (P : ℕ → Type 0) (n : ℕ) → ((k : ℕ) → k < n → P k) → P n → (k : ℕ) → k < n + 1 → P k
below-next P n below here k inside = elim (cases_lt k n) [
  | inl less ↦ below k less
  | inr out ↦ (let same : n ≡ k = omega (arith, out, inside) in subst P same here)
]

-- nothing followed by some is the same
onto-nothing : {R : Type 0} (rest : Result (List R) Fault) → onto [] rest ≡ rest
onto-nothing (Ok xs) = refl
onto-nothing (Err f) = refl

-- at first all are left
pub arches-first : {R : Type 0} (form : ArchForm R) (file : FatFile) (found : List R) (left : List (Result R Fault)) → found ≡ []
    → left ≡ archs_in form file → all_read (archs_in form file) ≡ onto found (all_read left)
arches-first form file found left none all = rw (none, all) (sym (onto-nothing (all_read (archs_in form file))))

onto-next : {R : Type 0} (found : List R) (arch : R) (rest : Result (List R) Fault)
    → onto found (rest >>= (λ xs. Ok (arch ∷ xs))) ≡ onto (found ++ arch ∷ []) rest
onto-next found arch (Ok xs) = ap Ok (sym (append_assoc found (arch ∷ []) xs))
onto-next found arch (Err f) = refl

-- a record that is read follows those before it
pub arches-next : {R : Type 0} (all : Result (List R) Fault) (found pushed : List R) (arch : R) (left after : List (Result R Fault))
    → all ≡ onto found (all_read left) → left ≡ Ok arch ∷ after → pushed ≡ found ++ arch ∷ [] → all ≡ onto pushed (all_read after)
arches-next all found pushed arch left after gathered first more =
    gathered ∙ ap (λ items. onto found (all_read items)) first ∙ onto-next found arch (all_read after) ∙ ap (λ front. onto front (all_read after)) (sym more)

module _ {R : Type 0} (form : ArchForm R) (file : FatFile) (found : List R) (left : List (Result R Fault))
    (fit : nat_le file.narches (length file.bytes / form.stride) ≡ true) (gathered : all_read (archs_in form file) ≡ onto found (all_read left)) where
  -- if none are left, these are all
  pub arches-whole : left ≡ [] → arch_table_in form file ≡ Ok found
  arches-whole none = rw fit (gathered ∙ ap (λ items. onto found (all_read items)) none ∙ ap Ok (append-nil found))

  -- one that can't be read is the error of the whole
  pub arches-refused : (f : Fault) (after : List (Result R Fault)) → left ≡ Err f ∷ after → arch_table_in form file ≡ Err f
  arches-refused f after bad = rw fit (gathered ∙ ap (λ items. onto found (all_read items)) bad)
