-- The rows of findings are those of their verdicts. The number of a verdict that isn't known is found by its place from the end.
use Rattle.std.proofs.Common.{◌≡◌, ◌∙◌, ◌-◌, ◌∷◌, [], ℕ, List, Bool, Result, Ok, Err, length, map, refl, ap, ap₂}
use Rattle.std.specs.Prelude.{⊤}
use Rattle.std.proofs.lemmas.List.{length-map}
use Rattle.mach_base.specs.Answer.{◌>>=◌}
use Rattle.mach_base.specs.Fault.{Fault}
use Rattle.mach_base.specs.declared.context.Container.{Container}
use Rattle.mach_base.specs.declared.context.Container.TheVariants.{Little, Big}
use Rattle.goblin_mach.specs.ImageFacts.{Facts}
use Rattle.mach_audit.specs.Security.{all_findings, all_verdicts, finding_of, findings_in, is_so, verdicts_for}
use Rattle.mach_audit.specs.declared.security.Finding.{Finding}
use Rattle.mach_audit.specs.declared.security.Verdict.{Verdict}
use Rattle.goblin_mach_c.specs.SecurityRows.{found_verdict_row, found_verdict_rows, verdict_number, verdict_row, verdict_row_by, verdict_rows}

-- each verdict has the number of its place from the end
abbrev AreNumbered : List Verdict → Type 0
AreNumbered [] = ⊤
AreNumbered (v ∷ vs) = (20 - length (v ∷ vs) ≡ verdict_number v) × AreNumbered vs

abbrev finding_by : Verdict → Result Bool Fault → Result Finding Fault
finding_by v found = found >>= (λ it. Ok (record { verdict = v; is_so = it }))

row_same : (n : ℕ) (v : Verdict) (found : Result Bool Fault) → n ≡ verdict_number v
    → found_verdict_row n (finding_by v found) ≡ verdict_row_by (verdict_number v) found
row_same n v (Ok holds) e = refl
row_same n v (Err f) e = ap (λ k. verdict_row_by k (Err f)) e

rows_same : (f : Facts) (vs : List Verdict) → AreNumbered vs → found_verdict_rows (findings_in f vs) ≡ map (verdict_row f) vs
rows_same f [] numbered = refl
rows_same f (v ∷ vs) numbered =
    ap₂ (λ row rows. row ∷ rows)
    (row_same (20 - length (findings_in f (v ∷ vs))) v (is_so f v) (ap (λ n. 20 - n) (length-map (v ∷ vs) (finding_of f)) ∙ numbered.0))
    (rows_same f vs numbered.1)

all_numbered : AreNumbered all_verdicts
all_numbered =
    (refl, (refl, (refl, (refl, (refl, (refl, (refl, (refl, (refl, (refl, (refl, (refl, (refl, (refl, (refl, (refl, (refl, (refl, tt))))))))))))))))))

numbered_for : (c : Container) → AreNumbered (verdicts_for c)
numbered_for Little = (refl, all_numbered)
numbered_for Big = all_numbered

pub rows_of_all : (f : Facts) → found_verdict_rows (all_findings f) ≡ verdict_rows f
rows_of_all f = rows_same f (verdicts_for f.ctx.container) (numbered_for f.ctx.container)
