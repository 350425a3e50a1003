-- Verdicts, and what they say of the parts.
use Rattle.std.proofs.Common.{◌≡◌, ◌<◌, ◌≤◌, ◌++◌, ◌∷◌, ◌∙◌, [], ℕ, zero, suc, Bool, true, false, List, refl, sym, ap, arith, inl, inr}
use Rattle.std.proofs.Math.Dec.{eqb-suc-zero}
use Rattle.std.specs.Prelude.{◌⊎◌, IsTrue, ◌==◌, if◌then◌else◌}
use Rattle.mach_audit.specs.Verdicts.{Judges, verdict_of_all, verdict_of_both, verdict_of}
use Rattle.mach_audit.specs.declared.report.PartReport.{PartReport}
use Rattle.mach_audit.specs.declared.verdict.Soundness.TheVariants.{Sound, Unended, Faulty}
use Rattle.mach_audit.specs.declared.verdict.Soundness.{Soundness}

-- verdicts as numbers, no two of which are equal
abbrev pub number : Soundness → ℕ
number Sound = 0
number Unended = 1
number Faulty = 2

pub sound_judged : {S L : Type 0} → S → (L → ⊥) → Judges S L Sound
sound_judged s short = record {
  sound = λ _. s;
  whole = λ _. short;
  faulty = λ e _. omega (arith, ap number e);
  unended = λ e. absurd (omega (arith, ap number e));
}

pub faulty_judged : {S L : Type 0} → (S → ⊥) → Judges S L Faulty
faulty_judged none = record {
  sound = λ e. absurd (omega (arith, ap number e));
  whole = λ e _. omega (arith, ap number e);
  faulty = λ _ s. none s;
  unended = λ e. absurd (omega (arith, ap number e));
}

pub unended_judged : {S L : Type 0} → L → Judges S L Unended
unended_judged long = record {
  sound = λ e. absurd (omega (arith, ap number e));
  whole = λ e _. omega (arith, ap number e);
  faulty = λ e _. omega (arith, ap number e);
  unended = λ _. long;
}

-- a verdict on a part, by how many faults it reports and whether it was cut
pub part_judged : {A S L : Type 0} (p : PartReport A) → (p.faults ≡ 0 → p.cut ≡ false → S) → (0 < p.faults → S → ⊥) → (IsTrue p.cut → L)
    → (p.faults ≡ 0 → p.cut ≡ false → L → ⊥) → Judges S L (verdict_of p)
part_judged p sound faulty long short = by_number p.faults p.cut sound faulty long short
  where
    by_number : {S L : Type 0} (n : ℕ) (cut : Bool) → (n ≡ 0 → cut ≡ false → S) → (0 < n → S → ⊥) → (IsTrue cut → L)
        → (n ≡ 0 → cut ≡ false → L → ⊥) → Judges S L (if n == 0 then (if cut then Unended else Sound) else Faulty)
    by_number zero false s f l w = sound_judged (s refl refl) (w refl refl)
    by_number zero true s f l w = unended_judged (l refl)
    by_number (suc n) cut s f l w = rw (eqb-suc-zero n) (faulty_judged (f (omega arith)))

pub neither : {L M : Type 0} → (L → ⊥) → (M → ⊥) → L ⊎ M → ⊥
neither p q (inl l) = p l
neither p q (inr m) = q m

-- the second, since the first is not so
pub after_first : {L M : Type 0} → (L → ⊥) → L ⊎ M → M
after_first p (inl l) = absurd (p l)
after_first p (inr m) = m

-- the verdict on two parts together
pub both_judged : {S T L M : Type 0} (v w : Soundness) → Judges S L v → Judges T M w → Judges (S × T) (L ⊎ M) (verdict_of_both v w)
both_judged Faulty w p q = faulty_judged (λ s. p.faulty refl s.0)
both_judged Unended Faulty p q = faulty_judged (λ s. q.faulty refl s.1)
both_judged Unended Unended p q = unended_judged (inl (p.unended refl))
both_judged Unended Sound p q = unended_judged (inl (p.unended refl))
both_judged Sound Faulty p q = faulty_judged (λ s. q.faulty refl s.1)
both_judged Sound Unended p q = unended_judged (inr (q.unended refl))
both_judged Sound Sound p q = sound_judged (p.sound refl, q.sound refl) (λ l. neither (p.whole refl) (q.whole refl) l)

-- a verdict on the first ones, of which there are more
pub cut_judged : {S T L M : Type 0} (v : Soundness) → Judges S L v → (T → S) → M → Judges T M (verdict_of_both Unended v)
cut_judged Faulty j fewer long = faulty_judged (λ t. j.faulty refl (fewer t))
cut_judged Unended j fewer long = unended_judged long
cut_judged Sound j fewer long = unended_judged long

-- a verdict on what is equivalent
pub judged_as : {S T L M : Type 0} (v : Soundness) → (S → T) → (T → S) → (L → M) → (M → L) → Judges S L v → Judges T M v
judged_as v to from longer shorter p = record {
  sound = λ e. to (p.sound e);
  whole = λ e m. p.whole e (shorter m);
  faulty = λ e t. p.faulty e (from t);
  unended = λ e. longer (p.unended e);
}

pub both_assoc : (u v w : Soundness) → verdict_of_both (verdict_of_both u v) w ≡ verdict_of_both u (verdict_of_both v w)
both_assoc Faulty v w = refl
both_assoc Unended Faulty w = refl
both_assoc Unended Unended Faulty = refl
both_assoc Unended Unended Unended = refl
both_assoc Unended Unended Sound = refl
both_assoc Unended Sound w = refl
both_assoc Sound v w = refl

pub both_sound : (v : Soundness) → verdict_of_both v Sound ≡ v
both_sound Faulty = refl
both_sound Unended = refl
both_sound Sound = refl

pub both_faulty : (v : Soundness) → verdict_of_both v Faulty ≡ Faulty
both_faulty Faulty = refl
both_faulty Unended = refl
both_faulty Sound = refl

-- one more thing
pub all_push : {X : Type 0} (verdict : X → Soundness) (xs : List X) (x : X)
    → verdict_of_all verdict (xs ++ x ∷ []) ≡ verdict_of_both (verdict_of_all verdict xs) (verdict x)
all_push verdict [] x = both_sound (verdict x)
all_push verdict (y ∷ xs) x =
    ap (verdict_of_both (verdict y)) (all_push verdict xs x) ∙ sym (both_assoc (verdict y) (verdict_of_all verdict xs) (verdict x))
