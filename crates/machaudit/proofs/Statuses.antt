-- What the exit status of a verdict says.
use Rattle.std.proofs.Common.{◌≡◌, ◌≤◌, refl, arith, inl, inr}
use Rattle.std.specs.Prelude.{◌⊎◌}
use Rattle.mach_audit.specs.Verdicts.{Judges}
use Rattle.mach_audit.specs.declared.verdict.Soundness.TheVariants.{Sound, Unended, Faulty}
use Rattle.mach_audit.specs.declared.verdict.Soundness.{Soundness}
use Rattle.machaudit.specs.Quiet.{status_of}

pub status_bound : (v : Soundness) → status_of v ≤ 1
status_bound Sound = omega arith
status_bound Unended = omega arith
status_bound Faulty = omega arith

pub status_sound : {S L : Type 0} (v : Soundness) → Judges S L v → status_of v ≡ 0 → S
status_sound Sound j e = j.sound refl
status_sound Unended j e = absurd (omega (arith, e))
status_sound Faulty j e = absurd (omega (arith, e))

pub status_whole : {S L : Type 0} (v : Soundness) → Judges S L v → status_of v ≡ 0 → L → ⊥
status_whole Sound j e = j.whole refl
status_whole Unended j e = absurd (omega (arith, e))
status_whole Faulty j e = absurd (omega (arith, e))

pub status_faulty : {S L : Type 0} (v : Soundness) → Judges S L v → status_of v ≡ 1 → (S → ⊥) ⊎ L
status_faulty Sound j e = absurd (omega (arith, e))
status_faulty Unended j e = inr (j.unended refl)
status_faulty Faulty j e = inl (j.faulty refl)
