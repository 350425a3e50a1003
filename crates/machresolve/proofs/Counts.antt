-- How many bindings are answered: of an image, and of all images of a program.
use Rattle.std.proofs.Common.{◌≡◌, ◌∙◌, ◌≤◌, ◌-◌, ◌++◌, ◌∷◌, [], ℕ, List, Option, Ok, length, take, ap, subst, arith}
use Rattle.std.specs.Prelude.{sum_by}
use Rattle.std.proofs.lemmas.List.{length-map, length-take}
use Rattle.std.proofs.lemmas.List.Sums.{sum_by-cons}
use Rattle.std.proofs.lemmas.Slice.Zip.{AllZip-long}
use Rattle.mach_parts.specs.Bindings.{Binding}
use Rattle.mach_cli.specs.declared.cpu.Cpu.{Cpu}
use Rattle.mach_resolve.specs.Answers.{IsAnswer}
use Rattle.mach_resolve.specs.Given.{GivenFile}
use Rattle.machresolve.specs.Report.{Outcome, answer_count, IsOutcome, resolved, fault, IsEntryOutcome, an_archive, an_image, entry_of_program}
use Rattle.machresolve.specs.Report.{AreEntryOutcomes, Report, answers_in, IsProgramReport, image, image_of_cpu, other_image, fat, entry, no_entry}
use Rattle.machresolve.specs.Report.{unopened, unfound}

outcome_few : (limit : ℕ) (p : GivenFile) (ls : List GivenFile) (o : Outcome) → IsOutcome limit p ls o → answer_count o ≤ limit
outcome_few limit p ls o (resolved answers notes more is) =
    let each : length answers ≡ length is.bindings = AllZip-long (IsAnswer is.files is.known) is.bindings answers is.are_answers in
    let first : length (take limit is.items) ≡ length is.bindings = ap length is.are_first ∙ length-map is.bindings (λ (b : Binding). Ok b) in
    omega (arith, each, first, length-take limit is.items)
outcome_few limit p ls o (fault file e reported) = omega arith

-- of an entry at most as many as the limit
pub entry_few : (limit : ℕ) (p : GivenFile) (ls : List GivenFile) (o : Outcome) → IsEntryOutcome limit p ls o → answer_count o ≤ limit
entry_few limit p ls o (an_archive is) = omega arith
entry_few limit p ls o (an_image x off is) = outcome_few limit p ls x is

entries_few : (limit : ℕ) (p : GivenFile) (ls : List GivenFile) (entries : List (List ℕ)) (os : List Outcome) → AreEntryOutcomes limit p ls entries os
    → sum_by answer_count os ≤ limit
entries_few limit p ls [] [] all = omega arith
entries_few limit p ls [] (o ∷ os) all = absurd all
entries_few limit p ls (part ∷ entries) [] all = absurd all
entries_few limit p ls (part ∷ entries) (o ∷ os) all =
    omega (
      arith,
      sum_by-cons answer_count o os,
      entry_few limit (entry_of_program p part) ls o all.0,
      entries_few (limit - answer_count o) p ls entries os all.1,
    )

-- of a report at most as many as the limit
pub report_few : (limit : ℕ) (p : GivenFile) (ls : List GivenFile) (wanted : Option Cpu) (r : Report)
    → IsProgramReport limit p ls wanted r → answers_in r ≤ limit
report_few limit p ls wanted r (image cputype cpusubtype o has is) = outcome_few limit p ls o is
report_few limit p ls wanted r (image_of_cpu cpu cputype cpusubtype o has for is) = outcome_few limit p ls o is
report_few limit p ls wanted r (other_image cpu cputype cpusubtype has other) = omega arith
report_few limit p ls wanted r (fat table parts os has is all) = entries_few limit p ls parts os all
report_few limit p ls wanted r (entry cpu part o finds is) = entry_few limit (entry_of_program p part) ls o is
report_few limit p ls wanted r (no_entry cpu finds) = omega arith
report_few limit p ls wanted r (unopened e reported) = omega arith
report_few limit p ls wanted r (unfound cpu e reported) = omega arith

outcomes_push : (limit : ℕ) (p : GivenFile) (ls : List GivenFile) (entries : List (List ℕ)) (os : List Outcome) (part : List ℕ) (o : Outcome)
    → AreEntryOutcomes limit p ls entries os → IsEntryOutcome (limit - sum_by answer_count os) (entry_of_program p part) ls o
    → AreEntryOutcomes limit p ls (entries ++ part ∷ []) (os ++ o ∷ [])
outcomes_push limit p ls [] [] part o all is = (subst (λ (n : ℕ). IsEntryOutcome n (entry_of_program p part) ls o) (omega arith) is, tt)
outcomes_push limit p ls [] (x ∷ os) part o all is = absurd all
outcomes_push limit p ls (a ∷ entries) [] part o all is = absurd all
outcomes_push limit p ls (a ∷ entries) (x ∷ os) part o all is = (
  all.0,
  outcomes_push (limit - answer_count x) p ls entries os part o all.1
      (subst (λ (n : ℕ). IsEntryOutcome n (entry_of_program p part) ls o) (omega (arith, sum_by-cons answer_count x os)) is),
)

-- one more entry, within what the entries before it left
pub outcomes_more : (limit left : ℕ) (p : GivenFile) (ls : List GivenFile) (entries : List (List ℕ)) (os : List Outcome) (part : List ℕ) (o : Outcome)
    → left ≡ limit - sum_by answer_count os → AreEntryOutcomes limit p ls entries os → IsEntryOutcome left (entry_of_program p part) ls o
    → AreEntryOutcomes limit p ls (entries ++ part ∷ []) (os ++ o ∷ [])
outcomes_more limit left p ls entries os part o rest all is =
    outcomes_push limit p ls entries os part o all (subst (λ (n : ℕ). IsEntryOutcome n (entry_of_program p part) ls o) rest is)
