use Rattle.std.proofs.Common.{ℕ, List, Option}
use Rattle.std.proofs.lemmas.Result.{IfErr-at_err}
use Rattle.std.specs.Io.KnownBytes.{Appends}
use Rattle.mach_base.specs.Answer.{ErrorMeets}
use Rattle.mach_base.specs.declared.error.Error.{Error}
use Rattle.machfat.specs.Refusals.{IsRefusal, IsWant, refusal_line}
use Rattle.machfat.specs.declared.refusal.Refusal.{Refusal}
use Rattle.machfat.specs.declared.refusal.Refusal.TheVariants.{Refused, Foreign, NotFat, NoEntryOf, Entries}
use Rattle.machfat.proofs.Placed.{ok_then}
use Rattle.machfat.proofs.made.place_made.Goals as goal

pub returns-clause-written : goal.returns-clause-written
returns-clause-written g c = λ zero.
    ok_then _ c.place_file.result (c.status.ensures.only zero) c.place_file.ensures.written (λ whole took. (whole, took))

-- a refusal that is a refused allocation has an error that is one
wanting : (target : List ℕ) (old new : Option (List ℕ)) (refusal : Refusal) → IsWant refusal → Appends old new (refusal_line target refusal)
    → (e : Error) × ErrorMeets (λ f. ⊥) e × Appends old new (refusal_line target (Refused e))
wanting target old new (Refused e) want reported = (e, want, reported)
wanting target old new (Foreign kind) want reported = absurd want
wanting target old new NotFat want reported = absurd want
wanting target old new (NoEntryOf cpu) want reported = absurd want
wanting target old new (Entries why) want reported = absurd want

pub returns-clause-wanting : goal.returns-clause-wanting
returns-clause-wanting g c = λ one.
    let reported = c.status.ensures.refused one in
    wanting c.args.target.now _ _ reported.0 (IfErr-at_err (IsRefusal IsWant) reported.1 c.place_file.ensures.refused) reported.2
