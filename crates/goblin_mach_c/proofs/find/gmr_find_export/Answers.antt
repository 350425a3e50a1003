use Rattle.std.proofs.Common.{◌⊎◌, ℕ, List, inl, inr, refl, subst}
use Rattle.mach_base.proofs.Faults.{ErrorMeets-in}
use Rattle.mach_base.specs.Answer.{ErrorMeets}
use Rattle.mach_base.specs.Fault.{Fault, malformed}
use Rattle.goblin_mach_c.specs.ExportRows.{FindFault, HasNameFault}
use Rattle.goblin_mach_c.specs.Opened.{FaultIn, lossy_mode}
use Rattle.goblin_mach_c.proofs.FoundExports.{memory_code}
use Rattle.goblin_mach_c.proofs.OpenedImage.{refusal_of}
use Rattle.goblin_mach_c.proofs.find.gmr_find_export.Goals as goal

pub returns-in_default-clause-refused : goal.returns-in_default-clause-refused
returns-in_default-clause-refused c = λ _.
    record { fault = malformed; is_code = c.refuse.ensures.code; occurs = inr (inr (refl, c.in_default.ensures.cases.0)) }

pub returns-in-Err-clause-refused : goal.returns-in-Err-clause-refused
returns-in-Err-clause-refused c = λ _.
    let image = c.args.image.now in
    let bytes = c.args.bytes.now in
    let name = c.args.name.now in
    let lossy = lossy_mode image.is_lossy in
    let there : List ℕ → Fault → Type 0 = λ n f. FaultIn lossy bytes image.offset f ⊎ HasNameFault bytes image.offset n f in
    let found = FindFault lossy bytes image.offset name in
    refusal_of found c.in-Err.why c.refuse-in-Err.result c.refuse-in-Err.ensures.code
    (ErrorMeets-in (there name) found c.in-Err.why (λ f h. inl h)
    (subst (λ (n : List ℕ). ErrorMeets (there n) c.in-Err.why) c.in-Ok.ensures.cases.0 c.in-Err.ensures.refused))

pub returns-in-Err-clause-only : goal.returns-in-Err-clause-only
returns-in-Err-clause-only c = λ utf8 opens list exports.
    inr (memory_code c.in-Err.why c.refuse-in-Err.result c.refuse-in-Err.ensures.code (c.in-Err.ensures.only opens list exports))
