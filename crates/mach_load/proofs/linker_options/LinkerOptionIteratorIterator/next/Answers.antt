use Rattle.std.proofs.Common.{ℕ, List, ◌∷◌, Result, Err, sym, ap, ◌∙◌, length, arith}
use Rattle.mach_base.specs.Fault.{Fault, fault_of}
use Rattle.mach_load.specs.LinkerOptions.{options_of}
use Rattle.mach_load.specs.TablesLeft.{texts_view}
use Rattle.mach_load.proofs.ListsRead.{lists_end}
use Rattle.mach_load.proofs.OptionsRead.{option_first, option_fault}
use Rattle.mach_load.proofs.StartsRead.{fewer_after}
use Rattle.mach_load.proofs.linker_options.LinkerOptionIteratorIterator.next.Goals as goal

pub returns-in-Ok-clause-steps : goal.returns-in-Ok-clause-steps
returns-in-Ok-clause-steps c =
    let it = c.seek.new.self in
    sym c.seek.ensures.same
    ∙ option_first it.bytes.now it.commands.now it.number it.next (texts_view it.texts) c.in-Ok.text.now (omega arith) c.in-Ok.ensures.text c.in-Ok.ensures.run

pub returns-in-Ok-clause-goes : goal.returns-in-Ok-clause-goes
returns-in-Ok-clause-goes c =
    record {
      on = λ _. (tt, tt, fewer_after _ _ _ (returns-in-Ok-clause-steps c));
      keeps = tt;
      rests = λ _. tt;
    }

pub returns-in-Err-clause-steps : goal.returns-in-Err-clause-steps
returns-in-Err-clause-steps c =
    let it = c.seek.new.self in
    sym c.seek.ensures.same
    ∙ (option_fault it.bytes.now it.commands.now it.number it.next (texts_view it.texts) (fault_of c.in-Err.e) (omega arith) c.in-Err.ensures.text
    ∙ ap (λ (items : List (Result (ℕ × List ℕ) Fault)). Err (fault_of c.in-Err.e) ∷ items)
    (sym (lists_end (options_of it.bytes.now) it.commands.now (length it.commands.now) (omega arith))))

pub returns-in-Err-clause-goes : goal.returns-in-Err-clause-goes
returns-in-Err-clause-goes c =
    record {
      on = λ _. (tt, tt, fewer_after _ _ _ (returns-in-Err-clause-steps c));
      keeps = tt;
      rests = λ _. tt;
    }
