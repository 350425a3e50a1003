use Rattle.mach_dyld.proofs.TrieNames.{◌∙◌, ◌++◌, ◌∷◌, [], refl, sym, ap, subst, arith, ℕ, List, entry, Source, source_trie, HasFound}
use Rattle.mach_dyld.specs.Exports.{info_of}
use Rattle.mach_dyld.proofs.TrieBegins.{found_begins, listed_there, fault_there, end_there, started_there}
use Rattle.mach_dyld.proofs.export_walk.ExportWalk.next_counted.Goals as goal

pub returns-in-None : goal.returns-in-None
returns-in-None g c =
    let w = c.args.self.now.walker in (
      (refl, λ _. tt, (c.in-None.ensures.none, omega (arith, c.in-None.ensures.few), omega (arith, c.in-None.ensures.counted))),
      record {
        says = λ t libs found h. listed_there w.source t libs h.0 h.1 (c.in-None.ensures.found found h.2 h.3).1;
        cut = λ t libs found h. tt;
        started = λ t libs found h. started_there w.source t libs h.0 h.1 (found_begins found w h.3);
        over = λ _. refl;
        goes_on = tt;
      },
    )

pub returns-in-Some-Err : goal.returns-in-Some-Err
returns-in-Some-Err g c =
    let w = c.args.self.now.walker in
    let err = rw c.in-Some-Err.field-0-is at c.in-Some-Err.ensures.err in
    let counted = rw c.in-Some-Err.field-0-is at c.in-Some-Err.ensures.counted in
    let given = rw c.in-Some-Err.field-0-is at c.in-Some-Err.ensures.found in (
      (refl, λ _. tt, (err, omega (arith, c.in-Some-Err.ensures.few), omega (arith, counted))),
      record {
        says = λ t libs found h. fault_there w.source t libs h.0 h.1 c.in-Some-Err.e (given found h.2 h.3).fault;
        cut = λ t libs found h. end_there w.source t libs h.0 h.1 found c.in-Some-Err.e (given found h.2 h.3).ends;
        started = λ t libs found h. started_there w.source t libs h.0 h.1 (found_begins found w h.3);
        over = λ off. c.in-Some-Err.ensures.over off;
        goes_on = tt;
      },
    )

pub returns-in-Some-Ok : goal.returns-in-Some-Ok
returns-in-Some-Ok g c =
    let w = c.args.self.now.walker in
    let counted = rw c.in-Some-Ok.field-0-is at c.in-Some-Ok.ensures.counted in
    let given = rw c.in-Some-Ok.field-0-is at c.in-Some-Ok.ensures.found in
    let source = rw c.in-Some-Ok.field-0-is at c.in-Some-Ok.ensures.source in (
      (
        refl,
        λ _. tt,
        (
          (
            c.in-Some-Ok.ensures.less,
            λ t libs found h.
                let next = given found h.2 h.3 in (
                  ap source_trie source ∙ h.0,
                  ap (λ (s : Source). s.from) source ∙ h.1,
                  next.0,
                  subst (λ (x : List ℕ). HasFound (found ++ entry x (info_of c.in-Some-Ok.info) ∷ []) next.0 c.step.new.self) (sym c.name.ensures) next.1,
                ),
          ),
          omega (arith, c.in-Some-Ok.ensures.few),
          omega (arith, counted),
        ),
      ),
      record {
        says = λ t libs found h. tt;
        cut = λ t libs found h. tt;
        started = λ t libs found h. started_there w.source t libs h.0 h.1 (found_begins found w h.3);
        over = λ off. c.in-Some-Ok.ensures.over off;
        goes_on = tt;
      },
    )
