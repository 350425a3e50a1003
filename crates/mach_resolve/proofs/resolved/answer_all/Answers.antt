use Rattle.std.proofs.Common.{◌∙◌, ◌++◌, ◌∷◌, [], Ok, length, map, sym, ap, subst, arith}
use Rattle.std.proofs.lemmas.List.{append_assoc, length-append, map_push}
use Rattle.mach_parts.specs.Bindings.{Binding, binding_view, binding_read}
use Rattle.goblin_mach.specs.BindingsLeft.{bindings_left}
use Rattle.mach_resolve.specs.Files.{TrieFaultAt}
use Rattle.mach_resolve.specs.Answers.{IsAnswer, AreAnswers}
use Rattle.mach_resolve.specs.Failures.{IsFailure}
use Rattle.mach_resolve.specs.Resolved.{HoldsItems, AnswerFault, of_bindings, of_trie}
use Rattle.mach_resolve.specs.ResolveViews.{input_views, program_view, answer_view}
use Rattle.mach_resolve.proofs.Firsts.{first_all, first_cut}
use Rattle.mach_resolve.proofs.Found.{all_zip_push}
use Rattle.mach_base.proofs.Faults.{ErrorMeets-reported}
use Rattle.mach_resolve.proofs.Notes.{fails_more, memory_fails}
use Rattle.mach_resolve.proofs.Steps.{reported}
use Rattle.mach_resolve.proofs.resolved.answer_all.Goals as goal

pub bindings-init : goal.bindings-init
bindings-init g c =
    let fs = input_views c.args.files.now in
    let p = program_view c.args.program.now in
    let none = c.new-answers.ensures.items in (
      bindings_left c.bindings-item-items.result,
      c.bindings-item-items.ensures,
      [],
      sym (ap bindings_left c.into_iter-item-iterator.ensures.into_iter_gives),
      λ met following same. (subst (λ xs. AreAnswers fs p [] (map answer_view xs)) (sym none) tt, c.nothing-kept.ensures fs),
      ap length none,
      omega (arith),
    )

pub bindings-preserved : goal.bindings-preserved
bindings-preserved g c =
    let before = c.bindings.invariant in
    let fs = input_views c.args.files.now in
    let p = program_view c.args.program.now in
    let b = binding_view c.in-Ok.binding in
    let bs = before.2 in
    let left = bindings_left c.next.new.self in
    let answers = c.bindings.answers.items in
    let a = c.in-Ok-answer_for.answer in
    let front = map (λ (x : Binding). Ok x) bs in (
      before.0,
      before.1,
      bs ++ b ∷ [],
      before.3 ∙ (ap (λ rest. front ++ rest) (c.in-Some.ensures.steps ∙ ap (λ item. binding_read item ∷ left) c.in-Ok.is)
          ∙ (sym (append_assoc front (Ok b ∷ []) left) ∙ ap (λ xs. xs ++ left) (sym (map_push (λ (x : Binding). Ok x) bs b)))),
      λ met following same.
          let known = before.4 met following same in (
            subst (λ qs. AreAnswers fs p (bs ++ b ∷ []) qs)
                (sym (ap (map answer_view) c.in_ok-push-in-Ok-answer_for.ensures.items ∙ map_push answer_view answers a))
                (all_zip_push (IsAnswer fs p) bs (map answer_view answers) b (answer_view a) known.0
                (c.in-Ok-answer_for.ensures.answered met following same known.1)),
            c.in-Ok-answer_for.ensures.kept met following same known.1,
          ),
      omega (
        arith,
        before.5,
        ap length c.in_ok-push-in-Ok-answer_for.ensures.items,
        length-append answers (c.in-Ok-answer_for.answer ∷ []),
        length-append bs (b ∷ []),
      ),
      omega (arith, before.5, before.6, c.if-len-limit.false, c.len.ensures, length-append bs (b ∷ [])),
    )

pub returns-then-len-limit-clause-answered : goal.returns-then-len-limit-clause-answered
returns-then-len-limit-clause-answered g c = λ met following same.
    let before = c.bindings.invariant in (
      before.2,
      first_cut c.args.limit c.args.image.now before.0 (bindings_left c.bindings.item-iterator) (bindings_left c.next.new.self) (binding_read c.in-Some.item)
          before.2 before.1 before.3 c.in-Some.ensures.steps before.6 (omega (arith, before.5, c.if-len-limit.true, c.len.ensures)),
      (before.4 met following same).0,
    )

pub returns-in-Err-answer_for-clause-refused : goal.returns-in-Err-answer_for-clause-refused
returns-in-Err-answer_for-clause-refused g c =
    let fs = input_views c.args.files.now in
    fails_more (TrieFaultAt fs) (AnswerFault c.args.limit fs c.args.image.now) c.in-Err-answer_for.failure
    (λ n f occurs. of_trie occurs) c.in-Err-answer_for.ensures.refused

pub returns-in-Err-clause-refused : goal.returns-in-Err-clause-refused
returns-in-Err-clause-refused g c =
    let before = c.bindings.invariant in
    let fs = input_views c.args.files.now in
    let m = c.args.image.now in
    let e = c.in-Err.error in
    let left = bindings_left c.next.new.self in
    let all = before.3 ∙ ap (λ rest. map (λ (x : Binding). Ok x) before.2 ++ rest)
    (c.in-Some.ensures.steps ∙ ap (λ item. binding_read item ∷ left) c.in-Err.is) in
    let Faults = AnswerFault c.args.limit fs m in
    subst (IsFailure Faults) (sym c.refused.ensures)
    (reported Faults 0 e (ErrorMeets-reported (Faults 0) e (of_bindings before.2 left (subst (HoldsItems m) all before.1)
    (omega (arith, before.5, c.if-len-limit.false, c.len.ensures)))))

pub returns-in_err-push-in-Ok-answer_for-clause-refused : goal.returns-in_err-push-in-Ok-answer_for-clause-refused
returns-in_err-push-in-Ok-answer_for-clause-refused g c =
    memory_fails (AnswerFault c.args.limit (input_views c.args.files.now) c.args.image.now) c.from_residual.result c.from_residual.ensures.1

pub returns-clause-answered : goal.returns-clause-answered
returns-clause-answered g c = λ met following same.
    let before = c.bindings.invariant in (
      before.2,
      first_all c.args.limit c.args.image.now before.0 (bindings_left c.bindings.item-iterator) before.2 before.1 before.3 c.in-None.ensures.steps.0 before.6,
      (before.4 met following same).0,
    )
