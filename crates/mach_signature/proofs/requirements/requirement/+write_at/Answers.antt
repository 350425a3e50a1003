use Rattle.std.proofs.Common.{◌≡◌, ◌∙◌, ◌+◌, suc, sym, ap, refl, arith}
use Rattle.std.proofs.lemmas.Bool.{eq-eqb, ne_eqb}
use Rattle.std.proofs.lemmas.Result.{IfOk-weaker}
use Rattle.std.proofs.Output.{has_written_of_eq}
use Rattle.mach_signature.specs.Requirements.{expression_at, two_by}
use Rattle.mach_signature.specs.declared.requirements.term.Operator.{Operator}
use Rattle.mach_signature.proofs.Expressions.{expression_none, expression_unread, expression_joined, expression_negated, expression_term}
use Rattle.mach_signature.proofs.WrittenTexts.{unread_written, joined_here, negation_here, term_here}
use Rattle.mach_signature.proofs.requirements.requirement.+write_at.Goals as goal

pub returns-in_default : goal.returns-in_default
returns-in_default g t c plain =
    unread_written g.W.Write.write_str_gives c.args.quotes c.args.around _ _ c.args.place _ _
    (expression_none c.args.depth c.args.bytes.now c.args.place (omega arith))

pub returns-in_default-read_u32 : goal.returns-in_default-read_u32
returns-in_default-read_u32 g t c plain =
    let more : c.args.depth ≡ suc c.in-Some.depth = omega arith in
    unread_written g.W.Write.write_str_gives c.args.quotes c.args.around _ _ c.args.place _ _
    (expression_unread c.args.depth c.in-Some.depth c.args.bytes.now c.args.place more _ c.in_default-read_u32.ensures)

pub returns-then-is_joining : goal.returns-then-is_joining
returns-then-is_joining g t c plain =
    let more : c.args.depth ≡ suc c.in-Some.depth = omega arith in
    let first = expression_at c.in-Some.depth c.args.bytes.now (c.args.place + 4) in
    let second = expression_at c.in-Some.depth c.args.bytes.now in
    let operator = c.operator_of-operator.result in
    let is = expression_joined c.args.depth c.in-Some.depth c.args.bytes.now c.args.place more c.in-Ok.code c.in-Ok.ensures
    (sym c.is_joining.ensures ∙ c.if-is_joining.true)
    ∙ ap (λ (o : Operator). two_by o first second) (sym c.operator_of-operator.ensures) in
    let took = g.W.Write.write_str_gives in
    let before = has_written_of_eq took _ _ _ _ c.opening.ensures (c.in_ok-write_str.ensures.writes plain refl) in
    joined_here took c.args.quotes c.args.around _ operator c.needs_brackets-brackets.result _ _ _ _ _ _ first second c.in_ok-middle.middle c.in_ok-end.end is
    c.needs_brackets-brackets.ensures before (c.in_ok-middle.ensures before.plain)
    (λ plain. has_written_of_eq took _ _ _ _ c.operator_words.ensures (c.in_ok-write_str-2.ensures.writes plain refl))
    (λ plain. c.in_ok-end.ensures plain)
    (λ plain. has_written_of_eq took _ _ _ _ c.closing.ensures (c.in_ok-write_str-3.ensures.writes plain refl))

pub returns-then-code-eq9 : goal.returns-then-code-eq9
returns-then-code-eq9 g t c =
    let more : c.args.depth ≡ suc c.in-Some.depth = omega arith in
    let is = expression_negated c.args.depth c.in-Some.depth c.args.bytes.now c.args.place more c.in-Ok.code c.in-Ok.ensures
    (sym c.is_joining.ensures ∙ c.if-is_joining.false) (eq-eqb c.in-Ok.code 9 c.if-code-eq9.true) in
    let took = g.W.Write.write_str_gives in
    IfOk-weaker c.write_at-then-code-eq9.result _ _
    (λ end last plain.
    let first = c.in_ok-write_str-4.ensures.writes plain refl in
    negation_here took c.args.quotes c.args.around _ _ end _ _ _ is first (last first.plain)) c.write_at-then-code-eq9.ensures

pub returns : goal.returns
returns g t c =
    let more : c.args.depth ≡ suc c.in-Some.depth = omega arith in
    let is = expression_term c.args.depth c.in-Some.depth c.args.bytes.now c.args.place more c.in-Ok.code c.in-Ok.ensures
    (sym c.is_joining.ensures ∙ c.if-is_joining.false) (ne_eqb c.in-Ok.code 9 c.if-code-eq9.false) in
    IfOk-weaker c.write_term.result _ _
    (λ end last plain. term_here g.W.Write.write_str_gives c.args.quotes c.args.around _ _ end _ _ is (last plain)) c.write_term.ensures
