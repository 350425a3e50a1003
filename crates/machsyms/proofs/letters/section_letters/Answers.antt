use Rattle.std.proofs.Common.{◌++◌, ◌∷◌, [], ◌∙◌, ap, sym, map, take}
use Rattle.std.proofs.lemmas.List.{map-append, take_all, take_more}
use Rattle.machsyms.specs.Letters.{letter_of}
use Rattle.machsyms.proofs.letters.section_letters.Goals as goal

pub sections-init : goal.sections-init
sections-init g c = c.new-letters.ensures.items

pub sections-preserved : goal.sections-preserved
sections-preserved g c =
    let i = c.sections.section-index in
    let all = c.args.sections.now in
    c.in_ok-push.ensures.items ∙ ap (λ front. front ++ c.letter_of.result ∷ []) c.sections.invariant
    ∙ ap (λ letter. map letter_of (take i all) ++ letter ∷ []) c.letter_of.ensures
    ∙ sym (ap (map letter_of) (take_more all i _ c.sections-test.true) ∙ map-append letter_of (take i all) (_ ∷ []))

pub returns : goal.returns
returns g c =
    c.sections.invariant ∙ ap (map letter_of) (take_all c.sections.section-index c.args.sections.now c.sections-test.false)
