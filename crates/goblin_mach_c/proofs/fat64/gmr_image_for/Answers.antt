use Rattle.std.proofs.Common.{◌≡◌, List, ℕ, Some, length, sym, ap, ◌∙◌, subst}
use Rattle.goblin_mach_c.specs.Codes.{HasErrorWords, outside_entry_words}
use Rattle.goblin_mach_c.specs.WideFatRows.{image_for, image_refusal_words}
use Rattle.goblin_mach_c.proofs.fat64.gmr_image_for.Goals as goal

pub returns-then-row-ne-GM_OK-clause-words : goal.returns-then-row-ne-GM_OK-clause-words
returns-then-row-ne-GM_OK-clause-words c = λ _.
    let len = length c.args.bytes.now in
    let found : image_for c.args.cputype c.args.cpusubtype c.args.bytes.now ≡ Some (c.in-Some.index, c.in-Some.row) =
    sym c.find_image.ensures ∙ c.in-Some.is in
    let said : outside_entry_words c.outside_row-outside.result ≡ image_refusal_words len (image_for c.args.cputype c.args.cpusubtype c.args.bytes.now) =
    ap outside_entry_words c.outside_row-outside.ensures ∙ sym (ap (image_refusal_words len) found) in
    subst (λ (words : List ℕ). HasErrorWords words c.refuse_outside.new.out.text) said c.refuse_outside.ensures.words
