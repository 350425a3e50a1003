use Rattle.std.proofs.Common.{◌≡◌, ◌∙◌, ℕ, List, [], false, Option, Some, None, Result, ap, sym, refl}
use Rattle.std.specs.Option.{is_some}
use Rattle.std.specs.Prelude.{not}
use Rattle.mach_base.specs.Fault.{Fault}
use Rattle.mach_base.specs.declared.error.Error.{Error}
use Rattle.goblin_mach.specs.ImageFacts.{facts_view}
use Rattle.goblin_mach.specs.declared.initializers.Initializer.{Initializer}
use Rattle.machinfo.specs.Initializers.{init_fields, init_rows_left, symbol_by_facts}
use Rattle.machinfo.specs.RowFields.{fields_read}
use Rattle.machinfo.proofs.Facts.{init_fields_are}
use Rattle.machinfo.proofs.initializers.InitList.of.Goals as goal

no_first : (first : Option (Result Initializer Error)) → is_some first ≡ false → first ≡ None
no_first None e = refl
no_first (Some item) e = absurd (cc)

-- without initializers no symbols are needed
no_fields : (seen there : ℕ → Option (List ℕ × ℕ)) (items : List (Result Initializer Fault)) → items ≡ []
    → fields_read (init_fields seen) items ≡ fields_read (init_fields there) items
no_fields seen there items none = ap (fields_read (init_fields seen)) none ∙ sym (ap (fields_read (init_fields there)) none)

pub returns-then-is_none : goal.returns-then-is_none
returns-then-is_none g c = λ bytes opened.
    let m = c.args.image.now in
    let items = init_rows_left c.of-rows.result in
    init_fields_are m bytes 0 opened items c.of-rows.ensures.listed _
    (no_fields (λ address. None) (symbol_by_facts (facts_view m)) items
    (c.of-rows.ensures.none (no_first c.of-rows.result.first (c.is_none.ensures ∙ ap not c.if-is_none.true))))

pub returns-in-Ok : goal.returns-in-Ok
returns-in-Ok g c = λ bytes opened.
    let items = init_rows_left c.of-rows.result in
    init_fields_are c.args.image.now bytes 0 opened items c.of-rows.ensures.listed _
    (ap (λ m. fields_read (init_fields (symbol_by_facts (facts_view m))) items) c.in-Ok.ensures.mapped)
