use Rattle.std.proofs.Common.{rules, ◌≡◌, List, ℕ, inr, refl, subst}
use Rattle.mach_base.specs.Fault.{malformed}
use Rattle.goblin_mach.specs.LookedUpFacts.{HasSymbolsNamed}
use Rattle.goblin_mach.specs.NamedLeft.{named_left}
use Rattle.goblin_mach_c.specs.Fill.{Fills}
use Rattle.goblin_mach_c.proofs.symbols_named.gmr_symbols_named.Goals as goal

pub returns-in_default-clause-refused : goal.returns-in_default-clause-refused
returns-in_default-clause-refused c = λ _ _.
    record { fault = malformed; is_code = c.refuse.ensures.code; occurs = inr (inr (refl, c.in_default.ensures.cases.0)) }

pub returns-in-Ok-open-clause-written : goal.returns-in-Ok-open-clause-written
returns-in-Ok-open-clause-written c = λ _.
    let bytes = c.args.bytes.now in
    let offset = c.args.image.now.offset in
    let symbols = named_left c.symbols_named.result in
    let same : c.in-Ok.name.now ≡ c.args.name.now = search rules in
    let law = (c.named_symbols_of_image.ensures c.in-Ok.name.now).lossy bytes offset c.in-Ok-open.ensures.opened symbols in
    record {
      symbols = symbols;
      has = subst (λ (name : List ℕ). HasSymbolsNamed bytes offset name symbols) same (law.1 c.symbols_named.ensures);
      rows = subst (λ l. Fills l c.args.out.now c.fill.new.out c.fill.result) c.skip.ensures c.fill.ensures.filled;
    }
