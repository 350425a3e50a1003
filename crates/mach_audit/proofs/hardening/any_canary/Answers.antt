use Rattle.std.proofs.Common.{◌≡◌, ◌-◌, ◌∙◌, ℕ, refl, arith, rules, tests}
use Rattle.std.proofs.lemmas.Iterator.{YieldsList-from_range}
use Rattle.std.proofs.lemmas.Iterator.Search.{any_from_yields_List}
use Rattle.mach_parts.specs.Symbols.{nlist_at, symbol_place}
use Rattle.mach_parts.specs.SymbolViews.{table_of}
use Rattle.mach_audit.specs.Security.{is_canary}
use Rattle.mach_audit.proofs.hardening.any_canary.Goals as goal

pub returns : goal.returns
returns c =
    let t = table_of c.args.table.now in
    let all : c.len.result - 0 ≡ c.len.result = omega arith in
    any_from_yields_List (λ (k : ℕ). is_canary c.args.bytes.now t (nlist_at t.ctx c.args.bytes.now (symbol_place t k))) c.any.new.self _ c.any.result
    c.any.ensures.ran (YieldsList-from_range 0 c.len.result _ refl (all ∙ c.len.ensures)) (λ x b q k. search (rules, tests))
