use Rattle.std.proofs.Common.{◌∙◌, subst, sym, List, ℕ}
use Rattle.std.proofs.lemmas.Result.{on_ok_weaker}
use Rattle.std.specs.Io.KnownBytes.{Appends}
use Rattle.machsign.proofs.RequirementObjects.{simple_object, other_object}
use Rattle.machsign.proofs.Written.{three}
use Rattle.machsign.proofs.requirement_lines.write_requirement.Goals as goal

pub returns-then-is_simple : goal.returns-then-is_simple
returns-then-is_simple g c =
    on_ok_weaker c.write.result
    (λ last. subst (λ (text : List ℕ). Appends (g.O.Write.contents c.args.out.now) (g.O.Write.contents c.write.new.self) text)
    (simple_object c.args.requirement.bytes.now _ _ c.text-text.ensures.0 c.text-text.ensures.1 (sym c.is_simple.ensures ∙ c.if-is_simple.true)) last)
    c.write.ensures.bytes

pub returns : goal.returns
returns g c =
    on_ok_weaker c.write-3.result
    (λ last. subst (λ (text : List ℕ). Appends (g.O.Write.contents c.args.out.now) (g.O.Write.contents c.write-3.new.self) text)
    (other_object c.args.requirement.bytes.now (sym c.is_simple.ensures ∙ c.if-is_simple.false))
    (three _ _ _ _ _ _ _ c.in_ok-write.ensures.bytes c.in_ok-print_bytes.ensures last))
    c.write-3.ensures.bytes
