use Rattle.std.proofs.Common.{◌≡◌, ◌∙◌, rules, true, sym, ap}
use Rattle.std.specs.List.{list_all}
use Rattle.mach_cli.specs.Escapes.{is_visible}
use Rattle.mach_cli.proofs.Written.{written_plain}
use Rattle.mach_cli.proofs.escaped.print_written.Goals as goal

pub returns-then-are_visible : goal.returns-then-are_visible
returns-then-are_visible g c =
    let all : list_all (is_visible c.args.style) c.args.text.now ≡ true =
    sym (ap (list_all (is_visible c.args.style)) c.as_bytes.ensures.value) ∙ sym c.are_visible.ensures ∙ c.if-are_visible.true in
    let text = written_plain c.args.style c.args.text.now all in
    rw (← text) (search rules)
