use Rattle.std.proofs.Common.{◌≡◌, ◌∙◌, arith, true, sym, ap, length}
use Rattle.std.proofs.lemmas.Grind.{common_steps}
use Rattle.std.specs.List.{list_all}
use Rattle.std.specs.Str.{chars}
use Rattle.mach_cli.specs.Escapes.{escaped_text, is_visible}
use Rattle.mach_cli.specs.declared.escaped.Style.TheVariants.{Name}
use Rattle.mach_cli.proofs.Written.{visible_chars, written_plain}
use Rattle.mach_cli.proofs.escaped.print_wide_escaped.Goals as goal

pub returns-then-are_visible : goal.returns-then-are_visible
returns-then-are_visible g c =
    let name = c.args.name.now in
    let all : list_all (is_visible Name) name ≡ true =
    sym (ap (list_all (is_visible Name)) c.as_bytes.ensures.value) ∙ sym c.are_visible.ensures ∙ c.if-are_visible.true in
    let text : name ≡ escaped_text name = written_plain Name name all in
    let len : length (chars name) ≡ length name = visible_chars Name name all in
    let same = c.as_bytes-then-are_visible.ensures.value in
    rw (len, ← text) (grind (arith, common_steps))
