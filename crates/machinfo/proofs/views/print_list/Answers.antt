use Rattle.std.proofs.Common.{◌∙◌, Bool, subst, sym}
use Rattle.std.specs.Prelude.{codes, if◌then◌else◌}
use Rattle.mach_cli.specs.Fields.{fields_line, fields_pairs}
use Rattle.mach_dyld.proofs.LookUps.{ok_in}
use Rattle.goblin_mach.specs.OpenImage.{commands_view}
use Rattle.machinfo.specs.ListLines.{AreRowLines}
use Rattle.machinfo.proofs.views.print_list.Goals as goal

pub returns-then-has_names : goal.returns-then-has_names
returns-then-has_names g c = λ bytes opened.
    ok_in c.use_list.result _ _ (λ outcome listed. let named = rw c.past_name-past_name.ensures at listed.1 in (
      listed.0,
      record {
        opens = (opened.ctx, commands_view c.args.image.now, opened.opens);
        lines = subst (λ (is_so : Bool). AreRowLines c.args.word (if is_so then fields_pairs else fields_line) (codes "refused") c.args.limit c.args.left bytes
            listed.0 outcome.whole outcome.left) (sym c.if-has_names.true ∙ c.has_names.ensures) named;
      },
      listed.2,
    )) (c.use_list.ensures bytes opened)

pub returns-else-has_names : goal.returns-else-has_names
returns-else-has_names g c = λ bytes opened.
    ok_in c.use_list-else-has_names.result _ _ (λ outcome listed. let named = rw c.past_name-past_name.ensures at listed.1 in (
      listed.0,
      record {
        opens = (opened.ctx, commands_view c.args.image.now, opened.opens);
        lines = subst (λ (is_so : Bool). AreRowLines c.args.word (if is_so then fields_pairs else fields_line) (codes "refused") c.args.limit c.args.left bytes
            listed.0 outcome.whole outcome.left) (sym c.if-has_names.false ∙ c.has_names.ensures) named;
      },
      listed.2,
    )) (c.use_list-else-has_names.ensures bytes opened)
