use Rattle.std.proofs.Common.{List, ℕ, subst}
use Rattle.mach_dyld.proofs.LookUps.{ok_in}
use Rattle.goblin_mach.specs.OpenImage.{commands_view}
use Rattle.machinfo.specs.ImageLines.{AreItemMembers}
use Rattle.machinfo.specs.Lists.{OfRows}
use Rattle.machinfo.proofs.json.write_rows.Goals as goal

pub returns : goal.returns
returns g c = λ bytes opened.
    ok_in c.use_list.result _ _ (λ outcome written. (
      written.0,
      record {
        opens = (opened.ctx, commands_view c.args.image.now, opened.opens);
        members = subst (λ (name : List ℕ). OfRows c.args.word bytes (λ rows past. AreItemMembers name c.args.left rows past written.0 outcome.whole
            outcome.left)) c.name-name.ensures written.1;
      },
      written.2,
    )) (c.use_list.ensures bytes opened)
