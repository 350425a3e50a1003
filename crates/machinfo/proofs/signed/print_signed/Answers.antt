use Rattle.std.proofs.Common.{refl, ap, ◌∙◌}
use Rattle.mach_base.proofs.ItemLists.{read_as-Reads}
use Rattle.machinfo.specs.Signed.{is_readable, signature_answer_text}
use Rattle.machinfo.proofs.signed.print_signed.Goals as goal

pub returns : goal.returns
returns g c =
    let answer = c.code_directory-directory.result in (
      c.is_readable.ensures ∙ ap is_readable (read_as-Reads _ _ _ c.code_directory-directory.ensures),
      record {
        text = signature_answer_text answer;
        lines = record { answer = answer; reads = c.code_directory-directory.ensures; is_text = refl };
        written = c.in_ok-print_answer.ensures;
      },
    )
