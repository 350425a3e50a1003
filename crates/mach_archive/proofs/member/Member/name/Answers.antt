use Rattle.std.proofs.Common.{ap, ◌∙◌}
use Rattle.mach_base.specs.Answer.{◌>>=◌}
use Rattle.mach_archive.specs.MemberNames.{text_or_fault}
use Rattle.mach_archive.proofs.HeadersRead.{text_is, text_is_none}
use Rattle.mach_archive.proofs.member.Member.name.Goals as goal

pub returns-in-Ok : goal.returns-in-Ok
returns-in-Ok c =
    ap (λ r. r >>= text_or_fault) c.in_ok-name.ensures ∙ text_is c.in_ok-name.name.now c.in-Ok.text.now c.in-Ok.ensures.cases

pub returns-in-Err : goal.returns-in-Err
returns-in-Err c =
    ap (λ r. r >>= text_or_fault) c.in_ok-name.ensures ∙ text_is_none c.in_ok-name.name.now c.in-Err.ensures.cases.0
