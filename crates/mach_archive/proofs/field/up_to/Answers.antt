use Rattle.std.proofs.Common.{◌∙◌, ap, take, ℕ}
use Rattle.mach_base.proofs.Runs.{first_len}
use Rattle.memchr.specs.Find.{is_byte}
use Rattle.mach_archive.proofs.field.up_to.Goals as goal

pub returns-clause-run : goal.returns-clause-run
returns-clause-run c =
    let bytes = c.args.bytes.now in
    ap (λ (n : ℕ). take n bytes) (c.unwrap_or.ensures ∙ first_len (is_byte c.args.end) bytes c.memchr.result c.memchr.ensures)
