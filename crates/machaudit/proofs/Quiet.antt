-- The line of a file under `--quiet` is one line.
use Rattle.std.proofs.Common.{◌≡◌, ◌++◌, ℕ, List, true, refl, rules}
use Rattle.std.specs.Prelude.{codes}
use Rattle.mach_cli.proofs.OneLine.{no_feeds, line-end, line-more}
use Rattle.mach_cli.specs.Escapes.{IsOneLine, escaped_text, has_no_feed}
use Rattle.mach_audit.specs.Verdicts.{verdict_words}
use Rattle.machaudit.specs.Quiet.{quiet_line}
use Rattle.mach_audit.specs.declared.verdict.Soundness.TheVariants.{Sound, Unended, Faulty}
use Rattle.mach_audit.specs.declared.verdict.Soundness.{Soundness}

no_feed-verdict : (v : Soundness) → has_no_feed (verdict_words v) ≡ true
no_feed-verdict Sound = refl
no_feed-verdict Unended = refl
no_feed-verdict Faulty = refl

no_feed-name : (name : List ℕ) → has_no_feed (escaped_text name) ≡ true
no_feed-name name = search (no_feeds, rules)

pub one_line : (name : List ℕ) (v : Soundness) → IsOneLine (quiet_line name v)
one_line name v =
    let end = line-more (codes ": ") (verdict_words v ++ codes "\n") refl (line-end (verdict_words v) (no_feed-verdict v)) in
    line-more (escaped_text name) (codes ": " ++ (verdict_words v ++ codes "\n")) (no_feed-name name) end
