use Rattle.std.proofs.Common.{rules, ◌≡◌, ◌∙◌, ℕ, false, refl, ap}
use Rattle.std.specs.Prelude.{◌==◌}
use Rattle.mach_cli.specs.TableEntries.{left_out_words}
use Rattle.machsign.specs.Entitlements.{none_words}
use Rattle.machsign.proofs.entitlements.reason_of_none.Goals as goal

words_of_more : (n : ℕ) → (n == 0) ≡ false → left_out_words n ≡ none_words n
words_of_more n more = rw more refl

pub returns-else-left_out-eq0 : goal.returns-else-left_out-eq0
returns-else-left_out-eq0 g c =
    let more : (c.entry_counts-left_out.result.left_out == 0) ≡ false = search rules in
    words_of_more c.entry_counts-left_out.result.left_out more ∙ ap (λ counts. none_words counts.left_out) c.entry_counts-left_out.ensures
