use Rattle.std.proofs.Common.{ℕ, List, ◌≡◌, ◌++◌, refl, ap, ◌∙◌, Bor}
use Rattle.std.proofs.lemmas.Fmt.{contents_after_writes}
use Rattle.std.proofs.lemmas.Result.{on_ok_weaker}
use Rattle.mach_base.specs.Words.{described, words_of}
use Rattle.mach_base.specs.declared.error.Error.{Error}
use Rattle.mach_base.specs.declared.error.Error.TheVariants as errors
use Rattle.goblin_mach_c.specs.Codes.{HasShortRule}
use Rattle.goblin_mach_c.proofs.errors.write_words.Goals as goal

is_malformed : (e : Error) → HasShortRule e → ((rule : Bor (List ℕ)) → e ≡ errors.Malformed rule → ⊥) → ⊥
is_malformed (errors.Malformed rule) short other = other rule refl
is_malformed (errors.BadMagic magic) short other = short
is_malformed (errors.Scroll why) short other = short
is_malformed (errors.BufferTooShort count what) short other = short
is_malformed (errors.Memory why) short other = short

pub returns-in_default : goal.returns-in_default
returns-in_default c =
    record {
      written = on_ok_weaker c.write.result
          (λ writes. contents_after_writes _ (λ w. w.bytes) (λ w bs v is. is) _ _ _ writes
          ∙ (ap (λ front. front ++ words_of (described c.describe.result)) c.requires ∙ ap words_of c.describe.ensures)) c.write.ensures.writes;
      rule = λ short. absurd (is_malformed c.args.error.now short c.in_default.not-Malformed);
    }
