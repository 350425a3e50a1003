use Rattle.std.proofs.Common.{◌∙◌, ap, Ok}
use Rattle.mach_chained.specs.Fixups.{ends_of}
use Rattle.mach_chained.specs.WalkViews.{fixup_input_of, span_view, span_option_view}
use Rattle.mach_chained.proofs.Opened.{opens_again}
use Rattle.mach_chained.proofs.source.Source.span_again.Goals as goal

pub returns-in-Ok-Some-clause-known : goal.returns-in-Ok-Some-clause-known
returns-in-Ok-Some-clause-known c =
    opens_again (fixup_input_of c.args.self.now) (ends_of (span_view c.before_all.result)) c.args.number (span_view c.in-Ok-Some.span)
    (c.in-Ok-Some.ensures ∙ ap (λ o. Ok (span_option_view o)) c.in-Ok-Some.field-0-is)
