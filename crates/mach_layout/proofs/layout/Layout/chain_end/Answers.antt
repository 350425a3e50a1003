use Rattle.std.proofs.Common.{ℕ, ◌+◌, ◌^◌, ◌-◌, min, None, ap, sym, ◌∙◌}
use Rattle.std.specs.Option.{option_copied}
use Rattle.mach_load.specs.Variants.{command_of}
use Rattle.mach_layout.specs.Laid.{end_or, header_len, laid_of}
use Rattle.mach_layout.proofs.Chains.{last_outcome}
use Rattle.mach_layout.proofs.layout.Layout.chain_end.Goals as goal

pub returns-in-Some : goal.returns-in-Some
returns-in-Some c =
    let command = c.in-Some.command.now in
    let laid = laid_of c.args.self.now in
    c.saturating_add.ensures
    ∙ ap (λ (n : ℕ). min (command.offset + n) (2 ^ 64 - 1)) c.cmdsize.ensures.value
    ∙ ap (λ last. min (end_or (header_len laid) last) (2 ^ 64 - 1))
    (sym (last_outcome command_of None c.args.self.now.commands.now command (sym c.last.ensures.value ∙ ap option_copied c.in-Some.is)))
