use Rattle.std.proofs.Common.{◌∙◌, ◌-◌, ◌∷◌, refl, sym, ap, arith}
use Rattle.mach_load.specs.Variants.{command_of}
use Rattle.goblin_mach_c.specs.CommandRows.{readable_commands_from}
use Rattle.goblin_mach_c.proofs.CommandLists.{first_command, no_command, none_from}
use Rattle.goblin_mach_c.proofs.commands.Commands.next_command.Goals as goal

pub returns-then-self-eq0 : goal.returns-then-self-eq0
returns-then-self-eq0 c =
    let it = c.args.self.now in
    let none = none_from it.le it.bytes.now it.place it.count (let t = c.if-self-eq0.true in omega (arith, t)) in
    (none, none)

pub returns-in-Ok : goal.returns-in-Ok
returns-in-Ok c =
    let it = c.args.self.now in
    first_command it.le it.bytes.now it.place it.count (command_of c.in-Ok.command) (let t = c.if-self-eq0.false in omega (arith, t))
    c.in-Ok.ensures.found
    ∙ ap (λ place. command_of c.in-Ok.command ∷ readable_commands_from it.le it.bytes.now place (it.count - 1)) (sym c.in-Ok.ensures.moved)

pub returns-in-Err : goal.returns-in-Err
returns-in-Err c =
    let it = c.args.self.now in
    (no_command it.le it.bytes.now it.place it.count _ c.in-Err.ensures.found, none_from it.le it.bytes.now c.parse.new.offset 0 refl)
