use Rattle.std.proofs.Common.{◌≡◌, refl}
use Rattle.goblin_mach.specs.ImageSlots.{symbol_table_view}
use Rattle.goblin_mach.specs.OpenImage.{commands_view}
use Rattle.mach_audit.specs.States.{state_of_commands}
use Rattle.machinfo.proofs.Some.{some, some_more}
use Rattle.machinfo.proofs.members.write_front.Goals as goal

pub returns-clause-written : goal.returns-clause-written
returns-clause-written g c =
    some_more c.in_ok-write_header.ensures
    (some_more c.in_ok-write_flags.ensures
    (some_more c.in_ok-entry.ensures.written
    (some_more c.in_ok-lists.ensures.written
    (some_more c.in_ok-signature.ensures.written (some_more (some _ c.in_ok-write.ensures.bytes) c.in_ok-write_state.ensures)))))

pub returns-clause-status : goal.returns-clause-status
returns-clause-status g c = λ bytes opened.
    let m = c.args.image.now in
    let entry = c.in_ok-entry.ensures.status bytes opened in
    let lists = c.in_ok-lists.ensures.status in
    let state : c.state_of-state.result ≡ state_of_commands (commands_view m) (symbol_table_view m) = c.state_of-state.ensures in
    record {
      rows = entry.0;
      past = entry.1;
      has_rows = entry.2;
      is_whole = rw (entry.3, lists.whole, lists.more, c.in_ok-signature.ensures.status, state) refl;
    }
