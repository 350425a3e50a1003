use Rattle.std.proofs.Common.{ℕ, ◌-◌, ◌∷◌, length, Ok, sym, ap, ◌∙◌, arith}
use Rattle.mach_base.specs.Fault.{fault_of}
use Rattle.mach_archive.specs.ArchiveViews.{header_view, member_view, names_view}
use Rattle.mach_archive.specs.MemberHeaders.{next_header}
use Rattle.mach_archive.specs.Members.{MemberView, members_from}
use Rattle.mach_archive.proofs.MembersRead.{none_left, first_left, fault_left}
use Rattle.mach_archive.proofs.SymbolsRead.{fewer_after}
use Rattle.mach_archive.proofs.members.MembersIterator.next.Goals as goal

pub returns-then-self-clause-steps : goal.returns-then-self-clause-steps
returns-then-self-clause-steps c =
    let it = c.args.self.now in
    let none = none_left it.bytes.now (names_view it.names) it.place (omega arith) in (none, none)

pub returns-in-Ok-clause-steps : goal.returns-in-Ok-clause-steps
returns-in-Ok-clause-steps c =
    let it = c.args.self.now in
    let bytes = it.bytes.now in
    let names = names_view it.names in
    first_left bytes names it.place (header_view c.in-Ok.header) (omega arith) c.in-Ok.ensures.header
    ∙ (ap (λ (m : MemberView). Ok m ∷ members_from bytes names (length bytes - next_header (header_view c.in-Ok.header)) (next_header (header_view
    c.in-Ok.header)))
    (sym c.of.ensures)
    ∙ ap (λ (place : ℕ). Ok (member_view c.of.result) ∷ members_from bytes names (length bytes - place) place) (sym c.next-self.ensures))

pub returns-in-Ok-clause-goes : goal.returns-in-Ok-clause-goes
returns-in-Ok-clause-goes c =
    record {
      on = λ _. (tt, tt, fewer_after _ _ _ (returns-in-Ok-clause-steps c));
      keeps = tt;
      rests = λ _. tt;
    }

pub returns-in-Err-clause-steps : goal.returns-in-Err-clause-steps
returns-in-Err-clause-steps c =
    let it = c.args.self.now in
    fault_left it.bytes.now (names_view it.names) it.place (fault_of c.in-Err.e) (omega arith) c.in-Err.ensures.header

pub returns-in-Err-clause-goes : goal.returns-in-Err-clause-goes
returns-in-Err-clause-goes c =
    record {
      on = λ _. (tt, tt, fewer_after _ _ _ (returns-in-Err-clause-steps c));
      keeps = tt;
      rests = λ _. tt;
    }
