use Rattle.mach_dyld.proofs.TrieNames.{◌≡◌, ◌+◌, ◌-◌, ◌++◌, ◌∙◌, refl, sym, ap, subst, arith, ℕ, suc, List, length, reverse, take, inl, append-nil}
use Rattle.mach_dyld.proofs.TrieNames.{err_from_is_err_and, IsUtf8, Entry, own_entries, fault_in, info_in, HasFound, node_in}
use Rattle.mach_dyld.proofs.TrieNames.{source_trie, IsEndOfWalk}
use Rattle.mach_base.proofs.Faults.{ErrorMeets-failed}
use Rattle.mach_dyld.specs.Trie as trie
use Rattle.mach_dyld.specs.Nowhere.{AreOpened}
use Rattle.std.proofs.Math.Logic.{∥∥₁_elim, ∥∥₁_map}
use Rattle.std.proofs.Math.Bridge.{le_prop}
use Rattle.std.proofs.Props.{props}
use Rattle.mach_dyld.proofs.TrieNames.{Option, Ok, IfSome, IsReadable, ◌≤◌}
use Rattle.mach_dyld.specs.declared.trie.node.Branches.{Branches}
use Rattle.mach_dyld.proofs.WalkTurns as turn
use Rattle.mach_dyld.proofs.WalkTurns.{if_some, less_passed, less_entered, one_fewer}
use Rattle.mach_dyld.proofs.trie.walk.Walker.take.Goals as goal

pub go_on-requires-clause-on : goal.go_on-requires-clause-on
go_on-requires-clause-on g c = ∥∥₁_elim c.requires (search props) (λ r. r.2.0)

pub go_on-requires-clause-between : goal.go_on-requires-clause-between
go_on-requires-clause-between g c = ∥∥₁_map c.requires (λ r. (r.0, r.1, (r.2.0, turn.passed r.2.1 (omega arith), r.2.2, r.2.3)))

pub returns-then-start-self-clause-found : goal.returns-then-start-self-clause-found
returns-then-start-self-clause-found g c = λ found n at. (
  n,
  subst (λ (es : List Entry). HasFound es n c.go_on.new.self) (sym (append-nil found))
      (c.go_on.ensures.found found n (at.0, turn.passed at.1 (omega arith), at.2, at.3)),
  refl,
)

pub read_node-requires-clause-barren : goal.read_node-requires-clause-barren
read_node-requires-clause-barren g c = λ place. ∥∥₁_elim c.requires (search props) (λ r. r.2.2 place)

pub read_node-requires-clause-room : goal.read_node-requires-clause-room
read_node-requires-clause-room g c = λ some. ∥∥₁_elim c.requires (search props) (λ r. r.2.3 some)

pub is_marked-requires : goal.is_marked-requires
is_marked-requires g c = ∥∥₁_elim c.requires le_prop (λ r. turn.within r.2.1 (omega arith))

pub mark-requires : goal.mark-requires
mark-requires g c = ∥∥₁_elim c.requires le_prop (λ r. turn.within r.2.1 (omega arith))

pub overflow_sub-start : goal.overflow_sub-start
overflow_sub-start g c = ∥∥₁_elim c.requires le_prop (λ r. turn.low r.2.1)

pub overflow_sub-start-2 : goal.overflow_sub-start-2
overflow_sub-start-2 g c = ∥∥₁_elim c.requires le_prop (λ r. turn.low r.2.1)

pub returns-then-is_marked-clause-refused : goal.returns-then-is_marked-clause-refused
returns-then-is_marked-clause-refused g c = λ found n at. record {
  fault = turn.met at.1 (omega arith) c.is_marked.ensures c.if-is_marked.true;
  ends = turn.ends_again at.1 (omega arith) c.is_marked.ensures c.if-is_marked.true;
  visited = n;
  visits = turn.visits at.1;
  few_visits = turn.few at.1;
  count = refl;
}

pub returns-in_err-extend_from_slice-clause-refused : goal.returns-in_err-extend_from_slice-clause-refused
returns-in_err-extend_from_slice-clause-refused g c =
    let p = err_from_is_err_and c.from_residual.result c.from_residual.ensures.1 in
    rw (p.1, p.2) (λ found n at. record {
      fault = tt;
      ends = tt;
      visited = n;
      visits = turn.visits at.1;
      few_visits = turn.few at.1;
      count = refl;
    })

pub returns-in_err-own-clause-refused : goal.returns-in_err-own-clause-refused
returns-in_err-own-clause-refused g c =
    let p = err_from_is_err_and c.from_residual-in_err-own.result c.from_residual-in_err-own.ensures.1 in
    rw (p.1, p.2) (λ found n at.
    let off = turn.clear at.1 (omega arith) c.is_marked.ensures c.if-is_marked.false in
    record {
      fault = ErrorMeets-failed (fault_in c.args.self.now.source) c.in_err-own.field-0.0 (node_in c.args.self.now.source c.args.self.now.next.start)
          (turn.child_fault at.1 (omega arith)) c.in_err-own.ensures.fault;
      ends = ErrorMeets-failed (IsEndOfWalk (source_trie c.args.self.now.source) c.args.self.now.source.from found) c.in_err-own.field-0.0
          (node_in c.args.self.now.source c.args.self.now.next.start) (turn.ends_at_node at.1 (omega arith)) c.in_err-own.ensures.fault;
      visited = suc n;
      visits = turn.child_visits at.1 (omega arith) off refl;
      few_visits = turn.few_with_child at.1 (omega arith) off refl;
      count = omega (arith, c.in_err-own.ensures.visits);
    })

pub go_on-requires-in_default-clause-on : goal.go_on-requires-in_default-clause-on
go_on-requires-in_default-clause-on g c = ∥∥₁_elim c.requires (search props) (λ r. r.2.0)

pub go_on-requires-in_default-clause-between : goal.go_on-requires-in_default-clause-between
go_on-requires-in_default-clause-between g c =
    let cut = c.in_ok-extend_from_slice.ensures.items ∙ ap (λ (x : List ℕ). x ++ c.as_bytes.result.now) c.truncate.ensures.items
    ∙ ap (λ (x : List ℕ). take c.args.self.now.top.name_len c.args.self.now.name.items ++ x) c.as_bytes.ensures.value in
    let node = c.in_ok-own.ensures.opened in
    let none = subst (AreOpened c.args.self.now.source node.0) c.in_default.is node.2 in
    ∥∥₁_map c.requires (λ r.
    let off = turn.clear r.2.1 (omega arith) c.is_marked.ensures c.if-is_marked.false in (
      r.0 ++ own_entries c.extend_from_slice.new.self.items (info_in c.in_ok-own.own),
      suc r.1,
      (
        r.2.0,
        turn.passed_by r.2.1 (omega arith) off cut c.mark.ensures
            (info_in c.in_ok-own.own) _ refl node.0 node.1 none,
        c.in_ok-own.ensures.barren,
        c.in_ok-own.ensures.room,
      ),
    ))

pub returns-in_default-clause-found : goal.returns-in_default-clause-found
returns-in_default-clause-found g c = λ found n at.
    let cut = c.in_ok-extend_from_slice.ensures.items ∙ ap (λ (x : List ℕ). x ++ c.as_bytes.result.now) c.truncate.ensures.items
    ∙ ap (λ (x : List ℕ). take c.args.self.now.top.name_len c.args.self.now.name.items ++ x) c.as_bytes.ensures.value in
    let off = turn.clear at.1 (omega arith) c.is_marked.ensures c.if-is_marked.false in
    let node = c.in_ok-own.ensures.opened in
    let none = subst (AreOpened c.args.self.now.source node.0) c.in_default.is node.2 in (
      suc n,
      subst (λ (x : List ℕ). HasFound (found ++ own_entries x (info_in c.in_ok-own.own)) (suc n) c.go_on-in_default.new.self)
          (sym c.go_on-in_default.ensures.name)
          (c.go_on-in_default.ensures.found (found ++ own_entries c.extend_from_slice.new.self.items (info_in c.in_ok-own.own)) (suc n) (
            at.0,
            turn.passed_by at.1 (omega arith) off cut c.mark.ensures (info_in c.in_ok-own.own) _ refl node.0 node.1 none,
            c.in_ok-own.ensures.barren,
            c.in_ok-own.ensures.room,
          )),
      omega (arith, c.in_ok-own.ensures.visits),
    )

pub returns-in_default-clause-utf8 : goal.returns-in_default-clause-utf8
returns-in_default-clause-utf8 g c =
    let cut = c.in_ok-extend_from_slice.ensures.items ∙ ap (λ (x : List ℕ). x ++ c.as_bytes.result.now) c.truncate.ensures.items
    ∙ ap (λ (x : List ℕ). take c.args.self.now.top.name_len c.args.self.now.name.items ++ x) c.as_bytes.ensures.value in
    if_some c.in_ok-own.own (∥∥₁_elim c.requires (search props)
    (λ r. subst IsUtf8 (sym (c.go_on-in_default.ensures.name ∙ cut)) (turn.utf8 r.2.1)))

pub returns-in_default-clause-less : goal.returns-in_default-clause-less
returns-in_default-clause-less g c =
    ∥∥₁_elim c.requires le_prop (λ r.
    let off = turn.clear r.2.1 (omega arith) c.is_marked.ensures c.if-is_marked.false in
    let w = c.args.self.now in
    less_passed w.over (length w.source.bytes.now) w.marks c.mark.new.self w.top (w.next.start - w.source.from) (reverse w.stack.items)
    (turn.within r.2.1 (omega arith)) off c.mark.ensures c.go_on-in_default.ensures.less)

pub returns-in_err-keep_below-clause-refused : goal.returns-in_err-keep_below-clause-refused
returns-in_err-keep_below-clause-refused g c =
    let p = err_from_is_err_and c.from_residual-in_err-keep_below.result c.from_residual-in_err-keep_below.ensures.1 in
    rw (p.1, p.2) (λ found n at.
    let off = turn.clear at.1 (omega arith) c.is_marked.ensures c.if-is_marked.false in
    record {
      fault = tt;
      ends = tt;
      visited = suc n;
      visits = turn.child_visits at.1 (omega arith) off refl;
      few_visits = turn.few_with_child at.1 (omega arith) off refl;
      count = omega (arith, c.in_ok-own.ensures.visits);
    })

pub returns-clause-found : goal.returns-clause-found
returns-clause-found g c = λ found n at.
    let cut = c.in_ok-extend_from_slice.ensures.items ∙ ap (λ (x : List ℕ). x ++ c.as_bytes.result.now) c.truncate.ensures.items
    ∙ ap (λ (x : List ℕ). take c.args.self.now.top.name_len c.args.self.now.name.items ++ x) c.as_bytes.ensures.value in
    let off = turn.clear at.1 (omega arith) c.is_marked.ensures c.if-is_marked.false in
    let s = c.args.self.now.source in
    let node = c.in_ok-own.ensures.opened in
    let all = subst (AreOpened s node.0) c.in-Some.is node.2 in
    let there = subst (λ (bs : List trie.Branch). node_in s c.args.self.now.next.start ≡ Ok (record { own = info_in c.in_ok-own.own; branches = bs })) all.0
    node.1 in
    let readable = subst (λ (bs : Option Branches). IfSome bs (λ b. IsReadable s.bytes.now s.from b.following)) c.in-Some.is c.in_ok-own.ensures.readable in (
      suc n,
      inl (
        at.0,
        (turn.entered at.1 (omega arith) off cut c.mark.ensures (info_in c.in_ok-own.own) _ refl c.in-Some.branches there readable
            c.len-name_len.result
            (omega (arith, c.extend_from_slice.new.self.ok.0, c.len-name_len.ensures)) (reverse c.keep_below.new.stack.items)
            c.in_ok-keep_below.ensures.kept c.in_ok-keep_below.ensures.used_up),
        c.in_ok-own.ensures.barren,
        c.in_ok-own.ensures.room,
      ),
      omega (arith, c.in_ok-own.ensures.visits),
    )

pub returns-clause-utf8 : goal.returns-clause-utf8
returns-clause-utf8 g c =
    let cut = c.in_ok-extend_from_slice.ensures.items ∙ ap (λ (x : List ℕ). x ++ c.as_bytes.result.now) c.truncate.ensures.items
    ∙ ap (λ (x : List ℕ). take c.args.self.now.top.name_len c.args.self.now.name.items ++ x) c.as_bytes.ensures.value in
    if_some c.in_ok-own.own (∥∥₁_elim c.requires (search props) (λ r. subst IsUtf8 (sym cut) (turn.utf8 r.2.1)))

pub returns-clause-less : goal.returns-clause-less
returns-clause-less g c =
    ∥∥₁_elim c.requires le_prop (λ r.
    let off = turn.clear r.2.1 (omega arith) c.is_marked.ensures c.if-is_marked.false in
    let few = subst (λ (bs : Option Branches). IfSome bs (λ b. b.following.left + 1 ≤ length c.args.self.now.source.bytes.now)) c.in-Some.is
    c.in_ok-own.ensures.few in
    let w = c.args.self.now in
    less_entered w.over (length w.source.bytes.now) w.marks c.mark.new.self w.top
    (record { left = c.in-Some.branches.following.left; place = c.in-Some.branches.following.place; name_len = c.len-name_len.result })
    (w.next.start - w.source.from) (reverse w.stack.items) (reverse c.keep_below.new.stack.items) r.2.0 (omega (arith, few)) (turn.within
    r.2.1 (omega arith)) off c.mark.ensures
    c.in_ok-keep_below.ensures.kept c.in_ok-keep_below.ensures.used_up)

pub returns-in_err-extend_from_slice-clause-few : goal.returns-in_err-extend_from_slice-clause-few
returns-in_err-extend_from_slice-clause-few g c =
    let one = one_fewer c.args.self.now c.requires (omega arith) c.is_marked.ensures c.if-is_marked.false c.mark.ensures in
    omega arith

pub returns-in_err-extend_from_slice-clause-counted : goal.returns-in_err-extend_from_slice-clause-counted
returns-in_err-extend_from_slice-clause-counted g c =
    let one = one_fewer c.args.self.now c.requires (omega arith) c.is_marked.ensures c.if-is_marked.false c.mark.ensures in
    let p = err_from_is_err_and c.from_residual.result c.from_residual.ensures.1 in
    rw p.1 (omega (arith, one))

pub returns-in_err-own-clause-few : goal.returns-in_err-own-clause-few
returns-in_err-own-clause-few g c =
    let one = one_fewer c.args.self.now c.requires (omega arith) c.is_marked.ensures c.if-is_marked.false c.mark.ensures in
    omega (arith, c.in_err-own.ensures.visits)

pub returns-in_err-own-clause-counted : goal.returns-in_err-own-clause-counted
returns-in_err-own-clause-counted g c =
    let one = one_fewer c.args.self.now c.requires (omega arith) c.is_marked.ensures c.if-is_marked.false c.mark.ensures in
    omega (arith, c.in_err-own.ensures.visits)

pub returns-in_default-clause-few : goal.returns-in_default-clause-few
returns-in_default-clause-few g c =
    let one = one_fewer c.args.self.now c.requires (omega arith) c.is_marked.ensures c.if-is_marked.false (c.go_on-in_default.ensures.marks ∙ c.mark.ensures) in
    omega (arith, c.in_ok-own.ensures.visits)

pub returns-in_default-clause-counted : goal.returns-in_default-clause-counted
returns-in_default-clause-counted g c =
    let one = one_fewer c.args.self.now c.requires (omega arith) c.is_marked.ensures c.if-is_marked.false (c.go_on-in_default.ensures.marks ∙ c.mark.ensures) in
    omega (arith, c.in_ok-own.ensures.visits)

pub returns-in_err-keep_below-clause-few : goal.returns-in_err-keep_below-clause-few
returns-in_err-keep_below-clause-few g c =
    let one = one_fewer c.args.self.now c.requires (omega arith) c.is_marked.ensures c.if-is_marked.false c.mark.ensures in
    omega (arith, c.in_ok-own.ensures.visits)

pub returns-in_err-keep_below-clause-counted : goal.returns-in_err-keep_below-clause-counted
returns-in_err-keep_below-clause-counted g c =
    let one = one_fewer c.args.self.now c.requires (omega arith) c.is_marked.ensures c.if-is_marked.false c.mark.ensures in
    omega (arith, c.in_ok-own.ensures.visits)

pub returns-clause-few : goal.returns-clause-few
returns-clause-few g c =
    let one = one_fewer c.args.self.now c.requires (omega arith) c.is_marked.ensures c.if-is_marked.false c.mark.ensures in
    omega (arith, c.in_ok-own.ensures.visits)

pub returns-clause-counted : goal.returns-clause-counted
returns-clause-counted g c =
    let one = one_fewer c.args.self.now c.requires (omega arith) c.is_marked.ensures c.if-is_marked.false c.mark.ensures in
    omega (arith, c.in_ok-own.ensures.visits)
