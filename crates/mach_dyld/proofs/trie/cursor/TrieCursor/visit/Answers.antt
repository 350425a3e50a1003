use Rattle.std.proofs.Common.{arith, refl, ◌∙◌, ap}
use Rattle.mach_dyld.proofs.TrieNames.{append-nil, subst, ℕ, List, Entry, Ok, Option, info_in, node_at, texts, fault_of, branches_of, trie_range_of}
use Rattle.mach_dyld.specs.declared.export_info.ExportInfo.{ExportInfo}
use Rattle.mach_dyld.specs.CursorState.{HasCome}
use Rattle.mach_dyld.proofs.CursorTurns.{passes, cut_by_count, cut_by_node, comes_next, enters}
use Rattle.mach_dyld.proofs.trie.cursor.TrieCursor.visit.Goals as goal

pub returns-then-start-source-clause-gives : goal.returns-then-start-source-clause-gives
returns-then-start-source-clause-gives c = λ found at. passes at (omega arith) _ refl refl refl refl refl

pub returns-then-self-eq0-clause-gives : goal.returns-then-self-eq0-clause-gives
returns-then-self-eq0-clause-gives c = λ found at. rw c.refuse.ensures.refused (cut_by_count at (omega arith) c.if-self-eq0.true)

pub returns-in-Err-clause-gives : goal.returns-in-Err-clause-gives
returns-in-Err-clause-gives c = λ found at.
    rw c.refuse-in-Err.ensures.refused (cut_by_node at (omega arith) (fault_of c.in-Err.e) c.in-Err.ensures.node)

pub returns-in-Some-clause-gives : goal.returns-in-Some-clause-gives
returns-in-Some-clause-gives c = λ found at.
    let e = c.enter.ensures in
    let text = rw c.as_bytes.ensures.value at c.put_label.ensures.text in (
      rw (c.in-Some.is) at (enters at (omega arith) c.enter.new.self c.put_label.new.name c.enter.new.stack (info_in c.in-Ok.node.0) c.in-Ok.node.1
          c.in-Ok.ensures.node c.in-Ok.ensures.readable (omega arith) c.put_label.ensures.len text e.way e.visits (omega arith) e.kept e.leaf (omega arith)
          e.over e.in_place),
      comes_next at c.enter.new.self c.put_label.new.name (omega arith) text e.node,
    )

pub returns-in-None-clause-gives : goal.returns-in-None-clause-gives
returns-in-None-clause-gives c = λ found at.
    let e = c.enter.ensures in
    subst (λ (es : List Entry). HasCome (trie_range_of c.args.source.now) (texts c.args.source.now.libs.now) c.enter.new.self c.put_label.new.name
    c.enter.new.stack es) (append-nil found)
    (rw (c.in-None.is) at (enters at (omega arith) c.enter.new.self c.put_label.new.name c.enter.new.stack (info_in c.in-Ok.node.0) c.in-Ok.node.1
    c.in-Ok.ensures.node c.in-Ok.ensures.readable (omega arith)
    c.put_label.ensures.len (rw c.as_bytes.ensures.value at c.put_label.ensures.text) e.way e.visits (omega arith) e.kept e.leaf (omega arith) e.over
    e.in_place))

pub returns-in-Some-clause-placed : goal.returns-in-Some-clause-placed
returns-in-Some-clause-placed c =
    let s = c.args.source.now in
    let branches = branches_of s.bytes.now s.from c.in-Ok.node.1 in (
      branches,
      ap (λ (n : ℕ). node_at s.bytes.now (texts s.libs.now) s.from n) c.enter.ensures.node ∙ c.in-Ok.ensures.node
          ∙ ap (λ (o : Option ExportInfo). Ok (record { own = info_in o; branches = branches })) c.in-Some.is,
    )
