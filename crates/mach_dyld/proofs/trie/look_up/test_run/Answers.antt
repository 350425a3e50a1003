use Rattle.mach_dyld.proofs.TrieNames.{◌∙◌, ℕ, sym, get_or, leb-true, branches_at, branches_in, Some}
use Rattle.mach_dyld.proofs.BarrenRuns.{fewer_barren, barren_read}
use Rattle.mach_dyld.proofs.LookUpSettles.{readable_as}
use Rattle.mach_dyld.proofs.trie.look_up.test_run.Goals as goal

pub returns-then-know-clause-readable : goal.returns-then-know-clause-readable
returns-then-know-clause-readable g c =
    let s = c.args.source.now in
    let list = c.args.list in
    let known : ℕ = get_or c.args.barren.now list.place 0 in
    let le = leb-true list.left known (sym c.know.ensures ∙ c.if-know.true) in
    let read = barren_read s.upto (branches_at s.bytes.now s.from list.left list.place) (fewer_barren s list.left known list.place le
    (c.requires.barren list.place)) in
    (readable_as (branches_at s.bytes.now s.from list.left list.place) read.0 read.1).0

pub returns-then-not-is_barren-clause-readable : goal.returns-then-not-is_barren-clause-readable
returns-then-not-is_barren-clause-readable g c =
    let s = c.args.source.now in
    let list = c.args.list in
    (readable_as (branches_at s.bytes.now s.from list.left list.place) (branches_in s.bytes.now s.from
    (Some c.in_ok-found.found)) c.in_ok-found.ensures.value).0

pub returns-clause-readable : goal.returns-clause-readable
returns-clause-readable g c =
    let s = c.args.source.now in
    let list = c.args.list in
    (readable_as (branches_at s.bytes.now s.from list.left list.place) (branches_in s.bytes.now s.from
    (Some c.in_ok-found.found)) c.in_ok-found.ensures.value).0
