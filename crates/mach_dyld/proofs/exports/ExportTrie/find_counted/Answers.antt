use Rattle.std.proofs.Common.{[], List, ℕ, subst}
use Rattle.std.specs.Prelude.{IfOk, IfErr, option_map}
use Rattle.mach_base.specs.Answer.{ErrorMeets}
use Rattle.mach_dyld.specs.Exports.{info_of}
use Rattle.mach_base.specs.Text.{texts}
use Rattle.mach_dyld.specs.Finds.{Finds}
use Rattle.mach_dyld.specs.LookUp.{FaultOnWay}
use Rattle.mach_dyld.specs.TrieRange.{TrieRange, trie_there}
use Rattle.mach_dyld.proofs.LookUpPaths.{occurs_in_trie}
use Rattle.mach_dyld.proofs.LookUps.{is_answer_for, first_of, ok_in}
use Rattle.mach_dyld.proofs.TrieRanges.{ok_where_listed}
use Rattle.mach_dyld.proofs.exports.ExportTrie.find_counted.Goals as goal

pub returns-clause-occurs : goal.returns-clause-occurs
returns-clause-occurs g c =
    let found = subst (λ (t : TrieRange). IfOk c.look_up.result (λ o. Finds (trie_there t (texts c.args.libs.now)) t.from c.as_bytes.result.now
    (option_map info_of o)))
    c.self.view_is c.look_up.ensures.found in
    let there = subst (λ (n : List ℕ). IfOk c.look_up.result (λ o. Finds (trie_there c.args.self.now (texts c.args.libs.now)) c.args.self.now.from n
    (option_map info_of o)))
    c.as_bytes.ensures.value found in
    ok_in c.look_up.result _ _
    (λ o f. is_answer_for (trie_there c.args.self.now (texts c.args.libs.now)) c.args.self.now.from c.args.name.now (option_map info_of o) f) there

pub returns-clause-listed : goal.returns-clause-listed
returns-clause-listed g c = λ list exports.
    let found = subst (λ (t : TrieRange). IfOk c.look_up.result (λ o. Finds (trie_there t (texts c.args.libs.now)) t.from c.as_bytes.result.now
    (option_map info_of o)))
    c.self.view_is c.look_up.ensures.found in
    let there = subst (λ (n : List ℕ). IfOk c.look_up.result (λ o. Finds (trie_there c.args.self.now (texts c.args.libs.now)) c.args.self.now.from n
    (option_map info_of o)))
    c.as_bytes.ensures.value found in
    ok_in c.look_up.result _ _
    (λ o f. first_of (trie_there c.args.self.now (texts c.args.libs.now)) c.args.self.now.from [] c.args.name.now list (option_map info_of o) f exports.1) there

pub returns-clause-on_way : goal.returns-clause-on_way
returns-clause-on_way g c =
    let there = subst (λ (t : TrieRange). IfErr c.look_up.result (ErrorMeets (FaultOnWay (trie_there t (texts c.args.libs.now)) t.from
    c.as_bytes.result.now))) c.self.view_is c.look_up.ensures.refused in
    subst (λ (n : List ℕ). IfErr c.look_up.result (ErrorMeets (FaultOnWay (trie_there c.args.self.now (texts c.args.libs.now)) c.args.self.now.from n)))
    c.as_bytes.ensures.value there

pub returns-clause-refused : goal.returns-clause-refused
returns-clause-refused g c =
    occurs_in_trie (trie_there c.args.self.now (texts c.args.libs.now)) c.args.self.now.from c.args.name.now c.look_up.result (returns-clause-on_way g c)

pub returns-clause-only : goal.returns-clause-only
returns-clause-only g c = λ list exports.
    ok_where_listed c.look_up.result c.args.self.now (texts c.args.libs.now) list (returns-clause-refused g c) exports
