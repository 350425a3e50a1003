-- The names that several proofs use, by the modules that define them.
pub use Rattle.std.proofs.Common.{◌≡◌, ℕ, ◌+◌, ◌<◌, ◌^◌, List, [], ◌∷◌, map, Bool, true, false, Option, Some, None, Result, Ok, Err, refl, sym, ap, subst, ◌∙◌}
pub use Rattle.std.proofs.Common.{arith, cond, ◌-◌, ◌*◌, ◌≤◌, ◌++◌, zero-add, reverse, append_assoc, length, inl, inr, ◌⊎◌, nat_le}
pub use Rattle.std.proofs.Common.{drop, zero, suc, ltb, ◌≢◌, eqb, set, get_or, length-set, length-append, replicate, ◌↔◌, take}
pub use Rattle.std.proofs.Common.{rules, lit<}
pub use Rattle.std.proofs.lemmas.Bool.{ltb-true, cases_lt, leb-false, lt-ltb, cases_eq, cases_Bool, eqb-true, leb-true}
pub use Rattle.std.proofs.lemmas.Bool.Decides.{nat_tests}
pub use Rattle.std.proofs.lemmas.List.{map-append, append-nil, reverse-append, length-take, length-drop, length-replicate}
pub use Rattle.std.proofs.lemmas.List.{get_or-set_same, get_or-set_other, length-map}
pub use Rattle.std.proofs.lemmas.List.Sums.{sum_by-set, sum_by-cons}
pub use Rattle.std.proofs.lemmas.Result.{err_from_is_err_and}
pub use Rattle.std.proofs.lemmas.Str.{IsUtf8-from_is_utf8, IsUtf8-append}
pub use Rattle.std.specs.List.{range_with_len}
pub use Rattle.std.specs.Prelude.{slice_get, ◌==◌, IsErr, IsOk, codes, IfErr, IfSome}
pub use Rattle.std.specs.Str.{is_utf8, IsUtf8}
pub use Rattle.mach_base.proofs.Binds.{bind_ok, same_ok, chosen}
pub use Rattle.mach_base.proofs.Faults.{ErrorMeets-reported, ErrorMeets-in}
pub use Rattle.mach_base.specs.Among.{IsAmong}
pub use Rattle.mach_base.specs.Answer.{◌>>=◌, ErrorMeets, IsOkUnlessMemory}
pub use Rattle.mach_base.specs.Fault.{Fault, malformed, fault_of, bad_offset, bad_input, too_short}
unfoldable pub use Rattle.mach_base.specs.Leb128.{uleb_at}
pub use Rattle.mach_base.specs.Sums.{found_or_malformed, sum_of}
pub use Rattle.mach_base.specs.Text.{run_at}
unfoldable pub use Rattle.mach_base.specs.Text.{text_at}
pub use Rattle.mach_base.specs.declared.error.Error.{Error}
pub use Rattle.mach_dyld.specs.Exports.{entries}
pub use Rattle.mach_base.specs.Text.{texts}
pub use Rattle.mach_dyld.specs.Lists.{nothing, Lists, BranchesList, a_node, no_more, one_more, lists_of, node_list, ListsWithin}
unfoldable pub use Rattle.mach_dyld.specs.Lists.{list_within}
pub use Rattle.mach_dyld.specs.Lists.{ListBegins, BranchesBegin, none_yet, node_started, no_further, one_started, one_whole}
pub use Rattle.mach_dyld.specs.Nodes.{own_at, trie_of}
unfoldable pub use Rattle.mach_dyld.specs.Nodes.{branch_at, branches_at, children_at, terminal_at, inner_at, node_at}
pub use Rattle.mach_dyld.specs.Paths.{StartsFrom, Leads, Before, Path, IsTree}
pub use Rattle.mach_dyld.specs.TerminalPaths.{EndsWith, IsTerminal, BelongsTo, EachBelongs, AreInOrder, ListsPaths}
pub use Rattle.mach_dyld.specs.Trie.{Branch, Info, Node, Entry, Trie, IsNode, entry, own_entries, regular, stub}
pub use Rattle.mach_dyld.specs.TrieFault.{TrieFault, at_node, met_again}
pub use Rattle.mach_dyld.specs.TrieRange.{TrieRange, trie_there, ListsExports, ExportsFault, ExportsEnd, range_in}
pub use Rattle.mach_dyld.specs.TrieRows.{back_to_root, shared_node, children_at_the_end, exports_vector, terminal_with_child, a_stub, kind_3_with_reexport_bit}
pub use Rattle.mach_dyld.specs.TrieRows.{kind_1_with_stub_bit, ladder_of_40}
pub use Rattle.mach_dyld.specs.Visits.{AreApart, Visits}
pub use Rattle.mach_dyld.specs.Unfolds.{Ahead, ahead, to_root, Unfolds, nothing_read, passed, node_read, IsCutBy}
pub use Rattle.mach_dyld.specs.Unfolds.{ComesNext, WasRead, IsEndOfWalk}
pub use Rattle.mach_dyld.specs.Reading.{AreLed, IsBeside, AreBeside, AreLastFirst, GoesOnFromOne, HasRead, AreMarked, MarksThoseRead, AreAhead, IsReadSoFar}
pub use Rattle.mach_dyld.specs.WalkState.{Holds, HasListed, IsAtBranch, IsBetween, HasFound, IsWalk, IsRefusedWalk, unmarked, work}
pub use Rattle.mach_dyld.specs.WalkState.{work_ahead}
pub use Rattle.mach_dyld.specs.Views.{branch_of, branches_of, IsReadable, branches_in, info_in, node_with_first, trie_range_of, source_trie}
pub use Rattle.mach_dyld.specs.Views.{node_in, fault_in}
pub use Rattle.mach_dyld.specs.declared.trie.walk.Open.{Open}
pub use Rattle.mach_dyld.specs.declared.trie.walk.Source.{Source}
