-- The names that several proofs use, by the modules that define them.
pub use Rattle.std.proofs.Common.{◌≡◌, ℕ, ◌+◌, ◌<◌, ◌^◌, List, [], ◌∷◌, map, Bool, true, false, Option, Some, None, Result, Ok, Err, refl, sym, ap, subst, ◌∙◌}
pub use Rattle.std.proofs.Common.{arith, nat_lt, cond, ◌-◌, ◌*◌, ◌%◌, ◌≤◌, ◌++◌, zero-add, reverse, append_assoc, length, inl, inr, ◌⊎◌, ◌/◌, nat_le, bit_and}
pub use Rattle.std.proofs.Common.{drop, zero, suc, add-zero, ltb, ◌≢◌, eqb, set, get_or, length-set, length-append, count_by, replicate, ◌↔◌, take, sum_by}
pub use Rattle.std.proofs.Common.{rules, lit<}
pub use Rattle.std.proofs.lemmas.Bool.{ltb-true, cases_lt, leb-false, lt-ltb, ne_eqb, cases_eq, cases_Bool, eqb-true, leb-true}
pub use Rattle.std.proofs.lemmas.Bool.Decides.{nat_tests}
pub use Rattle.std.proofs.lemmas.List.{map-append, append-nil, reverse-append, reverse-reverse, length-take, length-drop, append_cancel_left, length-replicate}
pub use Rattle.std.proofs.lemmas.List.{get_or-set_same, get_or-set_other, length-map, take_at}
pub use Rattle.std.proofs.lemmas.List.Sums.{sum_by-set, count_by-le-length, sum_by-cons}
pub use Rattle.std.proofs.lemmas.Result.{err_from_is_err_and}
pub use Rattle.std.proofs.lemmas.Str.{IsUtf8-from_is_utf8, IsUtf8-append}
pub use Rattle.std.specs.List.{filter_map, range_with_len, cons_option, AllByRecursion}
pub use Rattle.std.specs.Prelude.{All, IfOk, slice_get, pos, ◌==◌, ℤ, IsErr, IsOk, codes, IfErr, IfSome}
pub use Rattle.std.specs.Str.{is_utf8, IsUtf8}
pub use Rattle.mach_base.proofs.Binds.{bind_ok, same_ok, chosen}
pub use Rattle.mach_base.proofs.Faults.{ErrorMeets-reported, FailsAs-read, ErrorMeets-in, ErrorMeets-failed}
pub use Rattle.mach_base.specs.Among.{IsAmong}
pub use Rattle.mach_base.specs.Answer.{◌>>=◌, ErrorMeets, FailsAs, IsOkUnlessMemory}
pub use Rattle.mach_base.specs.Context.{pointer_size}
pub use Rattle.mach_base.specs.Fault.{Fault, malformed, fault_of, bad_offset, bad_input, too_short, fault_item}
pub use Rattle.mach_base.specs.Leb128.{leb_at, spelled_at, first_groups, is_short, is_short_signed, groups_value, signed_value}
unfoldable pub use Rattle.mach_base.specs.Leb128.{uleb_at, sleb_at}
pub use Rattle.mach_base.specs.Sums.{found_or_malformed, sum_of}
pub use Rattle.mach_base.specs.Text.{texts}
pub use Rattle.mach_base.specs.Text.{run_at}
unfoldable pub use Rattle.mach_base.specs.Text.{text_at}
pub use Rattle.mach_base.specs.declared.error.Error.{Error}
pub use Rattle.mach_parts.specs.Segment.{SegmentView}
pub use Rattle.mach_dyld.specs.BindFault.{BindFault, StreamFault, unreadable, no_import}
pub use Rattle.mach_dyld.specs.BindItems.{AreBindItems}
pub use Rattle.mach_dyld.specs.BindLeft.{imports_left, reads_left, import_rules}
pub use Rattle.mach_dyld.specs.Faults.{upto_fault, AreItems}
pub use Rattle.mach_dyld.specs.Machine.{input_of, lazy_of, state_of, range_of, IsAtEnd, reading_from, State, start_of, ReadAhead, goes_on, fresh, executed_by}
pub use Rattle.mach_dyld.specs.Machine.{bind_of, Rules, ReadsForward, Moves, reader_by, set_after}
unfoldable pub use Rattle.mach_dyld.specs.Machine.{items_left, opcodes_left, rest_of, items_of, reads_of, strides, after_strides, reading_within, moved}
unfoldable pub use Rattle.mach_dyld.specs.Machine.{set_by, run, executed}
pub use Rattle.mach_dyld.specs.BindViews.{bind_imports_view, bind_import_view}
pub use Rattle.mach_dyld.specs.Binds.{Bind, binds_of, is_done, sets_segment, nearer_than, nearest_or, done_after, binds_at, stride_in, count_in, library_in}
pub use Rattle.mach_dyld.specs.Binds.{flags_in, symbol_name_in, addend_in, segment_in, offset_in, advances, last_setting, advance_in, sequence_of, reached}
pub use Rattle.mach_dyld.specs.Binds.{binds_from}
unfoldable pub use Rattle.mach_dyld.specs.Binds.{bind_after, all_from}
pub use Rattle.mach_dyld.specs.Imports.{Import, Target, holding, import_with, input_in, BindRanges, ListsImports, AreImports}
unfoldable pub use Rattle.mach_dyld.specs.Imports.{target_of, import_of, imports_in}
pub use Rattle.mach_dyld.specs.Instructions.{Instruction, done, library, symbol, addend, segment, advance, binds}
unfoldable pub use Rattle.mach_dyld.specs.Instructions.{byte_at, with_uleb, addend_at, symbol_operand_at, times_at, row_at, instruction_at}
pub use Rattle.mach_dyld.specs.Streams.{Input, Range, Placed, Follow, OccursIn, AllOccur, stream_end, IsBeginning, IsStream, IsLongest, BeginningsHave, Stops}
pub use Rattle.mach_dyld.specs.Streams.{Reader, OccursBy, AllOccurBy, IsBeginningBy, StopsBy, IsLongestBy}
