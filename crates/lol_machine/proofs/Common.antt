-- What most proofs of this crate speak of.
pub use Rattle.lol_base.specs.Ascending.{ascending_once}
pub use Rattle.lol_base.specs.AscendingLaws.{among_ascending, ascending_among, ascending_ascends, ascending_is_determined, pairs_from_ascends}
pub use Rattle.lol_base.specs.BoolLaws.{and-false, and-true, and_of, and_parts, not_true, or-right_true, or_of, or_parts, same_bool}
pub use Rattle.lol_base.specs.LocalNames.{Name, is_hash, local_name, same_local_name}
pub use Rattle.lol_base.specs.MemberLaws.{Among, Distinct, among_back, among_either, among_filter, among_from_contains, among_front, among_map, contains-append, contains_from_among, count_by-cons, distinct_from_pairs, filter_among, map-map, map_among, same_count}
pub use Rattle.lol_base.specs.Names.{is_esi, is_void, lowercased, same_name}
pub use Rattle.lol_base.specs.PlaceLaws.{at_among, at_within, head_is, one_place, same_at, some_is, tail_is, within_at}
pub use Rattle.lol_base.specs.StartTags.{Attribute, StartTag}
pub use Rattle.lol_base.specs.declared.namespace.Namespace.{Namespace}
pub use Rattle.lol_base.specs.declared.namespace.Namespace.TheVariants.{Html, MathML, Svg}
pub use Rattle.lol_instructions.specs.Attributes.{TagAttributes, tag_attributes}
pub use Rattle.lol_instructions.specs.Compiled.{Sight, sight, sight_of}
pub use Rattle.lol_instructions.specs.Compounds.{Decides, all_hold, by_names, has_test_by_type, is_open, with_rest}
pub use Rattle.lol_instructions.specs.Counters.{full_count}
pub use Rattle.lol_instructions.specs.Tests.{Element, is_html}
pub use Rattle.lol_instructions.specs.Tries.{attributes_counted, names_counted}
pub use Rattle.lol_instructions.specs.declared.tries.Tries.{Tries}
pub use Rattle.lol_machine.specs.AddressRuns.{Context, Gathers, at_addresses, branch, context_of, gathered_from_addresses, give_if_there, given_by, hereditary_jumps_list, ids_list, instruction_holds, instruction_value, is_open_at, jumps_list, no_context, run, value_at}
pub use Rattle.lol_machine.specs.Answers.{Answer, Dropped, Ended, Match, Started, after, answer, answers, answers_from, asks, attribute_tries, document, document_from, is_dropped, is_tried, is_tried_open, matching_ids, name_tries, needs_attributes, report}
pub use Rattle.lol_machine.specs.Documents.{Document, after_end, after_start, children_of, closed, element_of, empty, index_of, inner_part, outer_part, parent_of, same_parent, typed_children_of}
pub use Rattle.lol_machine.specs.Events.{End, Event, Start, has_content, has_content_in}
pub use Rattle.lol_machine.specs.InstructionRuns.{AreRunnable, HasTriesLeft, IsInsideOf, NeedNoMemory, all_at, first_open_from, gathered_by_names, gathered_with_attributes, give_branch, holds_seen, instructions_at, open_among, tried_until, value_seen}
pub use Rattle.lol_machine.specs.MachineLaws.{IsRequest, ProgramsHaveEachNode, RangesHoldLeftMatches, starts_open}
pub use Rattle.lol_machine.specs.Machines.{AreItems, HasRanges, HoldOnce, IsItem, IsReached, LeftMatches, Matches, OpenItem, active_of, children_shown, hereditary_jumps_of, item_shown, items_shown, jumps_of, last_jumps, ranges_to_run}
pub use Rattle.lol_machine.specs.Matching.{left_matches, matches, parent_passes, some_ancestor_passes}
pub use Rattle.lol_machine.specs.Outcomes.{give_if, given_by_names, given_with_attributes, is_true}
pub use Rattle.lol_machine.specs.Refusals.{Allowance, Cause, Counter, Limit, exceeds, greatest_count, longest, longest_from, or_later, refusal, refused, refused_from}
pub use Rattle.lol_machine.specs.ReportLaws.{among_matching_ids, every_report, matching_ids_among, matching_ids_ascend}
pub use Rattle.lol_machine.specs.Standing.{AreTyped, AreTypedIf, CountersArePositions, Descend, DocumentsAreOrdered, HasCounted, IsOrdered, StandsFor, StandsOn, unfinished}
pub use Rattle.lol_machine.specs.TagRuns.{AreExecuted, AreTried, AreWithin, IsPointIn, IsStopIn, all_ranges, jumps_in, jumps_of_item, left_ranges, number_of, ranges_from, ranges_left, ranges_of_active, ranges_to_run_in, rest_of, sight_in, tag_ranges, tried_at}
pub use Rattle.lol_machine.specs.Views.{match_of, selectors, tag_of}
pub use Rattle.lol_machine.specs.Vms.{AreOpened, ChargesSlots, GoesOnAt, HasOpen, IsAnswered, IsChargedFor, IsCovered, IsEntered, IsPending, IsRefusal, IsReported, IsRequested, IsRestOf, IsSilent, IsTagOf, IsTriedAtMost, OpensNothing, Stands, StaysFailed, Vm, content_in, content_of, data_in, has_failed, info_of, instructions_in, is_asked_for, open_after, ranges_to_try, slot_bytes, slots_charged, stack_in, tries_in}
pub use Rattle.lol_memory.specs.Ids.{AllSmall, Ids, ascending, has, union}
pub use Rattle.lol_memory.specs.LimitedVec.{IsLimited, LimitedVec, grown_slots}
pub use Rattle.lol_memory.specs.Limiter.{Limiter, charged}
pub use Rattle.lol_program.specs.Paths.{First, Path, Selectors, Then, beginnings, last_compound}
pub use Rattle.lol_program.specs.Programs.{AreClosed, HoldsAddresses, IsAt, IsProgramOf, IsRangeOf, IsWithin, above, addresses, all_addresses}
pub use Rattle.lol_stack.specs.Stacks.{IsClosed, IsEnded, IsEndedAt, IsPushed, IsSame, active_in, closed_from, count_by_type, count_or, counted_if, counted_in, counted_item, depth_to_close, depths_in, element_data_of, item_bytes_in, items_in, last_below, last_count, list_in, root_count, slots_in, typed_count, typed_in, with_typed}
pub use Rattle.lol_stack.specs.declared.execution_ctx.ExecutionCtx.{ExecutionCtx}
pub use Rattle.lol_stack.specs.declared.stack.StackNames.{StackNames}
pub use Rattle.lol_stack.specs.declared.stack.StackOf.{StackOf}
pub use Rattle.lol_stack.specs.declared.stack_item.StackItemOf.{StackItemOf}
pub use Rattle.std.proofs.Common.{All, Bool, Contains, Err, List, None, Ok, Option, Result, Some, [], ap, arith, cond, count_by, drop, drop-cons, false, filter, flat_map, get_or, if◌then◌else◌, inl, inr, is_none, length, map, map-id, max, nat_le, nat_lt, not, of_calls, option_to_list, position, refl, reverse, rules, slice_get, slice_set, subst, suc, sym, take, true, true≢false, unwrap_or, zero, ℕ, ◌&&◌, ◌*◌, ◌++◌, ◌+◌, ◌-◌, ◌<◌, ◌==◌, ◌^◌, ◌||◌, ◌↔◌, ◌∙◌, ◌∷◌, ◌≡◌, ◌≢◌, ◌≤◌, ◌⊎◌}
pub use Rattle.std.proofs.lemmas.Bool.Decides.{Decides-eqb, nat_tests}
pub use Rattle.std.proofs.lemmas.List.{append-nil, append_cancel_right, drop-append-le, drop_all, drop_at, get_or-append-add, length-drop, length-map, length-reverse, length-set, length-take, length-take-le, map-append, map_push, reverse-append, reverse-reverse, take-append-drop, take_all, take_at, take_more}
pub use Rattle.std.proofs.lemmas.Result.{IfErr-weaker, IfOk-weaker, err_from_is_err_and, on_err_weaker, on_ok_weaker}
pub use Rattle.std.specs.List.{list_all, list_any, position_from, position_or_len, range_with_len}
pub use Rattle.std.specs.Option.{IsNone, option_copied_mut, option_map, option_or}
pub use Rattle.std.specs.declared.ops.Range.{Range}
