-- The names that most proofs of this crate cite, passed on from one place. Declares nothing.
pub use Rattle.std.proofs.Common.{Bool, List, None, Ok, Some, [], ap, append-nil, append_assoc, arith, bytes_eq, cond}
pub use Rattle.std.proofs.Common.{drop, false, filter, get_or, inl, inr, length, map, nat_cmp, not, refl, rules, set}
pub use Rattle.std.proofs.Common.{subst, suc, sym, take, true, zero, ℕ, ⊎_elim, ◌*◌, ◌++◌, ◌+◌, ◌<◌, ◌==◌, ◌^◌, ◌||◌}
pub use Rattle.std.proofs.Common.{◌∙◌, ◌∷◌, ◌≡◌, ◌≢◌, ◌≤◌, ◌⊎◌}
pub use Rattle.std.specs.BTreeSet.{contains_by}
pub use Rattle.std.specs.Cmp.Lexicographic.{bytes_decides, lists_ties, lists_total, pointwise, pointwise_decides}
pub use Rattle.std.specs.Cmp.Lexicographic.{slice_cmp}
pub use Rattle.std.specs.List.{AllByRecursion, cons_option, flat_map, list_all, list_any, position_or_len}
pub use Rattle.std.specs.List.Sorted.{IsPermutation, IsSortedBy}
pub use Rattle.std.specs.Map.{keys_of, lookup, values_of}
pub use Rattle.std.specs.Option.{option_cmp, option_copied, option_or}
pub use Rattle.std.specs.Ordering.{eq_by_cmp, is_eq, is_lt, ordering_reverse, ordering_then}
pub use Rattle.std.specs.Prelude.{Err, IfErr, IfOk, IsErrAnd, IsOk, OnErr, OnOk, Option, Result, codes, count_by}
pub use Rattle.std.specs.Prelude.{filter_map, find, is_none, is_some, min, nat_eq, nat_le, nat_lt, option_and_then}
pub use Rattle.std.specs.Prelude.{option_map, position, slice_get, ◌&&◌}
pub use Rattle.std.specs.Vec.Iter.{into_iter_items, into_iter_len}
pub use Rattle.csi_types.specs.Model.Members.{EachTwo, IsAmong}
pub use Rattle.csi_types.specs.Public.Places.{FirstAt, IsAt}
pub use Rattle.csi_types.specs.declared.call.Call.{Call}
pub use Rattle.csi_types.specs.declared.call.Kind.{Kind}
pub use Rattle.csi_types.specs.declared.call.Party.{Party}
pub use Rattle.csi_types.specs.declared.call.Party.TheVariants.{Controller, Node}
pub use Rattle.csi_types.specs.declared.capability.Capability.{Capability}
pub use Rattle.csi_types.specs.declared.frame.Body.{Body}
pub use Rattle.csi_types.specs.declared.number.Number.{Number}
pub use Rattle.csi_types.specs.declared.reply.Reply.{Reply}
pub use Rattle.csi_types.specs.declared.status.Status.{Status}
pub use Rattle.csi_types.specs.Model.Call.{kind_of}
pub use Rattle.csi_types.specs.Model.Frame.{Frame}
pub use Rattle.csi_types.specs.Model.Number.{IsBefore, is_before}
pub use Rattle.csi_types.specs.Model.Reply.{is_ok_status}
pub use Rattle.csi_types.specs.Model.Same.{has_capability, same_flag, same_kind, same_number, same_party, same_text}
pub use Rattle.csi_types.specs.Model.Sharing.{allows_one_target, are_two_writers, is_single_node}
pub use Rattle.csi_orchestrator.specs.declared.catalog.Catalog.{Catalog}
pub use Rattle.csi_orchestrator.specs.declared.decision.Decision.TheVariants.{Met, Refuse, Send, Wait}
pub use Rattle.csi_orchestrator.specs.declared.fault.Heard.TheVariants.{Ignored}
pub use Rattle.csi_orchestrator.specs.declared.fault.OrchFault.{OrchFault}
pub use Rattle.csi_orchestrator.specs.declared.marks.Marks.{Marks}
pub use Rattle.csi_orchestrator.specs.declared.request.Usage.{Usage}
pub use Rattle.csi_orchestrator.specs.declared.row.Goal.{Goal}
pub use Rattle.csi_orchestrator.specs.declared.row.Goal.TheVariants.{Create, Delete, Stop, Use}
pub use Rattle.csi_orchestrator.specs.declared.row.NodeEntry.{NodeEntry}
pub use Rattle.csi_orchestrator.specs.declared.row.OpenCall.{OpenCall}
pub use Rattle.csi_orchestrator.specs.declared.row.Row.{Row}
pub use Rattle.csi_orchestrator.specs.declared.row.TargetEntry.{TargetEntry}
pub use Rattle.csi_orchestrator.specs.declared.sending.Outgoing.{Outgoing}
pub use Rattle.csi_orchestrator.specs.declared.state.OrchestratorCore.{OrchestratorCore}
pub use Rattle.csi_orchestrator.specs.declared.step.Step.{Step}
pub use Rattle.csi_orchestrator.specs.declared.thing.Known.{Known}
pub use Rattle.csi_orchestrator.specs.declared.thing.Known.TheVariants.{Maybe, No, Yes}
pub use Rattle.csi_orchestrator.specs.declared.thing.Thing.{Thing}
pub use Rattle.csi_orchestrator.specs.declared.thing.Thing.TheVariants.{Attached, Exists, Published, Staged}
pub use Rattle.csi_orchestrator.specs.Model.Agrees.{Agrees, OrchestratorView}
pub use Rattle.csi_orchestrator.specs.Model.Commands.{create_fault, delete_busy_fault, delete_fault, held_elsewhere}
pub use Rattle.csi_orchestrator.specs.Model.Commands.{is_for_one_node, is_held_otherwise, is_left_at, is_node_in_use}
pub use Rattle.csi_orchestrator.specs.Model.Commands.{is_otherwise, is_session_spent, loss_fault, next_number}
pub use Rattle.csi_orchestrator.specs.Model.Commands.{next_session, other_nodes, restart_fault, stop_fault}
pub use Rattle.csi_orchestrator.specs.Model.Commands.{timeout_fault, use_fault, use_room_fault, uses_as_second_writer}
pub use Rattle.csi_orchestrator.specs.Model.Due.{Due, attached_node, call_for, due_call, due_for, due_leave, due_stop}
pub use Rattle.csi_orchestrator.specs.Model.Due.{due_use, nodes_in_use, published_target, targets_in_use}
pub use Rattle.csi_orchestrator.specs.Model.History.{Accepted, Arguments, Closed, Forgotten, Held, History, Item, Lost}
pub use Rattle.csi_orchestrator.specs.Model.History.{Noted, Sent, Started, history_after, with_items}
pub use Rattle.csi_orchestrator.specs.Model.Moves.{Answer, Comes, GivenUp, Hears, Input, Loses, Moved, Restarted}
pub use Rattle.csi_orchestrator.specs.Model.Moves.{Restarts, Sends, TimesOut, ToCreate, ToDelete, ToStop, ToUse}
pub use Rattle.csi_orchestrator.specs.Model.Moves.{call_replied, closing, command, delete_when, deliver, forgetting}
pub use Rattle.csi_orchestrator.specs.Model.Moves.{heard, heard_refusal, hears, is_forgotten, is_forward}
pub use Rattle.csi_orchestrator.specs.Model.Moves.{is_forward_due, is_number_open, lose, met_already, moves, restart}
pub use Rattle.csi_orchestrator.specs.Model.Moves.{send_due, sent_as, stopping, stopping_all, timeout, undoing_goal}
pub use Rattle.csi_orchestrator.specs.Model.Moves.{use_when, without_node}
pub use Rattle.csi_orchestrator.specs.Model.Readings.{arguments_in_goal, arguments_of, calls_since, distinct, ends}
pub use Rattle.csi_orchestrator.specs.Model.Readings.{goal_of, has_row, has_success, held, held_by_call, id_by, id_in}
pub use Rattle.csi_orchestrator.specs.Model.Readings.{id_of, is_forgetting, is_gone_with, is_number_of, is_success_of}
pub use Rattle.csi_orchestrator.specs.Model.Readings.{issued_by, issued_in, issued_of, issued_since, known, known_by}
pub use Rattle.csi_orchestrator.specs.Model.Readings.{last_in, last_number, lifetime, names_in, names_of, newest}
pub use Rattle.csi_orchestrator.specs.Model.Readings.{nodes_of, noted_for, open_call, open_in, since, tries, unless}
pub use Rattle.csi_orchestrator.specs.Model.Readings.{with_name}
pub use Rattle.csi_orchestrator.specs.Model.Shown.{NodeEntryShown, OrchestratorParts, RowShown, Shows, goal_in}
pub use Rattle.csi_orchestrator.specs.Model.Shown.{goal_shown, held_at, held_on_node, issued_of_open_call, mark_in, mark_of}
pub use Rattle.csi_orchestrator.specs.Model.Shown.{node_entry_of, open_in_row, orchestrator_view, publication_known}
pub use Rattle.csi_orchestrator.specs.Model.Shown.{row_of, target_entry_of, tries_in}
pub use Rattle.csi_orchestrator.specs.Model.Thing.{Issued, is_doing, is_no, is_thing, is_yes, name_in, same_thing}
pub use Rattle.csi_orchestrator.specs.Model.Thing.{thing_at, thing_of, touches}
pub use Rattle.csi_orchestrator.specs.Model.WellFormed.{AreWellFormed, IsNextNumber, IsOfName, IsUnused, IsWellFormed}
pub use Rattle.csi_orchestrator.specs.Private.Beginning.{is_use_at}
pub use Rattle.csi_orchestrator.specs.Private.Catalog.{AreNotedBefore, IsClosedAt, IsLostAt, IsNextFor, IsNotedWith}
pub use Rattle.csi_orchestrator.specs.Private.Catalog.{IsNumberedAfter, IsReady, outgoing_call_number}
pub use Rattle.csi_orchestrator.specs.Private.Decisions.{decided, decided_at, decided_then, refused_or}
pub use Rattle.csi_orchestrator.specs.Private.Following.{DetachesSomething, after_accepted, after_closed}
pub use Rattle.csi_orchestrator.specs.Private.Following.{after_forgotten, after_lost, after_noted, after_sent}
pub use Rattle.csi_orchestrator.specs.Private.Following.{after_started, id_brought, known_by_success}
pub use Rattle.csi_orchestrator.specs.Private.Found.{due_shown, kind_due}
pub use Rattle.csi_orchestrator.specs.Private.Hearing.{IsDueSuccess, due_heard, marks_heard, marks_marked}
pub use Rattle.csi_orchestrator.specs.Private.Judging.{are_beside, are_entries_fit, are_nodes_apart, are_targets_apart}
pub use Rattle.csi_orchestrator.specs.Private.Judging.{fits_life, has_tries, is_at_target, is_entry_fit}
pub use Rattle.csi_orchestrator.specs.Private.Judging.{is_other_target, is_published, is_resting, is_restorable}
pub use Rattle.csi_orchestrator.specs.Private.Judging.{is_settled, is_stop_on_the_way, is_tried, is_untargeted}
pub use Rattle.csi_orchestrator.specs.Private.Judging.{is_use_on_the_way, is_way, may_follow, stops_here, uses_here}
pub use Rattle.csi_orchestrator.specs.Private.Keyed.{change_by, put_by}
pub use Rattle.csi_orchestrator.specs.Private.Listing.{known_by_rows, noted, noted_in, noted_of_node, noted_of_row}
pub use Rattle.csi_orchestrator.specs.Private.Listing.{noted_of_target}
pub use Rattle.csi_orchestrator.specs.Private.RowChanges.{Aspect, Attachment, Existence, Publication, Staging}
pub use Rattle.csi_orchestrator.specs.Private.RowChanges.{aspect_of, at_goal, dropped_row, entry_for, exists_marked}
pub use Rattle.csi_orchestrator.specs.Private.RowChanges.{has_targets, held_as, id_told, is_node_kept, is_target_kept}
pub use Rattle.csi_orchestrator.specs.Private.RowChanges.{known_by_success_of, marked_at, marked_row, new_row}
pub use Rattle.csi_orchestrator.specs.Private.RowChanges.{new_target_entry, node_marked, nodes_marked, row_once_sent}
pub use Rattle.csi_orchestrator.specs.Private.RowChanges.{row_wanted_anew, stopped_goal, succeeded_row, target_marked}
pub use Rattle.csi_orchestrator.specs.Private.RowChanges.{tidied_entries, wanted_row, with_entry, with_kept_targets}
pub use Rattle.csi_orchestrator.specs.Private.RowChanges.{with_target}
pub use Rattle.csi_orchestrator.specs.Private.RowMoves.{IsMoveOf, RowsAnswer, TakesStep, all_rows_moved, creates, gives_up}
pub use Rattle.csi_orchestrator.specs.Private.RowMoves.{hears_reply, input_asking, is_issued_as, last_after}
pub use Rattle.csi_orchestrator.specs.Private.RowMoves.{moved_unless, outgoing_frame, parts_after, put, receives}
pub use Rattle.csi_orchestrator.specs.Private.RowMoves.{row_moves, row_replied, starts_again, step_heard, steps_at}
pub use Rattle.csi_orchestrator.specs.Private.RowRefusals.{again_fault, busy_refusal, delete_refusal, first_fault}
pub use Rattle.csi_orchestrator.specs.Private.RowRefusals.{idle_refusal, is_attached_somewhere, is_entry_otherwise}
pub use Rattle.csi_orchestrator.specs.Private.RowRefusals.{is_last, is_left, late_refusal, others_attached}
pub use Rattle.csi_orchestrator.specs.Private.RowRefusals.{others_count, room_refusal, step_refusal, stop_refusal}
pub use Rattle.csi_orchestrator.specs.Private.RowRefusals.{use_refusal}
pub use Rattle.csi_orchestrator.specs.Private.RowSteps.{MovedRow, SendsNothing, failed, is_given_up, is_step_met}
pub use Rattle.csi_orchestrator.specs.Private.RowSteps.{needs_entry, outgoing_by, row_before_call, row_moved}
pub use Rattle.csi_orchestrator.specs.Private.RowSteps.{row_rests, row_sends_due, row_step, row_takes, row_unless}
pub use Rattle.csi_orchestrator.specs.Private.RowSteps.{sent_or_dropped, timed_out, waits, waits_for}
pub use Rattle.csi_orchestrator.specs.Private.Shown.{without_call}
pub use Rattle.csi_orchestrator.specs.Private.Sound.{MovesAgree, MovesAreGuarded, RowsStaySound, RowsTell}
pub use Rattle.csi_orchestrator.specs.Public.Beginning.{entry_at_loss, is_row_forgotten, is_used_in, leaves_out_used}
pub use Rattle.csi_orchestrator.specs.Public.Beginning.{loss_refusal, parts_at_loss, remembered, restart_refusal}
pub use Rattle.csi_orchestrator.specs.Public.Beginning.{restarted_parts, row_at_loss, stopped_at}
pub use Rattle.csi_orchestrator.specs.Public.Bounds.{AreEntriesWithin, AreWithin, HasFewTargets, IsBounded}
pub use Rattle.csi_orchestrator.specs.Public.Bounds.{IsEntryWithin, IsRowFew, IsWithin}
pub use Rattle.csi_orchestrator.specs.Public.Catalog.{AreUpTo, HasFewNotes, HasRoomForCalls, IsIndexed, IsNoted}
pub use Rattle.csi_orchestrator.specs.Public.Catalog.{by_name, place_noted, rows_of}
pub use Rattle.csi_orchestrator.specs.Public.Changed.{AreChangedAt, ChangesAsHeard, ChangesRowOf, is_numbered}
pub use Rattle.csi_orchestrator.specs.Public.Changed.{place_by_call, place_by_name}
pub use Rattle.csi_orchestrator.specs.Public.CoreParts.{IsFiled, orchestrator_parts_shown}
pub use Rattle.csi_orchestrator.specs.Public.Guards.{CanBeHeldToo, IsGuarded, MayIssue, holding_by}
pub use Rattle.csi_orchestrator.specs.Public.Laws.{opened_parts}
pub use Rattle.csi_orchestrator.specs.Public.Listing.{IsInOrder, ListsKnown, kind_place, node_of_thing}
pub use Rattle.csi_orchestrator.specs.Public.Listing.{target_of_thing, text_order, thing_order}
pub use Rattle.csi_orchestrator.specs.Public.Moves.{moved_to}
pub use Rattle.csi_orchestrator.specs.Public.Record.{AreNodesFit, RecordParts}
pub use Rattle.csi_orchestrator.specs.Public.Restored.{AreRestorable, IsRestorable}
pub use Rattle.csi_orchestrator.specs.Public.RowDue.{delete_due, due_by, due_in, due_open, due_with, marks_at}
pub use Rattle.csi_orchestrator.specs.Public.RowDue.{marks_for, marks_of_volume, others_in, stop_due, use_due}
pub use Rattle.csi_orchestrator.specs.Public.RowMoves.{IsRefusal, MovedRows, moved_rows}
pub use Rattle.csi_orchestrator.specs.Public.RowRefusals.{has_elsewhere, is_so_elsewhere}
pub use Rattle.csi_orchestrator.specs.Public.Shown.{AreTargetsApart, closed, node_entry_shown, row_shown}
pub use Rattle.csi_orchestrator.specs.Public.Sound.{AreGuarded, AreNodesApart, AreSoundParts, AreSoundRows, HasEntry}
pub use Rattle.csi_orchestrator.specs.Public.Sound.{HasHistory, IsNeeded, IsSoundRow, IsUsable, KeepsWhatIsNeeded}
pub use Rattle.csi_orchestrator.specs.Public.Sound.{MayBeWanted}
pub use Rattle.csi_orchestrator.specs.Public.Steady.{AreMarked, AreSteadyRows, AreSteadyRowsIf, CameLast, CanBeBeside}
pub use Rattle.csi_orchestrator.specs.Public.Steady.{HasLast, HasMarks, HasOne, HasTries, IsAllowed, IsAtRest}
pub use Rattle.csi_orchestrator.specs.Public.Steady.{IsAtWork, IsEmptyUnlessMade, IsInUse, IsLast, IsLeft, IsLeftSo}
pub use Rattle.csi_orchestrator.specs.Public.Steady.{IsStanding, IsStandingIf, IsSteadyRow, IsSteadyRowIf, IsUntried}
pub use Rattle.csi_orchestrator.specs.Public.Steps.{AreStepwise, Begins, GoesOn, IsReached, IsReplyTo, MayDoAll}
pub use Rattle.csi_orchestrator.specs.Public.Steps.{MovesLaw, Opens, frame_if_sent, frame_of, frames_in, most_items}
pub use Rattle.indexmap.specs.IndexMap.{IndexMap, Updates, get, index_map_len, insert_entry, spare, values}
pub use Rattle.indexmap.specs.IndexMap.{with_value_at}
