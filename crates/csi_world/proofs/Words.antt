-- The names that most proofs of this crate cite, passed on from one place. Declares nothing.
pub use Rattle.std.proofs.Common.{Bool, Err, IfErr, IfOk, IsSome, IsTrue, List, None, Ok, OnErr, Option, Result, Some}
pub use Rattle.std.proofs.Common.{[], ap, append-nil, append_assoc, arith, cond, drop, false, filter, filter_map, find}
pub use Rattle.std.proofs.Common.{get_or, if◌then◌else◌, inl, inr, is_some, length, length-append, map, nat_lt, not}
pub use Rattle.std.proofs.Common.{option_map, position, refl, replicate, reverse, set, slice_get, subst, suc, sym}
pub use Rattle.std.proofs.Common.{take, true, zero, ℕ, ⊎_elim, ◌&&◌, ◌++◌, ◌+◌, ◌-◌, ◌<◌, ◌==◌, ◌^◌, ◌||◌, ◌↔◌, ◌∙◌}
pub use Rattle.std.proofs.Common.{◌∷◌, ◌≡◌, ◌≢◌, ◌≤◌, ◌⊎◌}
pub use Rattle.std.specs.List.{AllByRecursion, flat_map, list_all, list_any, remove}
pub use Rattle.std.specs.Option.{option_or, option_to_list}
pub use Rattle.std.specs.Prelude.{codes, is_none, nat_le, option_and_then}
pub use Rattle.csi_types.specs.Model.Members.{EachTwo, IsAmong}
pub use Rattle.csi_types.specs.Public.Places.{AtMostOne, FirstAt}
pub use Rattle.csi_types.specs.declared.call.Call.{Call}
pub use Rattle.csi_types.specs.declared.call.Kind.{Kind}
pub use Rattle.csi_types.specs.declared.call.Party.{Party}
pub use Rattle.csi_types.specs.declared.call.Party.TheVariants.{Controller, Node}
pub use Rattle.csi_types.specs.declared.capability.Capability.{Capability}
pub use Rattle.csi_types.specs.declared.event.Event.{Event}
pub use Rattle.csi_types.specs.declared.event.Event.TheVariants.{Deliver, Timeout}
pub use Rattle.csi_types.specs.declared.frame.Body.{Body}
pub use Rattle.csi_types.specs.declared.holding.Holding.{Holding}
pub use Rattle.csi_types.specs.declared.number.Number.{Number}
pub use Rattle.csi_types.specs.declared.reply.Reply.{Reply}
pub use Rattle.csi_types.specs.declared.rows.TheConstants.{MAX_ROWS}
pub use Rattle.csi_types.specs.declared.status.Status.{Status}
pub use Rattle.csi_types.specs.declared.status.Status.TheVariants.{ResourceExhausted, Unimplemented}
pub use Rattle.csi_types.specs.Model.Call.{kind_of}
pub use Rattle.csi_types.specs.Model.Capacity.{capacity_wanted}
pub use Rattle.csi_types.specs.Model.Config.{Config, has_node}
pub use Rattle.csi_types.specs.Model.Frame.{Frame}
pub use Rattle.csi_types.specs.Model.Holding.{AreApart}
pub use Rattle.csi_types.specs.Model.Number.{IsBefore, is_before}
pub use Rattle.csi_types.specs.Model.Replies.{call_frame, ok_reply_with, plain_reply, reply_frame, stale_reply}
pub use Rattle.csi_types.specs.Model.Reply.{is_ok_status}
pub use Rattle.csi_types.specs.Model.Same.{same_capability, same_kind, same_number, same_party, same_text}
pub use Rattle.csi_types.specs.Public.Config.{config_fault, has_bad_slots, has_same_node, is_bad_greatest}
pub use Rattle.csi_types.specs.Public.PluginThing.{Attached, AttachedAs, Exists, HasId, PluginThing, Published}
pub use Rattle.csi_types.specs.Public.PluginThing.{PublishedAs, Staged, StagedAs, ThingForm, asked, same_plugin_thing}
pub use Rattle.csi_types.specs.Public.Reply.{has_id_by_rule}
pub use Rattle.csi_fence.specs.Model.Fence.{Kept, begins, is_over, is_spent}
pub use Rattle.csi_fence.specs.Model.Fenced.{Fenced, Machine, answered_in, answered_only, fenced_call, fenced_parts}
pub use Rattle.csi_fence.specs.Model.Fenced.{in_session, judged, unanswered}
pub use Rattle.csi_fence.specs.Public.Delivery.{Acts, CallBecomes, Delivery, IsClosed, IsDelivered, IsEmpty}
pub use Rattle.csi_fence.specs.Public.Delivery.{IsSameView, Misses, PluginView, Rests, kept_of, last_of}
pub use Rattle.csi_controller.specs.declared.row.ControllerRow.{ControllerRow}
pub use Rattle.csi_controller.specs.declared.row.NodeHolding.{NodeHolding}
pub use Rattle.csi_controller.specs.Model.Core.{ControllerParts}
pub use Rattle.csi_controller.specs.Model.Shown.{holdings_in, holdings_in_row, volume_of_row}
pub use Rattle.csi_controller.specs.Model.State.{ControllerState, Volume, empty_controller, holding_at, holdings_of}
pub use Rattle.csi_controller.specs.Model.State.{is_held_at, is_row_for, live_volume, row_for, volume_named}
pub use Rattle.csi_controller.specs.Model.Table.{ended_volume}
pub use Rattle.csi_controller.specs.Public.Safe.{IsExclusiveState}
pub use Rattle.csi_controller.specs.Public.State.{volume_with_id}
pub use Rattle.csi_node.specs.Model.Record.{NodeParts}
pub use Rattle.csi_node.specs.Model.State.{AnsweredVolume, NodeState, PublishedVolume, StagedVolume, is_published_at}
pub use Rattle.csi_node.specs.Model.State.{joined_node, published_at, published_of, row_of_volume, row_with_id}
pub use Rattle.csi_node.specs.Model.State.{staged_of, volume_of}
pub use Rattle.csi_node.specs.Public.Fenced.{after_frames}
pub use Rattle.csi_node.specs.Public.Safe.{IsPublishedRight, NodeSafetyLaw}
pub use Rattle.csi_node.specs.Public.Views.{published_shown, staged_shown}
pub use Rattle.csi_orchestrator.specs.declared.fault.OrchFault.{OrchFault}
pub use Rattle.csi_orchestrator.specs.declared.request.Arguments.{Arguments}
pub use Rattle.csi_orchestrator.specs.declared.request.Usage.{Usage}
pub use Rattle.csi_orchestrator.specs.declared.thing.Known.{Known}
pub use Rattle.csi_orchestrator.specs.declared.thing.Known.TheVariants.{Maybe, No, Yes}
pub use Rattle.csi_orchestrator.specs.declared.thing.Thing.{Thing}
pub use Rattle.csi_orchestrator.specs.Model.Commands.{create_fault, delete_fault, loss_fault, next_number}
pub use Rattle.csi_orchestrator.specs.Model.Commands.{restart_fault, stop_fault, timeout_fault, use_fault}
pub use Rattle.csi_orchestrator.specs.Model.Commands.{use_room_fault}
pub use Rattle.csi_orchestrator.specs.Model.Due.{Due, call_for, due_call, due_for, due_kind, due_leave, due_stop}
pub use Rattle.csi_orchestrator.specs.Model.Due.{targets_in_use}
pub use Rattle.csi_orchestrator.specs.Model.History.{Accepted, Closed, Create, Delete, Forgotten, Goal, Held, History}
pub use Rattle.csi_orchestrator.specs.Model.History.{Item, Lost, Noted, Sent, Started, Stop, Use, new_history}
pub use Rattle.csi_orchestrator.specs.Model.History.{with_items}
pub use Rattle.csi_orchestrator.specs.Model.Moves.{Answer, Comes, GivenUp, Hears, Input, Moved, Restarts, TimesOut}
pub use Rattle.csi_orchestrator.specs.Model.Moves.{ToCreate, ToDelete, ToStop, ToUse, call_replied, closing, command}
pub use Rattle.csi_orchestrator.specs.Model.Moves.{delete_when, deliver, forgetting, heard, heard_refusal, hears}
pub use Rattle.csi_orchestrator.specs.Model.Moves.{is_forgotten, is_forward, is_forward_due, is_number_open, lose}
pub use Rattle.csi_orchestrator.specs.Model.Moves.{met_already, moves, restart, send_due, sent_as, stopping}
pub use Rattle.csi_orchestrator.specs.Model.Moves.{stopping_all, timeout, undoing_goal, use_when}
pub use Rattle.csi_orchestrator.specs.Model.Readings.{calls_since, goal_of, has_row, has_success, held, held_by_call}
pub use Rattle.csi_orchestrator.specs.Model.Readings.{id_by, id_in, id_of, is_forgetting, is_success_of, issued_by}
pub use Rattle.csi_orchestrator.specs.Model.Readings.{issued_in, issued_since, known, known_by, last_in, last_number}
pub use Rattle.csi_orchestrator.specs.Model.Readings.{lifetime, names_of, newest, nodes_of, open_call, open_in, since}
pub use Rattle.csi_orchestrator.specs.Model.Readings.{tries, with_name}
pub use Rattle.csi_orchestrator.specs.Model.Shown.{NodeEntryShown, OrchestratorParts, RowShown, Shows, goal_in}
pub use Rattle.csi_orchestrator.specs.Model.Shown.{goal_shown, mark_in, mark_of, node_entry_of, publication_known}
pub use Rattle.csi_orchestrator.specs.Model.Shown.{row_of}
pub use Rattle.csi_orchestrator.specs.Model.Thing.{Issued, does, is_doing, is_no, is_thing, is_yes, name_in}
pub use Rattle.csi_orchestrator.specs.Model.Thing.{same_thing, thing_at, touches}
pub use Rattle.csi_orchestrator.specs.Model.WellFormed.{AreWellFormed, IsWellFormed}
pub use Rattle.csi_orchestrator.specs.Public.Guards.{IsGuarded}
pub use Rattle.csi_orchestrator.specs.Public.Laws.{MovesKeepForm}
pub use Rattle.csi_orchestrator.specs.Public.Listing.{IsInOrder, ListsKnown, thing_order}
pub use Rattle.csi_orchestrator.specs.Public.Moves.{moved_to}
pub use Rattle.csi_orchestrator.specs.Public.Promises.{FollowsUnrefused}
pub use Rattle.csi_orchestrator.specs.Public.RowMoves.{IsRefusal, MovedRows}
pub use Rattle.csi_orchestrator.specs.Public.Stale.{call_answered, is_aborted, is_stale_body, is_stale_reply}
pub use Rattle.csi_orchestrator.specs.Public.Steady.{AreMarked, AreSteadyRows, AreSteadyRowsIf, HasMarks, HasOne}
pub use Rattle.csi_orchestrator.specs.Public.Steady.{IsAtRest, IsAtWork, IsStanding, IsStandingIf, IsSteadyRow}
pub use Rattle.csi_orchestrator.specs.Public.Steady.{IsSteadyRowIf}
pub use Rattle.csi_orchestrator.specs.Public.Steps.{AreStepwise, Begins, IsReached, IsStepwise, MayDoAll, MayForget}
pub use Rattle.csi_orchestrator.specs.Public.Steps.{MovesLaw, frame_of}
pub use Rattle.csi_world.specs.declared.auditing.lists.NodeLists.{NodeLists}
pub use Rattle.csi_world.specs.declared.outcomes.Outcome.{Outcome}
pub use Rattle.csi_world.specs.Model.After.{Occurred, OnItsWay, Run, after, after_from, by_answer, way_after_timeout}
pub use Rattle.csi_world.specs.Model.After.{by_result, called, called_at, delivered, delivered_body, delivered_on}
pub use Rattle.csi_world.specs.Model.After.{frame_numbered, is_node_of, joined_at, lost, lost_by, next_frame, occurs}
pub use Rattle.csi_world.specs.Model.After.{orchestrated, restarted_at, settled_by, settling_way}
pub use Rattle.csi_world.specs.Model.Safe.{IsAttachedAs, IsAttachedWhileLive, IsExclusive, IsPublishedWhereStaged}
pub use Rattle.csi_world.specs.Model.Safe.{IsRecordedRight, IsStagedWhereAttached, Safe, is_attached_there, is_true_in}
pub use Rattle.csi_world.specs.Model.Safe.{is_published_there, is_staged_there}
pub use Rattle.csi_world.specs.Model.Simulated.{AreNodesShown, ShowsRun, ShowsWorld, WorldParts}
pub use Rattle.csi_world.specs.Model.Step.{answered_by, answered_by_node, answered_by_plugin}
pub use Rattle.csi_world.specs.Model.World.{NodeAt, World, empty_world, new_node, node_id, node_state, with_frame}
pub use Rattle.csi_world.specs.Model.World.{with_history, with_new_node, with_node, with_state, without_node}
pub use Rattle.csi_world.specs.Private.Listed.{AreDistinctTexts, AreListsOf, AreNodesAlike, ArePluginsSafe}
pub use Rattle.csi_world.specs.Private.Listed.{AreRowsApart, IsListOf, IsListed, IsNodeAlike, IsPublishing, Lists}
pub use Rattle.csi_world.specs.Private.Listed.{attached_thing, controller_row_with_id, exists_thing, is_affirmed}
pub use Rattle.csi_world.specs.Private.Listed.{is_entry_listed, is_entry_of, is_held_as, is_listed, is_node_attached}
pub use Rattle.csi_world.specs.Private.Listed.{is_noted, is_row_held, is_staged_right, node_listed, published_thing}
pub use Rattle.csi_world.specs.Private.Listed.{published_things, staged_thing, staged_things, things_at, things_listed}
pub use Rattle.csi_world.specs.Private.Listed.{things_of}
pub use Rattle.csi_world.specs.Private.Settling.{CameOn, IsOfOneMake, WentOn}
pub use Rattle.csi_world.specs.Private.Simulating.{Does, IsInputRefused, IsInputSettled, IsLogged, IsPosted}
pub use Rattle.csi_world.specs.Private.Simulating.{IsReplySent, IsRun, IsSameController, IsSameNode, IsWorldAfter}
pub use Rattle.csi_world.specs.Private.Simulating.{NodeDoes, new_node_parts}
pub use Rattle.csi_world.specs.Private.Telling.{IsAt, counted_events}
pub use Rattle.csi_world.specs.Public.Audited.{AreMarkedRight, ArePlugins}
pub use Rattle.csi_world.specs.Public.Settling.{EndsSo, IsStopped, MaySettle, Settles, WasRefused, deliveries}
pub use Rattle.csi_world.specs.Public.Settling.{is_at_rest, node_in, settled, settling, spelled, spelled_from}
pub use Rattle.csi_world.specs.Public.Settling.{spelled_out}
pub use Rattle.csi_world.specs.Public.Simulating.{IsSoundWorld, ShowsNode, has_same_id}
pub use Rattle.csi_world.specs.Public.Step.{Answers, Choice, Closes, Configures, Forgets, Joins, Loses, MayChoose}
pub use Rattle.csi_world.specs.Public.Step.{MayChooseAll, MaySend, MayTake, Notes, Sends, Starts, Takes, chosen}
pub use Rattle.csi_world.specs.Public.Step.{chosen_all}
