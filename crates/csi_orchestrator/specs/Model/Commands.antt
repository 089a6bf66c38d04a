-- Why commands are refused: the first reason that holds. This profile's own, but that the access modes allow
-- what they allow (CSI's spec.md, "CreateVolume", `AccessMode`).
use Rattle.std.specs.Prelude.{ℕ, ◌+◌, ◌^◌, ◌==◌, List, filter, filter_map, length, Bool, false, not, ◌&&◌, ◌||◌, nat_lt, nat_le, Option, Some, None, is_some, is_none, if◌then◌else◌}
use Rattle.std.specs.List.{list_any}
use Rattle.csi_types.specs.declared.rows.TheConstants.{MAX_ROWS}
use Rattle.csi_types.specs.declared.capability.Capability.{Capability}
use Rattle.csi_types.specs.declared.number.Number.{Number}
use Rattle.csi_types.specs.Model.Same.{same_text, same_flag, same_capability, has_capability}
use Rattle.csi_types.specs.Model.Sharing.{is_single_node, are_two_writers, allows_one_target}
use Rattle.csi_orchestrator.specs.declared.fault.OrchFault.{OrchFault}
use Rattle.csi_orchestrator.specs.declared.fault.OrchFault.TheVariants as faults
use Rattle.csi_orchestrator.specs.declared.thing.Thing.TheVariants.{Exists, Attached, Published}
use Rattle.csi_orchestrator.specs.Model.Thing.{is_yes, is_no}
use Rattle.csi_orchestrator.specs.Model.History.{Arguments, Usage, Held, History}
use Rattle.csi_orchestrator.specs.Model.Readings.{nodes_of, known, id_of, goal_of, arguments_of, held, last_number, names_of, has_row}
use Rattle.csi_orchestrator.specs.Model.Due.{nodes_in_use, targets_in_use}

-- the number of the next call, if there is one left
abbrev pub next_number : Number → Option Number
next_number last =
    if nat_lt (last.call + 1) (2 ^ 64) then Some (record { session = last.session; call = last.call + 1 }) else None

-- the next session, if there is one left
abbrev pub next_session : ℕ → Option ℕ
next_session session = if nat_lt (session + 1) (2 ^ 64) then Some (session + 1) else None

-- no number is left in the session
abbrev pub is_session_spent : History → Bool
is_session_spent history = is_none (next_number (last_number history))

-- why a create is refused
abbrev pub create_fault : History → List ℕ → Option OrchFault
create_fault history name =
    if is_some (id_of history name) || is_some (goal_of history name) then Some faults.NameUsed
    else if is_session_spent history then Some faults.NumbersSpent
    else if not (has_row history name) && nat_le MAX_ROWS (length (names_of history)) then Some faults.Full
    else None

-- the capability is one that the volume was to be created with
abbrev pub is_capable : Option Arguments → Capability → Bool
is_capable None capability = false
is_capable (Some arguments) capability = has_capability arguments.capabilities capability

-- the other nodes at which the volume may be attached, listed or not
abbrev pub other_nodes : History → List ℕ → List ℕ → List (List ℕ)
other_nodes history name node = filter (λ other. not (same_text other node)) (nodes_in_use history name)

-- how the volume is held there
abbrev pub held_elsewhere : History → List ℕ → List ℕ → List Held
held_elsewhere history name node = filter_map (held history name) (other_nodes history name node)

-- one of the two modes is for one node
abbrev pub is_for_one_node : Usage → Held → Bool
is_for_one_node usage there = is_single_node there.capability.mode || is_single_node usage.capability.mode

-- both write, and one of the two modes has a single writer
abbrev pub uses_as_second_writer : Usage → Held → Bool
uses_as_second_writer usage there = are_two_writers there.capability.mode there.readonly usage.capability.mode usage.readonly

-- this is another capability or flag than the use has
abbrev pub is_otherwise : Usage → Option Held → Bool
is_otherwise usage None = false
is_otherwise usage (Some here) = not (same_capability here.capability usage.capability && same_flag here.readonly usage.readonly)

-- the volume may be attached at the use's node with another capability or flag
abbrev pub is_held_otherwise : History → List ℕ → Usage → Bool
is_held_otherwise history name usage =
    not (is_no (known history (Attached name usage.node))) && is_otherwise usage (held history name usage.node)

-- the other targets of the node at which the volume may be published
abbrev pub other_targets : History → List ℕ → Usage → List (List ℕ)
other_targets history name usage =
    filter (λ target. not (same_text target usage.target)) (targets_in_use history name usage.node)

-- the mode allows one target, and another one is taken
abbrev pub is_target_taken : History → List ℕ → Usage → Bool
is_target_taken history name usage =
    allows_one_target usage.capability.mode && nat_lt 0 (length (other_targets history name usage))

-- why a use is refused, whether or not it is met already
abbrev pub use_fault : History → List ℕ → Usage → Option OrchFault
use_fault history name usage =
    if not (has_row history name) then Some faults.NoSuchVolume
    else if not (is_yes (known history (Exists name))) then Some faults.NotCreated
    else if is_some (goal_of history name) then Some faults.Busy
    else if not (list_any (same_text usage.node) (nodes_of history)) then Some faults.NoSuchNode
    else if not (is_capable (arguments_of history name) usage.capability) then Some faults.NotCapable
    else if list_any (is_for_one_node usage) (held_elsewhere history name usage.node) then Some faults.HeldElsewhere
    else if list_any (uses_as_second_writer usage) (held_elsewhere history name usage.node) then Some faults.WriterElsewhere
    else if is_held_otherwise history name usage then Some faults.HeldOtherwise
    else if is_target_taken history name usage then Some faults.TargetTaken
    else None

-- why a use that isn't met yet is refused
abbrev pub use_room_fault : History → List ℕ → Usage → Option OrchFault
use_room_fault history name usage =
    if is_session_spent history then Some faults.NumbersSpent
    else if nat_le 16 (length (other_targets history name usage)) || nat_le 64 (length (other_nodes history name usage.node)) then Some faults.Full
    else None

-- all that is left to be done at a node is to detach the volume: it may be attached there, and is published at no target
abbrev pub is_left_at : History → List ℕ → List ℕ → Bool
is_left_at history name node = not (is_no (known history (Attached name node))) && (length (targets_in_use history name node) == 0)

-- why a stop is refused; what is left at a node is stopped by any target, also where the node isn't listed
abbrev pub stop_fault : History → List ℕ → List ℕ → List ℕ → Option OrchFault
stop_fault history name node target =
    if not (has_row history name) then Some faults.NoSuchVolume
    else if not (is_yes (known history (Exists name))) then Some faults.NotCreated
    else if is_some (goal_of history name) then Some faults.Busy
    else if not (list_any (same_text node) (nodes_of history)) && not (is_left_at history name node) then Some faults.NoSuchNode
    else if is_no (known history (Published name node target)) && not (is_left_at history name node) then Some faults.NoSuchTarget
    else if is_session_spent history then Some faults.NumbersSpent
    else None

-- why a delete is refused, whether or not it is met already
abbrev pub delete_fault : History → List ℕ → Option OrchFault
delete_fault history name =
    if not (has_row history name) then Some faults.NoSuchVolume
    else if is_none (id_of history name) then Some faults.NotCreated
    else if nat_lt 0 (length (nodes_in_use history name)) then Some faults.InUse
    else None

-- why a delete of a volume that may be there is refused
abbrev pub delete_busy_fault : History → List ℕ → Option OrchFault
delete_busy_fault history name =
    if is_some (goal_of history name) then Some faults.Busy
    else if is_session_spent history then Some faults.NumbersSpent
    else None

-- why a timeout is refused
abbrev pub timeout_fault : History → List ℕ → Option OrchFault
timeout_fault history name =
    if not (has_row history name) then Some faults.NoSuchVolume
    else if is_none (goal_of history name) then Some faults.Idle
    else None

-- some volume may be attached at the node; what may be staged or published there may be attached too
abbrev pub is_node_in_use : History → List ℕ → Bool
is_node_in_use history node = list_any (λ name. not (is_no (known history (Attached name node)))) (names_of history)

-- a node that has to stay listed is left out: a volume may be attached there
abbrev pub leaves_out : History → List (List ℕ) → List ℕ → Bool
leaves_out history nodes node = not (list_any (same_text node) nodes) && is_node_in_use history node

-- why a session isn't begun with this list of nodes
abbrev pub restart_fault : History → List (List ℕ) → Option OrchFault
restart_fault history nodes =
    if is_none (next_session (last_number history).session) then Some faults.NumbersSpent
    else if list_any (leaves_out history nodes) (nodes_of history) then Some faults.NodeInUse
    else None

-- why a node isn't given up as lost
abbrev pub loss_fault : History → Option OrchFault
loss_fault history = if is_none (next_session (last_number history).session) then Some faults.NumbersSpent else None
