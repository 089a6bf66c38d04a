-- The call that is due for what is wanted of a volume. This profile's own, in the order of CSI's spec.md, "Volume
-- Lifecycle".
use Rattle.std.specs.Prelude.{ℕ, List, [], ◌∷◌, filter, filter_map, not, Option, Some, None, option_and_then, if◌then◌else◌}
use Rattle.csi_types.specs.declared.call.Call.{Call}
use Rattle.csi_types.specs.declared.call.Call.TheVariants as calls
use Rattle.csi_types.specs.declared.call.Kind.{Kind}
use Rattle.csi_types.specs.declared.call.Kind.TheVariants as kinds
use Rattle.csi_types.specs.declared.call.Party.{Party}
use Rattle.csi_types.specs.declared.call.Party.TheVariants.{Controller, Node}
use Rattle.csi_types.specs.Model.Same.{same_text}
use Rattle.csi_orchestrator.specs.declared.thing.Thing.{Thing}
use Rattle.csi_orchestrator.specs.declared.thing.Thing.TheVariants.{Exists, Attached, Staged, Published}
use Rattle.csi_orchestrator.specs.Model.Thing.{thing_of, is_yes, is_no}
use Rattle.csi_orchestrator.specs.Model.History.{Usage, Goal, Create, Use, Stop, Delete, History}
use Rattle.csi_orchestrator.specs.Model.Readings.{known, id_of, goal_of, issued_of, distinct}

-- a call to a plugin
pub record Due : Type 0 where
  pub party : Party
  pub call : Call

-- the call of this kind for what is wanted of a volume of this name and id
abbrev pub call_for : List ℕ → Option Goal → Option ℕ → Kind → Option Due
call_for name (Some (Create arguments)) id kinds.CreateVolume =
    Some (record { party = Controller; call = calls.CreateVolume name arguments.required arguments.limit arguments.capabilities })
call_for name (Some (Use usage)) (Some id) kinds.ControllerPublishVolume =
    Some (record { party = Controller; call = calls.ControllerPublishVolume id usage.node usage.capability usage.readonly })
call_for name (Some (Use usage)) (Some id) kinds.NodeStageVolume = Some (record { party = Node usage.node; call = calls.NodeStageVolume id usage.capability })
call_for name (Some (Use usage)) (Some id) kinds.NodePublishVolume =
    Some (record { party = Node usage.node; call = calls.NodePublishVolume id usage.target usage.capability usage.readonly })
call_for name (Some (Stop node target)) (Some id) kinds.NodeUnpublishVolume = Some (record { party = Node node; call = calls.NodeUnpublishVolume id target })
call_for name (Some (Stop node target)) (Some id) kinds.NodeUnstageVolume = Some (record { party = Node node; call = calls.NodeUnstageVolume id })
call_for name (Some (Stop node target)) (Some id) kinds.ControllerUnpublishVolume = Some (record { party = Controller; call = calls.ControllerUnpublishVolume id node })
call_for name (Some Delete) (Some id) kinds.DeleteVolume = Some (record { party = Controller; call = calls.DeleteVolume id })
call_for name goal id kind = None

-- the node of an Attached thing
abbrev pub attached_node : Option Thing → Option (List ℕ)
attached_node (Some (Attached name node)) = Some node
attached_node thing = None

-- the nodes at which a volume may be attached
abbrev pub nodes_in_use : History → List ℕ → List (List ℕ)
nodes_in_use history name =
    filter (λ node. not (is_no (known history (Attached name node)))) (distinct (filter_map (λ issued. attached_node (thing_of issued)) (issued_of history name)))

-- the target of a Published thing at this node
abbrev pub published_target : List ℕ → Option Thing → Option (List ℕ)
published_target node (Some (Published name other target)) = if same_text other node then Some target else None
published_target node thing = None

-- the targets of a node at which a volume may be published
abbrev pub targets_in_use : History → List ℕ → List ℕ → List (List ℕ)
targets_in_use history name node =
    filter (λ target. not (is_no (known history (Published name node target)))) (distinct (filter_map (λ issued. published_target node (thing_of issued)) (issued_of history name)))

-- the kind of the call that is due until the volume is published at the target
abbrev pub due_use : History → List ℕ → Usage → Option Kind
due_use history name usage =
    if not (is_yes (known history (Attached name usage.node))) then Some kinds.ControllerPublishVolume
    else if not (is_yes (known history (Staged name usage.node))) then Some kinds.NodeStageVolume
    else if not (is_yes (known history (Published name usage.node usage.target))) then Some kinds.NodePublishVolume
    else None

-- until the volume isn't at the node; none is while it may be published at one of these targets
abbrev pub due_leave : History → List ℕ → List ℕ → List (List ℕ) → Option Kind
due_leave history name node (target ∷ targets) = None
due_leave history name node [] =
    if not (is_no (known history (Staged name node))) then Some kinds.NodeUnstageVolume
    else if not (is_no (known history (Attached name node))) then Some kinds.ControllerUnpublishVolume
    else None

-- until the volume isn't published at the target, and then isn't at the node
abbrev pub due_stop : History → List ℕ → List ℕ → List ℕ → Option Kind
due_stop history name node target =
    if not (is_no (known history (Published name node target))) then Some kinds.NodeUnpublishVolume
    else due_leave history name node (targets_in_use history name node)

-- for what is wanted: that the volume is made, is used, isn't, or isn't there
abbrev pub due_kind : History → List ℕ → Goal → Option Kind
due_kind history name (Create arguments) = if is_yes (known history (Exists name)) then None else Some kinds.CreateVolume
due_kind history name (Use usage) = due_use history name usage
due_kind history name (Stop node target) = due_stop history name node target
due_kind history name Delete = if is_no (known history (Exists name)) then None else Some kinds.DeleteVolume

-- the call that is due for a goal, once the volume has the id that the call carries
abbrev pub due_for : History → List ℕ → Option Goal → Option Due
due_for history name goal = option_and_then (call_for name goal (id_of history name)) (option_and_then (due_kind history name) goal)

-- the call that is due; where none is, what is wanted is met
abbrev pub due_call : History → List ℕ → Option Due
due_call history name = due_for history name (goal_of history name)
