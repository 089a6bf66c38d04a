-- The code's due call.
use Rattle.std.specs.Prelude.{ℕ, List, Option, Some, None, option_map, ◌≡◌}
use Rattle.csi_types.specs.declared.call.Call.{Call}
use Rattle.csi_types.specs.declared.call.Call.TheVariants as calls
use Rattle.csi_types.specs.declared.call.Kind.{Kind}
use Rattle.csi_types.specs.declared.call.Kind.TheVariants as kinds
use Rattle.csi_types.specs.declared.call.Party.{Party}
use Rattle.csi_types.specs.declared.call.Party.TheVariants as parties
use Rattle.csi_types.specs.Model.Call.{kind_of}
use Rattle.csi_orchestrator.specs.declared.due.Due.{Due as KeptDue}
use Rattle.csi_orchestrator.specs.declared.due.Due.TheVariants.{Create, Delete, Attach, Detach, Stage, Unstage, Publish, Unpublish}
use Rattle.csi_orchestrator.specs.Model.Due.{Due}

-- the node that the code's due call is for; none for the controller
abbrev pub node_due : KeptDue → Option (List ℕ)
node_due (Create name arguments) = None
node_due (Delete id) = None
node_due (Attach id usage) = None
node_due (Detach id node) = None
node_due (Stage id usage) = Some (usage.now).node
node_due (Unstage id node) = Some node.now
node_due (Publish id usage) = Some (usage.now).node
node_due (Unpublish id node target) = Some node.now

-- the node, or else the controller
abbrev pub party_of_node : Option (List ℕ) → Party
party_of_node None = parties.Controller
party_of_node (Some node) = parties.Node node

-- how it is spelled
abbrev pub call_due : KeptDue → Call
call_due (Create name arguments) = calls.CreateVolume name.now (arguments.now).required (arguments.now).limit (arguments.now).capabilities
call_due (Delete id) = calls.DeleteVolume id
call_due (Attach id usage) = calls.ControllerPublishVolume id (usage.now).node (usage.now).capability (usage.now).readonly
call_due (Detach id node) = calls.ControllerUnpublishVolume id node.now
call_due (Stage id usage) = calls.NodeStageVolume id (usage.now).capability
call_due (Unstage id node) = calls.NodeUnstageVolume id
call_due (Publish id usage) = calls.NodePublishVolume id (usage.now).target (usage.now).capability (usage.now).readonly
call_due (Unpublish id node target) = calls.NodeUnpublishVolume id target.now

-- the same, as the definitions have it
abbrev pub due_shown : KeptDue → Due
due_shown due = record { party = party_of_node (node_due due); call = call_due due }

-- the kind of the call that is due, if one is
abbrev pub kind_due : Option Due → Option Kind
kind_due due = option_map (λ due. kind_of due.call) due

-- none is due, or a DeleteVolume, whose frame takes no memory
abbrev pub IsQuiet : Option Due → Type 0
IsQuiet None = Unit {0}
IsQuiet (Some due) = kind_of due.call ≡ kinds.DeleteVolume
