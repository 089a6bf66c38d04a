-- The reply of a call that is carried out is none of a late call.
use Rattle.csi_world.proofs.Words.{◌≡◌, Bool, true, false, cond, refl, Call, Status, Config, ControllerState}
use Rattle.csi_world.proofs.Words.{NodeState, is_aborted, arith}
use Rattle.csi_types.specs.declared.call.Call.TheVariants as calls
use Rattle.csi_controller.specs.Model.Table as controller_table
use Rattle.csi_node.specs.Model.Table as node_table

-- ---- tables

-- the status isn't that of a late call
abbrev pub IsPlain : Status → Type 0
IsPlain status = is_aborted status ≡ false

-- what is so of both is so of either
either : {X : Type 0} (P : X → Type 0) (b : Bool) (x y : X) → P x → P y → P (cond b x y)
either P true x y p q = p
either P false x y p q = q

-- an outcome's
abbrev pub ControllerPlain : controller_table.Outcome → Type 0
ControllerPlain outcome = IsPlain outcome.reply.status

-- the controller's table answers no such status
pub controller-plain : (config : Config) (state : ControllerState) (call : Call) → ControllerPlain (controller_table.controller_row config state call)
controller-plain config state call = grind (arith, either)

-- an outcome's of a node
abbrev pub NodePlain : node_table.Outcome → Type 0
NodePlain outcome = IsPlain outcome.reply.status

-- nor does a node's
lifecycle-plain : (state : NodeState) (call : Call) → NodePlain (node_table.lifecycle_row state call)
lifecycle-plain state (calls.NodeStageVolume id capability) = grind (arith, either)
lifecycle-plain state (calls.NodeUnstageVolume id) = grind arith
lifecycle-plain state (calls.NodePublishVolume id target capability readonly) = grind (arith, either)
lifecycle-plain state (calls.NodeUnpublishVolume id target) = grind arith
lifecycle-plain state call = refl

pub node-plain : (state : NodeState) (call : Call) → NodePlain (node_table.node_row state call)
node-plain state call = either NodePlain (node_table.has_no_room state call) _ _ refl (lifecycle-plain state call)
