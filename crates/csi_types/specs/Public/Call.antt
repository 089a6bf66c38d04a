-- Calls by their kinds, and the plugins that they are for (CSI's spec.md, "RPC Interface").
use Rattle.std.specs.Prelude.{Bool, true, false, not}
use Rattle.csi_types.specs.declared.call.Kind.{Kind}
use Rattle.csi_types.specs.declared.call.Kind.TheVariants as kinds
use Rattle.csi_types.specs.declared.call.Party.{Party}
use Rattle.csi_types.specs.declared.call.Party.TheVariants.{Controller, Node}

-- whether calls of this kind are for a node, and not for the controller
abbrev pub is_node_kind : Kind → Bool
is_node_kind kinds.CreateVolume = false
is_node_kind kinds.DeleteVolume = false
is_node_kind kinds.ControllerPublishVolume = false
is_node_kind kinds.ControllerUnpublishVolume = false
is_node_kind kinds.NodeStageVolume = true
is_node_kind kinds.NodeUnstageVolume = true
is_node_kind kinds.NodePublishVolume = true
is_node_kind kinds.NodeUnpublishVolume = true

-- whether calls of this kind are for this plugin, and replies to them from it
abbrev pub is_party_of : Kind → Party → Bool
is_party_of kind Controller = not (is_node_kind kind)
is_party_of kind (Node id) = is_node_kind kind
