-- The things of a volume's lifecycle as a plugin has them: CSI's spec.md, "Volume Lifecycle". A volume is found by its
-- name where it is made, and by its id everywhere else.
use Rattle.std.specs.Prelude.{ℕ, ◌==◌, List, Bool, false, ◌&&◌, Option, Some, None, option_map}
use Rattle.csi_types.specs.declared.capability.Capability.{Capability}
use Rattle.csi_types.specs.declared.call.Call.{Call}
use Rattle.csi_types.specs.declared.call.Call.TheVariants as calls
use Rattle.csi_types.specs.declared.reply.Reply.{Reply}
use Rattle.csi_types.specs.Model.Same.{same_text}

-- a volume is there; it is attached at a node, staged there, published at a target there
pub data PluginThing : Type 0 where
  Exists : (name : List ℕ) → PluginThing
  Attached : (id : ℕ) (node : List ℕ) → PluginThing
  Staged : (id : ℕ) (node : List ℕ) → PluginThing
  Published : (id : ℕ) (node : List ℕ) (target : List ℕ) → PluginThing

-- the two are one thing
abbrev pub same_plugin_thing : PluginThing → PluginThing → Bool
same_plugin_thing (Exists name) (Exists other) = same_text name other
same_plugin_thing (Attached id node) (Attached other there) = (id == other) && same_text node there
same_plugin_thing (Staged id node) (Staged other there) = (id == other) && same_text node there
same_plugin_thing (Published id node target) (Published other there aim) = (id == other) && same_text node there && same_text target aim
same_plugin_thing thing other = false

-- how a thing is there: a volume with its id, the others in the capability and with the flag that they were asked for
pub data ThingForm : Type 0 where
  HasId : (id : ℕ) → ThingForm
  AttachedAs : (capability : Capability) (readonly : Bool) → ThingForm
  StagedAs : (capability : Capability) → ThingForm
  PublishedAs : (capability : Capability) (readonly : Bool) → ThingForm

-- what a call that gets this reply, an OK, asks of its thing; none where it is to be undone
abbrev pub asked : Call → Reply → Option ThingForm
asked (calls.CreateVolume name required limit capabilities) reply = option_map HasId reply.id
asked (calls.DeleteVolume id) reply = None
asked (calls.ControllerPublishVolume id node capability readonly) reply = Some (AttachedAs capability readonly)
asked (calls.ControllerUnpublishVolume id node) reply = None
asked (calls.NodeStageVolume id capability) reply = Some (StagedAs capability)
asked (calls.NodeUnstageVolume id) reply = None
asked (calls.NodePublishVolume id target capability readonly) reply = Some (PublishedAs capability readonly)
asked (calls.NodeUnpublishVolume id target) reply = None
