-- What it means that a world is safe: CSI's spec.md, "CreateVolume" (`AccessMode`) for the first clause, and "Volume
-- Lifecycle" for the others.
use Rattle.std.specs.Prelude.{◌≡◌, ℕ, List, find, Bool, true, false, ◌&&◌, Option, Some, None, is_some, IsSome}
use Rattle.csi_types.specs.declared.capability.Capability.{Capability}
use Rattle.csi_types.specs.declared.holding.Holding.{Holding}
use Rattle.csi_types.specs.Model.Members.{IsAmong, EachTwo}
use Rattle.csi_types.specs.Model.Same.{same_text}
use Rattle.csi_controller.specs.Model.Safe.{AreExclusive}
use Rattle.csi_controller.specs.Model.State.{Volume, ControllerState, volume_named, live_volume, holding_at}
use Rattle.csi_node.specs.Model.State.{StagedVolume, PublishedVolume, NodeState, staged_of, published_at}
use Rattle.csi_orchestrator.specs.declared.thing.Thing.{Thing}
use Rattle.csi_orchestrator.specs.declared.thing.Thing.TheVariants.{Exists, Attached, Staged, Published}
use Rattle.csi_orchestrator.specs.declared.thing.Known.TheVariants.{Yes, No}
use Rattle.csi_orchestrator.specs.Model.Readings.{known}
use Rattle.csi_world.specs.Model.World.{NodeAt, World, node_state}

-- any two holdings of one volume are apart
abbrev pub IsExclusive : World → Type 0
IsExclusive world = EachTwo AreExclusive world.controller.holdings

-- the volume is attached at the node, with this capability
pub record IsAttachedAs (world : World) (id : ℕ) (node : List ℕ) (capability : Capability) : Type 0 where
  pub holding : Holding
  pub is_held : IsAmong holding world.controller.holdings
  pub of_volume : holding.volume ≡ id
  pub at_node : holding.node ≡ node
  pub same_capability : holding.capability ≡ capability

-- what is staged at a node is attached there, with the same capability
abbrev pub IsStagedWhereAttached : World → Type 0
IsStagedWhereAttached world =
    (node : NodeAt) (staged : StagedVolume) → IsAmong node world.nodes → IsAmong staged node.state.staged
    → IsAttachedAs world staged.volume node.id staged.capability

-- what is published at a node is staged there, with the same capability
abbrev pub IsPublishedWhereStaged : World → Type 0
IsPublishedWhereStaged world =
    (node : NodeAt) (published : PublishedVolume) → IsAmong node world.nodes → IsAmong published node.state.published
    → IsAmong {X = StagedVolume} (record { volume = published.volume; capability = published.capability }) node.state.staged

-- what is attached wasn't deleted
abbrev pub IsAttachedWhileLive : World → Type 0
IsAttachedWhileLive world =
    (holding : Holding) → IsAmong holding world.controller.holdings → IsSome (live_volume holding.volume world.controller)

-- the volume of a name is attached at a node
abbrev pub is_attached_there : ControllerState → List ℕ → Option Volume → Bool
is_attached_there controller node None = false
is_attached_there controller node (Some volume) = is_some (holding_at volume.id node controller)

-- it is staged at a node
abbrev pub is_staged_there : Option Volume → Option NodeState → Bool
is_staged_there (Some volume) (Some state) = is_some (staged_of volume.id state)
is_staged_there volume state = false

-- it is published at a target of a node
abbrev pub is_published_there : List ℕ → Option Volume → Option NodeState → Bool
is_published_there target (Some volume) (Some state) = is_some (published_at volume.id target state)
is_published_there target volume state = false

-- the thing is so, whatever the orchestrator knows; that a deleted volume is attached nowhere is a clause of its own
abbrev pub is_true_in : World → Thing → Bool
is_true_in world (Exists name) = is_some (find (λ volume. same_text volume.name name && volume.is_live) world.controller.volumes)
is_true_in world (Attached name node) = is_attached_there world.controller node (volume_named name world.controller)
is_true_in world (Staged name node) = is_staged_there (volume_named name world.controller) (node_state node world)
is_true_in world (Published name node target) = is_published_there target (volume_named name world.controller) (node_state node world)

-- what is known to be so is so, and what is known not to be so isn't
pub record IsRecordedRight (world : World) (thing : Thing) : Type 0 where
  pub yes : known world.history thing ≡ Yes → is_true_in world thing ≡ true
  pub no : known world.history thing ≡ No → is_true_in world thing ≡ false

-- all five
pub record Safe (world : World) : Type 0 where
  pub exclusive : IsExclusive world
  pub staged_where_attached : IsStagedWhereAttached world
  pub published_where_staged : IsPublishedWhereStaged world
  pub attached_while_live : IsAttachedWhileLive world
  pub recorded_right : (thing : Thing) → IsRecordedRight world thing
