-- What the nodes keep by themselves, in every world of which they are in states that frames lead to.
use Rattle.csi_world.proofs.Words.{◌≡◌, ℕ, Some, sym, subst, Capability, IsAmong, IsPublishedRight, NodeSafetyLaw}
use Rattle.csi_world.proofs.Words.{NodeState, StagedVolume, staged_of, World, IsPublishedWhereStaged, arith}
use Rattle.csi_world.proofs.Lemmas.{eqb-true, each_of, among-find, some-from_map, find-passes}
use Rattle.csi_world.proofs.PluginsReached.{IsReached, IsNodeOfFrames}

-- the capability in which a volume is staged stands in the list
pub staged_there : (state : NodeState) (id : ℕ) (capability : Capability) → staged_of id state ≡ Some capability → IsAmong {X = StagedVolume} (record { volume = id; capability = capability }) state.staged
staged_there state id capability h = grind (arith, some-from_map, find-passes, eqb-true, among-find)

-- what is published at a node is staged there, in the same capability
pub published-staged : NodeSafetyLaw → (world : World) → IsReached world → IsPublishedWhereStaged world
published-staged law world reached at published there among =
    let of = each_of IsNodeOfFrames world.nodes at reached.nodes there in
    let right : IsPublishedRight at.state = subst IsPublishedRight (sym of.2) (law at.id of.0 of.1) in
    staged_there at.state published.volume published.capability (right.staged published among)
