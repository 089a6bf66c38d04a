-- A use of a volume at a node, as the holding that it is: CSI's spec.md, "ControllerPublishVolume".
use Rattle.std.specs.Prelude.{ℕ}
use Rattle.csi_types.specs.declared.node_use.NodeUse.{NodeUse}
use Rattle.csi_types.specs.declared.holding.Holding.{Holding}
use Rattle.csi_types.specs.Public.Lent.{lent_capability}

-- the holding of the volume with this id
abbrev pub holding_of : ℕ → NodeUse → Holding
holding_of id there = record { volume = id; node = there.node.now; capability = lent_capability there.capability; readonly = there.readonly }
