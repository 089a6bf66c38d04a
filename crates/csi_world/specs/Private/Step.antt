-- What may happen in a world whose orchestrator keeps the guards, whatever else it does, and in whatever order
-- frames come. This profile's own; the guards are CSI's ("Volume Lifecycle").
use Rattle.std.specs.Prelude.{◌≡◌}
use Rattle.csi_world.specs.Model.World.{World}
use Rattle.csi_world.specs.Public.Step.{Choice, MayChoose, chosen}

-- one step: some choice that may be made
pub record Step (old new : World) : Type 0 where
  pub choice : Choice
  pub may : MayChoose old choice
  pub becomes : new ≡ chosen old choice
