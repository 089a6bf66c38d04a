-- Runs that go on until a volume is at rest. This profile's own.
use Rattle.std.specs.Prelude.{◌≡◌, ℕ, List, ◌++◌, length, map}
use Rattle.csi_types.specs.declared.event.Event.{Event}
use Rattle.csi_types.specs.Model.Config.{Config}
use Rattle.csi_world.specs.Model.After.{OnItsWay}
use Rattle.csi_world.specs.Model.Simulated.{WorldParts, ShowsWorld}
use Rattle.csi_world.specs.Public.Simulating.{IsSoundWorld}
use Rattle.csi_world.specs.Private.Simulating.{IsRun}

-- a run went on by these events, of which there are so many
pub record WentOn (config : Config) (events more : List Event) (shown : WorldParts) (count : ℕ) : Type 0 where
  pub is_run : IsRun config (events ++ more) shown
  pub counted : count ≡ length more

-- it is the world of a volume on its way to rest, after so many events; nothing was logged
pub record CameOn (old new : WorldParts) (way : OnItsWay) (count : ℕ) : Type 0 where
  pub outcomes : new.outcomes ≡ old.outcomes
  pub own : IsSoundWorld new
  pub world : ShowsWorld new way.world
  pub counted : count ≡ way.events

-- worlds of one make: of the same configuration, with nodes of the same ids in the same order
pub record IsOfOneMake (old new : WorldParts) : Type 0 where
  pub config : new.config ≡ old.config
  pub ids : map (λ node. node.id) new.nodes ≡ map (λ node. node.id) old.nodes
