-- Events that are told by events that settle nothing. This profile's own.
use Rattle.std.specs.Prelude.{ℕ, zero, suc, List, [], ◌∷◌}
use Rattle.csi_types.specs.declared.event.Event.{Event}
use Rattle.csi_types.specs.declared.event.Event.TheVariants.{Timeout, Deliver}
use Rattle.csi_world.specs.Model.World.{World}
use Rattle.csi_world.specs.Model.Simulated.{WorldParts, ShowsWorld}
use Rattle.csi_world.specs.Public.Simulating.{IsSoundWorld}

-- it is this world, whatever is logged
pub record IsAt (shown : WorldParts) (world : World) : Type 0 where
  pub own : IsSoundWorld shown
  pub shows : ShowsWorld shown world

-- the deliveries of so many frames, from the one behind this place on
abbrev pub counted_deliveries : ℕ → ℕ → List Event
counted_deliveries place zero = []
counted_deliveries place (suc more) = Deliver (suc place) ∷ counted_deliveries (suc place) more

-- so many events: a timeout, and the deliveries of frames from the one behind this place on
abbrev pub counted_events : List ℕ → ℕ → ℕ → List Event
counted_events name place zero = []
counted_events name place (suc more) = Timeout name ∷ counted_deliveries place more
