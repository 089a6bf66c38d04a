-- What happens to a world that is played. This profile's own.
use Rattle.std.specs.Prelude.{◌≡◌, [], ◌∷◌, ◌++◌}
use Rattle.csi_json.specs.declared.happening.Happening.{Happening}
use Rattle.csi_json.specs.declared.happening.Happening.TheVariants as happenings
use Rattle.csi_world.specs.Model.After.{occurs}
use Rattle.csi_world.specs.Model.Simulated.{WorldParts, ShowsWorld}
use Rattle.csi_world.specs.Model.World.{World}
use Rattle.csi_recovery.specs.Public.Worlds.{Recovering}
use Rattle.csi_types.specs.declared.event.Event.{Event}
use Rattle.csi_commands.specs.Public.Playing.{asked}

-- an event happened
pub record HasOccurred (event : Event) (old : WorldParts) (world : World) (new : WorldParts) : Type 0 where
  pub shows : ShowsWorld new (occurs world event).world
  pub logged : new.outcomes ≡ old.outcomes ++ (occurs world event).outcome ∷ []

-- an event, or a recovery
abbrev pub HasHappened : Happening → WorldParts → World → WorldParts → Type 0
HasHappened (happenings.Occurs event) old world new = HasOccurred event old world new
HasHappened (happenings.Recovers recovery) old world new = Recovering (asked recovery) old world new

-- so it is of each world that is shown
abbrev pub Happens : Happening → WorldParts → WorldParts → Type 0
Happens happening old new = (world : World) → ShowsWorld old world → HasHappened happening old world new
