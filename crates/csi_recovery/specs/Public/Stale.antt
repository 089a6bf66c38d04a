-- No open call is stale. This profile's own.
use Rattle.std.specs.Prelude.{◌≡◌, false}
use Rattle.csi_types.specs.Model.Frame.{Frame}
use Rattle.csi_types.specs.Model.Members.{IsAmong}
use Rattle.csi_orchestrator.specs.Public.Stale.{is_told_stale}
use Rattle.csi_world.specs.Model.World.{World}
use Rattle.csi_world.specs.Public.Laws.{HoldsInEveryWorld}

-- no frame that was ever sent says of an open call that it was stale
abbrev pub TellsNoneStale : World → Type 0
TellsNoneStale world = (frame : Frame) → IsAmong frame world.frames → is_told_stale world.history frame ≡ false

-- so in every world to which steps lead
abbrev pub StaleLaw : Type 0
StaleLaw = HoldsInEveryWorld TellsNoneStale
