-- What a controller keeps by itself, whatever frames come: CSI's spec.md, "CreateVolume" (`AccessMode`) and "Volume
-- Lifecycle".
use Rattle.std.specs.Prelude.{◌≡◌, ◌⊎◌, ◌≤◌, ◌+◌, ◌==◌, List, length, count_by, true, IsSome}
use Rattle.csi_types.specs.Model.Members.{EachTwo, IsAmong}
use Rattle.csi_types.specs.declared.holding.Holding.{Holding}
use Rattle.csi_controller.specs.Model.State.{Volume, ControllerState, empty_controller, live_volume}
use Rattle.csi_controller.specs.Public.Fenced.{ConfiguredFrame, after_configured}
use Rattle.csi_controller.specs.Model.Safe.{AreExclusive}

-- any two holdings of one volume are apart, and what is attached wasn't deleted
pub record IsExclusiveState (state : ControllerState) : Type 0 where
  pub exclusive : EachTwo AreExclusive state.holdings
  pub attached_while_live : (holding : Holding) → IsAmong holding state.holdings → IsSome (live_volume holding.volume state)

-- what a controller remembers: each volume that was deleted had its last call in the greatest session that came, none had one in a
-- later session, and so there are at most as many as are live and as had their last call in that session
pub record Remembers (state : ControllerState) : Type 0 where
  pub each : (volume : Volume) → IsAmong volume state.volumes → (volume.is_live ≡ true) ⊎ (volume.kept.number.session ≡ state.session)
  pub before : (volume : Volume) → IsAmong volume state.volumes → volume.kept.number.session ≤ state.session
  pub few : length state.volumes ≤ count_by (λ volume. volume.is_live) state.volumes + count_by (λ volume. volume.kept.number.session == state.session) state.volumes

-- in every state that frames lead to, under whatever configuration each comes
abbrev pub ControllerSessionsLaw : Type 0
ControllerSessionsLaw = (came : List ConfiguredFrame) → Remembers (after_configured empty_controller came)

-- in every state that frames lead to, under whatever configuration each comes
abbrev pub ControllerSafetyLaw : Type 0
ControllerSafetyLaw = (came : List ConfiguredFrame) → IsExclusiveState (after_configured empty_controller came)
