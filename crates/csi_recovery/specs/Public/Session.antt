-- The session of a recovery. This profile's own.
use Rattle.std.specs.Prelude.{ℕ, ◌+◌, ◌-◌, ◌^◌, max, nat_lt, List, [], ◌∷◌, Option, Some, None, if◌then◌else◌}
use Rattle.csi_controller.specs.Model.State.{ControllerState}
use Rattle.csi_recovery.specs.Public.Recovered.{GivenNode}

-- the greatest session that one of these nodes heard of, 0 where there is none
abbrev pub latest_session : List GivenNode → ℕ
latest_session [] = 0
latest_session (node ∷ nodes) = max node.state.session (latest_session nodes)

-- the greatest session that is known or was heard of
abbrev pub greatest_session : ℕ → ControllerState → List GivenNode → ℕ
greatest_session known controller given = max (max known controller.session) (latest_session given)

-- 2^20 above it, since at each start the lost orchestrator may have begun one of which no plugin heard; none where there isn't one left
-- for the start after it
abbrev pub recovery_session : ℕ → ControllerState → List GivenNode → Option ℕ
recovery_session known controller given =
    let session : ℕ = greatest_session known controller given + 2 ^ 20 in if nat_lt session (2 ^ 64 - 1) then Some session else None
