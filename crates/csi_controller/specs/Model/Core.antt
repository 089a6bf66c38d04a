-- How a controller's parts are a state.
use Rattle.std.specs.Prelude.{◌≡◌, ℕ, ◌≤◌, ◌^◌, List}
use Rattle.csi_types.specs.Model.Config.{Config}
use Rattle.csi_controller.specs.declared.row.ControllerRow.{ControllerRow}
use Rattle.csi_controller.specs.Model.State.{ControllerState}
use Rattle.csi_controller.specs.Model.Shown.{RowsShow}

-- what a controller is to its callers: its configuration, the next id (0 once all were given), the greatest session that came,
-- and its rows by rising id
pub record ControllerParts : Type 0 where
  pub config : Config
  pub next_id : ℕ
  pub session : ℕ
  pub rows : List ControllerRow

-- these parts show the state; its next id is from 1 to 2^64
pub record Shows (parts : ControllerParts) (state : ControllerState) : Type 0 where
  pub shows : RowsShow parts.next_id parts.rows state
  pub session : parts.session ≡ state.session
  pub next_from : 1 ≤ state.next_id
  pub next_to : state.next_id ≤ 2 ^ 64
