-- A row of a controller by its parts, what it shows of the state by itself, and what a call changes there. Only private functions cite it.
use Rattle.std.specs.Prelude.{List, [], ◌∷◌, ◌++◌, map, filter, false, not}
use Rattle.csi_types.specs.declared.call.Call.{Call}
use Rattle.csi_types.specs.declared.call.Call.TheVariants as calls
use Rattle.csi_types.specs.declared.holding.Holding.{Holding}
use Rattle.csi_types.specs.Model.Same.{same_text}
use Rattle.csi_controller.specs.declared.row.NodeHolding.{NodeHolding}
use Rattle.csi_controller.specs.declared.row.ControllerRow.{ControllerRow}
use Rattle.csi_controller.specs.Model.State.{Volume, ControllerState}
use Rattle.csi_controller.specs.Model.Table.{Change, Stays, Ends, Attaches, Detaches}
use Rattle.csi_controller.specs.Model.Shown.{volume_of_row}
use Rattle.csi_controller.specs.Public.Core.{volume_holding}

-- a row, with its holdings as a list
pub record RowShown : Type 0 where
  pub volume : Volume
  pub items : List NodeHolding

-- a row, as it is kept in a record
abbrev pub row_shown : ControllerRow → RowShown
row_shown row = record { volume = volume_of_row row; items = row.holdings.items }

-- the state of the row's volume alone
abbrev pub state_shown : RowShown → ControllerState
state_shown row = record { volumes = row.volume ∷ []; next_id = 0; session = 0; holdings = map (volume_holding row.volume.id) row.items }

-- a holding, as the row of its volume has it
abbrev pub held_by : Holding → NodeHolding
held_by holding = record { node = holding.node; capability = holding.capability; readonly = holding.readonly }

-- what a call changes of its row, where the table carries it out
abbrev pub call_change : Call → Change
call_change (calls.DeleteVolume id) = Ends id
call_change (calls.ControllerPublishVolume id node capability readonly) = Attaches (record { volume = id; node = node; capability = capability; readonly = readonly })
call_change (calls.ControllerUnpublishVolume id node) = Detaches id node
call_change call = Stays

-- the row after a change
abbrev pub row_changed : RowShown → Change → RowShown
row_changed row (Ends id) = record row { volume = record row.volume { is_live = false } }
row_changed row (Attaches holding) = record row { items = row.items ++ held_by holding ∷ [] }
row_changed row (Detaches id node) = record row { items = filter (λ held. not (same_text held.node node)) row.items }
row_changed row change = row
