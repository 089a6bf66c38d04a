-- A controller, as its record has it, shows a state. This profile's own.
use Rattle.std.specs.Prelude.{◌≡◌, ℕ, ◌%◌, ◌^◌, ◌==◌, List, [], map, find, Option, Some, None}
use Rattle.csi_types.specs.declared.holding.Holding.{Holding}
use Rattle.csi_controller.specs.declared.row.ControllerRow.{ControllerRow}
use Rattle.csi_controller.specs.Model.State.{Volume, ControllerState, holdings_of}

-- the volume that a row is of
abbrev pub volume_of_row : ControllerRow → Volume
volume_of_row row =
    record {
      id = row.id;
      name = row.name;
      capacity = row.capacity;
      capabilities = row.capabilities;
      is_live = row.live;
      kept = record { number = row.last; kind = row.kind; reply = row.reply };
    }

-- the holdings of a row, in its order
abbrev pub holdings_in_row : ControllerRow → List Holding
holdings_in_row row =
    map (λ held. record { volume = row.id; node = held.node; capability = held.capability; readonly = held.readonly }) row.holdings.items

-- those of a row, if there is one
abbrev pub holdings_in : Option ControllerRow → List Holding
holdings_in None = []
holdings_in (Some row) = holdings_in_row row

-- the rows are the volumes in order, each with its holdings in order; how the holdings of different volumes
-- are mixed doesn't show. A next id of 0 stands for none: all ids were given
pub record RowsShow (next_id : ℕ) (rows : List ControllerRow) (state : ControllerState) : Type 0 where
  pub next : next_id ≡ state.next_id % 2 ^ 64
  pub volumes : map volume_of_row rows ≡ state.volumes
  pub holdings : (id : ℕ) → holdings_in (find (λ row. row.id == id) rows) ≡ holdings_of id state
