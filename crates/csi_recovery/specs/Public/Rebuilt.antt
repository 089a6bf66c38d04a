-- A controller that is made of what its orchestrator keeps, after its own store was lost. This profile's own.
use Rattle.std.specs.Prelude.{◌≡◌, ℕ, ◌<◌, List, [], filter_map, map, true, Option, Some, None, if◌then◌else◌}
use Rattle.std.specs.List.{flat_map}
use Rattle.std.specs.List.Sorted.{IsPermutation}
use Rattle.csi_types.specs.Model.Members.{EachTwo, IsAmong}
use Rattle.csi_types.specs.declared.call.Kind.TheVariants.{CreateVolume}
use Rattle.csi_types.specs.declared.holding.Holding.{Holding}
use Rattle.csi_types.specs.Model.Capacity.{capacity_wanted}
use Rattle.csi_types.specs.Model.Replies.{ok_reply_with}
use Rattle.csi_fence.specs.Model.Fence.{Kept}
use Rattle.csi_controller.specs.Model.State.{Volume, ControllerState}
use Rattle.csi_orchestrator.specs.declared.thing.Known.TheVariants.{Maybe}
use Rattle.csi_orchestrator.specs.declared.thing.Thing.TheVariants.{Attached}
use Rattle.csi_orchestrator.specs.Model.Thing.{Issued, is_no, touches}
use Rattle.csi_orchestrator.specs.Model.History.{History}
use Rattle.csi_orchestrator.specs.Model.Readings.{issued_since}
use Rattle.csi_orchestrator.specs.Model.Shown.{NodeEntryShown, RowShown, OrchestratorParts, Shows}
use Rattle.csi_orchestrator.specs.Public.Record.{RecordParts}
use Rattle.csi_orchestrator.specs.Public.Restored.{AreRestorable}
use Rattle.csi_orchestrator.specs.Public.Shown.{closed}

-- what is kept of a volume's last call, which nobody knows: an OK to its creation, by a number before each that any orchestrator gives
abbrev pub kept_of_old : ℕ → Kept
kept_of_old id = record { number = record { session = 0; call = 0 }; kind = CreateVolume; reply = ok_reply_with id }

-- the volume of a row, under this id: with the capacity that was asked for, perhaps less than it was made with
abbrev pub volume_with : ℕ → RowShown → Volume
volume_with id row =
    record {
      id = id;
      name = row.name;
      capacity = capacity_wanted row.arguments.required row.arguments.limit;
      capabilities = row.arguments.capabilities;
      is_live = true;
      kept = kept_of_old id;
    }

-- the volume of a row, by its id, unless it is known not to be there
abbrev pub volume_by : Option ℕ → RowShown → Option Volume
volume_by None row = None
volume_by (Some id) row = if is_no row.exists then None else Some (volume_with id row)

-- the volume of a row that has an id, unless it is known not to be there
abbrev pub rebuilt_volume : RowShown → Option Volume
rebuilt_volume row = volume_by row.id row

-- the volumes of these rows, in their order
abbrev pub rebuilt_volumes : List RowShown → List Volume
rebuilt_volumes rows = filter_map rebuilt_volume rows

-- how the volume of this id is held by an entry, unless it is known not to be attached
abbrev pub rebuilt_holding : ℕ → NodeEntryShown → Option Holding
rebuilt_holding id entry =
    if is_no entry.attached then None
    else Some (record { volume = id; node = entry.node; capability = entry.capability; readonly = entry.readonly })

-- the holdings of a row, in the order of its entries
abbrev pub holdings_with : Option ℕ → List NodeEntryShown → List Holding
holdings_with None entries = []
holdings_with (Some id) entries = filter_map (rebuilt_holding id) entries

-- the holdings of these rows
abbrev pub rebuilt_holdings : List RowShown → List Holding
rebuilt_holdings rows = flat_map (λ row. holdings_with row.id row.node_entries) rows

-- this is what is made of the rows: their volumes by rising id, their holdings, this session, and this next id, which is the operator's word
pub record IsRebuilt (session next_id : ℕ) (rows : List RowShown) (state : ControllerState) : Type 0 where
  pub volumes : IsPermutation (rebuilt_volumes rows) state.volumes
  pub rising : EachTwo (λ (a b : Volume). a.id < b.id) state.volumes
  pub holdings : state.holdings ≡ rebuilt_holdings rows
  pub has_next : state.next_id ≡ next_id
  pub in_session : state.session ≡ session

-- the record of an orchestrator that shows these parts, once its open calls were given up
abbrev pub record_of : OrchestratorParts → RecordParts
record_of parts = record { nodes = parts.nodes; session = parts.last.session; rows = map closed parts.rows }

-- a call that attaches the volume of the name to the node, or detaches it, was sent since the name was last forgotten
pub record WasAsked (history : History) (name node : List ℕ) : Type 0 where
  pub call : Issued
  pub among : IsAmong call (issued_since history name)
  pub of_attachment : touches (Attached name node) call ≡ true

-- this is the record of an orchestrator with this history: it keeps the rules of such a record, and of an attachment of which it doesn't know whether it
-- is there a call was sent since the volume's name was last forgotten
pub record IsRecordOf (kept : RecordParts) (history : History) : Type 0 where
  pub parts : OrchestratorParts
  pub shows : Shows parts history
  pub is : kept ≡ record_of parts
  pub rules : AreRestorable kept.nodes kept.rows
  pub asked : (row : RowShown) (entry : NodeEntryShown) → IsAmong row kept.rows → IsAmong entry row.node_entries → entry.attached ≡ Maybe → WasAsked history row.name entry.node
