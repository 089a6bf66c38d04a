-- The controller's record that is made of an orchestrator's, and why none is made. This profile's own.
use Rattle.std.specs.Prelude.{◌≡◌, ◌⊎◌, ℕ, ◌+◌, ◌<◌, ◌≤◌, ◌^◌, nat_lt, List, map, filter_map, Bool, true, Option, Some, None, option_map, if◌then◌else◌}
use Rattle.std.specs.List.{AllByRecursion}
use Rattle.std.specs.List.Sorted.{IsPermutation, IsSortedBy}
use Rattle.std.specs.Ordering.{nat_cmp, is_lt}
use Rattle.csi_types.specs.Model.Members.{IsAmong}
use Rattle.csi_controller.specs.declared.row.ControllerRow.{ControllerRow}
use Rattle.csi_controller.specs.declared.row.NodeHolding.{NodeHolding}
use Rattle.csi_controller.specs.Model.Shown.{volume_of_row}
use Rattle.csi_controller.specs.Model.State.{Volume, ControllerState}
use Rattle.csi_controller.specs.Public.Judging as controller_judging
use Rattle.csi_controller.specs.Public.Views as controller
use Rattle.csi_orchestrator.specs.Model.Shown.{NodeEntryShown, RowShown}
use Rattle.csi_orchestrator.specs.Model.Thing.{is_no}
use Rattle.csi_orchestrator.specs.Public.Judging.{IsFirstRefused}
use Rattle.csi_orchestrator.specs.Public.Record.{RecordParts}
use Rattle.csi_recovery.specs.Public.Recovered.{GivenNode}
use Rattle.csi_recovery.specs.declared.fault.RecoveryFault.{RecoveryFault}
use Rattle.csi_recovery.specs.declared.fault.RecoveryFault.TheVariants as recovery
use Rattle.csi_recovery.specs.declared.rebuilding_fault.RebuildingFault.{RebuildingFault}
use Rattle.csi_recovery.specs.declared.rebuilding_fault.RebuildingFault.TheVariants.{NumbersSpent, IdTaken, BadRow, NoMemory}
use Rattle.csi_recovery.specs.Public.Judged.{IsKeptOf, HaveDistinctNodes, DoAgree, IsFirst}
use Rattle.csi_recovery.specs.Public.Rebuilt.{IsRebuilt, rebuilt_volume}

-- ---- ids

-- the id, if there is one, is below the next one
abbrev pub is_below_by : ℕ → Option ℕ → Bool
is_below_by next_id None = true
is_below_by next_id (Some id) = nat_lt id next_id

-- so is the row's
abbrev pub is_below : ℕ → RowShown → Bool
is_below next_id row = is_below_by next_id row.id

-- each id that the rows know is below the next one
abbrev pub AreBelow : ℕ → List RowShown → Type 0
AreBelow next_id rows = AllByRecursion (λ row. is_below next_id row ≡ true) rows

-- ---- rows

-- how the volume is held by an entry
abbrev pub kept_holding : NodeEntryShown → NodeHolding
kept_holding entry = record { node = entry.node; capability = entry.capability; readonly = entry.readonly }

-- the same, unless it is known not to be attached
abbrev pub maybe_holding : NodeEntryShown → Option NodeHolding
maybe_holding entry = if is_no entry.attached then None else Some (kept_holding entry)

-- how it is held by these entries
abbrev pub kept_holdings : List NodeEntryShown → List NodeHolding
kept_holdings entries = filter_map maybe_holding entries

-- a controller's row, by what it shows: its volume, and how that is held
abbrev pub made_shown : ControllerRow → Volume × List NodeHolding
made_shown row = (volume_of_row row, row.holdings.items)

-- what is made of an orchestrator's row
abbrev pub row_made : RowShown → Option (Volume × List NodeHolding)
row_made row = option_map (λ volume. (volume, kept_holdings row.node_entries)) (rebuilt_volume row)

-- these are the controller's rows that are made of the orchestrator's, put in the order of their ids
pub record IsMadeOf (rows : List RowShown) (made : List ControllerRow) : Type 0 where
  pub from : List ControllerRow
  pub are : map made_shown from ≡ filter_map row_made rows
  pub moved : IsPermutation from made
  pub sorted : IsSortedBy (λ (a b : ControllerRow). is_lt (nat_cmp a.id b.id)) made

-- the record shows the controller that is rebuilt of the rows
pub record IsRebuiltOf (session next_id : ℕ) (rows : List RowShown) (made : controller.RecordParts) : Type 0 where
  pub state : ControllerState
  pub is : IsRebuilt session next_id rows state
  pub kept : IsKeptOf made state

-- ---- refusals

-- nothing is refused: a session is left, the next id is above all that are known, and the rows by rising id are ones of a controller's record
pub record MayRebuild (next_id : ℕ) (kept : RecordParts) : Type 0 where
  pub session : kept.session + 1 < 2 ^ 64
  pub next : 1 ≤ next_id
  pub below : AreBelow next_id kept.rows
  pub rows : (made : List ControllerRow) → IsMadeOf kept.rows made → controller_judging.AreRecorded next_id (kept.session + 1) made

-- the next id is 0; or the row at this place is the first whose id isn't below it
abbrev pub IsTakenAt : ℕ → List RowShown → ℕ → Type 0
IsTakenAt next_id rows place = ((next_id ≡ 0) × (place ≡ 0)) ⊎ ((1 ≤ next_id) × IsFirstRefused (AreBelow next_id) rows place)

-- why no record is made; an allocation may be refused for any whose ids are below the next one
abbrev pub IsRebuildingRefusal : ℕ → RecordParts → RebuildingFault → Type 0
IsRebuildingRefusal next_id kept NumbersSpent = kept.session + 1 < 2 ^ 64 → ⊥
IsRebuildingRefusal next_id kept (IdTaken place) = (kept.session + 1 < 2 ^ 64) × IsTakenAt next_id kept.rows place
IsRebuildingRefusal next_id kept (BadRow place) =
    (kept.session + 1 < 2 ^ 64) × (1 ≤ next_id) × AreBelow next_id kept.rows
    × ((made : List ControllerRow) × IsMadeOf kept.rows made × controller_judging.IsFirstRefused (controller_judging.AreRecorded next_id (kept.session + 1)) made place)
IsRebuildingRefusal next_id kept NoMemory = (kept.session + 1 < 2 ^ 64) × (1 ≤ next_id) × AreBelow next_id kept.rows

-- ---- the nodes

-- each node heard of no session but ones before the controller's
abbrev pub AreEarlier : ControllerState → List GivenNode → Type 0
AreEarlier controller given = (node : GivenNode) → IsAmong node given → node.state.session < controller.session

-- the nodes' stores go with the controller that was made: they are of different nodes, heard of no session that isn't before its own, and agree
pub record AreLike (controller : ControllerState) (given : List GivenNode) : Type 0 where
  pub apart : HaveDistinctNodes given
  pub earlier : AreEarlier controller given
  pub agree : DoAgree controller given

-- why they don't: the first of these that holds
abbrev pub IsUnlike : ControllerState → List GivenNode → RecoveryFault → Type 0
IsUnlike controller given (recovery.SameNode place) = IsFirst HaveDistinctNodes given place
IsUnlike controller given recovery.NotLater = HaveDistinctNodes given × (AreEarlier controller given → ⊥)
IsUnlike controller given (recovery.Disagrees place) = HaveDistinctNodes given × AreEarlier controller given × IsFirst (DoAgree controller) given place
IsUnlike controller given recovery.BadNodes = ⊥
IsUnlike controller given (recovery.BadRow place) = ⊥
IsUnlike controller given recovery.NoMemory = ⊥
