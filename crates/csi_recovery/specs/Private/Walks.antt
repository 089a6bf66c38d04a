-- What is read of the records for a recovery, row by row. This profile's own.
use Rattle.std.specs.Prelude.{ℕ, ◌==◌, max, List, [], ◌∷◌, map, find, Bool, true, false, ◌&&◌, Option, Some, None, option_and_then}
use Rattle.std.specs.List.{list_all}
use Rattle.csi_types.specs.declared.capability.Capability.{Capability}
use Rattle.csi_types.specs.Model.Same.{same_text, same_flag, same_capability}
use Rattle.csi_controller.specs.declared.row.ControllerRow.{ControllerRow}
use Rattle.csi_controller.specs.declared.row.NodeHolding.{NodeHolding}
use Rattle.csi_controller.specs.Model.Shown.{volume_of_row}
use Rattle.csi_node.specs.declared.row.NodeRow.{NodeRow}
use Rattle.csi_node.specs.declared.row.NodeTarget.{NodeTarget}
use Rattle.csi_node.specs.Model.Record.{NodeParts}
use Rattle.csi_node.specs.Model.Shown.{row_in}
use Rattle.csi_orchestrator.specs.declared.fault.OrchRecordFault.{OrchRecordFault}
use Rattle.csi_orchestrator.specs.declared.fault.OrchRecordFault.TheVariants as record_faults
use Rattle.csi_orchestrator.specs.declared.row.TargetEntry.{TargetEntry}
use Rattle.csi_orchestrator.specs.declared.thing.Known.{Known}
use Rattle.csi_orchestrator.specs.declared.thing.Known.TheVariants.{Yes, No, Maybe}
use Rattle.csi_orchestrator.specs.Model.Shown.{NodeEntryShown, RowShown}
use Rattle.csi_recovery.specs.Public.Recovered.{root, row_with}
use Rattle.csi_recovery.specs.declared.fault.RecoveryFault.{RecoveryFault}
use Rattle.csi_recovery.specs.declared.fault.RecoveryFault.TheVariants as faults

-- why no record was made, passed on
abbrev pub passed_on : OrchRecordFault → RecoveryFault
passed_on record_faults.BadNodes = faults.BadNodes
passed_on (record_faults.BadRow place) = faults.BadRow place
passed_on record_faults.NoMemory = faults.NoMemory

-- ---- the controller's rows

-- how the volume of a row is held at a node
abbrev pub held_by_row : List ℕ → ControllerRow → Option NodeHolding
held_by_row node row = find (λ held. same_text held.node node) row.holdings.items

-- how the volume of this id is
abbrev pub held_in : List ControllerRow → ℕ → List ℕ → Option NodeHolding
held_in rows id node = option_and_then (held_by_row node) (find (λ row. row.id == id) rows)

-- ---- the nodes' rows

-- the node's row of a volume, if its record was given and has one
abbrev pub row_at : List NodeParts → List ℕ → ℕ → Option NodeRow
row_at given node id = option_and_then (λ kept. row_in id kept.rows) (find (λ kept. same_text kept.id node) given)

-- the targets of a row, if the volume is staged
abbrev pub targets_by : NodeRow → Option Capability → Option (List NodeTarget)
targets_by row None = None
targets_by row (Some capability) = Some row.targets.items

-- the targets of a row, if the volume is staged
abbrev pub targets_of : NodeRow → Option (List NodeTarget)
targets_of row = targets_by row row.staged

-- the targets of the volume at the node, if it is known to be staged there
abbrev pub targets_at : List NodeParts → List ℕ → ℕ → Option (List NodeTarget)
targets_at given node id = option_and_then targets_of (row_at given node id)

-- ---- a row's entries

-- the entry of a holding, of which this is known
abbrev pub entry_so : NodeHolding → Known → List TargetEntry → NodeEntryShown
entry_so held staged target_entries =
    record { node = held.node; capability = held.capability; readonly = held.readonly; attached = Yes; staged = staged; target_entries = target_entries }

-- a target at which the volume is published
abbrev pub published_there : NodeTarget → TargetEntry
published_there there = record { target = there.target; published = Yes }

-- the target of the stop that undoes what may be staged
abbrev pub undone_there : TargetEntry
undone_there = record { target = root; published = No }

-- the entry of a holding, by the targets of the volume at its node, if it is staged there
abbrev pub entry_with : NodeHolding → Option (List NodeTarget) → NodeEntryShown
entry_with held None = entry_so held No []
entry_with held (Some []) = entry_so held Maybe (undone_there ∷ [])
entry_with held (Some (there ∷ others)) = entry_so held Yes (map published_there (there ∷ others))

-- the entry of a holding of the volume
abbrev pub entry_from : List NodeParts → ℕ → NodeHolding → NodeEntryShown
entry_from given id held = entry_with held (targets_at given held.node id)

-- the row of a live volume
abbrev pub row_from : List NodeParts → ControllerRow → RowShown
row_from given row = row_with (volume_of_row row) (map (entry_from given row.id) row.holdings.items)

-- ---- whether stores agree

-- the target has this flag
abbrev pub has_flag : Bool → NodeTarget → Bool
has_flag readonly there = same_flag there.readonly readonly

-- what is staged in this capability and published at these targets goes with how it is held
abbrev pub fits_holding : Capability → List NodeTarget → Option NodeHolding → Bool
fits_holding capability targets None = false
fits_holding capability targets (Some held) = same_capability held.capability capability && list_all (has_flag held.readonly) targets

-- what is staged so goes with it
abbrev pub fits_staged : Option Capability → List NodeTarget → Option NodeHolding → Bool
fits_staged None targets held = true
fits_staged (Some capability) targets held = fits_holding capability targets held

-- a row of this node goes with the controller's rows
abbrev pub fits_row : List ControllerRow → List ℕ → NodeRow → Bool
fits_row rows node row = fits_staged row.staged row.targets.items (held_in rows row.id node)

-- ---- sessions

-- the greatest session of these records, 0 where there is none
abbrev pub latest_kept : List NodeParts → ℕ
latest_kept [] = 0
latest_kept (kept ∷ others) = max kept.session (latest_kept others)
