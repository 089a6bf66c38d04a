-- How much an orchestrator keeps at most. This profile's own.
use Rattle.std.specs.Prelude.{◌≡◌, ◌≢◌, ℕ, ◌+◌, ◌*◌, ◌≤◌, List, [], length, true}
use Rattle.std.specs.List.{AllByRecursion, list_any}
use Rattle.csi_types.specs.declared.rows.TheConstants.{MAX_ROWS}
use Rattle.csi_types.specs.Model.Same.{same_text}
use Rattle.csi_orchestrator.specs.declared.row.NodeEntry.{NodeEntry}
use Rattle.csi_orchestrator.specs.declared.row.Row.{Row}
use Rattle.csi_orchestrator.specs.Model.Shown.{NodeEntryShown, RowShown, OrchestratorParts}

-- at a node's entry: at most 16 targets
abbrev pub HasFewTargets : NodeEntryShown → Type 0
HasFewTargets entry = length entry.target_entries ≤ 16

-- for a volume: at most 64 entries
abbrev pub HasFewNodes : RowShown → Type 0
HasFewNodes row = length row.node_entries ≤ 64

-- in all: at most 4,096 names, and for each of them at most 64 entries, with 16 targets at most
pub record IsBounded (parts : OrchestratorParts) : Type 0 where
  pub rows : length parts.rows ≤ MAX_ROWS
  pub nodes : AllByRecursion HasFewNodes parts.rows
  pub targets : AllByRecursion (λ (row : RowShown). AllByRecursion HasFewTargets row.node_entries) parts.rows

-- an entry with targets is of one of these nodes, and has few (one without is what is left of a node that was lost)
pub record IsEntryWithin (nodes : List (List ℕ)) (entry : NodeEntryShown) : Type 0 where
  pub among : entry.target_entries ≢ [] → list_any (same_text entry.node) nodes ≡ true
  pub targets : HasFewTargets entry

-- each entry is so, and there are few
pub record AreEntriesWithin (nodes : List (List ℕ)) (entries : List NodeEntryShown) : Type 0 where
  pub each : AllByRecursion (IsEntryWithin nodes) entries
  pub few : length entries ≤ 64

-- so it is with a row's
abbrev pub AreWithin : List (List ℕ) → RowShown → Type 0
AreWithin nodes row = AreEntriesWithin nodes row.node_entries

-- what an orchestrator's type keeps of this
pub record IsWithin (parts : OrchestratorParts) : Type 0 where
  pub rows : length parts.rows ≤ MAX_ROWS
  pub entries : AllByRecursion (AreWithin parts.nodes) parts.rows

-- the calls that are noted: at most one more than twice as many as there are rows
abbrev pub AreFew : ℕ → ℕ → Type 0
AreFew noted rows = noted ≤ 2 * rows + 1

-- a node's entry, as it is kept, has at most 16 targets
abbrev pub AreTargetsFew : NodeEntry → Type 0
AreTargetsFew entry = length entry.target_entries.items ≤ 16

-- what has to be spelled of a row: tries up to 3, and at most 64 entries, each of few targets
pub record IsRowFew (row : Row) : Type 0 where
  pub tries : row.tries ≤ 3
  pub count : length row.node_entries.items ≤ 64
  pub targets : AllByRecursion AreTargetsFew row.node_entries.items
