-- What an orchestrator shows of itself, by its rows. This profile's own.
use Rattle.std.specs.Prelude.{◌≡◌, List, map, false, None}
use Rattle.csi_types.specs.Model.Members.{EachTwo}
use Rattle.csi_types.specs.Model.Same.{same_text}
use Rattle.csi_orchestrator.specs.declared.row.NodeEntry.{NodeEntry}
use Rattle.csi_orchestrator.specs.declared.row.Row.{Row}
use Rattle.csi_orchestrator.specs.declared.row.TargetEntry.{TargetEntry}
use Rattle.csi_orchestrator.specs.Model.Shown.{NodeEntryShown, RowShown}

-- a node's entry, as it is shown
abbrev pub node_entry_shown : NodeEntry → NodeEntryShown
node_entry_shown entry = record { node = entry.node; capability = entry.capability; readonly = entry.readonly; attached = entry.attached; staged = entry.staged; target_entries = entry.target_entries.items }

-- a row, as it is shown
abbrev pub row_shown : Row → RowShown
row_shown row =
    record {
      name = row.name;
      arguments = row.arguments;
      id = row.id;
      exists = row.exists;
      goal = row.goal;
      open_call = row.open_call;
      tries = row.tries;
      node_entries = map node_entry_shown row.node_entries.items;
    }

-- at each node of each row, a target has one entry
abbrev pub AreTargetsApart : NodeEntryShown → Type 0
AreTargetsApart entry = EachTwo (λ (a b : TargetEntry). same_text a.target b.target ≡ false) entry.target_entries

-- a node has one entry
abbrev pub AreNodesApart : List NodeEntryShown → Type 0
AreNodesApart entries = EachTwo (λ (a b : NodeEntryShown). same_text a.node b.node ≡ false) entries

-- the row without its open call
abbrev pub closed : RowShown → RowShown
closed row = record row { open_call = None }
