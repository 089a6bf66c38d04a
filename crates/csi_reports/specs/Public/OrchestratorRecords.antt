-- What an orchestrator's record has, as a value of JSON: an object with its keys in order. This profile's own.
use Rattle.std.specs.Prelude.{◌≡◌, ℕ, List, Option, Some, None, codes}
use Rattle.serde_json.specs.Data.{Data, boolean, null, string, object, no_members, member}
use Rattle.serde_json.specs.Written.{compact_text}
use Rattle.csi_orchestrator.specs.declared.row.TargetEntry.{TargetEntry}
use Rattle.csi_orchestrator.specs.Model.Shown.{NodeEntryShown, RowShown, goal_in}
use Rattle.csi_orchestrator.specs.Public.Record.{RecordParts}
use Rattle.csi_reports.specs.Public.Entries.{entries, whole_number, known_text}
use Rattle.csi_reports.specs.Public.Records.{capability_entry}
use Rattle.csi_reports.specs.Public.Order.{IsInPlace}
use Rattle.csi_reports.specs.Public.Goals.{goal_entry}
use Rattle.csi_reports.specs.Public.ByName.{row_place}

-- what is kept of a target
abbrev pub kept_target_entry : TargetEntry → Data
kept_target_entry entry = object (member (codes "known") (string (known_text entry.published)) (member (codes "target") (string entry.target) no_members))

-- what is kept of a node
abbrev pub kept_node_entry : NodeEntryShown → Data
kept_node_entry entry =
    object (member (codes "attached") (string (known_text entry.attached))
    (member (codes "capability") (capability_entry entry.capability)
    (member (codes "node") (string entry.node)
    (member (codes "published") (entries kept_target_entry entry.target_entries)
    (member (codes "readonly") (boolean entry.readonly)
    (member (codes "staged") (string (known_text entry.staged)) no_members))))))

-- a volume's id, or null
abbrev pub id_entry : Option ℕ → Data
id_entry None = null
id_entry (Some id) = whole_number id

-- what is kept of a volume
abbrev pub kept_entry : RowShown → Data
kept_entry row =
    object (member (codes "at") (entries kept_node_entry row.node_entries)
    (member (codes "capabilities") (entries capability_entry (row.arguments).capabilities)
    (member (codes "exists") (string (known_text row.exists))
    (member (codes "goal") (goal_entry row.name (goal_in row))
    (member (codes "id") (id_entry row.id)
    (member (codes "limit") (whole_number (row.arguments).limit)
    (member (codes "name") (string row.name)
    (member (codes "required") (whole_number (row.arguments).required)
    (member (codes "tries") (whole_number row.tries) no_members)))))))))

-- a record of these nodes, this session and these rows
abbrev pub orchestrator_entry : List (List ℕ) → ℕ → List RowShown → Data
orchestrator_entry nodes session rows =
    object (member (codes "nodes") (entries string nodes)
    (member (codes "plugin") (string (codes "orchestrator"))
    (member (codes "session") (whole_number session)
    (member (codes "volumes") (entries kept_entry rows) no_members))))

-- the text is the line of this record: its rows by name
pub record IsOrchestratorLine (kept : RecordParts) (text : List ℕ) : Type 0 where
  pub rows : List RowShown
  pub of : IsInPlace row_place kept.rows rows
  pub written : text ≡ compact_text (orchestrator_entry kept.nodes kept.session rows)

-- two texts that are the line of this record are the same
abbrev pub HasOneLine : RecordParts → Type 0
HasOneLine kept = (a b : List ℕ) → IsOrchestratorLine kept a → IsOrchestratorLine kept b → a ≡ b
