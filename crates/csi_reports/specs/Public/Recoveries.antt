-- What a recovery made, as a value of JSON. This profile's own.
use Rattle.std.specs.Prelude.{◌≡◌, ℕ, not, Bool, List, [], ◌∷◌, length, map, filter, codes}
use Rattle.std.specs.List.{list_any, flat_map}
use Rattle.serde_json.specs.Data.{Data, string, object, no_members, member}
use Rattle.serde_json.specs.Written.{compact_text}
use Rattle.csi_types.specs.Model.Same.{same_text}
use Rattle.csi_orchestrator.specs.Model.Shown.{NodeEntryShown, RowShown}
use Rattle.csi_orchestrator.specs.Public.Record.{RecordParts}
use Rattle.csi_reports.specs.Public.Entries.{entries, whole_number}
use Rattle.csi_reports.specs.Public.Order.{IsInPlace}
use Rattle.csi_reports.specs.Public.ByName.{name_place, wanted_names}

-- the node is one of these
abbrev pub has_node : List ℕ → List (List ℕ) → Bool
has_node node nodes = list_any (λ other. same_text other node) nodes

-- each of these once: the first of those that are alike
abbrev pub once : List (List ℕ) → List (List ℕ)
once [] = []
once (node ∷ nodes) = node ∷ filter (λ other. not (same_text other node)) (once nodes)

-- those of these nodes that aren't given
abbrev pub lost_among : List (List ℕ) → List (List ℕ) → List (List ℕ)
lost_among given nodes = filter (λ node. not (has_node node given)) nodes

-- of these entries
abbrev pub lost_of_entries : List (List ℕ) → List NodeEntryShown → List (List ℕ)
lost_of_entries given at = lost_among given (map (λ entry. entry.node) at)

-- and those of rows
abbrev pub lost_of_rows : List (List ℕ) → List RowShown → List (List ℕ)
lost_of_rows given rows = flat_map (λ row. lost_of_entries given row.node_entries) rows

-- what is told: the lost nodes, the session, how many volumes there are, and the names of those of which something is wanted
abbrev pub recovery_entry : List (List ℕ) → ℕ → ℕ → List (List ℕ) → Data
recovery_entry lost session volumes wanted =
    object (member (codes "lost") (entries string lost)
    (member (codes "session") (whole_number session)
    (member (codes "volumes") (whole_number volumes)
    (member (codes "wanted") (entries string wanted) no_members))))

-- the text is the line of a recovery that made this record where these nodes were given: lost nodes and names in order
pub record IsRecoveryLine (given : List (List ℕ)) (kept : RecordParts) (text : List ℕ) : Type 0 where
  pub lost : List (List ℕ)
  pub are_lost : IsInPlace name_place (once (lost_of_rows given kept.rows)) lost
  pub wanted : List (List ℕ)
  pub are_wanted : IsInPlace name_place (wanted_names kept.rows) wanted
  pub written : text ≡ compact_text (recovery_entry lost kept.session (length kept.rows) wanted)
