-- What was made of an orchestrator's record where the controller's was lost, as a value of JSON. This profile's own.
use Rattle.std.specs.Prelude.{◌≡◌, ℕ, ◌+◌, List, [], ◌∷◌, length, codes}
use Rattle.serde_json.specs.Data.{Data, string, object, no_members, member}
use Rattle.serde_json.specs.Written.{compact_text}
use Rattle.csi_controller.specs.declared.row.ControllerRow.{ControllerRow}
use Rattle.csi_controller.specs.Public.Views.{RecordParts}
use Rattle.csi_orchestrator.specs.Public.Record.{RecordParts as OrchestratorParts}
use Rattle.csi_reports.specs.Public.ByName.{name_place, creating_names}
use Rattle.csi_reports.specs.Public.Entries.{entries, whole_number}
use Rattle.csi_reports.specs.Public.Order.{IsInPlace}

-- how often these volumes are attached
abbrev pub attachments_of : List ControllerRow → ℕ
attachments_of [] = 0
attachments_of (row ∷ rows) = length row.holdings.items + attachments_of rows

-- what is told: the attachments, the names of which no id is known, the next id, the session, and how many volumes there are
abbrev pub rebuilding_entry : ℕ → List (List ℕ) → ℕ → ℕ → ℕ → Data
rebuilding_entry attached creating next_id session volumes =
    object (member (codes "attached") (whole_number attached)
    (member (codes "creating") (entries string creating)
    (member (codes "next") (whole_number next_id)
    (member (codes "session") (whole_number session)
    (member (codes "volumes") (whole_number volumes) no_members)))))

-- the text is the line of a controller's record that was made of this one of an orchestrator: names in order
pub record IsRebuildingLine (kept : OrchestratorParts) (made : RecordParts) (text : List ℕ) : Type 0 where
  pub creating : List (List ℕ)
  pub are_creating : IsInPlace name_place (creating_names kept.rows) creating
  pub written : text ≡ compact_text (rebuilding_entry (attachments_of made.rows) creating made.next_id made.session (length made.rows))
