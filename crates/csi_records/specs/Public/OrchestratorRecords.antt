-- Which parts are an orchestrator's record: its rows stand under the keys 1, 2, 3 and so on, by their places. This profile's own.
use Rattle.std.specs.Prelude.{◌≡◌, ℕ, suc, List, [], ◌∷◌}
use Rattle.csi_types.specs.Public.Limits.{IsWord}
use Rattle.csi_orchestrator.specs.Model.Shown.{RowShown}
use Rattle.csi_orchestrator.specs.Public.Record.{RecordParts, AreNodesFit}
use Rattle.csi_orchestrator.specs.Public.Restored.{AreRestorable}
use Rattle.csi_records.specs.declared.version.RecordVersion.{RecordVersion}
use Rattle.csi_stores.specs.Public.Part.{StoredPart}
use Rattle.csi_records.specs.Public.Spelling.{present}
use Rattle.csi_records.specs.Public.Records.{Layout, AreParts}
use Rattle.csi_records.specs.Public.OrchestratorSpelling.{KeyedRow, orchestrator_head, orchestrator_part, orchestrator_parts}
use Rattle.csi_records.specs.Public.OrchestratorRows.{OrchestratorHeadShown, IsOrchestratorHead, IsClosedRow}

-- rows under the keys from this one on
abbrev pub keyed_from : ℕ → List RowShown → List KeyedRow
keyed_from key [] = []
keyed_from key (row ∷ rows) = record { key = key; row = row } ∷ keyed_from (suc key) rows

-- a head within its limits, whose nodes are few and all different
pub record IsRecordHead (version : RecordVersion) (head : OrchestratorHeadShown) : Type 0 where
  pub fits : IsOrchestratorHead version head
  pub nodes : AreNodesFit head.nodes

-- a row within its limits, without an open call, under a key of 64 bits
pub record IsKeyedRow (version : RecordVersion) (keyed : KeyedRow) : Type 0 where
  pub key : IsWord keyed.key
  pub row : IsClosedRow version keyed.row

-- rows under the keys 1, 2, 3 and so on, which keep the rules of an orchestrator's rows
pub record AreKeyedRows (head : OrchestratorHeadShown) (keyed : List KeyedRow) : Type 0 where
  pub rows : List RowShown
  pub places : keyed ≡ keyed_from 1 rows
  pub rules : AreRestorable head.nodes rows

-- how an orchestrator's record is laid out
abbrev pub orchestrator_layout : RecordVersion → Layout OrchestratorHeadShown KeyedRow
orchestrator_layout version = record {
  head = λ head. orchestrator_head version head.session head.nodes;
  row = orchestrator_part version;
  is_head = IsRecordHead version;
  is_row = IsKeyedRow version;
  are_rows = AreKeyedRows;
}

-- the parts of an orchestrator's record
abbrev pub kept_parts : RecordParts → List StoredPart
kept_parts kept = orchestrator_parts present kept.session kept.nodes (keyed_from 1 kept.rows)

-- the orchestrator's record that these parts, of this version, are read as
abbrev pub IsOrchestratorOf : RecordVersion → List StoredPart → RecordParts → Type 0
IsOrchestratorOf version parts kept =
    AreParts (orchestrator_layout version) (record { session = kept.session; nodes = kept.nodes }) (keyed_from 1 kept.rows) parts
