use Rattle.std.proofs.Common.{◌≡◌, ◌++◌, map, take}
use Rattle.std.specs.List.{AllByRecursion}
use Rattle.csi_orchestrator.specs.Public.Shown.{row_shown}
use Rattle.csi_stores.specs.Public.Part.{part_change, put_all}
use Rattle.csi_records.specs.Public.Spelling.{present}
use Rattle.csi_records.specs.Public.OrchestratorSpelling.{orchestrator_part}
use Rattle.csi_records.specs.Public.OrchestratorRows.{IsOrchestratorRow}
use Rattle.csi_records.proofs.KeyedRows.{keyed_rows}
use Rattle.csi_records.proofs.orchestrator_parts.push_orchestrator_rows.Given as goal

-- the parts of the rows so far are there, and the rows are within their limits
abbrev pub invariant-loop-index : goal.invariant-loop-index
invariant-loop-index l =
    record {
      so_far : map part_change l.parts.items ≡ map part_change l.initial.parts.items ++ put_all (map (orchestrator_part present) (keyed_rows (take l.index l.rows)));
      each : AllByRecursion (IsOrchestratorRow present) (map row_shown (take l.index l.rows));
    }
