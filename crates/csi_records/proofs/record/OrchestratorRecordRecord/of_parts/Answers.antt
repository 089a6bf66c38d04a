use Rattle.std.proofs.Common.{sym}
use Rattle.csi_stores.specs.Public.Part.{all_stored_in}
use Rattle.csi_records.specs.Public.OrchestratorRecords.{orchestrator_layout, IsOrchestratorOf}
use Rattle.csi_records.proofs.Versions.{no-version, stopped-in}
use Rattle.csi_records.proofs.OrchestratorLayouts.{orchestrator_kind}
use Rattle.csi_records.proofs.record.OrchestratorRecordRecord.of_parts.Goals as goal

pub returns-in_default : goal.returns-in_default
returns-in_default c = no-version orchestrator_layout orchestrator_kind IsOrchestratorOf (all_stored_in c.args.parts.now) (sym c.in_default.ensures)

pub returns-in-Err : goal.returns-in-Err
returns-in-Err c = stopped-in orchestrator_layout orchestrator_kind IsOrchestratorOf c.in-Some.version (all_stored_in c.args.parts.now) c.in-Err.stop (sym c.in-Some.ensures) c.in-Err.ensures
