use Rattle.std.proofs.Common.{sym}
use Rattle.csi_stores.specs.Public.Part.{all_stored_in}
use Rattle.csi_records.specs.Public.Records.{controller_layout, IsControllerOf}
use Rattle.csi_records.proofs.Versions.{no-version, stopped-in}
use Rattle.csi_records.proofs.PluginLayouts.{controller_kind}
use Rattle.csi_records.proofs.record.ControllerRecordRecord.of_parts.Goals as goal

pub returns-in_default : goal.returns-in_default
returns-in_default c = no-version controller_layout controller_kind IsControllerOf (all_stored_in c.args.parts.now) (sym c.in_default.ensures)

pub returns-in-Err : goal.returns-in-Err
returns-in-Err c = stopped-in controller_layout controller_kind IsControllerOf c.in-Some.version (all_stored_in c.args.parts.now) c.in-Err.stop (sym c.in-Some.ensures) c.in-Err.ensures
