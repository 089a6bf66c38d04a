use Rattle.std.proofs.Common.{rules}
use Rattle.csi_service.proofs.whole_records.read_record.Goals as goal

pub returns-in-Err-BadRecord : goal.returns-in-Err-BadRecord
returns-in-Err-BadRecord c = search rules
