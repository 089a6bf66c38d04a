use Rattle.std.proofs.Common.{rules}
use Rattle.csi_records.proofs.controller_record.record_of.Goals as goal

pub returns-in-None-clause-made : goal.returns-in-None-clause-made
returns-in-None-clause-made c = search rules
