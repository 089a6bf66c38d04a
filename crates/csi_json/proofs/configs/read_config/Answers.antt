use Rattle.std.proofs.Common.{rules}
use Rattle.csi_json.proofs.configs.read_config.Goals as goal

pub returns-in-Ok-clause-fault : goal.returns-in-Ok-clause-fault
returns-in-Ok-clause-fault c = search rules
