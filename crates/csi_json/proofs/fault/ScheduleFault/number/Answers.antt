use Rattle.std.proofs.Common.{rules}
use Rattle.csi_json.proofs.fault.ScheduleFault.number.Goals as goal

pub returns-in-TooMany : goal.returns-in-TooMany
returns-in-TooMany c = search rules
