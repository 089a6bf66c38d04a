use Rattle.std.proofs.Common.{rules}
use Rattle.csi_json.proofs.fault.ScheduleFault.place.Goals as goal

pub returns-in-BadSchedule : goal.returns-in-BadSchedule
returns-in-BadSchedule c = search rules
