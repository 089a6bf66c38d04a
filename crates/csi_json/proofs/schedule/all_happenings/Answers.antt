use Rattle.std.proofs.Common.{arith}
use Rattle.std.proofs.lemmas.Grind.{common_steps}
use Rattle.csi_json.specs.Public.Schedule.{happenings_of}
use Rattle.csi_json.proofs.schedule.all_happenings.Goals as goal

pub returns-clause-read : goal.returns-clause-read
unfolding happenings_of
returns-clause-read c = grind (arith, common_steps)

pub returns-clause-fault : goal.returns-clause-fault
unfolding happenings_of
returns-clause-fault c = grind (arith, common_steps)
