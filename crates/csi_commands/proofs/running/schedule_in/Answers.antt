use Rattle.std.proofs.Common.{rules}
use Rattle.csi_commands.proofs.running.schedule_in.Goals as goal

pub returns-in_default-clause-refused : goal.returns-in_default-clause-refused
returns-in_default-clause-refused c = search rules
