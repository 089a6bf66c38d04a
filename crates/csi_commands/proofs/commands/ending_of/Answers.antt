use Rattle.std.proofs.Common.{rules}
use Rattle.csi_commands.proofs.commands.ending_of.Goals as goal

pub returns-in-NoMemory : goal.returns-in-NoMemory
returns-in-NoMemory c = search rules
