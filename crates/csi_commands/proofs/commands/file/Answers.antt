use Rattle.std.proofs.Common.{rules}
use Rattle.csi_commands.proofs.commands.file.Goals as goal

pub returns-in-Ok-clause-frames : goal.returns-in-Ok-clause-frames
returns-in-Ok-clause-frames g c = search rules

pub returns-in-Err-clause-frames : goal.returns-in-Err-clause-frames
returns-in-Err-clause-frames g c = search rules
