use Rattle.std.proofs.Common.{rules}
use Rattle.csi_words.proofs.command_line.store_command.Goals as goal

pub returns : goal.returns
returns c = search rules
