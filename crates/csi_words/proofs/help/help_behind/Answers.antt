use Rattle.std.proofs.Common.{rules}
use Rattle.csi_words.proofs.help.help_behind.Goals as goal

pub returns-in-text : goal.returns-in-text
returns-in-text c = search rules
