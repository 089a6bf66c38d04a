use Rattle.std.proofs.Common.{rules}
use Rattle.csi_words.proofs.giving.give_text.Goals as goal

pub returns-in-Err : goal.returns-in-Err
returns-in-Err g c = search rules
