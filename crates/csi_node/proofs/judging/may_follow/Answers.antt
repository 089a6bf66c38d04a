use Rattle.std.proofs.Common.{rules}
use Rattle.csi_node.proofs.judging.may_follow.Goals as goal

pub returns-then-is_sound_row : goal.returns-then-is_sound_row
returns-then-is_sound_row c = search rules
