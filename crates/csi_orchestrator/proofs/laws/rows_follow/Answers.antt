-- Item by item, goal by goal and input by input.
use Rattle.csi_orchestrator.proofs.DueCalls.{due-told}
use Rattle.csi_orchestrator.proofs.ViewFollowed.{view-follows}
use Rattle.csi_orchestrator.proofs.RulesStay.{rows-stay-sound}
use Rattle.csi_orchestrator.proofs.RepliesAgree.{rows-tell, moves-are-guarded}
use Rattle.csi_orchestrator.proofs.laws.rows_follow.Goals as goal

pub returns-clause-view_follows : goal.returns-clause-view_follows
returns-clause-view_follows c = view-follows

pub returns-clause-due_is_told : goal.returns-clause-due_is_told
returns-clause-due_is_told c = due-told

pub returns-clause-rows_tell : goal.returns-clause-rows_tell
returns-clause-rows_tell c = rows-tell

pub returns-clause-rows_stay_sound : goal.returns-clause-rows_stay_sound
returns-clause-rows_stay_sound c = rows-stay-sound

pub returns-clause-moves_are_guarded : goal.returns-clause-moves_are_guarded
returns-clause-moves_are_guarded c = moves-are-guarded
