-- What is made of the orchestrator's record, and whether the nodes' go with it.
use Rattle.std.proofs.Common.{subst, MatchOption}
use Rattle.std.specs.Prelude.{Option}
use Rattle.csi_recovery.specs.declared.fault.RecoveryFault.{RecoveryFault}
use Rattle.csi_recovery.specs.Public.Rebuilding.{AreLike, IsUnlike}
use Rattle.csi_plugins.proofs.RebuiltStores.{not-rebuilt, not-like}
use Rattle.csi_plugins.proofs.rejudging.judged_again.Goals as goal

pub returns-in-Err-clause-refused : goal.returns-in-Err-clause-refused
returns-in-Err-clause-refused c = not-rebuilt c.args.next_id c.args.kept.now c.args.given.now c.in-Err.fault c.in-Err.ensures.refused c.ending_of_rebuilding.result c.ending_of_rebuilding.ensures

pub returns-in-None-clause-made : goal.returns-in-None-clause-made
returns-in-None-clause-made c = record {
  is = c.in-Ok.ensures.value;
  like = λ state gs own are. subst (λ (o : Option RecoveryFault). MatchOption o (AreLike state gs) (IsUnlike state gs)) c.in-None.is (c.first_unlike.ensures state gs own are);
}

pub returns-in-Some-clause-refused : goal.returns-in-Some-clause-refused
returns-in-Some-clause-refused c =
    not-like c.args.next_id c.args.kept.now c.args.given.now c.in-Ok.made c.in-Ok.ensures.value c.in-Some.fault
    (λ state gs own are. subst (λ (o : Option RecoveryFault). MatchOption o (AreLike state gs) (IsUnlike state gs)) c.in-Some.is (c.first_unlike.ensures state gs own are)) c.ending_of_unlike.result c.ending_of_unlike.ensures
