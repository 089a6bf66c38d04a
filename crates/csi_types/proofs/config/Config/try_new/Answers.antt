use Rattle.std.proofs.Common.{rules}
use Rattle.csi_types.proofs.config.Config.try_new.Goals as goal

pub returns-then-has_same_node-clause-fault : goal.returns-then-has_same_node-clause-fault
returns-then-has_same_node-clause-fault c = search rules

pub returns-then-has_bad_slots-clause-fault : goal.returns-then-has_bad_slots-clause-fault
returns-then-has_bad_slots-clause-fault c = search rules

pub invariant_of-result : goal.invariant_of-result
invariant_of-result c = search rules

pub returns-clause-ok : goal.returns-clause-ok
returns-clause-ok c = search rules
