-- What is left passes exactly where the whole list does.
use Rattle.std.proofs.Common.{◌≡◌, drop}
use Rattle.std.specs.Prelude.{nat_lt}
use Rattle.std.specs.List.{list_all}
use Rattle.csi_node.specs.Model.Record.{NodeParts}
use Rattle.csi_recovery.proofs.judging.is_after_each.Given as goal

abbrev pub invariant-loop-kept : goal.invariant-loop-kept
invariant-loop-kept l = list_all (λ (kept : NodeParts). nat_lt kept.session l.session) (drop l.kept-index l.given) ≡ list_all (λ (kept : NodeParts). nat_lt kept.session l.session) l.given
