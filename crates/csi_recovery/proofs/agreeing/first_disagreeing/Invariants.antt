-- The first ones agree, and keep the rules of a record.
use Rattle.std.proofs.Common.{List, take}
use Rattle.std.specs.List.{AllByRecursion}
use Rattle.csi_controller.specs.Model.State.{ControllerState}
use Rattle.csi_node.specs.Model.Record.{NodeParts, parts}
use Rattle.csi_node.specs.Public.Record.{AreSoundRows}
use Rattle.csi_recovery.specs.Public.Recovered.{GivenNode}
use Rattle.csi_recovery.specs.Public.Judged.{IsKeptOf, AreGiven, DoAgree}
use Rattle.csi_recovery.proofs.agreeing.first_disagreeing.Given as goal

abbrev pub invariant-loop-index : goal.invariant-loop-index
invariant-loop-index l = record {
  agree : (state : ControllerState) (known : List GivenNode) → IsKeptOf l.controller state → AreGiven l.given known → DoAgree state (take l.index known);
  rules : AllByRecursion (λ (kept : NodeParts). AreSoundRows (parts kept.rows)) (take l.index l.given);
}
