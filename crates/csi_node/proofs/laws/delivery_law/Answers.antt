-- In every state that frames lead to, by what the fence and then the table make of the call.
use Rattle.csi_node.specs.Model.State.{joined_node}
use Rattle.csi_node.specs.Public.Fenced.{after_frames}
use Rattle.csi_node.proofs.DeliveryLaw.{empty, closed, delivered}
use Rattle.csi_node.proofs.SessionsLaw.{all_current}
use Rattle.csi_node.proofs.StagedOnce.{all_found}
use Rattle.csi_node.proofs.laws.delivery_law.Goals as goal

pub returns : goal.returns
returns c = record {
  empty = empty;
  closed = closed;
  delivered = λ node session frames number call party. delivered node (after_frames node (joined_node session) frames) number call (all_current node session frames) party;
  found = all_found;
}
