-- No node so far has the id.
use Rattle.csi_world.proofs.Words.{◌≡◌, take, false, list_any, same_text}
use Rattle.csi_world.proofs.plugins.place_of.Given as goal

abbrev pub invariant-loop-place : goal.invariant-loop-place
invariant-loop-place l = list_any (λ node. same_text node.id l.id) (take l.place l.nodes) ≡ false
