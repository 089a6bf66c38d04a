-- The test tells which two can be held together.
use Rattle.std.proofs.Common.{◌↔◌, sym, subst}
use Rattle.std.specs.Prelude.{IsTrue}
use Rattle.csi_types.specs.Public.Holding.{CanHoldBoth}
use Rattle.csi_types.specs.Public.NodeUse.{holding_of}
use Rattle.csi_types.proofs.Holdings.{compatible-tells}
use Rattle.csi_types.proofs.node_use.can_use_both.Goals as goal

pub returns-clause-relation : goal.returns-clause-relation
returns-clause-relation c id =
    let first = holding_of id c.args.first in
    let second = holding_of id c.args.second in
    subst (λ b. IsTrue b ↔ CanHoldBoth first second) (sym (c.are_compatible.ensures id)) (compatible-tells first second)
