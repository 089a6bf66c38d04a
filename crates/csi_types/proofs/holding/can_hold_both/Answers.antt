-- The test tells which two can be held together.
use Rattle.std.proofs.Common.{◌↔◌, sym, subst}
use Rattle.std.specs.Prelude.{IsTrue}
use Rattle.csi_types.specs.Public.Holding.{CanHoldBoth}
use Rattle.csi_types.proofs.Holdings.{compatible-tells}
use Rattle.csi_types.proofs.holding.can_hold_both.Goals as goal

pub returns-clause-relation : goal.returns-clause-relation
returns-clause-relation c =
    subst (λ b. IsTrue b ↔ CanHoldBoth c.args.first.now c.args.second.now) (sym c.are_compatible.ensures) (compatible-tells c.args.first.now c.args.second.now)
