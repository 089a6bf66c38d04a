use Rattle.std.proofs.Common.{◌≡◌, drop}
use Rattle.std.specs.List.{list_all}
use Rattle.csi_types.specs.Model.Same.{has_capability as is_among}
use Rattle.csi_types.proofs.lent.has_each.Given as goal

abbrev pub invariant-loop-capability : goal.invariant-loop-capability
invariant-loop-capability l = list_all (is_among l.own) l.wished ≡ list_all (is_among l.own) (drop l.capability-index l.wished)
