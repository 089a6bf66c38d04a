-- Each that is left is among the capabilities exactly where each is.
use Rattle.std.proofs.Common.{◌≡◌}
use Rattle.std.specs.List.{list_all}
use Rattle.csi_types.specs.Public.Listed.{listed}
use Rattle.csi_types.specs.Model.Same.{has_capability}
use Rattle.csi_types.proofs.spelled.SpelledCapabilities.are_among.Given as goal

abbrev pub invariant-loop-rest : goal.invariant-loop-rest
invariant-loop-rest l = list_all (has_capability l.own) (listed l.rest) ≡ list_all (has_capability l.own) (listed l.self)

abbrev pub decreases-loop-rest : goal.decreases-loop-rest
decreases-loop-rest l = l.rest.count
