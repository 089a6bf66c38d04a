-- The outcomes before this one are written.
use Rattle.std.proofs.Common.{◌≡◌, ◌++◌, take}
use Rattle.std.specs.List.{flat_map}
use Rattle.json.specs.Tree.{json_tokens}
use Rattle.serde_json.specs.Written.{outline}
use Rattle.csi_reports.specs.Public.Outcomes.{outcome_entry}
use Rattle.csi_reports.proofs.outcomes.write_each.Given as goal

abbrev pub invariant-loop-outcome : goal.invariant-loop-outcome
invariant-loop-outcome l = l.out ≡ l.fn.out ++ flat_map (λ item. json_tokens (outline (outcome_entry item))) (take l.outcome-index l.items)
