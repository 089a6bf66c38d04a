-- The keys behind the rows are taken out up to this place.
use Rattle.std.proofs.Common.{◌≡◌, ◌≤◌, ◌+◌, ◌-◌, ◌++◌, map}
use Rattle.csi_stores.specs.Public.Part.{part_change, take_all}
use Rattle.csi_service.specs.Public.OrchestratorServices.{keys_from}
use Rattle.csi_service.proofs.orchestrator_changes.push_removals_behind.Given as goal

abbrev pub invariant-loop-place : goal.invariant-loop-place
invariant-loop-place l = record {
  taken : map part_change l.parts.items ≡ map part_change l.initial.parts.items ++ take_all (keys_from (l.now + 1) (l.place - l.now));
  low : l.now ≤ l.place;
  high : l.place - l.now ≤ l.before - l.now;
}
