-- What came so far is the first events and what happens behind them.
use Rattle.std.proofs.Common.{◌≡◌, ◌++◌, map}
use Rattle.csi_json.specs.declared.happening.Happening.TheVariants.{Occurs}
use Rattle.csi_json.specs.Public.Schedule.{BeginsWithRecovery}
use Rattle.csi_json.proofs.schedule.parted.Given as goal

abbrev pub invariant-loop-happening : goal.invariant-loop-happening
invariant-loop-happening l = (map Occurs l.events.items ++ l.on.items ≡ l.yielded) × BeginsWithRecovery l.on.items
