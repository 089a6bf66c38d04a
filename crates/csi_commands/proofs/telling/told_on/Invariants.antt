-- What happened so far led to the world.
use Rattle.std.proofs.Common.{◌++◌, map}
use Rattle.csi_json.specs.declared.happening.Happening.TheVariants.{Occurs}
use Rattle.csi_commands.proofs.Played.{IsOnFrom}
use Rattle.csi_commands.proofs.telling.told_on.Given as goal

abbrev pub invariant-loop-happening : goal.invariant-loop-happening
invariant-loop-happening l = IsOnFrom l.config (map Occurs l.events ++ l.yielded) l.world
