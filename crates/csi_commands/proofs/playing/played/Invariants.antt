-- What happened so far led to the world.
use Rattle.std.proofs.Common.{◌++◌, map, take}
use Rattle.csi_json.specs.declared.happening.Happening.TheVariants.{Occurs}
use Rattle.csi_commands.proofs.Played.{IsOnFrom}
use Rattle.csi_commands.proofs.playing.played.Given as goal

abbrev pub invariant-loop-happening : goal.invariant-loop-happening
invariant-loop-happening l = IsOnFrom (l.schedule).config (map Occurs ((l.schedule).events).items ++ take l.happening-index ((l.schedule).on).items) l.world
