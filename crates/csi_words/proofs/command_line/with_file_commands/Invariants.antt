-- The first names have their commands.
use Rattle.std.proofs.Common.{◌≡◌, take, map}
use Rattle.clap.specs.Words.{app_of}
use Rattle.csi_words.specs.Private.Words.{with_file_commands}
use Rattle.csi_words.proofs.command_line.with_file_commands.Given as goal

abbrev pub invariant-loop-name : goal.invariant-loop-name
invariant-loop-name l = app_of l.program ≡ with_file_commands (app_of l.fn.program) (map (λ name. name.now) (take l.name-index l.names))
