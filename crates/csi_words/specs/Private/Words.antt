-- The words of the command line, over what `clap` reads of them. This profile's own.
use Rattle.std.specs.Prelude.{◌≡◌, ℕ, List, [], ◌∷◌}
use Rattle.clap.specs.Words.{AddsSubcommand, App, Shape, app_of, with_subcommand}
use Rattle.clap.specs.declared.builder.command.Command.{Command}
use Rattle.clap.specs.declared.error.kind.ErrorKind.{ErrorKind}
use Rattle.clap.specs.declared.error.kind.ErrorKind.TheVariants.{OutOfMemory}
use Rattle.csi_streams.specs.declared.ending.Ending.{Ending}
use Rattle.csi_streams.specs.declared.ending.Ending.TheVariants.{Usage, Memory}
use Rattle.csi_words.specs.Public.Words.{with_file_command}

-- where this command is added, the program has it so
abbrev pub IsAddedAs : Shape → Command → Type 0
IsAddedAs shape command = (old new : Command) → AddsSubcommand old command new → app_of new ≡ with_subcommand (app_of old) shape

-- a command on a file for each of these names
unfoldable pub with_file_commands : App → List (List ℕ) → App
with_file_commands app [] = app
with_file_commands app (name ∷ names) = with_file_commands (with_file_command app name) names

-- the ending where words are refused so
abbrev pub ending_of_words : ErrorKind → Ending
ending_of_words OutOfMemory = Memory
ending_of_words _ = Usage
