-- The words that ask for help. This profile's own.
use Rattle.std.specs.Prelude.{ℕ, Bool, ◌||◌, List, [], ◌∷◌, Option, Some, None, codes, bytes_eq, if◌then◌else◌}
use Rattle.csi_words.specs.declared.help.Help.{Help}
use Rattle.csi_words.specs.declared.help.Help.TheVariants as about

-- whether a word asks for help
abbrev pub asks_help : List ℕ → Bool
asks_help word = bytes_eq word (codes "--help") || bytes_eq word (codes "-h")

-- what a word alone asks for
abbrev pub help_alone : List ℕ → Option Help
help_alone word =
    if asks_help word then Some about.Program
    else if bytes_eq word (codes "--version") then Some about.Version
    else None

-- help on the subcommand of a name
abbrev pub help_on : List ℕ → Option Help
help_on name =
    if bytes_eq name (codes "answer") then Some about.Answer
    else if bytes_eq name (codes "show") then Some about.Show
    else if bytes_eq name (codes "run") then Some about.Run
    else if bytes_eq name (codes "frames") then Some about.Frames
    else if bytes_eq name (codes "draw") then Some about.Draw
    else if bytes_eq name (codes "controller") then Some about.Controller
    else if bytes_eq name (codes "node") then Some about.Node
    else if bytes_eq name (codes "orchestrator") then Some about.Orchestrator
    else if bytes_eq name (codes "record") then Some about.Record
    else if bytes_eq name (codes "recover") then Some about.Recover
    else if bytes_eq name (codes "recover-controller") then Some about.RecoverController
    else None

-- what a word asks for behind a subcommand's name
abbrev pub help_behind : List ℕ → List ℕ → Option Help
help_behind name word = if asks_help word then help_on name else None

-- the help that these words ask for, and nothing else; the first word is the program's own name
abbrev pub help_asked : List (List ℕ) → Option Help
help_asked (own ∷ word ∷ []) = help_alone word
help_asked (own ∷ name ∷ word ∷ []) = help_behind name word
help_asked _ = None
