-- The words of the command line, over what `clap` reads of them. This profile's own.
use Rattle.std.specs.Prelude.{ℕ, List, [], map, Option, Some, None, option_map, option_and_then, unwrap_or, codes, bytes_eq, if◌then◌else◌, true}
use Rattle.clap.specs.declared.builder.action.ArgAction.TheVariants.{Append}
use Rattle.clap.specs.Words.{App, Row, all_of, first_of, new_app, new_rule, subcommand_of, with_rule, with_subcommand}
use Rattle.csi_streams.specs.declared.command.FileCommand.{FileCommand}
use Rattle.csi_streams.specs.declared.command.FileCommand.TheVariants.{Answer, Show, Schedule}
use Rattle.csi_streams.specs.declared.command.ScheduleCommand.TheVariants.{Run, Frames, Draw}
use Rattle.csi_streams.specs.declared.ending.Ending.{Ending}
use Rattle.csi_streams.specs.declared.ending.Ending.TheVariants.{Usage, Memory}
use Rattle.csi_words.specs.declared.help.Help.{Help as HelpOn}
use Rattle.csi_words.specs.declared.command_line.CommandLine.{CommandLine}
use Rattle.csi_words.specs.declared.command_line.MadeOf.{MadeOf}
use Rattle.csi_words.specs.declared.command_line.CommandLine.TheVariants as lines

-- the words of a command that makes a store of others
pub record MadeOfWords : Type 0 where
  pub new : List ℕ
  pub config : List ℕ
  pub number : List ℕ
  pub kept : List ℕ
  pub nodes : List (List ℕ)

-- those that a command line has
abbrev pub made_of_by : MadeOf → MadeOfWords
made_of_by words = record { new = words.new.now; config = words.config.now; number = words.number.now; kept = words.kept.now; nodes = map (λ node. node.now) words.nodes.items }

-- a command, and the texts behind it; or help
pub data Named : Type 0 where
  Help : HelpOn → Named
  File : FileCommand → List ℕ → Named
  Controller : (store config : List ℕ) → Named
  Node : (store id : List ℕ) (session : Option (List ℕ)) → Named
  Orchestrator : (store config : List ℕ) (session : Option (List ℕ)) → Named
  Record : (store : List ℕ) → Named
  Recover : MadeOfWords → Named
  RecoverController : MadeOfWords → Named

-- what a command line has
abbrev pub named_by : CommandLine → Named
named_by (lines.Help about) = Help about
named_by (lines.File command path) = File command path.now
named_by (lines.Controller store config) = Controller store.now config.now
named_by (lines.Node store id session) = Node store.now id.now (option_map (λ word. word.now) session)
named_by (lines.Orchestrator store config session) = Orchestrator store.now config.now (option_map (λ word. word.now) session)
named_by (lines.Record store) = Record store.now
named_by (lines.Recover words) = Recover (made_of_by words)
named_by (lines.RecoverController words) = RecoverController (made_of_by words)

-- one word more, which has to be there
abbrev pub with_word : App → List ℕ → App
with_word app id = with_rule app (record (new_rule id) { required = true })

-- one word more, which may be left out
abbrev pub with_optional_word : App → List ℕ → App
with_optional_word app id = with_rule app (new_rule id)

-- any number of words more, which are called so
abbrev pub with_words : App → List ℕ → App
with_words app id = with_rule app (record (new_rule id) { action = Some Append })

-- a command of this name, with one word more, which is called so
abbrev pub with_one_word : App → List ℕ → List ℕ → App
with_one_word app name word = with_subcommand app (with_word (new_app name) word).top

-- a command on a file
abbrev pub with_file_command : App → List ℕ → App
with_file_command app name = with_one_word app name (codes "FILE")

-- a command of this name, with two words more, of which the second is called so
abbrev pub with_store_command : App → List ℕ → List ℕ → App
with_store_command app name second = with_subcommand app (with_word (with_word (new_app name) (codes "DB")) second).top

-- the program, of whose commands one has to be there
abbrev pub bare : App
bare = record (new_app (codes "csi-replay")) { top = record (new_app (codes "csi-replay")).top { subcommand_required = true } }

-- its commands on a file
abbrev pub on_files : App
on_files = with_file_command (with_file_command (with_file_command (with_file_command (with_file_command bare (codes "answer")) (codes "show")) (codes "run")) (codes "frames")) (codes "draw")

-- a command of this name: its store, another word, which is called so, and a session, which may be left out
abbrev pub on_session : List ℕ → List ℕ → App
on_session name second = with_optional_word (with_word (with_word (new_app name) (codes "DB")) second) (codes "SESSION")

-- the program with such a command
abbrev pub with_session_command : App → List ℕ → List ℕ → App
with_session_command app name second = with_subcommand app (on_session name second).top

-- its commands that serve a plugin: a node's session is that of its joining
abbrev pub on_plugins : App
on_plugins = with_session_command (with_store_command on_files (codes "controller") (codes "CONFIG")) (codes "node") (codes "ID")

-- its commands on one store
abbrev pub on_stores : App
on_stores = with_one_word (with_session_command on_plugins (codes "orchestrator") (codes "CONFIG")) (codes "record") (codes "DB")

-- a command of this name that makes a store of others: the third and the fourth word are called so; the last ones are as many as there are
abbrev pub on_recover : List ℕ → List ℕ → List ℕ → App
on_recover name number store = with_words (with_word (with_word (with_word (with_word (new_app name) (codes "NEW")) (codes "CONFIG")) number) store) (codes "NODE")

-- the program with such a command
abbrev pub with_recover_command : App → List ℕ → List ℕ → List ℕ → App
with_recover_command app name number store = with_subcommand app (on_recover name number store).top

-- all commands: the last ones make an orchestrator's store of the controller's and of nodes' stores, and a controller's of the orchestrator's
abbrev pub program : App
program =
    with_recover_command (with_recover_command on_stores (codes "recover") (codes "SESSION") (codes "CONTROLLER")) (codes "recover-controller") (codes "NEXT") (codes "ORCHESTRATOR")

-- the first values of the words of each command
abbrev pub on_file_in : FileCommand → List Row → Option Named
on_file_in command rows = option_map (λ path. File command path) (first_of (codes "FILE") rows)

-- a command of two words, where both are there
abbrev pub both : (List ℕ → List ℕ → Named) → Option (List ℕ) → Option (List ℕ) → Option Named
both command first second = option_and_then (λ a. option_map (λ b. command a b) second) first

-- the controller's process
abbrev pub controller_in : List Row → Option Named
controller_in rows = both Controller (first_of (codes "DB") rows) (first_of (codes "CONFIG") rows)

-- a node's process, and the session of its joining, where it is there
abbrev pub node_in : List Row → Option Named
node_in rows = both (λ store id. Node store id (first_of (codes "SESSION") rows)) (first_of (codes "DB") rows) (first_of (codes "ID") rows)

-- the orchestrator's process, and the session that begins, where it is there
abbrev pub orchestrator_in : List Row → Option Named
orchestrator_in rows = both (λ store config. Orchestrator store config (first_of (codes "SESSION") rows)) (first_of (codes "DB") rows) (first_of (codes "CONFIG") rows)

-- the line of a record
abbrev pub record_in : List Row → Option Named
record_in rows = option_map (λ store. Record store) (first_of (codes "DB") rows)

-- the values of a word, however many there are
abbrev pub texts_of : List ℕ → List Row → List (List ℕ)
texts_of id rows = unwrap_or (all_of id rows) []

-- the words of a command that makes a store of others, of which the third and the fourth are called so
abbrev pub made_of_in : List ℕ → List ℕ → List Row → Option MadeOfWords
made_of_in number kept rows =
    option_and_then (λ new. option_and_then (λ config. option_and_then (λ n. option_map (λ k. record { new = new; config = config; number = n; kept = k; nodes = texts_of (codes "NODE") rows })
    (first_of kept rows)) (first_of number rows)) (first_of (codes "CONFIG") rows)) (first_of (codes "NEW") rows)

-- the recovery of an orchestrator's store, and of a controller's
abbrev pub recover_in : List Row → Option Named
recover_in rows = option_map Recover (made_of_in (codes "SESSION") (codes "CONTROLLER") rows)

abbrev pub recover_controller_in : List Row → Option Named
recover_controller_in rows = option_map RecoverController (made_of_in (codes "NEXT") (codes "ORCHESTRATOR") rows)

-- the command of a name, with its few words
abbrev pub few_in : List ℕ → List Row → Option Named
few_in name rows =
    if bytes_eq name (codes "answer") then on_file_in Answer rows
    else if bytes_eq name (codes "show") then on_file_in Show rows
    else if bytes_eq name (codes "run") then on_file_in (Schedule Run) rows
    else if bytes_eq name (codes "frames") then on_file_in (Schedule Frames) rows
    else if bytes_eq name (codes "draw") then on_file_in (Schedule Draw) rows
    else if bytes_eq name (codes "controller") then controller_in rows
    else if bytes_eq name (codes "node") then node_in rows
    else if bytes_eq name (codes "orchestrator") then orchestrator_in rows
    else if bytes_eq name (codes "record") then record_in rows
    else None

-- the command of a name, with its words
abbrev pub command_in : List ℕ → List Row → Option Named
command_in name rows =
    if bytes_eq name (codes "recover") then recover_in rows
    else if bytes_eq name (codes "recover-controller") then recover_controller_in rows
    else few_in name rows

-- of a command that was entered
abbrev pub command_entered : Option (List ℕ × List Row) → Option Named
command_entered entered = option_and_then (λ found. command_in found.0 found.1) entered

-- what these words name; the first word is the program's own name
abbrev pub read : List (List ℕ) → Option Named
read words = command_entered (subcommand_of program words)

-- how words end that name no command: as a wrong use, or where memory ran out
abbrev pub EndsWords : Ending → Type 0
EndsWords Usage = Unit {0}
EndsWords Memory = Unit {0}
EndsWords _ = ⊥
