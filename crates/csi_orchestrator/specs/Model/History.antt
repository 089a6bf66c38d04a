-- The history of an orchestrator: all that it did, the newest first. This profile's own: the definitions
-- read everything from it, and no program keeps it.
use Rattle.std.specs.Prelude.{ℕ, List, [], ◌++◌, Bool, Option}
use Rattle.csi_types.specs.declared.capability.Capability.{Capability}
use Rattle.csi_types.specs.declared.number.Number.{Number}
use Rattle.csi_types.specs.declared.status.Status.{Status}
use Rattle.csi_orchestrator.specs.Model.Thing.{Issued}
pub use Rattle.csi_orchestrator.specs.declared.request.Arguments.{Arguments}
pub use Rattle.csi_orchestrator.specs.declared.request.Usage.{Usage}

-- how a volume is held at a node
pub record Held : Type 0 where
  pub capability : Capability
  pub readonly : Bool

-- what is wanted of a volume
pub data Goal : Type 0 where
  Create : (arguments : Arguments) → Goal
  Use : (usage : Usage) → Goal
  Stop : (node : List ℕ) (target : List ℕ) → Goal
  Delete : Goal

-- one thing that the orchestrator did: it started a session with a list of nodes, gave a node up as lost, forgot a name, sent a
-- call, took a reply, gave a call up, or noted what is wanted of a volume now, if anything
pub data Item : Type 0 where
  Started : (session : ℕ) (nodes : List (List ℕ)) → Item
  Lost : (node : List ℕ) → Item
  Forgotten : (name : List ℕ) → Item
  Sent : (issued : Issued) → Item
  Accepted : (number : Number) (status : Status) (id : Option ℕ) → Item
  Closed : (number : Number) → Item
  Noted : (name : List ℕ) (goal : Option Goal) → Item

-- the number after which its calls are numbered, the nodes that it had first, and what it did since, the newest first
pub record History : Type 0 where
  pub began : Number
  pub nodes : List (List ℕ)
  pub items : List Item

-- a history that goes on by these items, the newest first
abbrev pub with_items : History → List Item → History
with_items history items = record history { items = items ++ history.items }

-- the history of an orchestrator of these nodes that did nothing yet, and numbers its calls after this number
abbrev pub history_after : List (List ℕ) → Number → History
history_after nodes last = record { began = last; nodes = nodes; items = [] }

-- that of a new one
abbrev pub new_history : List (List ℕ) → History
new_history nodes = history_after nodes (record { session = 1; call = 0 })
