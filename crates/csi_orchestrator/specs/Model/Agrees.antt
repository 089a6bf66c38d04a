-- An orchestrator agrees with a history: what it shows of itself is what the history tells. This profile's own.
use Rattle.std.specs.Prelude.{◌≡◌, ◌≢◌, ℕ, List, Bool, Option}
use Rattle.csi_types.specs.declared.number.Number.{Number}
use Rattle.csi_orchestrator.specs.declared.thing.Thing.{Thing}
use Rattle.csi_orchestrator.specs.declared.thing.Thing.TheVariants.{Attached}
use Rattle.csi_orchestrator.specs.declared.thing.Known.{Known}
use Rattle.csi_orchestrator.specs.declared.thing.Known.TheVariants.{No}
use Rattle.csi_orchestrator.specs.Model.Thing.{Issued}
use Rattle.csi_orchestrator.specs.Model.History.{Arguments, Held, Goal, History}
use Rattle.csi_orchestrator.specs.Model.Readings.{nodes_of, known, id_of, goal_of, arguments_of, held, open_call, tries, last_number, has_row}

-- what an orchestrator shows of itself, by names
pub record OrchestratorView : Type 0 where
  pub nodes : List (List ℕ)
  pub last : Number
  pub rows : List ℕ → Bool
  pub marks : Thing → Known
  pub ids : List ℕ → Option ℕ
  pub goals : List ℕ → Option Goal
  pub arguments : List ℕ → Option Arguments
  pub holdings : List ℕ → List ℕ → Option Held
  pub open_calls : List ℕ → Option Issued
  pub counts : List ℕ → ℕ

-- how a volume is held counts only where it may be attached
pub record Agrees (view : OrchestratorView) (history : History) : Type 0 where
  pub same_nodes : view.nodes ≡ nodes_of history
  pub same_last : view.last ≡ last_number history
  pub same_rows : (name : List ℕ) → view.rows name ≡ has_row history name
  pub same_marks : (thing : Thing) → view.marks thing ≡ known history thing
  pub same_ids : (name : List ℕ) → view.ids name ≡ id_of history name
  pub same_goals : (name : List ℕ) → view.goals name ≡ goal_of history name
  pub same_arguments : (name : List ℕ) → view.arguments name ≡ arguments_of history name
  pub same_holdings : (name node : List ℕ) → known history (Attached name node) ≢ No → view.holdings name node ≡ held history name node
  pub same_open_calls : (name : List ℕ) → view.open_calls name ≡ open_call history name
  pub same_counts : (name : List ℕ) → view.counts name ≡ tries history name
