-- What comes of a recovery in a simulated world. This profile's own.
use Rattle.std.specs.Prelude.{◌≡◌, ◌⊎◌, ℕ, ◌<◌, ◌≤◌, List, [], ◌∷◌, ◌++◌, Option, Some, None}
use Rattle.csi_controller.specs.Model.State.{ControllerState}
use Rattle.csi_orchestrator.specs.Model.History.{History}
use Rattle.csi_orchestrator.specs.Model.Readings.{last_number}
use Rattle.csi_orchestrator.specs.Model.Shown.{Shows}
use Rattle.csi_orchestrator.specs.Model.WellFormed.{IsWellFormed}
use Rattle.csi_world.specs.declared.outcomes.Outcome.TheVariants as outcomes
use Rattle.csi_world.specs.declared.outcomes.RecoveryRefusal.{RecoveryRefusal}
use Rattle.csi_world.specs.declared.outcomes.RecoveryRefusal.TheVariants as refusals
use Rattle.csi_world.specs.Model.Simulated.{WorldParts, ShowsWorld}
use Rattle.csi_world.specs.Model.World.{World}
use Rattle.csi_recovery.specs.Public.Recovered.{GivenNode, recovered, MayRecover}
use Rattle.csi_world.specs.Public.Recovery.{recovered_world}
use Rattle.csi_recovery.specs.Public.Laws.{given_of}
use Rattle.csi_recovery.specs.declared.fault.RecoveryFault.{RecoveryFault}
use Rattle.csi_recovery.specs.declared.fault.RecoveryFault.TheVariants.{SameNode, NotLater, Disagrees, BadNodes, BadRow, NoMemory}
use Rattle.csi_recovery.specs.Public.Judged.{IsRecoveryRefusal}

-- what an operator says: the new orchestrator's list of nodes, its session, and the nodes whose stores are given
pub record Recovery : Type 0 where
  pub nodes : List (List ℕ)
  pub session : ℕ
  pub given : List (List ℕ)

-- why nothing is recovered, where an allocation may be refused at any time
abbrev pub MayRefuse : List (List ℕ) → ℕ → ControllerState → List GivenNode → RecoveryFault → Type 0
MayRefuse nodes session controller given fault = (fault ≡ NoMemory) ⊎ IsRecoveryRefusal nodes session controller given fault

-- as an outcome tells it; out of memory is none
abbrev pub told_as : RecoveryFault → Option RecoveryRefusal
told_as (SameNode place) = Some refusals.SameNode
told_as NotLater = Some refusals.NotLater
told_as (Disagrees place) = Some refusals.Disagrees
told_as BadNodes = Some refusals.BadNodes
told_as (BadRow place) = Some refusals.BadRow
told_as NoMemory = None

-- the plugins of a world are judged so
pub record IsJudged (recovery : Recovery) (world : World) (why : RecoveryRefusal) : Type 0 where
  pub fault : RecoveryFault
  pub told : told_as fault ≡ Some why
  pub refused : IsRecoveryRefusal recovery.nodes recovery.session world.controller (given_of recovery.given world) fault

-- nothing is recovered in a world: the session isn't later than that of the last call, or it is and the plugins are judged so
abbrev pub IsRefusedIn : Recovery → World → RecoveryRefusal → Type 0
IsRefusedIn recovery world why =
    ((recovery.session ≤ (last_number world.history).session) × (why ≡ refusals.NotLater))
    ⊎ (((last_number world.history).session < recovery.session) × IsJudged recovery world why)

-- nothing is refused: the session is later than that of the last call, as the operator promises, and the stores may be recovered of
pub record IsAllowedIn (recovery : Recovery) (world : World) : Type 0 where
  pub later : (last_number world.history).session < recovery.session
  pub may : MayRecover recovery.nodes recovery.session world.controller (given_of recovery.given world)

-- a recovered world, with each history that the recovered orchestrator shows
pub record HasRecovered (recovery : Recovery) (old : WorldParts) (world : World) (new : WorldParts) : Type 0 where
  pub allowed : IsAllowedIn recovery world
  pub shows : (history : History) → IsWellFormed history → Shows (recovered recovery.nodes recovery.session world.controller (given_of recovery.given world)) history
      → ShowsWorld new (recovered_world recovery.session recovery.given history world)
  pub logged : new.outcomes ≡ old.outcomes ++ outcomes.Recovered ∷ []

-- or nothing but the log changed
pub record HasRefused (recovery : Recovery) (old : WorldParts) (world : World) (new : WorldParts) : Type 0 where
  pub why : RecoveryRefusal
  pub refused : IsRefusedIn recovery world why
  pub same : new ≡ record old { outcomes = old.outcomes ++ outcomes.NotRecovered why ∷ [] }

-- what comes of it
abbrev pub Recovering : Recovery → WorldParts → World → WorldParts → Type 0
Recovering recovery old world new = HasRecovered recovery old world new ⊎ HasRefused recovery old world new
