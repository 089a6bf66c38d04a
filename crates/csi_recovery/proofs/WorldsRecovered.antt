-- What comes of a recovery in a simulated world.
use Rattle.std.proofs.Common.{◌≡◌, ◌<◌, ◌≤◌, [], ◌∷◌, ◌++◌, refl, sym, ◌∙◌, ap, subst, inl, inr}
use Rattle.std.specs.Prelude.{Some, Result, Ok, Err, IfOk}
use Rattle.std.proofs.lemmas.Option.{none-some}
use Rattle.csi_controller.specs.Model.Core.{Shows as ControllerShows}
use Rattle.csi_controller.specs.Model.State.{ControllerState}
use Rattle.csi_controller.specs.Public.Views.{RecordParts}
use Rattle.csi_types.specs.Model.Config.{Config}
use Rattle.csi_orchestrator.specs.Model.History.{History}
use Rattle.csi_orchestrator.specs.Model.Readings.{last_number}
use Rattle.csi_orchestrator.specs.Model.Shown.{OrchestratorParts, Shows}
use Rattle.csi_orchestrator.specs.Model.WellFormed.{IsWellFormed}
use Rattle.csi_world.specs.declared.outcomes.Outcome.TheVariants as outcomes
use Rattle.csi_world.specs.declared.outcomes.RecoveryRefusal.{RecoveryRefusal}
use Rattle.csi_world.specs.declared.outcomes.RecoveryRefusal.TheVariants as refusals
use Rattle.csi_world.specs.Model.Simulated.{WorldParts, ShowsWorld}
use Rattle.csi_world.specs.Model.World.{World}
use Rattle.csi_recovery.specs.Public.Recovered.{recovered, MayRecover}
use Rattle.csi_world.specs.Public.Recovery.{recovered_world}
use Rattle.csi_recovery.specs.Public.Laws.{given_of}
use Rattle.csi_recovery.specs.declared.fault.RecoveryFault.{RecoveryFault}
use Rattle.csi_recovery.specs.Public.Judged.{IsKeptOf}
use Rattle.csi_recovery.specs.Public.Worlds.{Recovery, MayRefuse, told_as, Recovering}

-- the record of a controller is of what it knows
pub controller-kept : (config : Config) (kept : RecordParts) (state : ControllerState)
    → ControllerShows (record { config = config; next_id = kept.next_id; session = kept.session; rows = kept.rows }) state → IsKeptOf kept state
controller-kept config kept state shows = record { shows = shows.shows; session = shows.session }

-- the session isn't later than the last call's
pub not-later : (recovery : Recovery) (old new : WorldParts) (world : World) → recovery.session ≤ (last_number world.history).session
    → new ≡ record old { outcomes = old.outcomes ++ outcomes.NotRecovered refusals.NotLater ∷ [] } → Recovering recovery old world new
not-later recovery old new world early same = inr (record { why = refusals.NotLater; refused = inl (early, refl); same = same })

-- the plugins are judged so
pub judged-so : (recovery : Recovery) (old new : WorldParts) (world : World) (fault : RecoveryFault) (why : RecoveryRefusal) → (last_number world.history).session < recovery.session
    → told_as fault ≡ Some why → MayRefuse recovery.nodes recovery.session world.controller (given_of recovery.given world) fault
    → new ≡ record old { outcomes = old.outcomes ++ outcomes.NotRecovered why ∷ [] } → Recovering recovery old world new
judged-so recovery old new world fault why later told (inl none) same = absurd (none-some why (sym (ap told_as none) ∙ told))
judged-so recovery old new world fault why later told (inr refused) same =
    inr (record { why = why; refused = inr (later, record { fault = fault; told = told; refused = refused }); same = same })

-- an orchestrator is recovered
pub made-so : (recovery : Recovery) (old new : WorldParts) (world : World) (made : OrchestratorParts) → (last_number world.history).session < recovery.session
    → MayRecover recovery.nodes recovery.session world.controller (given_of recovery.given world)
    → made ≡ recovered recovery.nodes recovery.session world.controller (given_of recovery.given world)
    → ((history : History) → Shows made history → IsWellFormed history → ShowsWorld new (recovered_world recovery.session recovery.given history world))
    → new.outcomes ≡ old.outcomes ++ outcomes.Recovered ∷ [] → Recovering recovery old world new
made-so recovery old new world made later may is shows logged =
    inl (record {
      allowed = record { later = later; may = may };
      shows = λ history form agrees. shows history (subst (λ (parts : OrchestratorParts). Shows parts history) (sym is) agrees) form;
      logged = logged;
    })

-- so it is where there was memory for it
pub recovered-so : {E : Type 0} → (recovery : Recovery) (old : WorldParts) (world : World) (made : OrchestratorParts) (result : Result WorldParts E) → (last_number world.history).session < recovery.session
    → MayRecover recovery.nodes recovery.session world.controller (given_of recovery.given world)
    → made ≡ recovered recovery.nodes recovery.session world.controller (given_of recovery.given world)
    → ((history : History) → Shows made history → IsWellFormed history → IfOk result (λ new. ShowsWorld new (recovered_world recovery.session recovery.given history world)))
    → IfOk result (λ new. new.outcomes ≡ old.outcomes ++ outcomes.Recovered ∷ []) → IfOk result (Recovering recovery old world)
recovered-so recovery old world made (Ok new) later may is shows logged = made-so recovery old new world made later may is shows logged
recovered-so recovery old world made (Err fault) later may is shows logged = tt

-- where nothing is recovered, too
pub unrecovered-so : {E : Type 0} → (recovery : Recovery) (old : WorldParts) (world : World) (result : Result WorldParts E) (why : RecoveryRefusal)
    → ((new : WorldParts) → new ≡ record old { outcomes = old.outcomes ++ outcomes.NotRecovered why ∷ [] } → Recovering recovery old world new)
    → IfOk result (λ new. new ≡ record old { outcomes = old.outcomes ++ outcomes.NotRecovered why ∷ [] }) → IfOk result (Recovering recovery old world)
unrecovered-so recovery old world (Ok new) why so same = so new same
unrecovered-so recovery old world (Err fault) why so same = tt
