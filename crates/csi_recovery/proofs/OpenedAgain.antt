-- What is opened of a record that was recovered, with its own list of nodes.
use Rattle.std.proofs.Common.{◌≡◌, ◌∙◌, ◌<◌, ◌≤◌, ◌+◌, ℕ, List, [], ◌∷◌, map, filter, refl, ap, arith}
use Rattle.csi_controller.specs.Model.State.{ControllerState, Volume}
use Rattle.csi_orchestrator.specs.Model.Shown.{RowShown, OrchestratorParts}
use Rattle.csi_orchestrator.specs.Public.Beginning.{remembered}
use Rattle.csi_orchestrator.specs.Public.Laws.{opened_parts}
use Rattle.csi_orchestrator.specs.Public.Record.{RecordParts}
use Rattle.csi_recovery.specs.Public.Judged.{record_of}
use Rattle.csi_recovery.specs.Public.Recovered.{GivenNode, recovered, recovered_row, MayRecover}

-- each row of a recovery is remembered
all-remembered : (controller : ControllerState) (known : List GivenNode) (volumes : List Volume)
    → remembered (map (recovered_row controller known) volumes) ≡ map (recovered_row controller known) volumes
all-remembered controller known [] = refl
all-remembered controller known (volume ∷ volumes) = ap (λ (rows : List RowShown). recovered_row controller known volume ∷ rows) (all-remembered controller known volumes)

-- what is opened of what was recovered is what is recovered for the session after
pub opened-next : (nodes : List (List ℕ)) (session : ℕ) (controller : ControllerState) (known : List GivenNode)
    → opened_parts (record_of (recovered nodes session controller known)) nodes ≡ recovered nodes (session + 1) controller known
opened-next nodes session controller known =
    (λ i. record {
      nodes = nodes;
      last = record { session = session + 1; call = 0 };
      rows = all-remembered controller known (filter (λ volume. volume.is_live) controller.volumes) i;
    })

-- so what is opened of the record in the session before is what is recovered in this one
pub opened-in : (nodes : List (List ℕ)) (session before : ℕ) (state : ControllerState) (known : List GivenNode) (kept : RecordParts) (made : OrchestratorParts) → (1 ≤ session → before + 1 ≡ session)
    → MayRecover nodes session state known → kept ≡ record_of (recovered nodes before state known) → made ≡ opened_parts kept nodes → made ≡ recovered nodes session state known
opened-in nodes session before state known kept made next may is opened =
    let later : state.session < session = may.after_controller in
    opened ∙ ap (λ (parts : RecordParts). opened_parts parts nodes) is ∙ opened-next nodes before state known ∙ ap (λ (s : ℕ). recovered nodes s state known) (next (omega (arith, later)))
