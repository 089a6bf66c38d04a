-- Of each world that is shown: it is recovered, or the plugins are judged so.
use Rattle.std.proofs.Common.{◌≡◌, ◌<◌, List, ℕ, sym, subst, arith}
use Rattle.csi_controller.specs.Model.Core.{ControllerParts, Shows as ControllerShows}
use Rattle.csi_node.specs.Model.Record.{NodeParts}
use Rattle.csi_orchestrator.specs.Model.Readings.{last_number}
use Rattle.csi_orchestrator.specs.Model.Shown.{OrchestratorParts, Shows}
use Rattle.csi_world.specs.Model.Simulated.{AreNodesShown}
use Rattle.csi_recovery.specs.Public.Recovered.{GivenNode, recovered, MayRecover}
use Rattle.csi_recovery.specs.Public.Laws.{given_of}
use Rattle.csi_recovery.specs.Public.Judged.{AreGiven}
use Rattle.csi_recovery.specs.Public.Worlds.{Recovery, MayRefuse}
use Rattle.csi_recovery.proofs.WorldsJudged.{records-given}
use Rattle.csi_recovery.proofs.WorldsRecovered.{judged-so, recovered-so, unrecovered-so}
use Rattle.csi_recovery.proofs.worlds.recover_world.Goals as goal

pub returns-in-Ok : goal.returns-in-Ok
returns-in-Ok c = λ shown shows.
    let recovery : Recovery = record { nodes = c.args.nodes.now; session = c.args.session; given = c.args.given.now } in
    let given : List GivenNode = given_of recovery.given shown in
    let kept = c.in_ok-controller.ensures shown.controller (subst (λ (parts : ControllerParts). ControllerShows parts shown.controller) (sym c.controller.ensures) shows.controller) in
    let are : AreGiven c.deref.result.now given =
    subst (λ (l : List NodeParts). AreGiven l given) (sym c.deref.ensures.value) (records-given recovery.given c.nodes.result.now c.in_ok-known.known.items shown.nodes
    (subst (λ (l : List NodeParts). AreNodesShown l shown.nodes) (sym c.nodes.ensures) shows.nodes) c.in_ok-known.ensures)
    in
    let last : c.session-last.result ≡ (last_number shown.history).session = c.session-last.ensures.agrees shown.history (subst (λ (parts : OrchestratorParts). Shows parts shown.history) (sym c.orchestrator.ensures) shows.orchestrator) in
    let later : (last_number shown.history).session < recovery.session = subst (λ (n : ℕ). n < recovery.session) last (omega (arith, c.if-session-last.false)) in
    recovered-so recovery c.args.world shown c.in-Ok.orchestrator c.recovered.result later
    (subst (λ (nodes : List (List ℕ)). MayRecover nodes recovery.session shown.controller given) c.in_ok-listed.ensures (c.in-Ok.ensures.may shown.controller given kept are))
    (subst (λ (nodes : List (List ℕ)). c.in-Ok.orchestrator ≡ recovered nodes recovery.session shown.controller given) c.in_ok-listed.ensures (c.in-Ok.ensures.value shown.controller given kept are))
    (λ history agrees form. c.recovered.ensures.world shown history shows agrees form) c.recovered.ensures.outcome

pub returns : goal.returns
returns c = λ shown shows.
    let recovery : Recovery = record { nodes = c.args.nodes.now; session = c.args.session; given = c.args.given.now } in
    let given : List GivenNode = given_of recovery.given shown in
    let kept = c.in_ok-controller.ensures shown.controller (subst (λ (parts : ControllerParts). ControllerShows parts shown.controller) (sym c.controller.ensures) shows.controller) in
    let are : AreGiven c.deref.result.now given =
    subst (λ (l : List NodeParts). AreGiven l given) (sym c.deref.ensures.value) (records-given recovery.given c.nodes.result.now c.in_ok-known.known.items shown.nodes
    (subst (λ (l : List NodeParts). AreNodesShown l shown.nodes) (sym c.nodes.ensures) shows.nodes) c.in_ok-known.ensures)
    in
    let last : c.session-last.result ≡ (last_number shown.history).session = c.session-last.ensures.agrees shown.history (subst (λ (parts : OrchestratorParts). Shows parts shown.history) (sym c.orchestrator.ensures) shows.orchestrator) in
    let later : (last_number shown.history).session < recovery.session = subst (λ (n : ℕ). n < recovery.session) last (omega (arith, c.if-session-last.false)) in
    let why = c.in_ok-refusal_of-in-Err.field-0 in
    unrecovered-so recovery c.args.world shown c.unrecovered-in-Err.result why (λ new same.
    judged-so recovery c.args.world new shown c.in-Err.fault why later c.in_ok-refusal_of-in-Err.ensures.told
    (subst (λ (nodes : List (List ℕ)). MayRefuse nodes recovery.session shown.controller given c.in-Err.fault) c.in_ok-listed.ensures (c.in-Err.ensures.refused shown.controller given kept are)) same) c.unrecovered-in-Err.ensures
