-- The world after an input of the orchestrator, by what its calls promise.
use Rattle.csi_world.proofs.Words.{◌≡◌, List, Result, Ok, Err, IfOk, IfErr, OnErr, refl, sym, ◌∙◌, ap, subst, Frame}
use Rattle.csi_world.proofs.Words.{OrchFault, History, IsWellFormed, Input, Answer, Moved, moves, moved_to}
use Rattle.csi_world.proofs.Words.{MovesKeepForm, FollowsUnrefused, IsRefusal, OrchestratorParts, Outcome, World}
use Rattle.csi_world.proofs.Words.{with_history, Occurred, by_answer, by_result, orchestrated, WorldParts, IsPosted}
use Rattle.csi_world.proofs.Words.{IsInputRefused, IsInputSettled, IsWorldAfter, Does}
use Rattle.std.proofs.lemmas.Result.{IfOk-weaker}
use Rattle.csi_orchestrator.specs.Model.Shown.{Shows as OrchestratorShows}
use Rattle.csi_world.specs.declared.outcomes.Outcome.TheVariants as outcomes
use Rattle.csi_world.proofs.SystemCalls.{at-world}

-- the world after the orchestrator's move
after_move : World → List Frame → Result Moved OrchFault → World
after_move world posted result = record world { frames = posted; history = moved_to world.history result }

-- by what the orchestrator's move is, the frames and what came of it are these, and the orchestrator agrees
record ComesTo (world : World) (new : OrchestratorParts) (posted : List Frame) (outcome : Outcome) (result : Result Moved OrchFault) : Type 0 where
  agrees : OrchestratorShows new (moved_to world.history result)
  occurs : by_result world result ≡ record { world = after_move world posted result; outcome = outcome }

-- what was done, and its frame sent
done-comes : (world : World) (new : OrchestratorParts) (posted : List Frame) (outcome : Outcome) (answer : Answer) (result : Result Moved OrchFault)
    → FollowsUnrefused world.history result answer new → IsPosted world.frames posted answer outcome → ComesTo world new posted outcome result
unfolding after_move
done-comes world new posted outcome answer (Err fault) done sent = absurd done
done-comes world new posted outcome answer (Ok moved) done sent =
    record { agrees = done.agrees; occurs = ap (by_answer (with_history moved.items world)) done.answered ∙ sent (with_history moved.items world) refl }

-- what was refused
refused-comes : (world : World) (old new : OrchestratorParts) (posted : List Frame) (outcome : Outcome) (fault : OrchFault) (result : Result Moved OrchFault)
    → OrchestratorShows old world.history → new ≡ old → IsRefusal result fault → IsInputRefused world.frames posted fault outcome → ComesTo world new posted outcome result
unfolding after_move
refused-comes world old new posted outcome fault (Ok moved) agrees same refusal refused = absurd (refused.other refusal)
refused-comes world old new posted outcome fault (Err other) agrees same refusal refused =
    record {
      agrees = subst (λ (p : OrchestratorParts). OrchestratorShows p world.history) (sym same) agrees;
      occurs = λ i. let o : Occurred = record { world = record world { frames = sym refused.frames i }; outcome = (ap outcomes.Refused (sym refusal) ∙ sym refused.came) i } in o;
    }

-- a command, a timeout, a reply or a restart
settled-comes : {X : Type 0} (answer : X → Answer) (world : World) (old new : OrchestratorParts) (posted : List Frame) (outcome : Outcome) (answered : Result X OrchFault) (result : Result Moved OrchFault) → OrchestratorShows old world.history
    → IfOk answered (λ x. FollowsUnrefused world.history result (answer x) new) → IfErr answered (λ fault. IsRefusal result fault) → OnErr answered (new ≡ old)
    → IsInputSettled answer world.frames posted answered outcome → ComesTo world new posted outcome result
settled-comes answer world old new posted outcome (Ok x) result agrees ok err stays settled = done-comes world new posted outcome (answer x) result ok settled
settled-comes answer world old new posted outcome (Err fault) result agrees ok err stays settled = refused-comes world old new posted outcome fault result agrees stays err settled

-- what comes of an event or of a delivery that is this input
pub input-becomes : MovesKeepForm → {X E : Type 0} (answer : X → Answer) (shown : WorldParts) (new : OrchestratorParts) (posted : List Frame) (input : Input) (occurs : World → Occurred) (answered : Result X OrchFault) (result : Result Outcome E)
    → ((world : World) → OrchestratorShows shown.orchestrator world.history → occurs world ≡ orchestrated world input)
    → ((history : History) → IsWellFormed history → OrchestratorShows shown.orchestrator history → IfOk answered (λ x. FollowsUnrefused history (moves history input) (answer x) new))
    → ((history : History) → IsWellFormed history → OrchestratorShows shown.orchestrator history → IfErr answered (λ fault. IsRefusal (moves history input) fault))
    → OnErr answered (new ≡ shown.orchestrator) → IfOk result (λ outcome. IsInputSettled answer shown.frames posted answered outcome)
    → Does shown (record shown { orchestrator = new; frames = posted }) result occurs
unfolding after_move
input-becomes law answer shown new posted input occurs answered result is ok err stays sent = λ world own shows.
    IfOk-weaker result _ _
    (λ outcome settled.
    let history : History = world.history in
    let comes : ComesTo world new posted outcome (moves history input)
    = settled-comes answer world shown.orchestrator new posted outcome answered (moves history input) shows.orchestrator
    (ok history shows.form shows.orchestrator) (err history shows.form shows.orchestrator) stays (subst (λ (fs : List Frame). IsInputSettled answer fs posted answered outcome) shows.frames settled)
    in
    at-world shown (record shown { orchestrator = new; frames = posted }) outcome (occurs world) (after_move world posted (moves history input)) refl (record { apart = own.apart; fit = own.fit })
    (record {
      config = shows.config;
      frames = refl;
      controller = shows.controller;
      nodes = shows.nodes;
      orchestrator = comes.agrees;
      form = law.then history input shows.form;
      own_config = shows.own_config;
    })
    (is world shows.orchestrator ∙ comes.occurs))
    sent

-- what comes of an event that is one that came of it
pub occurred-as : {E : Type 0} (old new : WorldParts) {was is : Occurred} (result : Result Outcome E) → was ≡ is → IfOk result (λ outcome. IsWorldAfter old new outcome was) → IfOk result (λ outcome. IsWorldAfter old new outcome is)
occurred-as old new result same came = IfOk-weaker result _ _ (λ outcome after. subst (IsWorldAfter old new outcome) same after) came
