-- What is promised of each thing that is asked of a volume, by what the rows tell.
use Rattle.csi_orchestrator.proofs.Words.{◌≡◌, ℕ, List, Option, Some, Result, Frame, OrchFault, Input, Sends, OrchestratorParts}
use Rattle.csi_orchestrator.proofs.Words.{IsMoveOf, AreSoundParts}
use Rattle.csi_orchestrator.specs.Public.Promises.{AnswersAsked, HasRoomToDelete, IsTakenIfMet, RestsUnsent}
use Rattle.csi_orchestrator.proofs.ChangedRows.{name_asked, changed-promised}
use Rattle.csi_orchestrator.proofs.PromisesTold.{IsOfSession, ok-promised, err-promised, nodes-promised, stays-promised}

-- what all of them promise, and what is left for some
pub asked-promised : {old now new : OrchestratorParts} {input : Input} {result : Result (Option Frame) OrchFault} (name : List ℕ) → old ≡ now → AreSoundParts old → name_asked input ≡ Some name → IsOfSession input
    → IsMoveOf old new input Sends result
    → IsTakenIfMet input now result
    → HasRoomToDelete input result
    → RestsUnsent input now new result
    → AnswersAsked name input now new result
asked-promised name is kept asked plain told met memory rests =
    record {
      ok = ok-promised is kept told;
      err = err-promised is kept told;
      met = met;
      memory = memory;
      stays = stays-promised is told;
      nodes = nodes-promised is kept told plain;
      changed = changed-promised name is asked told;
      rests = rests;
    }
