-- What each call of an orchestrator promises of every history that it agrees with. This profile's own.
use Rattle.std.specs.Prelude.{◌≡◌, ℕ, List, Option, None, Result, Ok, Err, IsOk, IfOk, IfErr, OnOk, OnErr}
use Rattle.csi_types.specs.Model.Frame.{Frame}
use Rattle.csi_orchestrator.specs.declared.fault.Heard.{Heard}
use Rattle.csi_orchestrator.specs.declared.fault.OrchFault.{OrchFault}
use Rattle.csi_orchestrator.specs.declared.fault.OrchFault.TheVariants.{NoMemory}
use Rattle.csi_orchestrator.specs.Model.History.{History, with_items}
use Rattle.csi_orchestrator.specs.Model.Moves.{Input, ToUse, ToDelete, Answer, Sends, Hears, Moved, moves}
use Rattle.csi_orchestrator.specs.Model.Shown.{OrchestratorParts, Shows}
use Rattle.csi_orchestrator.specs.Model.WellFormed.{IsWellFormed}
use Rattle.csi_orchestrator.specs.Public.Changed.{ChangesRowOf}
use Rattle.csi_orchestrator.specs.Public.RowMoves.{IsRefusal}
use Rattle.csi_orchestrator.specs.Public.Sound.{AreGuarded}

-- the answer is the one that the history tells, what is shown then agrees with the history that goes on so, and each
-- call that was sent may be sent
pub record Follows (history : History) (moved : Moved) (answer : Answer) (parts : OrchestratorParts) : Type 0 where
  pub answered : moved.answer ≡ answer
  pub agrees : Shows parts (with_items history moved.items)
  pub guarded : AreGuarded history moved.items

-- the same, where nothing is refused
abbrev pub FollowsUnrefused : History → Result Moved OrchFault → Answer → OrchestratorParts → Type 0
FollowsUnrefused history (Ok moved) answer parts = Follows history moved answer parts
FollowsUnrefused history (Err fault) answer parts = ⊥

-- it is answered so, and nothing is refused
abbrev pub IsAnsweredAs : Answer → Result Moved OrchFault → Type 0
IsAnsweredAs answer (Ok moved) = moved.answer ≡ answer
IsAnsweredAs answer (Err fault) = ⊥

-- a frame that comes is heard so
abbrev pub IsHeardAs : Heard → Result Moved OrchFault → Type 0
IsHeardAs heard moved = IsAnsweredAs (Hears heard) moved

-- a use isn't refused where it is so already, by a history that is shown
abbrev pub IsTakenIfMet : Input → OrchestratorParts → Result (Option Frame) OrchFault → Type 0
IsTakenIfMet (ToUse name usage) old result =
    (history : History) → IsWellFormed history → Shows old history → IsAnsweredAs (Sends None) (moves history (ToUse name usage)) → IsOk result
IsTakenIfMet input old result = Unit {0}

-- a delete takes no memory
abbrev pub HasRoomToDelete : Input → Result (Option Frame) OrchFault → Type 0
HasRoomToDelete (ToDelete name) result = IfErr result (λ fault. fault ≡ NoMemory → ⊥)
HasRoomToDelete input result = Unit {0}

-- a use or a delete for which nothing is sent changes nothing
abbrev pub RestsUnsent : Input → OrchestratorParts → OrchestratorParts → Result (Option Frame) OrchFault → Type 0
RestsUnsent (ToUse name usage) old new result = IfOk result (λ sent. sent ≡ None → new ≡ old)
RestsUnsent (ToDelete name) old new result = IfOk result (λ sent. sent ≡ None → new ≡ old)
RestsUnsent input old new result = Unit {0}

-- what is asked of the volume of this name is answered as every history says that is shown; a refusal changes nothing, and else only the row of
-- the name changes
pub record AnswersAsked (name : List ℕ) (input : Input) (old new : OrchestratorParts) (result : Result (Option Frame) OrchFault) : Type 0 where
  pub ok : (history : History) → IsWellFormed history → Shows old history → IfOk result (λ sent. FollowsUnrefused history (moves history input) (Sends sent) new)
  pub err : (history : History) → IsWellFormed history → Shows old history → IfErr result (IsRefusal (moves history input))
  pub met : IsTakenIfMet input old result
  pub memory : HasRoomToDelete input result
  pub stays : OnErr result (new ≡ old)
  pub nodes : new.nodes ≡ old.nodes
  pub changed : OnOk result (ChangesRowOf name old new)
  pub rests : RestsUnsent input old new result
