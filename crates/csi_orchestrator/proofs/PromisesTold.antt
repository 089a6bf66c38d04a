-- What the rows tell is what each call promises.
use Rattle.csi_orchestrator.proofs.Words.{◌≡◌, refl, sym, ◌∙◌, ap, subst, Result, Ok, Err, IfOk, IfErr, OnErr, OrchFault}
use Rattle.csi_orchestrator.proofs.Words.{History, with_items, IsWellFormed, Input, Restarts, Loses, Restarted, Answer, Moved, moved_unless, restarted_parts}
use Rattle.csi_orchestrator.proofs.Words.{moves, moved_to, OrchestratorParts, Shows, MovedRows, IsRefusal, row_moves}
use Rattle.csi_orchestrator.proofs.Words.{IsMoveOf, RowsAnswer, AreSteadyRowsIf, AreSoundRows, HasHistory}
use Rattle.csi_orchestrator.proofs.Words.{AreSoundParts, IsReached, GoesOn, arith}
use Rattle.csi_orchestrator.specs.Public.Laws.{RestartsAreTold}
use Rattle.csi_orchestrator.specs.Public.Promises.{FollowsUnrefused, IsAnsweredAs}
use Rattle.csi_orchestrator.proofs.AddedItems.{moves-add, stays-formed}
use Rattle.csi_orchestrator.proofs.SendingAgrees.{Tells}
use Rattle.csi_orchestrator.proofs.RulesStay.{rows-stay-sound}
use Rattle.csi_orchestrator.proofs.BoundsStay.{rows-stay-within}
use Rattle.csi_orchestrator.proofs.RowsMoved.{IsRowMove, row-moved}
use Rattle.csi_orchestrator.proofs.KeptRows.{IsFitInput, rows-stay-steady, all-steady-any}
use Rattle.csi_orchestrator.proofs.RepliesAgree.{all-tell}

-- where the rows tell what the history tells, what is told is done
done : (history : History) (moved_rows : MovedRows) (moved : Result Moved OrchFault) → Tells history (Ok moved_rows) moved → FollowsUnrefused history moved moved_rows.answer moved_rows.parts
done history moved_rows (Ok moved) tells = record { answered = sym tells.0.0; agrees = tells.0.1; guarded = tells.1 }
done history moved_rows (Err fault) tells = absurd tells.0

-- what was told is done
pub is-done : (old : OrchestratorParts) (history : History) (input : Input) (moved_rows : MovedRows) → AreSoundRows old.rows → AreSteadyRowsIf (Unit {0}) old.rows → IsWellFormed history → Shows old history → row_moves old input ≡ Ok moved_rows
    → FollowsUnrefused history (moves history input) moved_rows.answer moved_rows.parts
is-done old history input moved_rows kept steady form agrees e =
    done history moved_rows (moves history input) (subst (λ r. Tells history r (moves history input)) e (all-tell old history input form kept steady agrees))

-- where they do, what the rows refuse is refused
refused : (history : History) (moved_rows : Result MovedRows OrchFault) (moved : Result Moved OrchFault) (fault : OrchFault) → Tells history moved_rows moved → IsRefusal moved_rows fault → IsRefusal moved fault
refused history moved_rows moved fault tells is = grind arith

-- what is refused by the rows is refused
pub is-refused : (old : OrchestratorParts) (history : History) (input : Input) (fault : OrchFault) → AreSoundRows old.rows → AreSteadyRowsIf (Unit {0}) old.rows → IsWellFormed history → Shows old history → IsRefusal (row_moves old input) fault
    → IsRefusal (moves history input) fault
is-refused old history input fault kept steady form agrees is = refused history (row_moves old input) (moves history input) fault (all-tell old history input form kept steady agrees) is

-- what was told is told by a history that goes on
pub told-on : (old new : OrchestratorParts) (told : HasHistory old) (input : Input) (answer : Answer) → (moved : Result Moved OrchFault) → moves told.history input ≡ moved → FollowsUnrefused told.history moved answer new → HasHistory new
told-on old new told input answer (Ok moved) e done =
    record {
      history = with_items told.history moved.items;
      reached = subst (λ m. IsReached (moved_to told.history m)) e (GoesOn told.history input told.reached);
      form = subst (λ m. IsWellFormed (moved_to told.history m)) e (stays-formed told.history input _ told.form (moves-add told.history input told.form));
      agrees = done.agrees;
    }
told-on old new told input answer (Err fault) e done = absurd done

-- the same of a call's result, by the parts that are shown
pub ok-promised : {R : Type 0} {old now new : OrchestratorParts} {input : Input} {says : R → Answer} {result : Result R OrchFault} → old ≡ now → AreSoundParts old → IsMoveOf old new input says result
    → (history : History) → IsWellFormed history → Shows now history
    → IfOk result (λ r. FollowsUnrefused history (moves history input) (says r) new)
ok-promised {old = old} {now = now} {new = new} {input = input} {says = says} {result = Err fault} is kept told history form agrees = tt
ok-promised {old = old} {now = now} {new = new} {input = input} {says = says} {result = Ok r} is kept told history form agrees =
    (is-done old history input (record { answer = says r; parts = new }) kept.sound (all-steady-any old.rows kept.steady) form (subst (λ (p : OrchestratorParts). Shows p history) (sym is) agrees) told.ok)

-- a refusal is the one that the history tells, by the parts that are shown
pub err-promised : {R : Type 0} {old now new : OrchestratorParts} {input : Input} {says : R → Answer} {result : Result R OrchFault} → old ≡ now → AreSoundParts old → IsMoveOf old new input says result
    → (history : History) → IsWellFormed history → Shows now history
    → IfErr result (IsRefusal (moves history input))
err-promised {old = old} {now = now} {new = new} {input = input} {says = says} {result = Ok r} is kept told history form agrees = tt
err-promised {old = old} {now = now} {new = new} {input = input} {says = says} {result = Err fault} is kept told history form agrees =
    (is-refused old history input fault kept.sound (all-steady-any old.rows kept.steady) form (subst (λ (p : OrchestratorParts). Shows p history) (sym is) agrees) told.err)

-- parts that are kept as they have to be stay so, whatever the result
pub kept-promised : {R : Type 0} {old new : OrchestratorParts} {input : Input} {says : R → Answer} {result : Result R OrchFault} → AreSoundParts old → IsMoveOf old new input says result → IsFitInput input → AreSoundParts new
kept-promised {old = old} {new = new} {input = input} {says = says} {result = Ok r} kept told fits =
    let moved : MovedRows = record { answer = says r; parts = new } in
    record {
      sound = rows-stay-sound old input moved kept.sound told.ok;
      steady = rows-stay-steady old input moved kept.sound kept.steady fits told.ok;
      within = rows-stay-within old input moved kept.sound kept.steady kept.within told.ok;
      told = told-on old new kept.told input (says r) _ refl (is-done old kept.told.history input moved kept.sound (all-steady-any old.rows kept.steady) kept.told.form kept.told.agrees told.ok);
    }
kept-promised {old = old} {new = new} {input = input} {says = says} {result = Err fault} kept told fits = subst AreSoundParts (sym told.stays) kept

-- ---- the nodes

-- no session begins
abbrev pub IsOfSession : Input → Type 0
IsOfSession (Restarts nodes) = ⊥
IsOfSession (Loses node) = ⊥
IsOfSession input = Unit {0}

-- the nodes are as they were, unless it is refused
abbrev NodesAfter : OrchestratorParts → Result MovedRows OrchFault → Type 0
NodesAfter parts (Ok moved_rows) = moved_rows.parts.nodes ≡ parts.nodes
NodesAfter parts (Err fault) = Unit {0}

-- whatever comes in a session
moves-nodes : (parts : OrchestratorParts) (input : Input) (result : Result MovedRows OrchFault) → IsOfSession input → IsRowMove parts input result → NodesAfter parts result
moves-nodes parts input result plain h = grind arith

-- the nodes stay as they were shown, whatever the result
pub nodes-promised : {R : Type 0} {old now new : OrchestratorParts} {input : Input} {says : R → Answer} {result : Result R OrchFault} → old ≡ now → AreSoundParts old → IsMoveOf old new input says result → IsOfSession input → new.nodes ≡ now.nodes
nodes-promised {old = old} {input = input} {result = Ok r} is kept told plain = subst (NodesAfter old) told.ok (moves-nodes old input (row_moves old input) plain (row-moved old input kept.sound)) ∙ ap (λ (p : OrchestratorParts). p.nodes) is
nodes-promised {old = old} {input = input} {result = Err fault} is kept told plain = ap (λ (p : OrchestratorParts). p.nodes) (told.stays ∙ is)

-- a refusal leaves what was shown
pub stays-promised : {R : Type 0} {old now new : OrchestratorParts} {input : Input} {says : R → Answer} {result : Result R OrchFault} → old ≡ now → IsMoveOf old new input says result → OnErr result (new ≡ now)
stays-promised {result = Ok r} is told = tt
stays-promised {result = Err fault} is told = told.stays ∙ is

-- from each history that is shown, a restart that isn't refused is told
pub restarts-told : (parts : OrchestratorParts) → AreSoundParts parts → RestartsAreTold parts
restarts-told parts kept = λ history nodes form shown unrefused.
    is-done parts history (Restarts nodes) (record { answer = Restarted; parts = restarted_parts nodes parts }) kept.sound (all-steady-any parts.rows kept.steady) form shown
    (ap (λ f. moved_unless f (restarted_parts nodes parts) Restarted) unrefused)

-- where they do, what the history answers the rows answer
told-so : (history : History) (answer : Answer) (result : Result MovedRows OrchFault) (moved : Result Moved OrchFault) → Tells history result moved → IsAnsweredAs answer moved → RowsAnswer answer result
told-so history answer result moved tells is = grind arith

-- as a history answers, so the rows do
pub answered-promised : {old now : OrchestratorParts} (input : Input) (answer : Answer) → old ≡ now → AreSoundParts old → (history : History) → IsWellFormed history → Shows now history
    → IsAnsweredAs answer (moves history input)
    → RowsAnswer answer (row_moves old input)
answered-promised {old = old} {now = now} input answer is kept history form agrees answered =
    told-so history answer (row_moves old input) (moves history input)
    (all-tell old history input form kept.sound (all-steady-any old.rows kept.steady) (subst (λ (p : OrchestratorParts). Shows p history) (sym is) agrees)) answered
