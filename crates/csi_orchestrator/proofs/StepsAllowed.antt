-- Why each thing that an orchestrator does may be done.
use Rattle.csi_orchestrator.proofs.Words.{◌≡◌, ℕ, List, [], ◌∷◌, ◌++◌, refl, Result, Ok, Err, Number, OrchFault, Item}
use Rattle.csi_orchestrator.proofs.Words.{Started, Lost, Forgotten, Sent, Accepted, Closed, Noted, History}
use Rattle.csi_orchestrator.proofs.Words.{AreWellFormed, IsWellFormed, Input, Moved, moves, moved_to, OrchestratorParts}
use Rattle.csi_orchestrator.proofs.Words.{Shows, IsRestorable, IsSoundRow, AreSoundRows, AreGuarded, IsSteadyRowIf}
use Rattle.csi_orchestrator.proofs.Words.{AreSteadyRowsIf, MovedRows, row_moves, IsReached, Begins, Opens, GoesOn}
use Rattle.csi_orchestrator.proofs.Words.{MayDoAll, AreStepwise, MovesLaw}
use Rattle.csi_orchestrator.proofs.Lemmas.{each-weaker}
use Rattle.csi_orchestrator.proofs.AddedItems.{TakesReplies, ArePassing, AreAdded, moves-add, stays-formed}
use Rattle.csi_orchestrator.proofs.SendingAgrees.{Guards, Tells}
use Rattle.csi_orchestrator.proofs.KeptRows.{any-fit, steady-any, rows-stay-steady-if}
use Rattle.csi_orchestrator.proofs.RulesStay.{rows-stay-sound}
use Rattle.csi_orchestrator.proofs.RepliesAgree.{all-tell}

-- form, guards and replies together
may-do : (history : History) (input : Input) (items : List Item) → AreWellFormed history.began (items ++ history.items) → AreGuarded history items → TakesReplies history input items → ArePassing history input items
    → MayDoAll history input items
may-do history input [] form guarded replies passing = tt
may-do history input (Started session nodes ∷ older) form guarded replies passing = (form.0, may-do history input older form.1 guarded replies passing)
may-do history input (Lost node ∷ older) form guarded replies passing = (record { unused = form.0; came = passing.0 }, may-do history input older form.1 guarded replies passing.1)
may-do history input (Forgotten name ∷ older) form guarded replies passing = (record { unused = form.0; gone = (passing.0).gone; unwanted = (passing.0).unwanted }, may-do history input older form.1 guarded replies passing.1)
may-do history input (Sent issued ∷ older) form guarded replies passing = ((form.0.0, guarded.0), may-do history input older form.1 guarded.1 replies passing)
may-do history input (Accepted number status id ∷ older) form guarded replies passing = (replies.0, may-do history input older form.1 guarded replies.1 passing)
may-do history input (Closed number ∷ older) form guarded replies passing = (form.0, may-do history input older form.1 guarded replies passing)
may-do history input (Noted name goal ∷ older) form guarded replies passing = (tt, may-do history input older form.1 guarded replies passing)

-- an orchestrator that comes to a history has rows that agree with it
record IsShownBy (history : History) : Type 0 where
  parts : OrchestratorParts
  rows : AreSoundRows parts.rows
  steady : AreSteadyRowsIf (Unit {0}) parts.rows
  agrees : Shows parts history
  form : IsWellFormed history

-- the parts of an orchestrator that did nothing
new-parts : List (List ℕ) → Number → OrchestratorParts
new-parts nodes last = record { nodes = nodes; last = last; rows = [] }

-- where rows agree with a history, there are rows that agree with it after an input
goes-on : (history : History) (input : Input) (shown : IsShownBy history) → (moved_rows : Result MovedRows OrchFault) → row_moves shown.parts input ≡ moved_rows
    → (moved : Result Moved OrchFault) → moves history input ≡ moved → Tells history moved_rows moved → IsWellFormed (moved_to history moved) → IsShownBy (moved_to history moved)
goes-on history input shown (Ok moved_rows) e (Ok moved) f tells form =
    record {
      parts = moved_rows.parts;
      rows = rows-stay-sound shown.parts input moved_rows shown.rows e;
      steady = rows-stay-steady-if (Unit {0}) shown.parts input moved_rows shown.rows shown.steady (any-fit input) e;
      agrees = tells.0.1;
      form = form;
    }
goes-on history input shown (Ok moved_rows) e (Err fault) f tells form = absurd tells.0
goes-on history input shown (Err fault) e (Ok moved) f tells form = absurd tells.0
goes-on history input shown (Err fault) e (Err other) f tells form = shown

-- each history to which an orchestrator comes has such rows
shown-by : (history : History) → IsReached history → IsShownBy history
unfolding new-parts
shown-by _ (Begins nodes last) =
    record {
      parts = new-parts nodes last;
      rows = record { names = tt; each = tt };
      steady = tt;
      agrees =
          record { same_nodes = refl; same_last = refl; same_rows = λ name. refl; same_marks = λ thing. refl; same_ids = λ name. refl; same_goals = λ name. refl; same_arguments = λ name. refl; same_holdings = λ name node there. refl; same_open_calls = λ name. refl; same_counts = λ name. refl };
      form = tt;
    }
shown-by _ (Opens parts history kept form agrees) =
    record {
      parts = parts;
      rows = record { names = kept.names; each = each-weaker (IsRestorable parts.nodes) IsSoundRow parts.rows (λ row own. own.sound) kept.each };
      steady = each-weaker (IsRestorable parts.nodes) (IsSteadyRowIf (Unit {0})) parts.rows (λ row own. steady-any row own.steady) kept.each;
      agrees = agrees;
      form = form;
    }
shown-by _ (GoesOn history input reached) =
    let shown = shown-by history reached in
    goes-on history input shown (row_moves shown.parts input) refl (moves history input) refl (all-tell shown.parts history input shown.form shown.rows shown.steady shown.agrees)
    (stays-formed history input (moves history input) shown.form (moves-add history input shown.form))

-- a result that adds such items, each of whose calls may be sent, is stepwise
together : (history : History) (input : Input) (moved : Result Moved OrchFault) → Guards history moved → AreAdded history input moved → AreStepwise history input moved
together history input (Ok moved) guarded added = record { may = may-do history input moved.items added.form guarded added.replies added.passing; few = added.few; frames = added.frames }
together history input (Err fault) guarded added = tt

-- each thing that an orchestrator does may be done
pub moves-law : MovesLaw
moves-law history input reached =
    let shown = shown-by history reached in
    together history input (moves history input) (all-tell shown.parts history input shown.form shown.rows shown.steady shown.agrees).1 (moves-add history input shown.form)
