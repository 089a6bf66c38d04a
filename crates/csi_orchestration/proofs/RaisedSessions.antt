-- A session of an orchestrator that is raised is shown by the rows without their open calls, and a restart then is told.
use Rattle.std.proofs.Common.{◌≡◌, ◌<◌, ◌+◌, ℕ, List, [], ◌∷◌, Bool, true, false, cond, map, not, refl, sym, ◌∙◌, ap, subst}
use Rattle.std.specs.Prelude.{Option, Some, None, Result, Err, is_some, is_none, nat_lt, ◌||◌, ◌&&◌, option_map, option_and_then}
use Rattle.std.specs.List.{list_any}
use Rattle.std.proofs.lemmas.Bool.{ltb-true}
use Rattle.csi_types.proofs.Each.{each-weaker}
use Rattle.csi_types.proofs.Filters.{filter-of_map}
use Rattle.csi_types.proofs.Searches.{find-of_map}
use Rattle.csi_types.specs.declared.number.Number.{Number}
use Rattle.csi_types.specs.Model.Same.{same_text}
use Rattle.csi_orchestrator.specs.declared.fault.OrchFault.{OrchFault}
use Rattle.csi_orchestrator.specs.declared.fault.OrchFault.TheVariants as faults
use Rattle.csi_orchestrator.specs.declared.thing.Thing.TheVariants.{Attached}
use Rattle.csi_orchestrator.specs.Model.Thing.{is_no, name_in}
use Rattle.csi_orchestrator.specs.Model.Commands.{next_session}
use Rattle.csi_orchestrator.specs.Model.History.{History, Started, with_items}
use Rattle.csi_orchestrator.specs.Model.Moves.{Answer, Restarts, Restarted, moves}
use Rattle.csi_orchestrator.specs.Model.Readings.{last_number, nodes_of}
use Rattle.csi_orchestrator.specs.Model.Shown.{RowShown, OrchestratorParts, row_of, mark_in, mark_of, goal_in, held_on_node, open_in_row, tries_in, orchestrator_view, Shows}
use Rattle.csi_orchestrator.specs.Model.WellFormed.{IsWellFormed}
use Rattle.csi_orchestrator.specs.Public.Beginning.{is_row_forgotten, is_used_in, remembered, restart_refusal, restarted_parts}
use Rattle.csi_orchestrator.specs.Public.Laws.{RestartsAreTold, opened_parts}
use Rattle.csi_orchestrator.specs.Public.Promises.{FollowsUnrefused}
use Rattle.csi_orchestrator.specs.Public.Raised.{raised_session, raised_record, raised_history}
use Rattle.csi_orchestrator.specs.Public.Restored.{IsRestorable, AreRestorable}
use Rattle.csi_orchestrator.specs.Public.Shown.{closed}
use Rattle.csi_orchestrator.specs.Public.RowMoves.{MovedRows, moved_rows}
use Rattle.csi_orchestrator.specs.Public.RowRules.{IsSoundRow}
use Rattle.csi_orchestrator.specs.Public.Steady.{IsSteadyRow}
use Rattle.csi_orchestrator.proofs.KeptRows.{all-steady-any}
use Rattle.csi_orchestrator.proofs.PromisesTold.{is-done}
use Rattle.csi_orchestrator.proofs.RowsAfterSending.{mark-same}
use Rattle.csi_orchestrator.proofs.ViewsFollow.{started-follows}

-- ---- rows without their open calls

-- what is read of a name's row, where the open call isn't
read-closed : {X : Type 0} (read : Option RowShown → X) → ((row : RowShown) → read (Some (closed row)) ≡ read (Some row)) → (rows : List RowShown) (name : List ℕ)
    → read (row_of (map closed rows) name) ≡ read (row_of rows name)
read-closed read same rows name = ap read (find-of_map (λ (row : RowShown). same_text row.name name) closed rows) ∙ by (row_of rows name)
  where
    by : (o : Option RowShown) → read (option_map closed o) ≡ read o
    by None = refl
    by (Some row) = same row

-- none is open
none-open : (rows : List RowShown) (name : List ℕ) → option_and_then open_in_row (row_of (map closed rows) name) ≡ None
none-open rows name = ap (option_and_then open_in_row) (find-of_map (λ (row : RowShown). same_text row.name name) closed rows) ∙ by (row_of rows name)
  where
    by : (o : Option RowShown) → option_and_then open_in_row (option_map closed o) ≡ None
    by None = refl
    by (Some row) = refl

-- they use the same nodes
used-closed : (rows : List RowShown) (node : List ℕ) → is_used_in (map closed rows) node ≡ is_used_in rows node
used-closed [] node = refl
used-closed (row ∷ rows) node = ap (λ (b : Bool). not (is_no (mark_of (Attached row.name node) row)) || b) (used-closed rows node)

-- and refuse the same restarts
refusal-closed : (session : ℕ) (old new : List (List ℕ)) (rows : List RowShown) → restart_refusal session old new (map closed rows) ≡ restart_refusal session old new rows
refusal-closed session old new rows = λ i.
    cond (is_none (next_session session)) (Some faults.NumbersSpent)
    (cond (list_any (λ node. not (list_any (same_text node) new) && used-closed rows node i) old) (Some faults.NodeInUse) None)

-- those that are remembered are without open calls
remembered-closed : (rows : List RowShown) → map closed (remembered rows) ≡ remembered (map closed rows)
remembered-closed rows = sym (filter-of_map (λ (row : RowShown). not (is_row_forgotten row)) closed rows)

-- giving them up twice is as once
closed-twice : (rows : List RowShown) → map closed (map closed rows) ≡ map closed rows
closed-twice [] = refl
closed-twice (row ∷ rows) = ap (λ (rest : List RowShown). closed row ∷ rest) (closed-twice rows)

-- what a restart comes to, unless it is refused
abbrev unless_refused : Option OrchFault → OrchestratorParts → Answer → Result MovedRows OrchFault
unless_refused (Some fault) parts answer = Err fault
unless_refused None parts answer = moved_rows parts answer

-- ---- the session that is raised

-- what is shown once the session began
abbrev raised_parts : ℕ → OrchestratorParts → OrchestratorParts
raised_parts session parts = record { nodes = parts.nodes; last = record { session = session; call = 0 }; rows = map closed parts.rows }

-- it agrees with the history then
raised-shows : (session : ℕ) (parts : OrchestratorParts) (history : History) → Shows parts history → Shows (raised_parts session parts) (with_items history (Started session (nodes_of history) ∷ []))
raised-shows session parts history agrees =
    let began = started-follows (orchestrator_view parts) history session (nodes_of history) agrees in
    record {
      same_nodes = agrees.same_nodes ∙ began.same_nodes;
      same_last = began.same_last;
      same_rows = λ name. read-closed is_some (λ row. refl) parts.rows name ∙ began.same_rows name;
      same_marks = λ thing. read-closed (mark_in (mark_of thing)) (λ row. mark-same thing (closed row) row refl refl) parts.rows (name_in thing) ∙ began.same_marks thing;
      same_ids = λ name. read-closed (option_and_then (λ (row : RowShown). row.id)) (λ row. refl) parts.rows name ∙ began.same_ids name;
      same_goals = λ name. read-closed (option_and_then goal_in) (λ row. refl) parts.rows name ∙ began.same_goals name;
      same_arguments = λ name. read-closed (option_map (λ (row : RowShown). row.arguments)) (λ row. refl) parts.rows name ∙ began.same_arguments name;
      same_holdings = λ name node there. read-closed (option_and_then (λ (row : RowShown). held_on_node row node)) (λ row. refl) parts.rows name ∙ began.same_holdings name node there;
      same_open_calls = λ name. none-open parts.rows name ∙ began.same_open_calls name;
      same_counts = λ name. read-closed tries_in (λ row. refl) parts.rows name ∙ began.same_counts name;
    }

-- From each history that the parts show, a restart with a list of nodes that isn't refused is what `moves` says, once the session was raised to this one,
-- and leads to parts that are shown then: those that are opened of the record. A session that isn't later changes nothing before.
abbrev pub RaisedAreTold : OrchestratorParts → Type 0
RaisedAreTold parts =
    (history : History) (session : ℕ) (nodes : List (List ℕ)) → IsWellFormed history → Shows parts history
    → restart_refusal (raised_session session parts.last.session) parts.nodes nodes (map closed parts.rows) ≡ None
    → IsWellFormed (raised_history session history)
    × FollowsUnrefused (raised_history session history) (moves (raised_history session history) (Restarts nodes)) Restarted
    (opened_parts (raised_record session (record { nodes = parts.nodes; session = parts.last.session; rows = map closed parts.rows })) nodes)

-- a restart is told then, by whether the session is a later one
module _ (parts : OrchestratorParts) (fit : AreRestorable parts.nodes (map closed parts.rows)) (told : RestartsAreTold parts) (history : History) (session : ℕ) (nodes : List (List ℕ)) (form : IsWellFormed history) (shown : Shows parts history) where
  -- the session and the history then
  abbrev session_if : Bool → ℕ
  session_if later = cond later session parts.last.session

  abbrev history_if : Bool → History
  history_if later = cond later (with_items history (Started session (nodes_of history) ∷ [])) history

  -- unless it is refused
  abbrev IsTold : Bool → Bool → Type 0
  IsTold later began =
      restart_refusal (session_if later) parts.nodes nodes (map closed parts.rows) ≡ None
      → IsWellFormed (history_if began) × FollowsUnrefused (history_if began) (moves (history_if began) (Restarts nodes)) Restarted
      (opened_parts (record { nodes = parts.nodes; session = session_if later; rows = map closed parts.rows }) nodes)

  -- the parts that the rows lead to are those that are opened
  opened-as : (last : ℕ) (rows : List RowShown) → map closed rows ≡ remembered (map closed parts.rows)
      → record { nodes = nodes; last = record { session = last + 1; call = 0 }; rows = map closed rows } ≡ opened_parts (record { nodes = parts.nodes; session = last; rows = map closed parts.rows }) nodes
  opened-as last rows same = λ i. record { nodes = nodes; last = record { session = last + 1; call = 0 }; rows = same i }

  told-if : (later : Bool) → nat_lt parts.last.session session ≡ later → IsTold later later
  told-if true e unrefused =
      let raised = raised_parts session parts in
      let began : IsWellFormed (history_if true) = (subst (λ (last : Number). last.session < session) shown.same_last (ltb-true parts.last.session session e), form) in (
        began,
        subst (FollowsUnrefused (history_if true) (moves (history_if true) (Restarts nodes)) Restarted)
            (opened-as session (remembered (map closed parts.rows)) (ap (map closed) (sym (remembered-closed parts.rows)) ∙ closed-twice (remembered parts.rows) ∙ remembered-closed parts.rows))
            (is-done raised (history_if true) (Restarts nodes) (record { answer = Restarted; parts = restarted_parts nodes raised })
            (record { names = fit.names; each = each-weaker (IsRestorable parts.nodes) IsSoundRow (map closed parts.rows) (λ row own. own.sound) fit.each })
            (all-steady-any (map closed parts.rows) (each-weaker (IsRestorable parts.nodes) IsSteadyRow (map closed parts.rows) (λ row own. own.steady) fit.each))
            began (raised-shows session parts history shown) (ap (λ f. unless_refused f (restarted_parts nodes raised) Restarted) unrefused)),
      )
  told-if false e unrefused = (
    form,
    subst (FollowsUnrefused history (moves history (Restarts nodes)) Restarted) (opened-as parts.last.session (remembered parts.rows) (remembered-closed parts.rows))
        (told history nodes form shown (sym (refusal-closed parts.last.session parts.nodes nodes parts.rows) ∙ unrefused)),
  )

  pub told-then : IsTold (nat_lt parts.last.session session) (nat_lt (last_number history).session session)
  told-then =
      subst (IsTold (nat_lt parts.last.session session)) (ap (λ (last : Number). nat_lt last.session session) shown.same_last) (told-if (nat_lt parts.last.session session) refl)

-- so it is of every orchestrator whose rows are a record's
pub raised-told : (parts : OrchestratorParts) → AreRestorable parts.nodes (map closed parts.rows) → RestartsAreTold parts → RaisedAreTold parts
raised-told parts fit told history session nodes form shown = told-then parts fit told history session nodes form shown
