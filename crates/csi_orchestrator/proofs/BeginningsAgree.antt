-- Why what is shown once a session began agrees with the history then.
use Rattle.csi_orchestrator.proofs.Words.{◌≡◌, ◌+◌, ℕ, List, [], ◌∷◌, ◌++◌, append_assoc, Bool, true, false, cond, not}
use Rattle.csi_orchestrator.proofs.Words.{refl, sym, ◌∙◌, ap, subst, Option, Some, None, filter, is_some, is_none}
use Rattle.csi_orchestrator.proofs.Words.{option_map, option_and_then, ◌&&◌, list_any, IsAmong, Number, same_text}
use Rattle.csi_orchestrator.proofs.Words.{OrchFault, Attached, Known, No, is_no, Item, Started, Lost, Forgotten, Noted}
use Rattle.csi_orchestrator.proofs.Words.{History, with_items, is_gone_with, known, goal_of, nodes_of, names_of}
use Rattle.csi_orchestrator.proofs.Words.{last_number, next_session, is_node_in_use, restart_fault, loss_fault}
use Rattle.csi_orchestrator.proofs.Words.{Restarted, GivenUp, is_forgotten, forgetting, stopping_all, without_node}
use Rattle.csi_orchestrator.proofs.Words.{restart, lose, OrchestratorView, Agrees, RowShown, OrchestratorParts, row_of}
use Rattle.csi_orchestrator.proofs.Words.{mark_in, mark_of, goal_in, held_on_node, tries_in, orchestrator_view, Shows}
use Rattle.csi_orchestrator.proofs.Words.{is_used_in, restart_refusal, loss_refusal, restarted_parts, row_at_loss}
use Rattle.csi_orchestrator.proofs.Words.{parts_at_loss, closed, AreSoundRows, AreGuarded, AreSteadyRowsIf}
use Rattle.csi_orchestrator.proofs.Words.{after_started, after_lost, moved_unless, starts_again, gives_up}
use Rattle.csi_orchestrator.proofs.Lemmas.{alike, any-then, then-any}
use Rattle.csi_orchestrator.specs.declared.fault.OrchFault.TheVariants as faults
use Rattle.csi_orchestrator.proofs.BegunItems.{AreAside, forgetting-aside, loss-aside}
use Rattle.csi_orchestrator.proofs.JoinedLists.{own-entry}
use Rattle.csi_orchestrator.proofs.LossViews.{after_forgetting, forgetting-follows, stopped, is_stopped, after_stopping, stopping-follows, stopping-shows, AreStopped}
use Rattle.csi_orchestrator.proofs.RefusalsRead.{row-of-name, name-of-row}
use Rattle.csi_orchestrator.proofs.RowViews.{own-name, row-reads}
use Rattle.csi_orchestrator.proofs.RowsAfterSending.{mark-same}
use Rattle.csi_orchestrator.proofs.RowsLost.{lost-name, row-by, lost-holding, lost-goal, lost-tries}
use Rattle.csi_orchestrator.proofs.SendingAgrees.{Tells}
use Rattle.csi_orchestrator.proofs.ViewsFollow.{started-follows, lost-follows}
use Rattle.csi_orchestrator.proofs.BeginningsShown.{Tells-At, Nothing-At, begun-agrees, closed-blank, lost-row-mark, lost-calls, lost-blank}

-- parts of the same nodes, last number and rows are the same
pub same-parts : (a b : OrchestratorParts) → a.nodes ≡ b.nodes → a.last ≡ b.last → a.rows ≡ b.rows → a ≡ b
same-parts a b nodes last rows = λ i. record { nodes = nodes i; last = last i; rows = rows i }

-- ---- why a session doesn't begin

-- a volume may be attached at the node, by the rows and by the history alike
used-alike : (parts : OrchestratorParts) (history : History) (node : List ℕ) → AreSoundRows parts.rows → Shows parts history → is_node_in_use history node ≡ is_used_in parts.rows node
used-alike parts history node sound agrees = alike (is_node_in_use history node) (is_used_in parts.rows node) there back
  where
    known-of : (row : RowShown) → IsAmong row parts.rows → known history (Attached row.name node) ≡ mark_of (Attached row.name node) row
    known-of row among =
        sym (agrees.same_marks (Attached row.name node)) ∙ ap (mark_in (mark_of (Attached row.name node))) (own-entry (λ (r : RowShown). r.name) parts.rows row sound.names among)

    there : is_node_in_use history node ≡ true → is_used_in parts.rows node ≡ true
    there e =
        let name = any-then (λ name. not (is_no (known history (Attached name node)))) (names_of history) e in
        let row = row-of-name parts history agrees name.0 name.1 in
        then-any (λ (r : RowShown). not (is_no (mark_of (Attached r.name node) r))) parts.rows row.0 row.1
        (ap (λ k. not (is_no k)) (sym (known-of row.0 row.1)) ∙ ap (λ n. not (is_no (known history (Attached n node)))) row.2 ∙ name.2)

    back : is_used_in parts.rows node ≡ true → is_node_in_use history node ≡ true
    back e =
        let row = any-then (λ (r : RowShown). not (is_no (mark_of (Attached r.name node) r))) parts.rows e in
        then-any (λ name. not (is_no (known history (Attached name node)))) (names_of history) row.0.name (name-of-row parts history agrees row.0 row.1) (ap (λ k. not (is_no k)) (known-of row.0 row.1) ∙ row.2)

-- a restart is refused alike
restart-refused : (parts : OrchestratorParts) (history : History) (nodes : List (List ℕ)) → AreSoundRows parts.rows → Shows parts history
    → restart_fault history nodes ≡ restart_refusal parts.last.session parts.nodes nodes parts.rows
restart-refused parts history nodes sound agrees =
    (λ i. cond (is_none (next_session (sym agrees.same_last i).session)) (Some faults.NumbersSpent)
    (cond (list_any (λ node. not (list_any (same_text node) nodes) && used-alike parts history node sound agrees i) (sym agrees.same_nodes i)) (Some faults.NodeInUse) None))

-- so is a loss
loss-refused : (parts : OrchestratorParts) (history : History) → Shows parts history → loss_fault history ≡ loss_refusal parts.last.session
loss-refused parts history agrees = ap (λ (l : Number). cond (is_none (next_session l.session)) (Some faults.NumbersSpent) None) (sym agrees.same_last)

-- what is noted and forgotten where a session begins sends no call
guarded-aside : (history : History) (later older : List Item) → AreAside later → AreGuarded history older → AreGuarded history (later ++ older)
guarded-aside history [] older aside guarded = guarded
guarded-aside history (Noted name goal ∷ later) older aside guarded = guarded-aside history later older aside.1 guarded
guarded-aside history (Forgotten name ∷ later) older aside guarded = guarded-aside history later older aside.1 guarded
guarded-aside history (item ∷ later) older aside guarded = absurd aside.0

-- ---- a restart

-- the number of the session that begins
next-number : (parts : OrchestratorParts) (history : History) → Shows parts history → parts.last.session + 1 ≡ (last_number history).session + 1
next-number parts history agrees = ap (λ (l : Number). l.session + 1) agrees.same_last

-- what is shown then agrees
restart-agrees : (parts : OrchestratorParts) (history : History) (nodes : List (List ℕ)) → AreSoundRows parts.rows → AreSteadyRowsIf (Unit {0}) parts.rows → Shows parts history
    → Shows (restarted_parts nodes parts) (with_items history (forgetting history ++ Started ((last_number history).session + 1) nodes ∷ []))
restart-agrees parts history nodes sound steady agrees =
    begun-agrees parts history closed nodes _ view _ sound steady agrees refl (λ i. record { session = next-number parts history agrees i; call = 0 }) (λ row. refl) closed-blank some none
    (subst (λ items. Agrees (after_forgetting (filter (is_forgotten history) (names_of history)) view) (record history { items = items }))
    (sym (append_assoc (forgetting history) (Started ((last_number history).session + 1) nodes ∷ []) history.items))
    (forgetting-follows (filter (is_forgotten history) (names_of history)) view (with_items history (Started ((last_number history).session + 1) nodes ∷ []))
    (started-follows (orchestrator_view parts) history ((last_number history).session + 1) nodes agrees)))
  where
    view : OrchestratorView
    view = after_started ((last_number history).session + 1) nodes (orchestrator_view parts)

    some : (name : List ℕ) (row : RowShown) → row_of parts.rows name ≡ Some row → Tells-At (closed row) (after_started ((last_number history).session + 1) nodes (orchestrator_view parts)) name
    some name row e =
        let reads = row-reads parts name row (own-name parts name row e) e in
        record {
          rows = reads.there;
          marks = λ thing is. mark-same thing (closed row) row refl refl ∙ reads.marks thing is;
          ids = reads.ids;
          goals = reads.goals;
          arguments = reads.arguments;
          holdings = λ node. sym (ap (option_and_then (λ (r : RowShown). held_on_node r node)) e);
          open_calls = refl;
          counts = reads.counts;
        }

    none : (name : List ℕ) → row_of parts.rows name ≡ None → Nothing-At (after_started ((last_number history).session + 1) nodes (orchestrator_view parts)) name
    none name e =
        record {
          rows = ap is_some e;
          marks = λ thing is. ap (mark_in (mark_of thing)) (ap (row_of parts.rows) is ∙ e);
          ids = ap (option_and_then (λ (r : RowShown). r.id)) e;
          goals = ap (option_and_then goal_in) e;
          arguments = ap (option_map (λ (r : RowShown). r.arguments)) e;
          holdings = λ node. ap (option_and_then (λ (r : RowShown). held_on_node r node)) e;
          open_calls = refl;
          counts = ap tries_in e;
        }

-- unless it is refused
restart-told : (parts : OrchestratorParts) (history : History) (nodes : List (List ℕ)) → AreSoundRows parts.rows → AreSteadyRowsIf (Unit {0}) parts.rows → Shows parts history
    → (fault : Option OrchFault) → Tells history (moved_unless fault (restarted_parts nodes parts) Restarted) (restart history nodes fault)
restart-told parts history nodes sound steady agrees (Some fault) = (refl, tt)
restart-told parts history nodes sound steady agrees None =
    ((refl, restart-agrees parts history nodes sound steady agrees), guarded-aside history (forgetting history) (Started ((last_number history).session + 1) nodes ∷ []) (forgetting-aside history) tt)

-- a restart is told
pub restarts-tell : (parts : OrchestratorParts) (history : History) (nodes : List (List ℕ)) → AreSoundRows parts.rows → AreSteadyRowsIf (Unit {0}) parts.rows → Shows parts history
    → Tells history (starts_again parts nodes) (restart history nodes (restart_fault history nodes))
restarts-tell parts history nodes sound steady agrees =
    subst (λ f. Tells history (starts_again parts nodes) (restart history nodes f)) (sym (restart-refused parts history nodes sound agrees))
    (restart-told parts history nodes sound steady agrees (restart_refusal parts.last.session parts.nodes nodes parts.rows))

-- ---- a loss

-- what is shown then agrees
loss-agrees : (parts : OrchestratorParts) (history : History) (node : List ℕ) → AreSoundRows parts.rows → AreSteadyRowsIf (Unit {0}) parts.rows → Shows parts history
    → Shows (parts_at_loss node parts)
    (with_items history (forgetting history ++ stopping_all history node ++ Lost node ∷ Started ((last_number history).session + 1) (without_node node (nodes_of history)) ∷ []))
loss-agrees parts history node sound steady agrees =
    begun-agrees parts history (row_at_loss node) (without_node node parts.nodes) _ stops _ sound steady agrees (ap (without_node node) agrees.same_nodes ∙ sym shown.beside.nodes)
    ((λ i. record { session = next-number parts history agrees i; call = 0 }) ∙ sym shown.beside.last) (lost-name node) (lost-blank node) some none
    (subst (λ items. Agrees (after_forgetting (filter (is_forgotten history) (names_of history)) stops) (record history { items = items })) (sym joined)
    (forgetting-follows (filter (is_forgotten history) (names_of history)) stops (with_items first (stopping_all history node))
    (stopping-follows node (goal_of history) (names_of history) (after_lost node began) first
    (lost-follows began (with_items history (Started ((last_number history).session + 1) (without_node node (nodes_of history)) ∷ [])) node
    (started-follows (orchestrator_view parts) history ((last_number history).session + 1) (without_node node (nodes_of history)) agrees)))))
  where
    began : OrchestratorView
    began = after_started ((last_number history).session + 1) (without_node node (nodes_of history)) (orchestrator_view parts)

    first : History
    first = with_items history (Lost node ∷ Started ((last_number history).session + 1) (without_node node (nodes_of history)) ∷ [])

    stops : OrchestratorView
    stops = after_stopping node (goal_of history) (names_of history) (after_lost node began)

    shown : AreStopped node (goal_of history) (names_of history) stops (after_lost node began)
    shown = stopping-shows node (goal_of history) (names_of history) (after_lost node began)

    joined : (forgetting history ++ stopping_all history node ++ Lost node ∷ Started ((last_number history).session + 1) (without_node node (nodes_of history)) ∷ []) ++ history.items
        ≡ forgetting history ++ (stopping_all history node ++ Lost node ∷ Started ((last_number history).session + 1) (without_node node (nodes_of history)) ∷ history.items)
    joined =
        append_assoc (forgetting history ++ stopping_all history node) (Lost node ∷ Started ((last_number history).session + 1) (without_node node (nodes_of history)) ∷ []) history.items
        ∙ append_assoc (forgetting history) (stopping_all history node) (Lost node ∷ Started ((last_number history).session + 1) (without_node node (nodes_of history)) ∷ history.items)

    some : (name : List ℕ) (row : RowShown) → row_of parts.rows name ≡ Some row → Tells-At (row_at_loss node row) stops name
    some name row e =
        let reads = row-reads parts name row (own-name parts name row e) e in
        let noted : list_any (same_text name) (names_of history) ≡ true = sym (agrees.same_rows name) ∙ reads.there in
        let wished : goal_in row ≡ goal_of history name = reads.goals ∙ agrees.same_goals name in
        record {
          rows = shown.rows name reads.there;
          marks = λ thing is. lost-row-mark node row thing ∙ ap (cond (is_gone_with node thing) No) (reads.marks thing is) ∙ sym (shown.beside.marks thing);
          ids = row-by (λ (r : RowShown). r.id ≡ row.id) node row row.goal (λ f. refl) (λ usage f g. refl) ∙ reads.ids ∙ sym (shown.ids name);
          goals = lost-goal node row ∙ ap (stopped node) wished ∙ sym (shown.goals name noted (agrees.same_goals name));
          arguments = ap Some (row-by (λ (r : RowShown). r.arguments ≡ row.arguments) node row row.goal (λ f. refl) (λ usage f g. refl)) ∙ reads.arguments ∙ sym (shown.arguments name);
          holdings = λ there.
              row-by (λ (r : RowShown). held_on_node r there ≡ held_on_node row there) node row row.goal (λ f. lost-holding node row there) (λ usage f g. lost-holding node row there)
              ∙ sym (ap (option_and_then (λ (r : RowShown). held_on_node r there)) e) ∙ sym (shown.beside.holdings name there);
          open_calls = lost-calls node row ∙ sym (shown.beside.open_calls name);
          counts = lost-tries node row ∙ (λ i. cond (is_stopped node (wished i)) 0 (reads.counts i)) ∙ sym (shown.counts name noted);
        }

    none : (name : List ℕ) → row_of parts.rows name ≡ None → Nothing-At stops name
    none name e =
        let missing : list_any (same_text name) (names_of history) ≡ false = sym (agrees.same_rows name) ∙ ap is_some e in
        let others = shown.others name missing in
        record {
          rows = others.0 ∙ ap is_some e;
          marks = λ thing is. shown.beside.marks thing ∙ either (is_gone_with node thing) _ (ap (mark_in (mark_of thing)) (ap (row_of parts.rows) is ∙ e));
          ids = shown.ids name ∙ ap (option_and_then (λ (r : RowShown). r.id)) e;
          goals = others.1 ∙ ap (option_and_then goal_in) e;
          arguments = shown.arguments name ∙ ap (option_map (λ (r : RowShown). r.arguments)) e;
          holdings = λ there. shown.beside.holdings name there ∙ ap (option_and_then (λ (r : RowShown). held_on_node r there)) e;
          open_calls = shown.beside.open_calls name;
          counts = others.2 ∙ ap tries_in e;
        }
      where
        either : (b : Bool) (k : Known) → k ≡ No → cond b No k ≡ No
        either true k h = refl
        either false k h = h

-- unless it is refused
loss-told : (parts : OrchestratorParts) (history : History) (node : List ℕ) → AreSoundRows parts.rows → AreSteadyRowsIf (Unit {0}) parts.rows → Shows parts history
    → (fault : Option OrchFault) → Tells history (moved_unless fault (parts_at_loss node parts) GivenUp) (lose history node fault)
loss-told parts history node sound steady agrees (Some fault) = (refl, tt)
loss-told parts history node sound steady agrees None = (
  (refl, loss-agrees parts history node sound steady agrees),
  guarded-aside history (forgetting history ++ stopping_all history node) (Lost node ∷ Started ((last_number history).session + 1) (without_node node (nodes_of history)) ∷ []) (loss-aside history node) tt,
)

-- a loss is told
pub losses-tell : (parts : OrchestratorParts) (history : History) (node : List ℕ) → AreSoundRows parts.rows → AreSteadyRowsIf (Unit {0}) parts.rows → Shows parts history
    → Tells history (gives_up parts node) (lose history node (loss_fault history))
losses-tell parts history node sound steady agrees =
    subst (λ f. Tells history (gives_up parts node) (lose history node f)) (sym (loss-refused parts history agrees)) (loss-told parts history node sound steady agrees (loss_refusal parts.last.session))
