-- Why a refusal is read from the rows.
use Rattle.csi_orchestrator.proofs.Words.{◌≡◌, ℕ, List, Bool, true, false, cond, length, arith, refl, sym, ◌∙◌, ap}
use Rattle.csi_orchestrator.proofs.Words.{subst, Option, Some, None, is_some, is_none, not, nat_lt, ◌==◌, ◌&&◌}
use Rattle.csi_orchestrator.proofs.Words.{AllByRecursion, IsAmong, same_text, Exists, Attached, Published, is_no}
use Rattle.csi_orchestrator.proofs.Words.{History, goal_of, names_of, has_row, targets_in_use, due_for, next_number}
use Rattle.csi_orchestrator.proofs.Words.{is_session_spent, create_fault, is_for_one_node, uses_as_second_writer}
use Rattle.csi_orchestrator.proofs.Words.{use_fault, use_room_fault, is_left_at, stop_fault, delete_fault}
use Rattle.csi_orchestrator.proofs.Words.{delete_busy_fault, timeout_fault, RowShown, OrchestratorParts, row_of}
use Rattle.csi_orchestrator.proofs.Words.{node_entry_of, mark_of, goal_shown, Shows, AreSoundRows, is_last}
use Rattle.csi_orchestrator.proofs.Words.{first_fault, again_fault, use_refusal, room_refusal, is_left, stop_refusal}
use Rattle.csi_orchestrator.proofs.Words.{delete_refusal, busy_refusal, others_in, due_by, AreTargetsApart}
use Rattle.csi_orchestrator.proofs.Lemmas.{false≢true, nat_tests, among-find, some-found, some-has, is_some-map}
use Rattle.csi_orchestrator.proofs.Lemmas.{then-any, any-then, same_text-tells}
use Rattle.csi_orchestrator.specs.declared.fault.OrchFault.TheVariants as faults
use Rattle.csi_orchestrator.specs.declared.row.Goal.TheVariants as kept
use Rattle.csi_orchestrator.specs.Model.History.{Usage, Use}
use Rattle.csi_orchestrator.proofs.DueCalls.{use-told}
use Rattle.csi_orchestrator.proofs.InUse.{target-in-use, in-use-alike, nodes-alike, elsewhere-alike, attached-alike, otherwise-alike, others-alike, others-counted}
use Rattle.csi_orchestrator.proofs.RulesStay.{found-kept}
use Rattle.csi_orchestrator.proofs.RowViews.{IsRowOf, is-row-of, own-name}
use Rattle.csi_orchestrator.proofs.TextLists.{text-same, names-once, as-many-as}

-- something is wanted of it, or nothing, alike
wanted-alike : (row : RowShown) (history : History) (name : List ℕ) → IsRowOf row history name → is_some (goal_of history name) ≡ is_some row.goal
wanted-alike row history name own = ap is_some (sym own.goals) ∙ is_some-map (goal_shown row.arguments) row.goal

-- the numbers are spent alike
spent-alike : (parts : OrchestratorParts) (history : History) → Shows parts history → is_session_spent history ≡ is_last parts.last
spent-alike parts history agrees = ap (λ last. is_none (next_number last)) (sym agrees.same_last)

-- a name that has no row
unknown : (parts : OrchestratorParts) (history : History) (name : List ℕ) → Shows parts history → row_of parts.rows name ≡ None → has_row history name ≡ false
unknown parts history name agrees e = sym (agrees.same_rows name) ∙ ap is_some e

-- each name has a row
pub row-of-name : (parts : OrchestratorParts) (history : History) → Shows parts history → (name : List ℕ) → IsAmong name (names_of history) → (row : RowShown) × IsAmong row parts.rows × (row.name ≡ name)
row-of-name parts history agrees name among = by (row_of parts.rows name) refl (agrees.same_rows name ∙ then-any (same_text name) (names_of history) name among (text-same name))
  where
    by : (o : Option RowShown) → row_of parts.rows name ≡ o → is_some o ≡ true → (row : RowShown) × IsAmong row parts.rows × (row.name ≡ name)
    by None e f = absurd (false≢true f)
    by (Some row) e f = (row, among-find (λ (r : RowShown). same_text r.name name) parts.rows row e, own-name parts name row e)

-- and each row's name is one
pub name-of-row : (parts : OrchestratorParts) (history : History) → Shows parts history → (row : RowShown) → IsAmong row parts.rows → IsAmong row.name (names_of history)
name-of-row parts history agrees row among =
    let found = some-found (λ (r : RowShown). same_text r.name row.name) parts.rows row among (text-same row.name) in
    let noted = any-then (same_text row.name) (names_of history) (sym (agrees.same_rows row.name) ∙ ap is_some found.1) in
    subst (λ n. IsAmong n (names_of history)) (sym ((same_text-tells row.name noted.0).0 noted.2)) noted.1

-- there are as many names as rows
names-alike : (parts : OrchestratorParts) (history : History) → AreSoundRows parts.rows → Shows parts history → length (names_of history) ≡ length parts.rows
names-alike parts history are agrees = as-many-as (names_of history) (λ (r : RowShown). r.name) parts.rows (names-once history.items) are.names (row-of-name parts history agrees) (name-of-row parts history agrees)

-- a create
pub create-first : (parts : OrchestratorParts) (history : History) (name : List ℕ) → AreSoundRows parts.rows → Shows parts history → row_of parts.rows name ≡ None → create_fault history name ≡ first_fault parts.last parts.rows
create-first parts history name are agrees e = grind (arith, spent-alike, unknown, names-alike)

-- a create of a name that has a row is refused as the row tells
pub create-again : (parts : OrchestratorParts) (history : History) (name : List ℕ) (row : RowShown) → AreSoundRows parts.rows → Shows parts history → row_of parts.rows name ≡ Some row → create_fault history name ≡ again_fault parts.last row
create-again parts history name row are agrees e =
    let own = is-row-of parts history name row agrees e in
    rw (sym own.ids, wanted-alike row history name own, spent-alike parts history agrees, own.there) refl

-- a use
pub use-unknown : (parts : OrchestratorParts) (history : History) (name : List ℕ) (usage : Usage) → AreSoundRows parts.rows → Shows parts history → row_of parts.rows name ≡ None → use_fault history name usage ≡ Some faults.NoSuchVolume
use-unknown parts history name usage are agrees e = rw (unknown parts history name agrees e) refl

-- a use of a name that has a row is refused as the row tells
pub use-refused : (parts : OrchestratorParts) (history : History) (name : List ℕ) (usage : Usage) (row : RowShown) → AreSoundRows parts.rows → Shows parts history → row_of parts.rows name ≡ Some row
    → use_fault history name usage ≡ use_refusal parts.nodes usage row
use-refused parts history name usage row are agrees e =
    let own = is-row-of parts history name row agrees e in
    let kept = found-kept (λ (r : RowShown). same_text r.name name) parts.rows row are e in
    rw (
      own.there,
      sym (own.marks (Exists name) refl),
      wanted-alike row history name own,
      sym agrees.same_nodes,
      sym own.arguments,
      elsewhere-alike (is_for_one_node usage) row history name usage.node own kept.nodes,
      elsewhere-alike (uses_as_second_writer usage) row history name usage.node own kept.nodes,
      otherwise-alike row history name usage own,
      ap (nat_lt 0) (others-alike row history name usage.node usage.target own kept.targets) ∙ others-counted usage.target (node_entry_of row usage.node),
    ) refl

-- one that isn't met yet is refused for want of numbers or of room as the row tells
pub room-refused : (parts : OrchestratorParts) (history : History) (name : List ℕ) (usage : Usage) (row : RowShown) → AreSoundRows parts.rows → Shows parts history → row_of parts.rows name ≡ Some row
    → use_room_fault history name usage ≡ room_refusal parts.last usage row
room-refused parts history name usage row are agrees e =
    let kept = found-kept (λ (r : RowShown). same_text r.name name) parts.rows row are e in
    let own = is-row-of parts history name row agrees e in
    rw (
      spent-alike parts history agrees,
      others-alike row history name usage.node usage.target own kept.targets,
      nodes-alike row history name usage.node own kept.nodes,
    ) refl

-- the call that is due for a use is read from the row
pub use-due : (parts : OrchestratorParts) (history : History) (name : List ℕ) (usage : Usage) (row : RowShown) → AreSoundRows parts.rows → Shows parts history → row_of parts.rows name ≡ Some row
    → due_for history name (Some (Use usage)) ≡ due_by row (Some (kept.Use usage))
use-due parts history name usage row are agrees e = use-told row history name usage (is-row-of parts history name row agrees e)

-- all that is left to be done at a node is to detach the volume, alike
left-alike : (row : RowShown) (history : History) (name node target : List ℕ) → IsRowOf row history name → AllByRecursion AreTargetsApart row.node_entries → is_left_at history name node ≡ is_left node target row
left-alike row history name node target own apart =
    ap (λ k. not (is_no k) && (length (targets_in_use history name node) == 0)) (sym (own.marks (Attached name node) refl))
    ∙ ap (λ b. not (is_no (mark_of (Attached name node) row)) && b) (by (is_no (mark_of (Published name node target) row)) refl)
  where
    none-counted : (n : ℕ) → (n == 0) ≡ not (nat_lt 0 n)
    none-counted n = grind (arith, nat_tests)

    by : (b : Bool) → is_no (mark_of (Published name node target) row) ≡ b → (length (targets_in_use history name node) == 0) ≡ (is_no (mark_of (Published name node target) row) && not (others_in target (node_entry_of row node)))
    by true e =
        none-counted (length (targets_in_use history name node)) ∙ ap not (in-use-alike row history name node target own apart e)
        ∙ ap (λ b. b && not (others_in target (node_entry_of row node))) (sym e)
    by false e =
        none-counted (length (targets_in_use history name node))
        ∙ ap not (some-has (targets_in_use history name node) target (target-in-use history name node target (ap is_no (sym (own.marks (Published name node target) refl)) ∙ e)))
        ∙ ap (λ b. b && not (others_in target (node_entry_of row node))) (sym e)

-- a stop
pub stop-unknown : (parts : OrchestratorParts) (history : History) (name node target : List ℕ) → AreSoundRows parts.rows → Shows parts history → row_of parts.rows name ≡ None → stop_fault history name node target ≡ Some faults.NoSuchVolume
stop-unknown parts history name node target are agrees e = rw (unknown parts history name agrees e) refl

-- a stop of a name that has a row is refused as the row tells
pub stop-refused : (parts : OrchestratorParts) (history : History) (name node target : List ℕ) (row : RowShown) → AreSoundRows parts.rows → Shows parts history → row_of parts.rows name ≡ Some row
    → stop_fault history name node target ≡ stop_refusal parts.nodes parts.last node target row
stop-refused parts history name node target row are agrees e =
    let own = is-row-of parts history name row agrees e in
    let kept = found-kept (λ (r : RowShown). same_text r.name name) parts.rows row are e in
    rw (
      own.there,
      sym (own.marks (Exists name) refl),
      wanted-alike row history name own,
      sym agrees.same_nodes,
      left-alike row history name node target own kept.targets,
      sym (own.marks (Published name node target) refl),
      spent-alike parts history agrees,
    ) refl

-- a delete
pub delete-unknown : (parts : OrchestratorParts) (history : History) (name : List ℕ) → AreSoundRows parts.rows → Shows parts history → row_of parts.rows name ≡ None → delete_fault history name ≡ Some faults.NoSuchVolume
delete-unknown parts history name are agrees e = rw (unknown parts history name agrees e) refl

-- a delete of a name that has a row is refused as the row tells
pub delete-refused : (parts : OrchestratorParts) (history : History) (name : List ℕ) (row : RowShown) → AreSoundRows parts.rows → Shows parts history → row_of parts.rows name ≡ Some row → delete_fault history name ≡ delete_refusal row
delete-refused parts history name row are agrees e =
    let own = is-row-of parts history name row agrees e in
    rw (own.there, sym own.ids, attached-alike row history name own (found-kept (λ (r : RowShown). same_text r.name name) parts.rows row are e).nodes) refl

-- one that isn't met yet is refused for another goal or for want of numbers as the row tells
pub busy-refused : (parts : OrchestratorParts) (history : History) (name : List ℕ) (row : RowShown) → AreSoundRows parts.rows → Shows parts history → row_of parts.rows name ≡ Some row → delete_busy_fault history name ≡ busy_refusal parts.last row
busy-refused parts history name row are agrees e = rw (wanted-alike row history name (is-row-of parts history name row agrees e), spent-alike parts history agrees) refl

-- a timeout
pub timeout-unknown : (parts : OrchestratorParts) (history : History) (name : List ℕ) → Shows parts history → row_of parts.rows name ≡ None → timeout_fault history name ≡ Some faults.NoSuchVolume
timeout-unknown parts history name agrees e = rw (unknown parts history name agrees e) refl

-- a timeout of a name that has a row is refused where nothing is wanted of the row, and only there
pub timeout-refused : (history : History) (name : List ℕ) (row : RowShown) → IsRowOf row history name → timeout_fault history name ≡ cond (is_none row.goal) (Some faults.Idle) None
timeout-refused history name row own = rw (own.there, wanted-alike row history name own) refl
