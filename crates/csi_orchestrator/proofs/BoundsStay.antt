-- Why what an orchestrator keeps stays within its bounds.
use Rattle.csi_orchestrator.proofs.Words.{◌≡◌, ◌≤◌, ℕ, List, Bool, true, false, not, length, map, refl, sym, ◌∙◌, ap}
use Rattle.csi_orchestrator.proofs.Words.{subst, arith, ◌&&◌, ◌||◌, Option, Some, None, is_none, nat_le, Result, Ok}
use Rattle.csi_orchestrator.proofs.Words.{Err, list_any, Number, same_text, IsAmong, OrchFault, Goal, Create, Outgoing}
use Rattle.csi_orchestrator.proofs.Words.{Step, Maybe, is_no, Input, without_node, NodeEntryShown, RowShown}
use Rattle.csi_orchestrator.proofs.Words.{OrchestratorParts, node_entry_of, mark_in, mark_of, closed, Attached}
use Rattle.csi_orchestrator.proofs.Words.{is_row_forgotten, remembered, is_used_in, leaves_out_used, restart_refusal}
use Rattle.csi_orchestrator.proofs.Words.{entry_at_loss, row_at_loss, due_in, entry_for, with_entry, stopped_goal}
use Rattle.csi_orchestrator.proofs.Words.{wanted_row, known_by_success_of, is_last, others_count, others_attached}
use Rattle.csi_orchestrator.proofs.Words.{use_refusal, room_refusal, step_refusal, late_refusal, MovedRow, outgoing_by}
use Rattle.csi_orchestrator.proofs.Words.{row_moved, row_sends_due, row_rests, row_unless, is_step_met, waits}
use Rattle.csi_orchestrator.proofs.Words.{is_given_up, timed_out, failed, row_before_call, row_step, MovedRows}
use Rattle.csi_orchestrator.proofs.Words.{moved_rows, row_moves, IsBounded, IsEntryWithin, AreEntriesWithin, AreWithin}
use Rattle.csi_orchestrator.proofs.Words.{IsWithin, next_number, next_session, IsSoundRow, AreSoundRows, AreNodesApart}
use Rattle.csi_orchestrator.proofs.Words.{IsAtRest, IsSteadyRow, AreSteadyRows}
use Rattle.csi_orchestrator.proofs.Lemmas.{false≢true, or_parts, length-map, same_text-tells, each-filter, each-map}
use Rattle.csi_orchestrator.proofs.Lemmas.{each-weaker, filter-no_longer, each_of, all_of, among-find, any-then}
use Rattle.csi_orchestrator.proofs.Lemmas.{then-any, find-passes}
use Rattle.csi_orchestrator.specs.declared.fault.OrchFault.TheVariants as faults
use Rattle.csi_orchestrator.specs.declared.step.Step.TheVariants as steps
use Rattle.csi_orchestrator.specs.Model.History.{Usage}
use Rattle.csi_orchestrator.proofs.EntryRules.{by_if, each-put}
use Rattle.csi_orchestrator.proofs.JoinedLists.{own-entry}
use Rattle.csi_orchestrator.proofs.KeptInUse.{idle-used, used-needed, steady-attached}
use Rattle.csi_orchestrator.proofs.OpenCalls.{GoesOn, step-goes}
use Rattle.csi_orchestrator.proofs.RowsLost.{other-entry, own-lost, row-by}
use Rattle.csi_orchestrator.proofs.RowsMoved.{IsRowMove, IsRefused, IsIgnored, TakesStep, PutsIn, StartsAgain, GivesUp, row-moved}
use Rattle.csi_orchestrator.proofs.StepsSound.{first-held, use-free}
use Rattle.csi_orchestrator.proofs.TextLists.{any-without}
use Rattle.csi_orchestrator.proofs.EntriesBounded.{put-long, put-there, row-marked, all-tidied, not-reached, entry-within, with-entry-few}

-- ---- what a step makes of a row

-- what is told of a row, if anything, is within its bounds
abbrev pub WithinAfter : List (List ℕ) → Result MovedRow OrchFault → Type 0
WithinAfter nodes (Ok moved_row) = AreWithin nodes moved_row.row
WithinAfter nodes (Err fault) = Unit {0}

-- the due call is sent, or the goal is dropped
sends-due-within : (nodes : List (List ℕ)) (last : Number) (row : RowShown) → AreWithin nodes row → WithinAfter nodes (row_sends_due last row)
sends-due-within nodes last row all = by (outgoing_by (due_in row) (next_number last))
  where
    by : (next : Result (Option Outgoing) OrchFault) → WithinAfter nodes (row_moved row next)
    by (Err fault) = tt
    by (Ok None) = all-tidied nodes row.node_entries all
    by (Ok (Some next)) = row-marked nodes Maybe next.kind row all

-- a use that isn't refused is of a node that is known
node-known : (nodes : List (List ℕ)) (usage : Usage) (row : RowShown) → use_refusal nodes usage row ≡ None → list_any (same_text usage.node) nodes ≡ true
node-known nodes usage row free = grind (arith, first-held, false≢true)

-- there is room for its target, and for its node
room-left : (last : Number) (usage : Usage) (row : RowShown) → room_refusal last usage row ≡ None
    → (nat_le 16 (others_count usage.target (node_entry_of row usage.node)) ≡ false) × (nat_le 64 (others_attached usage.node row) ≡ false)
room-left last usage row free =
    or_parts (nat_le 16 (others_count usage.target (node_entry_of row usage.node))) (nat_le 64 (others_attached usage.node row))
    (first-held (nat_le 16 (others_count usage.target (node_entry_of row usage.node)) || nat_le 64 (others_attached usage.node row)) faults.Full None (first-held (is_last last) faults.NumbersSpent _ free).1).0

-- a row with the entry for a use that isn't refused stays within the bounds
used-within : (nodes : List (List ℕ)) (last : Number) (usage : Usage) (row : RowShown) → IsSteadyRow row → AreWithin nodes row → use_refusal nodes usage row ≡ None → room_refusal last usage row ≡ None
    → AreWithin nodes (with_entry usage row)
used-within nodes last usage row own all free room =
    record {
      each =
          each-put (IsEntryWithin nodes) (λ (entry : NodeEntryShown). entry.node) (entry_for usage (node_entry_of row usage.node)) row.node_entries
          (entry-within nodes usage (node_entry_of row usage.node) (node-known nodes usage row free)
          (λ entry is.
          let among = among-find (λ (e : NodeEntryShown). same_text e.node usage.node) row.node_entries entry is in
          record {
            at_node = (same_text-tells entry.node usage.node).0 (find-passes (λ (e : NodeEntryShown). same_text e.node usage.node) row.node_entries entry is);
            within = each_of (IsEntryWithin nodes) row.node_entries entry all.each among;
            needed = used-needed entry (each_of IsAtRest row.node_entries entry (idle-used ⊥ row (use-free nodes usage row free).idle own) among);
          })
          (room-left last usage row room).0)
          all.each;
      few = with-entry-few usage row all.few (steady-attached ⊥ row own) (room-left last usage row room).1;
    }

-- so does one whose call timed out
timed-out-within : (nodes : List (List ℕ)) (row : RowShown) (goal : Option Goal) → AreWithin nodes row → AreWithin nodes (timed_out row goal)
timed-out-within nodes row None all = all
timed-out-within nodes row (Some goal) all = by_if (AreWithin nodes) (is_given_up row) (wanted_row (stopped_goal goal) row) (closed row) (λ spent. all) (λ more. all)

-- so does one whose call failed
failed-within : (nodes : List (List ℕ)) (row : RowShown) (goal : Option Goal) → AreWithin nodes row → AreWithin nodes (failed row goal)
failed-within nodes row (Some Create) all = all
failed-within nodes row goal all = all

-- so does one that is changed by whatever step isn't refused
changed-within : (nodes : List (List ℕ)) (last : Number) (step : Step) (row : RowShown) → IsSteadyRow row → AreWithin nodes row → step_refusal nodes last step row ≡ None → late_refusal last step row ≡ None
    → AreWithin nodes (row_before_call step row)
changed-within nodes last (steps.Use usage) row own all free room = used-within nodes last usage row own all free room
changed-within nodes last steps.TimeOut row own all free room = timed-out-within nodes row row.goal all
changed-within nodes last (steps.Succeed kind id) row own all free room = row-marked nodes (known_by_success_of kind) kind row all
changed-within nodes last steps.Fail row own all free room = failed-within nodes row row.goal all
changed-within nodes last step row own all free room = all

-- the outcome stays within the bounds where it does if nothing is refused
unless-within : (nodes : List (List ℕ)) (fault : Option OrchFault) (result : Result MovedRow OrchFault) → (fault ≡ None → WithinAfter nodes result) → WithinAfter nodes (row_unless fault result)
unless-within nodes None result f = f refl
unless-within nodes (Some fault) result f = tt

-- so does a row that takes a step
step-within : (nodes : List (List ℕ)) (last : Number) (step : Step) (row : RowShown) → IsSteadyRow row → AreWithin nodes row → WithinAfter nodes (row_step nodes last step row)
step-within nodes last step row own all =
    unless-within nodes (step_refusal nodes last step row) _
    (λ free. by_if (WithinAfter nodes) (is_step_met step row) (row_rests row) _ (λ met. all)
    (λ unmet. by_if (WithinAfter nodes) (waits step row) (row_rests (closed row)) _ (λ left. all)
    (λ on. unless-within nodes (late_refusal last step row) _ (λ room. sends-due-within nodes last (row_before_call step row) (changed-within nodes last step row own all free room)))))

-- ---- what becomes of all the rows

-- the parts are within the bounds then, unless something was refused
abbrev BoundedAfter : Result MovedRows OrchFault → Type 0
BoundedAfter (Ok moved_rows) = IsWithin moved_rows.parts
BoundedAfter (Err fault) = Unit {0}

-- there are no more rows that are remembered
few-remembered : (change : RowShown → RowShown) (rows : List RowShown) → length rows ≤ 4096 → length (map change (remembered rows)) ≤ 4096
few-remembered change rows few = grind (arith, filter-no_longer, length-map)

-- a node at which a volume is published stays listed where the list isn't refused
stays-listed : (old new : List (List ℕ)) (rows : List RowShown) (row : RowShown) (entry : NodeEntryShown) → leaves_out_used old new rows ≡ false → IsAmong row rows → IsAmong entry row.node_entries → AreNodesApart row.node_entries
    → is_no entry.attached ≡ false → list_any (same_text entry.node) old ≡ true → list_any (same_text entry.node) new ≡ true
stays-listed old new rows row entry free among there apart may listed = by (list_any (same_text entry.node) new) refl
  where
    used : is_used_in rows entry.node ≡ true
    used =
        then-any (λ (r : RowShown). not (is_no (mark_of (Attached r.name entry.node) r))) rows row among
        (ap (λ o. not (is_no (mark_in (λ (e : NodeEntryShown). e.attached) o))) (own-entry (λ (e : NodeEntryShown). e.node) row.node_entries entry apart there) ∙ ap not may)

    by : (b : Bool) → list_any (same_text entry.node) new ≡ b → list_any (same_text entry.node) new ≡ true
    by true e = e
    by false e =
        let found = any-then (same_text entry.node) old listed in
        let is = (same_text-tells entry.node found.0).0 found.2 in
        absurd (false≢true (sym free ∙ then-any (λ node. not (list_any (same_text node) new) && is_used_in rows node) old found.0 found.1
        (ap (λ n. not (list_any (same_text n) new) && is_used_in rows n) (sym is) ∙ ap (λ b. not b && is_used_in rows entry.node) e ∙ used)))

-- a row stays within its bounds where the list of nodes isn't refused
pub relisted : (old new : List (List ℕ)) (rows : List RowShown) (row : RowShown) → leaves_out_used old new rows ≡ false → IsAmong row rows → IsSoundRow row → IsSteadyRow row → AreWithin old row → AreWithin new row
relisted old new rows row unused among sound steady own =
    record {
      each =
          all_of (IsEntryWithin new) row.node_entries
          (λ entry there.
          let was = each_of (IsEntryWithin old) row.node_entries entry own.each there in
          record {
            among = λ some. stays-listed old new rows row entry unused among there sound.nodes (each_of (λ (e : NodeEntryShown). is_no e.attached ≡ false) row.node_entries entry (steady-attached ⊥ row steady) there) (was.among some);
            targets = was.targets;
          });
      few = own.few;
    }

-- a list that isn't refused leaves out no node that is used
pub none-left-out : (session : ℕ) (old new : List (List ℕ)) (rows : List RowShown) → restart_refusal session old new rows ≡ None → leaves_out_used old new rows ≡ false
none-left-out session old new rows free = (first-held (leaves_out_used old new rows) faults.NodeInUse None (first-held (is_none (next_session session)) faults.NumbersSpent _ free).1).0

-- an entry once a node was lost
entry-lost : (nodes : List (List ℕ)) (node : List ℕ) (entry : NodeEntryShown) → IsEntryWithin nodes entry → IsEntryWithin (without_node node nodes) (entry_at_loss node entry)
entry-lost nodes node entry own = grind (arith, own-lost, other-entry, any-without)

-- a row once a node was lost
row-lost : (nodes : List (List ℕ)) (node : List ℕ) (row : RowShown) → AreWithin nodes row → AreWithin (without_node node nodes) (row_at_loss node row)
row-lost nodes node row all = row-by (AreWithin (without_node node nodes)) node row row.goal (λ other. lost) (λ usage e f. lost)
  where
    lost : AreEntriesWithin (without_node node nodes) (map (entry_at_loss node) row.node_entries)
    lost =
        let few = all.few in
        let long = length-map row.node_entries (entry_at_loss node) in
        record { each = each-map (IsEntryWithin nodes) (IsEntryWithin (without_node node nodes)) (entry_at_loss node) row.node_entries (entry-lost nodes node) all.each; few = omega (arith, few, long) }

-- rows stay within the bounds at every input
stays-within : (parts : OrchestratorParts) (input : Input) (result : Result MovedRows OrchFault) → AreSoundRows parts.rows → AreSteadyRows parts.rows → IsWithin parts → IsRowMove parts input result → BoundedAfter result
stays-within parts input _ sound kept within (IsRefused fault) = tt
stays-within parts input _ sound kept within IsIgnored = within
stays-within parts input _ sound kept within (TakesStep answer step row moved_row among of fits e) = grind (arith, GoesOn, step-goes, put-there, each-put, step-within, each_of)
stays-within parts input _ sound kept within (PutsIn name arguments moved_row free e) = grind (arith, not-reached, first-held, put-long, each-put, sends-due-within)
stays-within parts input _ sound kept within (StartsAgain nodes is free) =
    record {
      rows = few-remembered closed parts.rows within.rows;
      entries =
          each-map (AreWithin nodes) (AreWithin nodes) closed (remembered parts.rows) (λ row all. all)
          (each-filter (AreWithin nodes) (λ (r : RowShown). not (is_row_forgotten r)) parts.rows
          (all_of (AreWithin nodes) parts.rows
          (λ row among.
          relisted parts.nodes nodes parts.rows row (none-left-out parts.last.session parts.nodes nodes parts.rows free) among (each_of IsSoundRow parts.rows row sound.each among) (each_of IsSteadyRow parts.rows row kept among)
          (each_of (AreWithin parts.nodes) parts.rows row within.entries among))));
    }
stays-within parts input _ sound kept within (GivesUp node is) =
    record {
      rows = few-remembered (row_at_loss node) parts.rows within.rows;
      entries =
          each-map (AreWithin parts.nodes) (AreWithin (without_node node parts.nodes)) (row_at_loss node) (remembered parts.rows) (row-lost parts.nodes node)
          (each-filter (AreWithin parts.nodes) (λ (r : RowShown). not (is_row_forgotten r)) parts.rows within.entries);
    }

-- whatever comes, the rows stay within their bounds
pub rows-stay-within : (parts : OrchestratorParts) (input : Input) (moved_rows : MovedRows) → AreSoundRows parts.rows → AreSteadyRows parts.rows → IsWithin parts → row_moves parts input ≡ Ok moved_rows → IsWithin moved_rows.parts
rows-stay-within parts input moved_rows sound kept within e = stays-within parts input (Ok moved_rows) sound kept within (subst (IsRowMove parts input) e (row-moved parts input sound))

-- ---- what is told of the bounds

-- what the type keeps bounds what is kept
pub bounded : (parts : OrchestratorParts) → IsWithin parts → IsBounded parts
bounded parts within = grind (arith, each-weaker)
