-- What is due for a row once it took a step, by what is found before the row is changed.
use Rattle.csi_orchestrator.proofs.Words.{◌≡◌, ℕ, List, [], Bool, true, false, cond, not, refl, sym, ◌∙◌, ap, subst}
use Rattle.csi_orchestrator.proofs.Words.{Option, Some, None, is_none, option_and_then, ◌&&◌, ◌||◌, Result, Ok, Err}
use Rattle.csi_orchestrator.proofs.Words.{IfErr, IfOk, OnErr, IsErrAnd, list_any, Number, same_text, Send, Use, TargetEntry}
use Rattle.csi_orchestrator.proofs.Words.{Usage, Step, Attached, Staged, Published, is_no, next_number, Due}
use Rattle.csi_orchestrator.proofs.Words.{wanted_row, with_entry, entry_for, with_target, new_target_entry}
use Rattle.csi_orchestrator.proofs.Words.{NodeEntryShown, RowShown, node_entry_of, others_in, marks_at, use_due}
use Rattle.csi_orchestrator.proofs.Words.{due_with, due_by, due_in, decided, outgoing_by, row_moved, row_sends_due}
use Rattle.csi_orchestrator.proofs.Words.{is_step_met, needs_entry, row_before_call, row_step, SendsNothing, arith}
use Rattle.csi_orchestrator.proofs.Lemmas.{false≢true, list_any-append}
use Rattle.csi_orchestrator.specs.declared.step.Step.TheVariants as steps
use Rattle.csi_orchestrator.proofs.DecisionsTold.{decision-tells, sends-unmet}
use Rattle.csi_orchestrator.proofs.TextLists.{text-same}
use Rattle.csi_orchestrator.proofs.RowsAfterNotes.{mark-with-entry, entry-there}

-- a refusal that is passed on
pub passed-on : {T E : Type 0} {a : E} (r : Result T E) (P : E → Type 0) → IsErrAnd r (λ y. y ≡ a) → P a → IfErr r P
passed-on (Ok x) P is p = tt
passed-on (Err y) P is p = subst P (sym is) p

-- nothing is said of what a refusal would have given
pub at-err-ok : {T E : Type 0} (a : E) (P : T → Type 0) (r : Result T E) → IsErrAnd r (λ y. y ≡ a) → IfOk r P
at-err-ok a P (Ok x) is = absurd is
at-err-ok a P (Err y) is = tt

-- what holds in any case holds at a refusal
pub holds-at_err : {T E P : Type 0} (r : Result T E) → P → OnErr r P
holds-at_err (Ok x) p = tt
holds-at_err (Err y) p = p

-- another target isn't taken by an entry for a use
new-target-free : (target other : List ℕ) → (not (same_text target other) && not (is_no (new_target_entry target).published)) ≡ false
new-target-free target other = grind arith

-- another target than this one, which may be published
abbrev is_at_another_target : List ℕ → TargetEntry → Bool
is_at_another_target target target_entry = not (same_text target_entry.target target) && not (is_no target_entry.published)

-- an entry for a use leaves whether there is such a one: among the targets, in the node's entry and in the row
others-with-target : (target : List ℕ) (target_entries : List TargetEntry) → list_any (is_at_another_target target) (with_target target target_entries) ≡ list_any (is_at_another_target target) target_entries
others-with-target target target_entries = grind (arith, list_any-append, new-target-free)

-- the same of a node's entry, or of none
others-entry : (usage : Usage) (o : Option NodeEntryShown) → others_in usage.target (Some (entry_for usage o)) ≡ others_in usage.target o
others-entry usage None = ap (λ b. b || false) (new-target-free usage.target usage.target)
others-entry usage (Some entry) = others-with-target usage.target entry.target_entries

-- the same of a row
others-with-entry : (usage : Usage) (row : RowShown) → others_in usage.target (node_entry_of (with_entry usage row) usage.node) ≡ others_in usage.target (node_entry_of row usage.node)
others-with-entry usage row =
    ap (others_in usage.target) (entry-there usage row usage.node ∙ ap (λ b. cond b (Some (entry_for usage (node_entry_of row usage.node))) (node_entry_of row usage.node)) (text-same usage.node))
    ∙ others-entry usage (node_entry_of row usage.node)

-- and so is all that is known of what the use names
marks-with-entry : (usage : Usage) (row : RowShown) → marks_at (with_entry usage row) usage.node usage.target ≡ marks_at row usage.node usage.target
marks-with-entry usage row =
    let attached = mark-with-entry usage row (Attached [] usage.node) in
    let staged = mark-with-entry usage row (Staged [] usage.node) in
    let published = mark-with-entry usage row (Published [] usage.node usage.target) in
    let others = others-with-entry usage row in
    cc

-- the call that is due once a use is wanted, by the row before
pub due-used : (usage : Usage) (row : RowShown) → due_in (wanted_row (Use usage) (with_entry usage row)) ≡ due_by row (Some (Use usage))
due-used usage row = ap (λ marks. due_with row.name row.arguments row.id marks (Use usage)) (marks-with-entry usage row)

-- the same, by the volume's id
pub due-used-by : (usage : Usage) (row : RowShown) (id : Option ℕ) → row.id ≡ id
    → option_and_then (use_due usage (marks_at row usage.node usage.target)) id ≡ due_in (wanted_row (Use usage) (with_entry usage row))
due-used-by usage row id is = ap (option_and_then (use_due usage (marks_at row usage.node usage.target))) (sym is) ∙ sym (due-used usage row)

-- where a call is due, one is sent
sends-due : (row : RowShown) (due : Option Due) (number : Option Number) → SendsNothing (row_moved row (outgoing_by due number)) → is_none due ≡ true
sends-due row due number nothing = grind arith

-- so for a use that isn't met yet one is sent
needs-none : (last : Number) (step : Step) (row : RowShown) → is_step_met step row ≡ false → SendsNothing (row_sends_due last (row_before_call step row)) → needs_entry step ≡ false
needs-none last (steps.Use usage) row unmet nothing =
    absurd (false≢true (sym unmet ∙ ap is_none (sym (due-used usage row)) ∙ sends-due (row_before_call (steps.Use usage) row) (due_in (row_before_call (steps.Use usage) row)) (next_number last) nothing))
needs-none last step row unmet nothing = refl

-- where a call is to be sent for a step, but nothing is sent, no entry is needed, and nothing is due
pub goes-quietly : (nodes : List (List ℕ)) (last : Number) (step : Step) (row : RowShown) → Send ≡ decided nodes last step row → SendsNothing (row_step nodes last step row)
    → (needs_entry step ≡ false) × SendsNothing (row_sends_due last (row_before_call step row))
goes-quietly nodes last step row is nothing =
    let quiet = subst SendsNothing (sym (decision-tells nodes last step row Send is)) nothing in
    (needs-none last step row (sends-unmet nodes last step row is) quiet, quiet)
