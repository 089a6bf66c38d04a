-- Why a row that takes a step stays as an orchestrator's type keeps it, and what is due for it may be wanted.
use Rattle.csi_orchestrator.proofs.Words.{◌≡◌, ℕ, List, [], ◌∷◌, Bool, true, false, cond, not, refl, sym, ◌∙◌, ap}
use Rattle.csi_orchestrator.proofs.Words.{subst, Option, Some, None, is_some, is_none, Result, Ok, Err, AllByRecursion}
use Rattle.csi_orchestrator.proofs.Words.{list_any, Kind, Party, Number, Reply, is_ok_status, OrchFault, Goal}
use Rattle.csi_orchestrator.proofs.Words.{Step, Known, Yes, No, Maybe, is_yes, is_no, Arguments, next_number}
use Rattle.csi_orchestrator.proofs.Words.{is_for_one_node, uses_as_second_writer, Due, kind_due, IsDueSuccess}
use Rattle.csi_orchestrator.proofs.Words.{NodeEntryShown, RowShown, node_entry_of, open_in_row, closed, due_in}
use Rattle.csi_orchestrator.proofs.Words.{known_by_success_of, wanted_row, stopped_goal, new_row, has_elsewhere}
use Rattle.csi_orchestrator.proofs.Words.{is_entry_otherwise, use_refusal, is_attached_somewhere, step_refusal}
use Rattle.csi_orchestrator.proofs.Words.{MovedRow, outgoing_by, row_moved, row_sends_due, row_unless, is_given_up}
use Rattle.csi_orchestrator.proofs.Words.{timed_out, failed, row_before_call, row_step, is_issued_as, step_heard}
use Rattle.csi_orchestrator.proofs.Words.{MayBeWanted, IsSoundRow, arith}
use Rattle.csi_orchestrator.proofs.Lemmas.{false≢true, or_parts, none-from_is_some}
use Rattle.csi_orchestrator.specs.declared.fault.OrchFault.TheVariants as faults
use Rattle.csi_orchestrator.specs.declared.step.Step.TheVariants as steps
use Rattle.csi_orchestrator.specs.Model.History.{Usage}
use Rattle.csi_orchestrator.proofs.EntryRules.{by_if}
use Rattle.csi_orchestrator.proofs.RowRules.{AreDistinct, kept-distinct, FitsGoal, due-fits-goal, marked-distinct, kept-sent, kept-closed, kept-dropped, wanted-stopped, wanted-succeeded}
use Rattle.csi_orchestrator.proofs.UseRules.{distinct-entry, usable-entry}
use Rattle.csi_orchestrator.proofs.RepliedRows.{hears-it}

-- what is due for such a row, if something is, may be wanted
pub record MaySendDue (row : RowShown) : Type 0 where
  pub distinct : AreDistinct row.node_entries
  pub may : (due : Due) → due_in row ≡ Some due → MayBeWanted row row.goal

-- where nothing is refused, the first reason doesn't hold, and none of the others does
pub first-held : (b : Bool) (fault : OrchFault) (rest : Option OrchFault) → cond b (Some fault) rest ≡ None → (b ≡ false) × (rest ≡ None)
first-held b fault rest e = grind arith

-- what fails the test of not being Yes is Yes
pub is-made : (k : Known) → not (is_yes k) ≡ false → k ≡ Yes
is-made k e = grind (arith, false≢true)

-- a use that isn't refused
pub record IsFree (usage : Usage) (row : RowShown) : Type 0 where
  pub made : row.exists ≡ Yes
  pub idle : row.goal ≡ None
  pub one_node : has_elsewhere (is_for_one_node usage) usage.node row ≡ false
  pub one_writer : has_elsewhere (uses_as_second_writer usage) usage.node row ≡ false
  pub alike : is_entry_otherwise usage (node_entry_of row usage.node) ≡ false

-- where nothing refuses a use, it is free in this sense
pub use-free : (nodes : List (List ℕ)) (usage : Usage) (row : RowShown) → use_refusal nodes usage row ≡ None → IsFree usage row
use-free nodes usage row free = grind (arith, first-held, is-made, none-from_is_some)

-- a volume that may be attached nowhere is attached nowhere
all-detached : (entries : List NodeEntryShown) → list_any (λ (entry : NodeEntryShown). not (is_no entry.attached)) entries ≡ false → AllByRecursion (λ (entry : NodeEntryShown). entry.attached ≡ No) entries
all-detached [] e = tt
all-detached (entry ∷ entries) e = let both = or_parts (not (is_no entry.attached)) _ e in (detached entry.attached both.0, all-detached entries both.1)
  where
    detached : (k : Known) → not (is_no k) ≡ false → k ≡ No
    detached Yes f = absurd (false≢true (sym f))
    detached No f = refl
    detached Maybe f = absurd (false≢true (sym f))

-- a row whose open call is given up, and with the use that it was for
pub closed-may : (row : RowShown) → IsSoundRow row → MaySendDue (closed row)
closed-may row own = record { distinct = kept-distinct row own; may = λ due f. (kept-closed row own).goal }

-- a row whose goal becomes its stop
pub stopped-may : (row : RowShown) (goal : Goal) → row.goal ≡ Some goal → IsSoundRow row → MaySendDue (wanted_row (stopped_goal goal) row)
stopped-may row goal e own = record { distinct = kept-distinct row own; may = λ due f. wanted-stopped row goal (subst (MayBeWanted row) e own.goal) }

-- a row whose call timed out
timed-out-may : (row : RowShown) (goal : Option Goal) → row.goal ≡ goal → IsSoundRow row → MaySendDue (timed_out row goal)
timed-out-may row None e own = closed-may row own
timed-out-may row (Some goal) e own = by_if MaySendDue (is_given_up row) _ _ (λ spent. stopped-may row goal e own) (λ more. closed-may row own)

-- a row whose call failed
failed-may : (row : RowShown) (goal : Option Goal) → row.goal ≡ goal → IsSoundRow row → MaySendDue (failed row goal)
failed-may row goal e own = grind (arith, kept-distinct, stopped-may, closed-may)

-- the kind of the due call fits the goal
kind-fits : (row : RowShown) (kind : Kind) → kind_due (due_in row) ≡ Some kind → FitsGoal row.goal kind
kind-fits row kind is = grind (arith, FitsGoal, due-fits-goal)

-- so it is of each row that took a step which isn't refused at once
pub changed-may : (nodes : List (List ℕ)) (last : Number) (step : Step) (row : RowShown) → IsSoundRow row → IsDueSuccess step row → step_refusal nodes last step row ≡ None → MaySendDue (row_before_call step row)
changed-may nodes last (steps.Create arguments) row own fits free =
    let unused = or_parts (is_some row.id) (is_some row.goal) (first-held _ _ _ free).0 in
    record { distinct = kept-distinct row own; may = λ due f. none-from_is_some row.id unused.0 }
changed-may nodes last (steps.Use usage) row own fits free =
    let usable = use-free nodes usage row free in
    record { distinct = distinct-entry usage row (kept-distinct row own) usable.alike; may = λ due f. usable-entry usage row own.targets usable.made usable.one_node usable.one_writer usable.alike }
changed-may nodes last (steps.Stop node target) row own fits free = record { distinct = kept-distinct row own; may = λ due f. tt }
changed-may nodes last steps.Delete row own fits free =
    let unused = first-held (is_attached_somewhere row) faults.InUse None (first-held (is_none row.id) faults.NotCreated _ free).1 in
    record { distinct = kept-distinct row own; may = λ due f. all-detached row.node_entries unused.0 }
changed-may nodes last steps.TimeOut row own fits free = timed-out-may row row.goal refl own
changed-may nodes last (steps.Succeed kind id) row own fits free =
    record { distinct = marked-distinct (known_by_success_of kind) kind row (kept-distinct row own); may = λ due f. wanted-succeeded kind id row row.goal due refl (kind-fits row kind fits.1) own.goal f }
changed-may nodes last steps.Fail row own fits free = failed-may row row.goal refl own

-- and of a new row
pub new-may : (name : List ℕ) (arguments : Arguments) → MaySendDue (new_row name arguments)
new-may name arguments = record { distinct = record { nodes = tt; targets = tt }; may = λ due f. refl }

-- what is told of a row, if anything, is kept so
abbrev pub SoundRowAfter : Result MovedRow OrchFault → Type 0
SoundRowAfter (Ok moved_row) = IsSoundRow moved_row.row
SoundRowAfter (Err fault) = Unit {0}

-- the due call is sent, or what was wanted is dropped
pub sends-due-kept : (last : Number) (row : RowShown) → MaySendDue row → SoundRowAfter (row_sends_due last row)
sends-due-kept last row may_send = by (due_in row) refl (next_number last)
  where
    by : (o : Option Due) → due_in row ≡ o → (n : Option Number) → SoundRowAfter (row_moved row (outgoing_by o n))
    by None e number = kept-dropped row may_send.distinct
    by (Some due) e None = tt
    by (Some due) e (Some number) = kept-sent number row due e may_send.distinct (may_send.may due e)

-- what is kept where nothing refuses is kept unless it is refused
pub unless-kept : (o : Option OrchFault) (result : Result MovedRow OrchFault) → (o ≡ None → SoundRowAfter result) → SoundRowAfter (row_unless o result)
unless-kept None result f = f refl
unless-kept (Some fault) result f = tt

-- whatever the step
pub step-kept : (nodes : List (List ℕ)) (last : Number) (step : Step) (row : RowShown) → IsSoundRow row → IsDueSuccess step row → SoundRowAfter (row_step nodes last step row)
step-kept nodes last step row own fits = grind (arith, unless-kept, by_if, kept-closed, sends-due-kept, changed-may)

-- what a reply brings fits the row that it is to
pub heard-fits : (row : RowShown) (number : Number) (party : Party) (kind : Kind) (reply : Reply) → is_issued_as number party kind (open_in_row row) ≡ true → IsSoundRow row → IsDueSuccess (step_heard kind reply) row
heard-fits row number party kind reply e own = by (is_ok_status reply.status)
  where
    by : (b : Bool) → IsDueSuccess (cond b (steps.Succeed kind reply.id) steps.Fail) row
    by true = let it = hears-it row number party kind e in (own, ap kind_due (own.open_due it.due it.is_open) ∙ ap Some it.has_kind)
    by false = tt
