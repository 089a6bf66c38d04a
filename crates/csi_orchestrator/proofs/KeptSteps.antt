-- Why a row that takes a step keeps its rules.
use Rattle.csi_orchestrator.proofs.Words.{◌≡◌, ◌≢◌, ℕ, List, [], true, false, refl, sym, ◌∙◌, ap, subst, option_or}
use Rattle.csi_orchestrator.proofs.Words.{◌⊎◌, Option, Some, None, is_none, option_and_then, Result, Kind, Number}
use Rattle.csi_orchestrator.proofs.Words.{kind_of, Capability, OrchFault, Goal, Create, Use, Delete, Usage, Step}
use Rattle.csi_orchestrator.proofs.Words.{Known, Yes, Maybe, is_no, Due, NodeEntryShown, RowShown, node_entry_of}
use Rattle.csi_orchestrator.proofs.Words.{mark_in, publication_known, kind_due, IsDueSuccess, closed, marks_at}
use Rattle.csi_orchestrator.proofs.Words.{use_due, due_by, due_in, aspect_of, id_told, exists_marked, nodes_marked}
use Rattle.csi_orchestrator.proofs.Words.{known_by_success_of, succeeded_row, wanted_row, stopped_goal, is_left}
use Rattle.csi_orchestrator.proofs.Words.{stop_refusal, step_refusal, late_refusal, MovedRow, row_rests, row_unless}
use Rattle.csi_orchestrator.proofs.Words.{is_step_met, waits, is_given_up, timed_out, failed, row_before_call}
use Rattle.csi_orchestrator.proofs.Words.{row_step, IsStandingIf, IsEmptyUnlessMade, IsSteadyRowIf, IsSoundRow, arith}
use Rattle.csi_orchestrator.proofs.Lemmas.{false≢true, or_parts, none-some, none-from_is_some}
use Rattle.csi_types.specs.declared.call.Kind.TheVariants as kinds
use Rattle.csi_orchestrator.specs.declared.step.Step.TheVariants as steps
use Rattle.csi_orchestrator.proofs.DueCases.{IsDueFor, due-cases}
use Rattle.csi_orchestrator.proofs.EntryRules.{by_if}
use Rattle.csi_orchestrator.proofs.HasOnes.{one-weaker}
use Rattle.csi_orchestrator.proofs.KeptEntries.{AreFit, fit-marked, fit-use}
use Rattle.csi_orchestrator.proofs.KeptInUse.{idle-used}
use Rattle.csi_orchestrator.proofs.KeptMarks.{IsOnWay}
use Rattle.csi_orchestrator.proofs.KeptStandings.{MayStand, stands-may, stopped-stands, use-made, stop-made, use-may, stop-may, create-may, done-stands}
use Rattle.csi_orchestrator.proofs.KeptUses.{AnyMark, use-begins, stop-begins, success-leads, due-marked, work-marked}
use Rattle.csi_orchestrator.proofs.LastEntries.{due-last, use-last}
use Rattle.csi_orchestrator.proofs.StepsSound.{first-held, is-made, use-free, changed-may}
use Rattle.csi_orchestrator.proofs.KeptGoals.{BringsId, KeptAfter, IsReady, none-marked, made-at, sends-due-kept}

-- ---- what a step makes of a row

-- the open call is given up
pub closed-kept : (N : Type 0) → (row : RowShown) → IsSteadyRowIf N row → IsSteadyRowIf N (closed row)
closed-kept N row kept = record { tries = kept.tries; untried = kept.untried; standing = kept.standing; bare = kept.bare; empty = kept.empty; marked = kept.marked; last = kept.last; allowed = kept.allowed; beside = kept.beside }

-- its entries are fit
kept-fit : (N : Type 0) → (row : RowShown) → IsSteadyRowIf N row → AreFit row.arguments.capabilities row.node_entries
kept-fit N row kept = record { allowed = kept.allowed; beside = kept.beside }

-- a row that keeps the rules is ready, with its open call given up too
kept-ready : (N : Type 0) → (row : RowShown) → IsSteadyRowIf N row → IsReady N (closed row)
kept-ready N row kept = record { stands = stands-may N row.goal row.id row.exists kept.standing; bare = kept.bare; empty = kept.empty; marked = work-marked row.goal row.node_entries kept.marked; last = kept.last; fit = kept-fit N row kept }

-- its goal is given up
stopped-ready : (N : Type 0) → (row : RowShown) (goal : Goal) → row.goal ≡ Some goal → IsSteadyRowIf N row → IsReady N (wanted_row (stopped_goal goal) row)
stopped-ready N row goal e kept = grind (arith, kept-ready, stopped-stands, MayStand, IsOnWay, AnyMark, kept-fit, one-weaker)

-- its call timed out
timed-out-ready : (N : Type 0) → (row : RowShown) (goal : Option Goal) → row.goal ≡ goal → IsSteadyRowIf N row → IsReady N (timed_out row goal)
timed-out-ready N row None e kept = kept-ready N row kept
timed-out-ready N row (Some goal) e kept = by_if (IsReady N) (is_given_up row) _ _ (λ spent. stopped-ready N row goal e kept) (λ more. kept-ready N row kept)

-- its call failed
failed-ready : (N : Type 0) → (row : RowShown) (goal : Option Goal) → row.goal ≡ goal → IsSteadyRowIf N row → IsReady N (failed row goal)
failed-ready N row (Some Create) e kept = grind (arith, kept-fit)
failed-ready N row (Some (Use usage)) e kept = stopped-ready N row (Use usage) e kept
failed-ready N row goal e kept = kept-ready N row kept

-- a volume of which the deletion is wanted isn't known to be there
delete-unmade : (N : Type 0) → (id : Option ℕ) (exists : Known) → IsStandingIf N (Some Delete) id exists → exists ≢ Yes
delete-unmade N (Some id) Maybe own is = cc
delete-unmade N id exists own is = absurd own

-- where the due call succeeded, a volume that isn't known to be there has no entries
done-empty : (N : Type 0) → (row : RowShown) (due : Due) → IsDueFor row due → IsSteadyRowIf N row
    → IsEmptyUnlessMade (exists_marked (known_by_success_of (kind_of due.call)) (aspect_of (kind_of due.call)) row.exists) (nodes_marked (known_by_success_of (kind_of due.call)) (aspect_of (kind_of due.call)) row.goal row.node_entries)
done-empty N row due h kept = grind (arith, delete-unmade, made-at, use-made, stands-may, stop-made)

-- a volume without an id had none before
unnamed-before : (told own : Option ℕ) → option_or told own ≡ None → own ≡ None
unnamed-before None own e = e
unnamed-before (Some id) own e = absurd (none-some id (sym e))

-- its call succeeded
succeeded-ready : (N : Type 0) → (row : RowShown) (kind : Kind) (id : Option ℕ) → kind_due (due_in row) ≡ Some kind → (kind ≡ kinds.CreateVolume → ((own : ℕ) × (id ≡ Some own)) ⊎ N) → IsSteadyRowIf N row → IsReady N (succeeded_row kind id row)
succeeded-ready N row kind id is brings kept = by (due_in row) refl is
  where
    done : (due : Due) → due_in row ≡ Some due → (kind_of due.call ≡ kinds.CreateVolume → ((own : ℕ) × (id ≡ Some own)) ⊎ N) → IsReady N (succeeded_row (kind_of due.call) id row)
    done due e brings =
        let case = due-cases row due e in
        record {
          stands = done-stands N row due id case brings (stands-may N row.goal row.id row.exists kept.standing);
          bare = λ unnamed. none-marked (known_by_success_of (kind_of due.call)) (aspect_of (kind_of due.call)) row.goal row.node_entries (kept.bare (unnamed-before (id_told (kind_of due.call) id) row.id unnamed));
          empty = done-empty N row due case kept;
          marked = due-marked known_by_success_of IsOnWay AnyMark success-leads row due case (work-marked row.goal row.node_entries kept.marked);
          last = due-last known_by_success_of row due case kept.last;
          fit = fit-marked row.arguments.capabilities (known_by_success_of (kind_of due.call)) (aspect_of (kind_of due.call)) row.goal row.node_entries (kept-fit N row kept);
        }

    by : (due : Option Due) → due_in row ≡ due → kind_due due ≡ Some kind → IsReady N (succeeded_row kind id row)
    by None e of = absurd (none-some kind of)
    by (Some due) e of =
        let own : kind_of due.call ≡ kind = cc in
        subst (λ k. IsReady N (succeeded_row k id row)) own (done due e (λ create. brings (sym own ∙ create)))

-- a stop that isn't refused
record IsStoppable (node target : List ℕ) (row : RowShown) : Type 0 where
  pub made : row.exists ≡ Yes
  pub idle : row.goal ≡ None
  pub may : (is_no (mark_in (publication_known target) (node_entry_of row node)) ≡ false) ⊎ (is_left node target row ≡ true)

-- where nothing refuses a stop, it is so
stop-free : (nodes : List (List ℕ)) (last : Number) (node target : List ℕ) (row : RowShown) → stop_refusal nodes last node target row ≡ None → IsStoppable node target row
stop-free nodes last node target row free = grind (arith, first-held, is-made, none-from_is_some, false≢true)

-- where nothing is wanted of a volume that is there
idle-made : (N : Type 0) → (row : RowShown) → row.goal ≡ None → row.exists ≡ Yes → IsSteadyRowIf N row → IsStandingIf N None row.id Yes
idle-made N row idle made kept = subst (λ x. IsStandingIf N None row.id x) made (subst (λ g. IsStandingIf N g row.id row.exists) idle kept.standing)

-- an id that isn't missing
id-there : (goal : Option ℕ → Type 0) (id : Option ℕ) → is_none id ≡ false → ((own : ℕ) → goal (Some own)) → goal id
id-there goal None e f = absurd (false≢true (sym e))
id-there goal (Some own) e f = f own

-- no entries are fit
none-fit : (capabilities : List Capability) (entries : List NodeEntryShown) → entries ≡ [] → AreFit capabilities entries
none-fit capabilities entries none = subst (AreFit capabilities) (sym none) (record { allowed = tt; beside = tt })

-- where a use isn't met, the volume has an id
unmet-named : (usage : Usage) (row : RowShown) → is_none (due_by row (Some (Use usage))) ≡ false → row.id ≡ None → ⊥
unmet-named usage row unmet unnamed = false≢true (sym unmet ∙ ap (λ i. is_none (option_and_then (use_due usage (marks_at row usage.node usage.target)) i)) unnamed)

-- a volume without entries isn't stopped
nowhere-stopped : (node target : List ℕ) (row : RowShown) → row.node_entries ≡ [] → (is_no (mark_in (publication_known target) (node_entry_of row node)) ≡ false) ⊎ (is_left node target row ≡ true) → ⊥
nowhere-stopped node target row none h = grind (arith, false≢true)

-- each row that took a step which isn't refused is ready
changed-ready : (N : Type 0) → (nodes : List (List ℕ)) (last : Number) (step : Step) (row : RowShown) → IsSoundRow row → IsDueSuccess step row → BringsId N step → IsSteadyRowIf N row
    → is_step_met step row ≡ false → step_refusal nodes last step row ≡ None → late_refusal last step row ≡ None → IsReady N (row_before_call step row)
changed-ready N nodes last (steps.Create arguments) row own fits brings kept unmet free room = grind (arith, or_parts, first-held, none-from_is_some, create-may, MayStand, idle-used, none-fit)
changed-ready N nodes last (steps.Use usage) row own fits brings kept unmet free room = grind (arith, use-free, unmet-named, use-may, idle-made, use-begins, idle-used, use-last, fit-use, kept-fit)
changed-ready N nodes last (steps.Stop node target) row own fits brings kept unmet free room = grind (arith, stop-free, stop-may, nowhere-stopped, idle-made, stop-begins, idle-used, kept-fit)
changed-ready N nodes last steps.Delete row own fits brings kept unmet free room = grind (arith, none-from_is_some, first-held, id-there, MayStand, idle-used, kept-fit)
changed-ready N nodes last steps.TimeOut row own fits brings kept unmet free room = timed-out-ready N row row.goal refl kept
changed-ready N nodes last (steps.Succeed kind id) row own fits brings kept unmet free room = succeeded-ready N row kind id fits.1 brings kept
changed-ready N nodes last steps.Fail row own fits brings kept unmet free room = failed-ready N row row.goal refl kept

-- what is kept where nothing refuses is kept unless it is refused
pub unless-kept : (N : Type 0) → (o : Option OrchFault) (result : Result MovedRow OrchFault) → (o ≡ None → KeptAfter N result) → KeptAfter N (row_unless o result)
unless-kept N None result f = f refl
unless-kept N (Some fault) result f = tt

-- whatever the step
pub step-kept : (N : Type 0) → (nodes : List (List ℕ)) (last : Number) (step : Step) (row : RowShown) → IsSoundRow row → IsDueSuccess step row → BringsId N step → IsSteadyRowIf N row → KeptAfter N (row_step nodes last step row)
step-kept N nodes last step row own fits brings kept =
    unless-kept N (step_refusal nodes last step row) _
    (λ free. by_if (KeptAfter N) (is_step_met step row) (row_rests row) _ (λ met. kept)
    (λ unmet. by_if (KeptAfter N) (waits step row) (row_rests (closed row)) _ (λ left. closed-kept N row kept)
    (λ on. unless-kept N (late_refusal last step row) _ (λ room. sends-due-kept N last (row_before_call step row) (changed-may nodes last step row own fits free) (changed-ready N nodes last step row own fits brings kept unmet free room)))))
