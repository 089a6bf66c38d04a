-- Why the call that is due is read from the row.
use Rattle.csi_orchestrator.proofs.Words.{◌≡◌, ℕ, List, [], ◌∷◌, Bool, true, false, cond, not, refl, sym, ◌∙◌, ap}
use Rattle.csi_orchestrator.proofs.Words.{subst, inl, Option, Some, None, option_map, option_and_then, length, nat_lt}
use Rattle.csi_orchestrator.proofs.Words.{AllByRecursion, Kind, same_text, Marks, Known, Exists, Attached, Staged}
use Rattle.csi_orchestrator.proofs.Words.{Published, is_yes, is_no, History, id_of, Due, call_for, targets_in_use}
use Rattle.csi_orchestrator.proofs.Words.{due_use, due_leave, due_stop, due_for, due_call, RowShown, row_of}
use Rattle.csi_orchestrator.proofs.Words.{node_entry_of, mark_in, publication_known, mark_of, goal_shown, goal_in}
use Rattle.csi_orchestrator.proofs.Words.{AreTargetsApart, others_in, marks_for, use_due, delete_due, due_by, due_in}
use Rattle.csi_orchestrator.proofs.Words.{arith}
use Rattle.csi_orchestrator.proofs.Lemmas.{among-find, each_of, some-has}
use Rattle.csi_types.specs.declared.call.Kind.TheVariants as kinds
use Rattle.csi_orchestrator.specs.declared.row.Goal.{Goal as KeptGoal}
use Rattle.csi_orchestrator.specs.declared.row.Goal.TheVariants as kept
use Rattle.csi_orchestrator.specs.Model.History.{Usage, Create, Use, Stop, Delete}
use Rattle.csi_orchestrator.specs.Private.RowDue.{DueIsTold}
use Rattle.csi_orchestrator.proofs.InUse.{in-use-alike}
use Rattle.csi_orchestrator.proofs.RowViews.{IsRowOf, is-row-of}
use Rattle.csi_orchestrator.proofs.DueCases.{attaching, staging, publishing, unpublishing, unstaging, detaching}

-- the call of either kind
either : (f : Kind → Option Due) (b : Bool) (x y : Option Kind) → option_and_then f (cond b x y) ≡ cond b (option_and_then f x) (option_and_then f y)
either f true x y = refl
either f false x y = refl

-- without an id there is none
none-of : (f : Kind → Option Due) → ((kind : Kind) → f kind ≡ None) → (kind : Option Kind) → option_and_then f kind ≡ None
none-of f is None = refl
none-of f is (Some kind) = is kind

-- for a use, the call of the kind that is due is the one that is read from the row
use-spelled : (name : List ℕ) (usage : Usage) (id : Option ℕ) (a s p : Bool)
    → option_and_then (call_for name (Some (Use usage)) id) (cond (not a) (Some kinds.ControllerPublishVolume) (cond (not s) (Some kinds.NodeStageVolume) (cond (not p) (Some kinds.NodePublishVolume) None)))
    ≡ option_and_then (λ id. cond (not a) (Some (attaching usage id)) (cond (not s) (Some (staging usage id)) (cond (not p) (Some (publishing usage id)) None))) id
use-spelled name usage None a s p = none-of (call_for name (Some (Use usage)) None) (λ kind. refl) _
use-spelled name usage (Some id) a s p =
    let f = call_for name (Some (Use usage)) (Some id) in
    either f (not a) _ _ ∙ ap (cond (not a) (Some (attaching usage id))) (either f (not s) _ _ ∙ ap (cond (not s) (Some (staging usage id))) (either f (not p) _ _))

-- so it is for the history
pub use-told : (row : RowShown) (history : History) (name : List ℕ) (usage : Usage) → IsRowOf row history name
    → due_for history name (Some (Use usage)) ≡ option_and_then (use_due usage (marks_for row (kept.Use usage))) row.id
use-told row history name usage own =
    ap (λ id. option_and_then (call_for name (Some (Use usage)) id) (due_use history name usage)) (sym own.ids)
    ∙ (λ i. option_and_then (call_for name (Some (Use usage)) row.id) (by (sym (own.marks (Attached name usage.node) refl) i) (sym (own.marks (Staged name usage.node) refl) i) (sym (own.marks (Published name usage.node usage.target) refl) i)))
    ∙ use-spelled name usage row.id (is_yes (mark_of (Attached name usage.node) row)) (is_yes (mark_of (Staged name usage.node) row)) (is_yes (mark_of (Published name usage.node usage.target) row))
  where
    by : Known → Known → Known → Option Kind
    by attached staged published =
        cond (not (is_yes attached)) (Some kinds.ControllerPublishVolume)
        (cond (not (is_yes staged)) (Some kinds.NodeStageVolume)
        (cond (not (is_yes published)) (Some kinds.NodePublishVolume) None))

-- so it is for a stop
stop-spelled : (name node target : List ℕ) (id : Option ℕ) (p o s a : Bool)
    → option_and_then (call_for name (Some (Stop node target)) id) (cond (not p) (Some kinds.NodeUnpublishVolume) (cond o None (cond (not s) (Some kinds.NodeUnstageVolume) (cond (not a) (Some kinds.ControllerUnpublishVolume) None))))
    ≡ option_and_then (λ id. cond (not p) (Some (unpublishing node target id)) (cond o None (cond (not s) (Some (unstaging node id)) (cond (not a) (Some (detaching node id)) None)))) id
stop-spelled name node target id p o s a = grind (arith, none-of, either, unpublishing, unstaging)

-- the kind of the call that is due for a stop
stop-told : (row : RowShown) (history : History) (name node target : List ℕ) → IsRowOf row history name → AllByRecursion AreTargetsApart row.node_entries
    → due_stop history name node target
    ≡ cond (not (is_no (mark_in (publication_known target) (node_entry_of row node)))) (Some kinds.NodeUnpublishVolume)
    (cond (others_in target (node_entry_of row node)) None
    (cond (not (is_no (mark_of (Staged name node) row))) (Some kinds.NodeUnstageVolume) (cond (not (is_no (mark_of (Attached name node) row))) (Some kinds.ControllerUnpublishVolume) None)))
stop-told row history name node target own apart =
    ap (λ k. cond (not (is_no k)) (Some kinds.NodeUnpublishVolume) (due_leave history name node (targets_in_use history name node))) (sym (own.marks (Published name node target) refl))
    ∙ by (is_no (mark_in (publication_known target) (node_entry_of row node))) refl
  where
    leave : Option Kind
    leave = cond (not (is_no (mark_of (Staged name node) row))) (Some kinds.NodeUnstageVolume) (cond (not (is_no (mark_of (Attached name node) row))) (Some kinds.ControllerUnpublishVolume) None)

    left : (targets : List (List ℕ)) → due_leave history name node targets ≡ cond (nat_lt 0 (length targets)) None leave
    left (target ∷ targets) = sym (ap (λ b. cond b None leave) (some-has (target ∷ targets) target (inl refl)))
    left [] = rw (own.marks (Staged name node) refl, own.marks (Attached name node) refl) refl

    by : (p : Bool) → is_no (mark_in (publication_known target) (node_entry_of row node)) ≡ p
        → cond (not p) (Some kinds.NodeUnpublishVolume) (due_leave history name node (targets_in_use history name node)) ≡ cond (not p) (Some kinds.NodeUnpublishVolume) (cond (others_in target (node_entry_of row node)) None leave)
    by false e = refl
    by true e = left (targets_in_use history name node) ∙ ap (λ b. cond b None leave) (in-use-alike row history name node target own apart e)

-- and for a delete
delete-spelled : (name : List ℕ) (id : Option ℕ) (marks : Marks)
    → option_and_then (call_for name (Some Delete) id) (cond (is_no marks.exists) None (Some kinds.DeleteVolume)) ≡ option_and_then (delete_due marks) id
delete-spelled name None marks = none-of (call_for name (Some Delete) None) (λ kind. refl) _
delete-spelled name (Some id) marks = either (call_for name (Some Delete) (Some id)) (is_no marks.exists) _ _

-- any goal, and none
goal-told : (row : RowShown) (history : History) → IsRowOf row history row.name → AllByRecursion AreTargetsApart row.node_entries → (goal : Option KeptGoal) → due_for history row.name (option_map (goal_shown row.arguments) goal) ≡ due_by row goal
goal-told row history own apart None = refl
goal-told row history own apart (Some kept.Create) =
    ap (λ k. option_and_then (call_for row.name (Some (Create row.arguments)) (id_of history row.name)) (cond (is_yes k) None (Some kinds.CreateVolume))) (sym (own.marks (Exists row.name) refl))
    ∙ either (call_for row.name (Some (Create row.arguments)) (id_of history row.name)) (is_yes row.exists) _ _
goal-told row history own apart (Some (kept.Use usage)) = use-told row history row.name usage own
goal-told row history own apart (Some (kept.Stop node target)) =
    ap (λ id. option_and_then (call_for row.name (Some (Stop node target)) id) (due_stop history row.name node target)) (sym own.ids)
    ∙ ap (option_and_then (call_for row.name (Some (Stop node target)) row.id)) (stop-told row history row.name node target own apart)
    ∙ stop-spelled row.name node target row.id (is_no (mark_in (publication_known target) (node_entry_of row node))) (others_in target (node_entry_of row node)) (is_no (mark_of (Staged row.name node) row)) (is_no (mark_of (Attached row.name node) row))
goal-told row history own apart (Some kept.Delete) =
    (λ i. option_and_then (call_for row.name (Some Delete) (sym own.ids i)) (cond (is_no (sym (own.marks (Exists row.name) refl) i)) None (Some kinds.DeleteVolume)))
    ∙ delete-spelled row.name row.id (marks_for row kept.Delete)

-- for a name that has this row
pub due-of-row : (row : RowShown) (history : History) (name : List ℕ) → IsRowOf row history name → AllByRecursion AreTargetsApart row.node_entries → due_call history name ≡ due_in row
due-of-row row history name own apart =
    subst (λ n. due_call history n ≡ due_in row) own.own
    (let its = subst (IsRowOf row history) (sym own.own) own in ap (due_for history row.name) (sym its.goals) ∙ goal-told row history its apart row.goal)

-- whether a name has a row or not
pub due-told : DueIsTold
due-told parts history name apart agrees = by (row_of parts.rows name) refl
  where
    by : (o : Option RowShown) → row_of parts.rows name ≡ o → due_call history name ≡ option_and_then due_in o
    by None e = ap (due_for history name) (sym (agrees.same_goals name) ∙ ap (option_and_then goal_in) e)
    by (Some row) e =
        due-of-row row history name (is-row-of parts history name row agrees e)
        (each_of (λ (r : RowShown). AllByRecursion AreTargetsApart r.node_entries) parts.rows row apart (among-find (λ (r : RowShown). same_text r.name name) parts.rows row e))
