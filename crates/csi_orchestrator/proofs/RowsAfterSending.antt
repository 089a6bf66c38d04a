-- What a row tells once its due call was sent, and once that call succeeded.
use Rattle.csi_orchestrator.proofs.Words.{◌≡◌, ◌≢◌, ◌+◌, ℕ, List, Bool, true, false, cond, refl, sym, ◌∙◌, ap, subst}
use Rattle.csi_orchestrator.proofs.Words.{Option, Some, None, min, option_map, ◌&&◌, option_or, Call, Number, Status}
use Rattle.csi_orchestrator.proofs.Words.{kind_of, is_ok_status, same_text, Goal, Create, Use, Stop, Delete, Usage}
use Rattle.csi_orchestrator.proofs.Words.{Thing, Exists, Attached, No, Maybe, Issued, thing_at, is_thing, touches}
use Rattle.csi_orchestrator.proofs.Words.{is_no, Held, held_by_call, OrchestratorView, Due, after_sent, after_accepted}
use Rattle.csi_orchestrator.proofs.Words.{known_by_success, id_brought, marks_marked, HasEntry, aspect_of, marked_row}
use Rattle.csi_orchestrator.proofs.Words.{row_once_sent, known_by_success_of, id_told, succeeded_row, RowShown}
use Rattle.csi_orchestrator.proofs.Words.{node_entry_of, mark_in, mark_of, held_on_node, marks_for, due_with, due_by}
use Rattle.csi_orchestrator.proofs.Words.{due_in, arith}
use Rattle.csi_orchestrator.proofs.Lemmas.{same_Some, same_text-tells}
use Rattle.csi_types.specs.declared.call.Call.TheVariants as calls
use Rattle.csi_types.specs.declared.call.Kind.TheVariants as kinds
use Rattle.csi_orchestrator.proofs.TextLists.{text-same}
use Rattle.csi_orchestrator.proofs.DueCases.{spelled, attaching, staging, publishing, unpublishing, unstaging, detaching, IsDueFor, ToMake, ToRemove, ToAttach, ToStage, ToPublish, ToUnpublish, ToUnstage, ToDetach}
use Rattle.csi_orchestrator.proofs.TextLists.{same_text-flip}
use Rattle.csi_orchestrator.proofs.ViewsFollow.{and-false}
use Rattle.csi_orchestrator.proofs.RowMarks.{GoalHasEntry, IsMarked, at-work, is-marked, marks-then}
use Rattle.csi_orchestrator.proofs.RowViews.{Reads}
use Rattle.csi_orchestrator.proofs.KnownTests.{not_no}

-- the call that was sent is still the one that is due
due-again : (row : RowShown) (due : Due) → IsDueFor row due → (goal : Goal) → row.goal ≡ Some goal
    → due_with row.name row.arguments row.id (marks_marked Maybe (aspect_of (kind_of due.call)) (marks_for row goal)) goal ≡ Some due
due-again row due case goal is = by due case
  where
    of : (due : Due) (other : Goal) → row.goal ≡ Some other → due_with row.name row.arguments row.id (marks_marked Maybe (aspect_of (kind_of due.call)) (marks_for row other)) other ≡ Some due
        → due_with row.name row.arguments row.id (marks_marked Maybe (aspect_of (kind_of due.call)) (marks_for row goal)) goal ≡ Some due
    of due other own same =
        subst (λ g. due_with row.name row.arguments row.id (marks_marked Maybe (aspect_of (kind_of due.call)) (marks_for row g)) g ≡ Some due) (same_Some other goal (sym own ∙ is)) same

    by : (due : Due) → IsDueFor row due → due_with row.name row.arguments row.id (marks_marked Maybe (aspect_of (kind_of due.call)) (marks_for row goal)) goal ≡ Some due
    by _ (ToMake own e) = of _ Create own refl
    by _ (ToRemove id own has e) = of _ Delete own (rw has refl)
    by _ (ToAttach usage id own has a) = of _ (Use usage) own (rw has refl)
    by _ (ToStage usage id own has a s) = of _ (Use usage) own (rw (has, a) refl)
    by _ (ToPublish usage id own has a s p) = of _ (Use usage) own (rw (has, a, s) refl)
    by _ (ToUnpublish node target id own has p) = of _ (Stop node target) own (rw has refl)
    by _ (ToUnstage node target id own has p o s) = of _ (Stop node target) own (rw (has, p, o) refl)
    by _ (ToDetach node target id own has p o s a) = of _ (Stop node target) own (rw (has, p, o, s) refl)

-- what is known of what a goal names goes by the marks alone
pub marks-same : (goal : Goal) (a b : RowShown) → a.exists ≡ b.exists → a.node_entries ≡ b.node_entries → marks_for a goal ≡ marks_for b goal
marks-same Create a b exists node_entries = λ i. marks_for (record a { exists = exists i; node_entries = node_entries i }) Create
marks-same goal a b exists node_entries = λ i. marks_for (record a { exists = exists i; node_entries = node_entries i }) goal

-- once the due call was sent, the same call is due still
pub due-stays : (row : RowShown) (due : Due) (number : Number) → GoalHasEntry row row.goal → IsDueFor row due → due_in (row_once_sent number (kind_of due.call) row) ≡ Some due
due-stays row due number entry case =
    let work = at-work row due entry case in
    ap (due_by (row_once_sent number (kind_of due.call) row)) work.is
    ∙ ap (λ marks. due_with row.name row.arguments row.id marks work.goal) (marks-same work.goal (row_once_sent number (kind_of due.call) row) (marked_row Maybe (kind_of due.call) row) refl refl ∙ marks-then row due work.goal Maybe entry case work.is)
    ∙ due-again row due case work.goal work.is

-- a call that publishes nothing by the controller, and whose mark isn't of an attachment
quiet-held : (row after : RowShown) (view : OrchestratorView) (name node : List ℕ) → Reads row view name → mark_of (Attached name node) after ≡ mark_of (Attached name node) row → mark_of (Attached name node) after ≢ No
    → held_on_node row node ≡ view.holdings name node
quiet-held row after view name node reads same maybe = reads.holdings node (λ e. maybe (same ∙ e))

-- at the node of a use with its entries the volume is held as the use asks
held-entry : (row : RowShown) (usage : Usage) (node : List ℕ) → HasEntry row usage → same_text usage.node node ≡ true → held_on_node row node ≡ Some (let h : Held = record { capability = usage.capability; readonly = usage.readonly } in h)
held-entry row usage node entry e = grind (arith, same_text-tells)

-- where the volume may be attached once the call was sent, it is held as the call asks, or else as it is shown
pub held-right : (row : RowShown) (due : Due) (view : OrchestratorView) (name node : List ℕ) → GoalHasEntry row row.goal → IsDueFor row due → Reads row view name
    → mark_of (Attached name node) (marked_row Maybe (kind_of due.call) row) ≢ No → held_on_node row node ≡ option_or (held_by_call node due.call) (view.holdings name node)
held-right row _ view name node entry (ToMake goal e) reads maybe = reads.holdings node maybe
held-right row _ view name node entry (ToRemove id goal own e) reads maybe = reads.holdings node maybe
held-right row _ view name node entry (ToAttach usage id goal own a) reads maybe = by (same_text usage.node node) refl
  where
    here : HasEntry row usage
    here = subst (GoalHasEntry row) goal entry

    same : same_text usage.node node ≡ false → mark_of (Attached name node) (marked_row Maybe kinds.ControllerPublishVolume row) ≡ mark_of (Attached name node) row
    same e =
        (is-marked row (attaching usage id) Maybe entry (ToAttach usage id goal own a)).marks (Attached name node) (sym reads.own)
        ∙ ap (λ b. cond b Maybe (mark_of (Attached name node) row)) (ap (λ b. same_text name row.name && b) (same_text-flip node usage.node ∙ e) ∙ and-false (same_text name row.name))

    by : (b : Bool) → same_text usage.node node ≡ b → held_on_node row node ≡ option_or (cond b (Some (let h : Held = record { capability = usage.capability; readonly = usage.readonly } in h)) None) (view.holdings name node)
    by true e = held-entry row usage node here e
    by false e = quiet-held row (marked_row Maybe kinds.ControllerPublishVolume row) view name node reads (same e) maybe
held-right row _ view name node entry (ToStage usage id goal own a s) reads maybe =
    quiet-held row (marked_row Maybe kinds.NodeStageVolume row) view name node reads ((is-marked row (staging usage id) Maybe entry (ToStage usage id goal own a s)).marks (Attached name node) (sym reads.own)) maybe
held-right row _ view name node entry (ToPublish usage id goal own a s p) reads maybe =
    quiet-held row (marked_row Maybe kinds.NodePublishVolume row) view name node reads ((is-marked row (publishing usage id) Maybe entry (ToPublish usage id goal own a s p)).marks (Attached name node) (sym reads.own)) maybe
held-right row _ view name node entry (ToUnpublish here target id goal own p) reads maybe =
    quiet-held row (marked_row Maybe kinds.NodeUnpublishVolume row) view name node reads ((is-marked row (unpublishing here target id) Maybe entry (ToUnpublish here target id goal own p)).marks (Attached name node) (sym reads.own)) maybe
held-right row _ view name node entry (ToUnstage here target id goal own p o s) reads maybe =
    quiet-held row (marked_row Maybe kinds.NodeUnstageVolume row) view name node reads ((is-marked row (unstaging here id) Maybe entry (ToUnstage here target id goal own p o s)).marks (Attached name node) (sym reads.own)) maybe
held-right row _ view name node entry (ToDetach here target id goal own p o s a) reads maybe = by (same_text here node) refl
  where
    same : same_text here node ≡ false → mark_of (Attached name node) (marked_row Maybe kinds.ControllerUnpublishVolume row) ≡ mark_of (Attached name node) row
    same e =
        (is-marked row (detaching here id) Maybe entry (ToDetach here target id goal own p o s a)).marks (Attached name node) (sym reads.own)
        ∙ ap (λ b. cond b Maybe (mark_of (Attached name node) row)) (ap (λ b. same_text name row.name && b) (same_text-flip node here ∙ e) ∙ and-false (same_text name row.name))

    by : (b : Bool) → same_text here node ≡ b → held_on_node row node ≡ view.holdings name node
    by true e = reads.holdings node (not_no (mark_in (λ node_entry. node_entry.attached) (node_entry_of row node)) (ap (λ n. is_no (mark_in (λ node_entry. node_entry.attached) (node_entry_of row n))) (sym ((same_text-tells here node).0 e)) ∙ a))
    by false e = quiet-held row (marked_row Maybe kinds.ControllerUnpublishVolume row) view name node reads (same e) maybe

-- what is known of a thing goes by the marks alone
pub mark-same : (thing : Thing) (a b : RowShown) → a.exists ≡ b.exists → a.node_entries ≡ b.node_entries → mark_of thing a ≡ mark_of thing b
mark-same (Exists name) a b exists node_entries = exists
mark-same thing a b exists node_entries = ap (λ ps. mark_of thing (record a { node_entries = ps })) node_entries

-- the call that is due was sent
abbrev pub issued-by : List ℕ → Number → Due → Issued
issued-by name number due = record { name = name; number = number; party = due.party; call = due.call }

-- the row then tells what is shown once the call was sent
pub reads-sent : (row : RowShown) (view : OrchestratorView) (name : List ℕ) (due : Due) (number : Number) → Reads row view name → GoalHasEntry row row.goal → IsDueFor row due
    → Reads (row_once_sent number (kind_of due.call) row) (after_sent (issued-by name number due) view) name
reads-sent row view name due number reads entry case =
    record {
      own = m.same_name ∙ reads.own;
      there = reads.there;
      marks = λ thing is. mark-same thing (row_once_sent number (kind_of due.call) row) (marked_row Maybe (kind_of due.call) row) refl refl ∙ m.marks thing (is ∙ sym reads.own)
          ∙ ap (λ n. cond (is_thing thing (thing_at n due.party due.call)) Maybe (mark_of thing row)) reads.own ∙ ap (cond (touches thing (issued-by name number due)) Maybe) (reads.marks thing is);
      ids = m.same_id ∙ reads.ids;
      goals = reads.goals;
      arguments = ap Some m.same_arguments ∙ reads.arguments;
      holdings = λ node maybe. m.held node ∙ held-right row due view name node entry case reads maybe
          ∙ sym (ap (λ b. cond b (option_or (held_by_call node due.call) (view.holdings name node)) (view.holdings name node)) (text-same name));
      open_calls = ap (option_map (issued-by (row_once_sent number (kind_of due.call) row).name number)) (spelled row due case)
          ∙ ap (λ n. Some (issued-by n number due)) (m.same_name ∙ reads.own) ∙ sym (ap (λ b. cond b (Some (issued-by name number due)) (view.open_calls name)) (text-same name));
      counts = ap (λ t. min 3 (1 + t)) (m.same_tries ∙ reads.counts) ∙ sym (ap (λ b. cond b (min 3 (1 + view.counts name)) (view.counts name)) (text-same name));
    }
  where
    m : IsMarked row (marked_row Maybe (kind_of due.call) row) due Maybe
    m = is-marked row due Maybe entry case

-- what a success tells, and the id that it brings, by the call and by its kind
told-is : (call : Call) → known_by_success call ≡ known_by_success_of (kind_of call)
told-is (calls.CreateVolume name required limit capabilities) = refl
told-is call = refl

-- the id that a success brings is the one that its call's kind tells
id-told-is : (call : Call) (id : Option ℕ) → id_told (kind_of call) id ≡ id_brought call id
id-told-is (calls.CreateVolume name required limit capabilities) id = refl
id-told-is call id = refl

-- the call that was due succeeded
pub reads-succeeded : (row : RowShown) (view : OrchestratorView) (name : List ℕ) (due : Due) (number : Number) (status : Status) (id : Option ℕ) → Reads row view name → ((node : List ℕ) → held_on_node row node ≡ view.holdings name node)
    → GoalHasEntry row row.goal → IsDueFor row due → is_ok_status status ≡ true
    → Reads (succeeded_row (kind_of due.call) id row) (after_accepted (issued-by name number due) status id view) name
reads-succeeded row view name due number status id reads holds entry case fine =
    record {
      own = m.same_name ∙ reads.own;
      there = reads.there;
      marks = λ thing is. mark-same thing (succeeded_row (kind_of due.call) id row) (marked_row (known_by_success_of (kind_of due.call)) (kind_of due.call) row) refl refl ∙ m.marks thing (is ∙ sym reads.own)
          ∙ ap (λ n. cond (is_thing thing (thing_at n due.party due.call)) (known_by_success_of (kind_of due.call)) (mark_of thing row)) reads.own
          ∙ ap (λ k. cond (touches thing (issued-by name number due)) k (mark_of thing row)) (sym (told-is due.call))
          ∙ ap (cond (touches thing (issued-by name number due)) (known_by_success due.call)) (reads.marks thing is)
          ∙ sym (ap (λ b. cond (b && touches thing (issued-by name number due)) (known_by_success due.call) (view.marks thing)) fine);
      ids = ap (option_or (id_told (kind_of due.call) id)) (m.same_id ∙ reads.ids) ∙ ap (λ o. option_or o (view.ids name)) (id-told-is due.call id) ∙ sym (own (option_or (id_brought due.call id) (view.ids name)) (view.ids name));
      goals = reads.goals;
      arguments = ap Some m.same_arguments ∙ reads.arguments;
      holdings = λ node maybe. m.held node ∙ holds node;
      open_calls = sym (ap (λ b. cond b None (view.open_calls name)) (text-same name));
      counts = sym (own 0 (view.counts name));
    }
  where
    m : IsMarked row (marked_row (known_by_success_of (kind_of due.call)) (kind_of due.call) row) due (known_by_success_of (kind_of due.call))
    m = is-marked row due (known_by_success_of (kind_of due.call)) entry case

    own : {X : Type 0} (x y : X) → cond (is_ok_status status && same_text name name) x y ≡ x
    own x y = ap (λ b. cond (b && same_text name name) x y) fine ∙ ap (λ b. cond b x y) (text-same name)
