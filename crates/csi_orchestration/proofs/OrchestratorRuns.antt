-- Two runs of an orchestrator are one run of the stated machine, with a restart between, and so are three.
use Rattle.std.proofs.Common.{◌≡◌, ◌∙◌, sym, ap, subst, inl, inr, refl, ℕ, ◌+◌, ◌-◌, List, [], ◌∷◌, Bool, true, false, cond, map, arith}
use Rattle.std.specs.Prelude.{Option, None, nat_lt}
use Rattle.std.proofs.lemmas.Bool.Decides.{nat_tests}
use Rattle.csi_orchestrator.specs.Model.History.{History, Started, new_history, with_items}
use Rattle.csi_orchestrator.specs.Model.Shown.{OrchestratorParts, Shows}
use Rattle.csi_orchestrator.specs.Public.Laws.{MovesKeepForm, RecordsLaw, opened_parts}
use Rattle.csi_orchestrator.specs.Public.Raised.{raised_session, raised_record, raised_history}
use Rattle.csi_orchestrator.specs.Public.Record.{RecordParts}
use Rattle.csi_orchestrator.specs.Public.Restored.{AreRestorable}
use Rattle.csi_orchestrator.specs.Public.Shown.{closed}
use Rattle.csi_orchestrator.specs.Public.Sound.{HasHistory}
use Rattle.csi_stores.specs.Public.Part.{StoredPart}
use Rattle.csi_stores.specs.Public.Stores.{Store}
use Rattle.csi_records.specs.Public.OrchestratorRecords.{keyed_from, orchestrator_layout, IsOrchestratorOf}
use Rattle.csi_records.specs.Public.Spelling.{present}
use Rattle.csi_records.proofs.KeyedRows.{keyed-same}
use Rattle.csi_records.proofs.Layouts.{parts-same}
use Rattle.csi_records.proofs.OrchestratorLayouts.{orchestrator_one}
use Rattle.csi_service.specs.Public.OrchestratorOpening.{new_record, raised_before, opening_refusal, IsOpenedFrom}
use Rattle.csi_service.specs.Public.OrchestratorServices.{kept_of}
use Rattle.csi_orchestration.specs.declared.orchestrator_responder.OrchestratorResponder.{OrchestratorResponder}
use Rattle.csi_orchestration.specs.Public.LinesRuns.{LinesRunsLaw}
use Rattle.csi_orchestration.specs.Public.OrchestratorHistories.{first_history, OrchestratorRunsLaw, OrchestratorThreeRunsLaw}
use Rattle.csi_orchestration.specs.Public.OrchestratorResponding.{HasItsRecord, OpensResponder, responder_parts}
use Rattle.csi_orchestration.specs.Public.Running.{orchestrator_setting}
use Rattle.csi_orchestration.proofs.OrchestratorHistories.{each-goes, restart-goes}

-- parts are one record's
one-record : (parts : List StoredPart) (one other : RecordParts) → IsOrchestratorOf present parts one → IsOrchestratorOf present parts other → one ≡ other
one-record parts one other spelled also =
    let same = parts-same (orchestrator_layout present) (orchestrator_one present) _ _ (keyed_from 1 one.rows) (keyed_from 1 other.rows) parts spelled also in
    let rows = keyed-same 1 one.rows other.rows same.1 in
    λ i. record { nodes = (same.0 i).nodes; session = (same.0 i).session; rows = rows i }

-- a head is there
not-empty : (head : StoredPart) (rest : List StoredPart) → head ∷ rest ≡ [] → ⊥
not-empty head rest e = absurd (cc)

-- a session that was raised is raised by itself as it was
raised-again : (session last : ℕ) → raised_session (raised_session session last) last ≡ raised_session session last
raised-again session last = by (nat_lt last session) refl
  where
    same : (b : Bool) → cond b last last ≡ last
    same true = refl
    same false = refl

    by : (b : Bool) → nat_lt last session ≡ b → raised_session (cond b session last) last ≡ cond b session last
    by true later = ap (λ (b : Bool). cond b session last) later
    by false not_later = same (nat_lt last last)

-- the session before the next one
one-before : (session last : ℕ) → session ≡ last + 1 → session - 1 ≡ last
one-before session last next = omega (arith, next)

-- what is opened from the parts of one is the one that its record is opened as, raised to the session before, with nodes with which that isn't refused
record ReopensAs (left again : OrchestratorResponder) (session : ℕ) : Type 0 where
  is : again.service.orchestrator ≡ opened_parts (raised_record session (kept_of left.service.orchestrator)) again.service.orchestrator.nodes
  unrefused : opening_refusal (raised_record session (kept_of left.service.orchestrator)) again.service.orchestrator.nodes ≡ None

reopened : (left again : OrchestratorResponder) → HasItsRecord left → OpensResponder (responder_parts left) again → ReopensAs left again (again.service.orchestrator.last.session - 1)
reopened left again its opens = by opens.opened.from
  where
    kept : RecordParts
    kept = opens.opened.kept

    own : RecordParts
    own = kept_of left.service.orchestrator

    raised : ℕ
    raised = raised_session (opens.least - 1) own.session

    by : IsOpenedFrom (responder_parts left) kept → ReopensAs left again (again.service.orchestrator.last.session - 1)
    by (inl new) = absurd (not-empty _ _ new.0)
    by (inr read) =
        let same = one-record (responder_parts left) kept own read its in
        let is : again.service.orchestrator ≡ opened_parts (raised_before opens.least own) again.service.orchestrator.nodes =
        opens.opened.is ∙ ap (λ (r : RecordParts). opened_parts (raised_before opens.least r) again.service.orchestrator.nodes) same in
        let unrefused = subst (λ (r : RecordParts). opening_refusal (raised_before opens.least r) again.service.orchestrator.nodes ≡ None) same opens.opened.unrefused in
        let before : again.service.orchestrator.last.session - 1 ≡ raised = one-before again.service.orchestrator.last.session raised (ap (λ (o : OrchestratorParts). o.last.session) is) in
        let session : raised_session (again.service.orchestrator.last.session - 1) own.session ≡ raised =
        ap (λ (n : ℕ). raised_session n own.session) before ∙ raised-again (opens.least - 1) own.session in
        record {
          is = is ∙ ap (λ (n : ℕ). opened_parts (record own { session = n }) again.service.orchestrator.nodes) (sym session);
          unrefused = subst (λ (n : ℕ). opening_refusal (record own { session = n }) again.service.orchestrator.nodes ≡ None) (sym session) unrefused;
        }

-- the rows of its record keep the rules
its-rules : (responder : OrchestratorResponder) → HasItsRecord responder → AreRestorable responder.service.orchestrator.nodes (map closed responder.service.orchestrator.rows)
its-rules responder its =
    let kept = kept_of responder.service.orchestrator in
    subst (AreRestorable kept.nodes) (sym (keyed-same 1 kept.rows its.rules.rows its.rules.places)) its.rules.rules

-- what was opened has a history
has-history : RecordsLaw → (content : List StoredPart) (responder : OrchestratorResponder) → OpensResponder content responder → HasHistory responder.service.orchestrator
has-history law content responder opens =
    subst HasHistory (sym opens.opened.is) (law (raised_before opens.least kept) responder.service.orchestrator.nodes (rules opens.opened.from) opens.opened.unrefused)
  where
    kept : RecordParts
    kept = opens.opened.kept

    none : AreRestorable [] []
    none = record { few = omega arith; names = tt; each = tt }

    rules : IsOpenedFrom content kept → AreRestorable kept.nodes kept.rows
    rules (inl new) = subst (λ (r : RecordParts). AreRestorable r.nodes r.rows) (sym new.1) none
    rules (inr read) = subst (AreRestorable kept.nodes) (sym (keyed-same 1 kept.rows read.rules.rows read.rules.places)) read.rules.rules

-- a new orchestrator shows a new history
new-shown : (nodes : List (List ℕ)) → Shows (opened_parts new_record nodes) (new_history nodes)
new-shown nodes = record {
  same_nodes = refl;
  same_last = refl;
  same_rows = λ name. refl;
  same_marks = λ thing. refl;
  same_ids = λ name. refl;
  same_goals = λ name. refl;
  same_arguments = λ name. refl;
  same_holdings = λ name node there. refl;
  same_open_calls = λ name. refl;
  same_counts = λ name. refl;
}

-- in each session
first-shown : (before : ℕ) (nodes : List (List ℕ)) → Shows (opened_parts (record { nodes = []; session = before; rows = [] }) nodes) (raised_history (before + 1) (new_history nodes))
first-shown before nodes = by (nat_lt 1 (before + 1)) refl
  where
    begun : History
    begun = with_items (new_history nodes) (Started (before + 1) nodes ∷ [])

    by : (b : Bool) → nat_lt 1 (before + 1) ≡ b → Shows (opened_parts (record { nodes = []; session = before; rows = [] }) nodes) (cond b begun (new_history nodes))
    by true later = record {
      same_nodes = refl;
      same_last = refl;
      same_rows = λ name. refl;
      same_marks = λ thing. refl;
      same_ids = λ name. refl;
      same_goals = λ name. refl;
      same_arguments = λ name. refl;
      same_holdings = λ name node there. refl;
      same_open_calls = λ name. refl;
      same_counts = λ name. refl;
    }
    by false first =
        let none : before ≡ 0 = grind (arith, nat_tests) in
        subst (λ (n : ℕ). Shows (opened_parts (record { nodes = []; session = n; rows = [] }) nodes) (new_history nodes)) (sym none) (new-shown nodes)

-- what is opened of an empty store is a new one
shows-new : (content : List StoredPart) (responder : OrchestratorResponder) → OpensResponder content responder → content ≡ []
    → Shows responder.service.orchestrator (first_history responder.service.orchestrator)
shows-new content responder opens none = by opens.opened.from
  where
    kept : RecordParts
    kept = opens.opened.kept

    nodes : List (List ℕ)
    nodes = responder.service.orchestrator.nodes

    before : ℕ
    before = raised_session (opens.least - 1) 0

    by : IsOpenedFrom content kept → Shows responder.service.orchestrator (first_history responder.service.orchestrator)
    by (inl new) =
        let is : responder.service.orchestrator ≡ opened_parts (record { nodes = []; session = before; rows = [] }) nodes =
        opens.opened.is ∙ ap (λ (r : RecordParts). opened_parts (raised_before opens.least r) nodes) new.1 in
        subst (λ (o : OrchestratorParts). Shows o (raised_history o.last.session (new_history nodes))) (sym is) (first-shown before nodes)
    by (inr read) = absurd (not-empty _ _ (sym read.are ∙ none))

-- by the law of two runs
pub one-history : {K L R W : Type 0} (seen : K → Store) (seen_too : L → Store) (remaining : R → Option (List ℕ)) (contents : W → Option (List ℕ)) → MovesKeepForm → RecordsLaw
    → LinesRunsLaw (orchestrator_setting seen remaining contents) seen_too → OrchestratorRunsLaw seen seen_too remaining contents
one-history seen seen_too remaining contents keeps records law before between again after content r r_read s s_read w w_written v v_written result result_too honest honest_too holds one reopens two =
    let run = law before between again after content r r_read s s_read w w_written v v_written result result_too honest honest_too holds one reopens two in (
      run,
      has-history records content one.responder run.opened,
      shows-new content one.responder run.opened,
      λ history form shown.
          let first = each-goes keeps one.responder _ _ run.left history run.runs run.opened.fit run.opened.its run.opened.restarts form shown in
          let left = run.left.service.orchestrator in
          let nodes = two.responder.service.orchestrator.nodes in
          let opened = reopened run.left two.responder first.its run.reopened in
          let on = restart-goes keeps left first.next (two.responder.service.orchestrator.last.session - 1) nodes first.form first.shown (its-rules run.left first.its) first.restarts opened.unrefused in
          let begun_shown = subst (λ (o : OrchestratorParts). Shows o on.next) (sym opened.is) on.shown in
          let second = each-goes keeps two.responder _ _ two.served.serves.now on.next run.goes_on run.reopened.fit run.reopened.its run.reopened.restarts on.form begun_shown in
          record {
            came = first.next;
            first = first.are;
            begun = on.next;
            restarts = on.is;
            begun_form = on.form;
            begun_shown = begun_shown;
            last = second.next;
            second = second.are;
            shown = second.shown;
          },
    )

-- and twice by that: the third run goes on from the history with which the second began
pub three-histories : {K L M R W : Type 0} (seen : K → Store) (seen_too : L → Store) (seen_last : M → Store) (remaining : R → Option (List ℕ)) (contents : W → Option (List ℕ))
    → OrchestratorRunsLaw seen seen_too remaining contents → OrchestratorRunsLaw seen_too seen_last remaining contents → OrchestratorThreeRunsLaw seen seen_too seen_last remaining contents
three-histories seen seen_too seen_last remaining contents law later before between again left anew after content r r_read s s_read t t_read w w_written v v_written u u_written result result_too result_last honest honest_too honest_last holds one reopens two
    reopens_too three =
    let first = law before between again left content r r_read s s_read w w_written v v_written result result_too honest honest_too holds one reopens two in
    let second = later again left anew after (responder_parts first.0.left) s s_read t t_read v v_written u u_written result_too result_last honest_too honest_last first.0.found two reopens_too three in (
      first.0,
      second.0,
      first.1,
      first.2,
      λ history form shown.
          let begins = first.3 history form shown in
          (begins, second.3 begins.begun begins.begun_form begins.begun_shown),
    )
