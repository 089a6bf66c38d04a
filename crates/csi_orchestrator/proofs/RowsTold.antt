-- A row is told by a history: by calls that were sent, and answered or given up, and by what was noted. What is kept of the history grows
-- with it, where each call fits.
use Rattle.csi_orchestrator.proofs.Words.{◌≡◌, ◌≢◌, ◌+◌, ℕ, List, [], ◌∷◌, Bool, true, false, cond, refl, sym, ◌∙◌, ap}
use Rattle.csi_orchestrator.proofs.Words.{subst, inl, arith, Option, Some, None, option_or, IsAmong, Call, Party}
use Rattle.csi_orchestrator.proofs.Words.{Number, same_text, Thing, Attached, Known, No, Maybe, Issued, name_in}
use Rattle.csi_orchestrator.proofs.Words.{thing_at, is_thing, is_doing, History, with_items, Sent, Accepted, Closed}
use Rattle.csi_orchestrator.proofs.Words.{Noted, held_by_call, id_of, issued_in, last_number, open_call, IsOfName}
use Rattle.csi_orchestrator.proofs.Words.{IsNextNumber, IsWellFormed, OrchestratorView, Agrees, NodeEntryShown}
use Rattle.csi_orchestrator.proofs.Words.{RowShown, mark_of, held_on_node, after_sent, after_accepted, after_closed}
use Rattle.csi_orchestrator.proofs.Words.{after_noted, known_by_success, id_brought}
use Rattle.csi_orchestrator.proofs.Lemmas.{le-ltb, lt-ltb, eq-eqb}
use Rattle.csi_types.specs.declared.status.Status.TheVariants.{Ok}
use Rattle.csi_orchestrator.specs.declared.request.Arguments.{Arguments}
use Rattle.csi_orchestrator.specs.Model.History.{Goal}
use Rattle.csi_orchestrator.proofs.TextLists.{text-same}
use Rattle.csi_orchestrator.proofs.RowViews.{Reads, SameAt, same-then, same-sent, same-accepted, same-closed, same-noted}
use Rattle.csi_orchestrator.proofs.FirstEntries.{still}
use Rattle.csi_orchestrator.proofs.ViewFollowed.{view-follows}

-- what is kept of a history grows with it, where each call that is sent for a name with this id fits, as does the id that its success brings
pub record Keeps (P : History → Type 0) (Fits : Option ℕ → List ℕ → Party → Call → Option ℕ → Type 0) : Type 0 where
  pub noted : (history : History) (name : List ℕ) (goal : Option Goal) → P history → P (with_items history (Noted name goal ∷ []))
  pub closed : (history : History) (number : Number) → P history → P (with_items history (Closed number ∷ []))
  pub sent : (history : History) (issued : Issued) (id brought : Option ℕ) → Fits id issued.name issued.party issued.call brought → id_of history issued.name ≡ id → IsNextNumber (last_number history) issued.number → P history
      → P (with_items history (Sent issued ∷ []))
  pub accepted : (history : History) (issued : Issued) (id brought : Option ℕ) → Fits id issued.name issued.party issued.call brought → IsAmong issued (issued_in history.items) → P history
      → P (with_items history (Accepted issued.number Ok brought ∷ []))

-- a history of which this is kept tells the row, and of other names what is shown beside it; it is in the same session, with the same nodes
pub record IsTold (P : History → Type 0) (rest : OrchestratorView) (row : RowShown) : Type 0 where
  pub view : OrchestratorView
  pub history : History
  pub form : IsWellFormed history
  pub agrees : Agrees view history
  pub same_nodes : view.nodes ≡ rest.nodes
  pub same_session : view.last.session ≡ rest.last.session
  pub reads : Reads row view row.name
  pub others : (other : List ℕ) → same_text row.name other ≡ false → SameAt view rest other
  pub kept : P history

-- of its own name
pub own : {X : Type 0} (name : List ℕ) (x y : X) → cond (same_text name name) x y ≡ x
own name x y = ap (λ b. cond b x y) (text-same name)

-- the number after one
abbrev number_after : Number → Number
number_after last = record { session = last.session; call = last.call + 1 }

-- it comes next
next-number : (last : Number) → IsNextNumber last (number_after last)
next-number last = grind (arith, le-ltb, eq-eqb, lt-ltb)

-- ---- a call that is sent

-- the call
abbrev pub call_now : OrchestratorView → List ℕ → Party → Call → Issued
call_now view name party call = record { name = name; number = number_after view.last; party = party; call = call }

-- it detaches nothing
abbrev pub DetachesNothing : List ℕ → Party → Call → Type 0
DetachesNothing name party call = (node : List ℕ) → is_thing (Attached name node) (thing_at name party call) ≡ true → is_doing call ≡ false → ⊥

-- it was sent, and is open
pub record IsSentNow (P : History → Type 0) (view : OrchestratorView) (history : History) (issued : Issued) : Type 0 where
  pub form : IsWellFormed (with_items history (Sent issued ∷ []))
  pub agrees : Agrees (after_sent issued view) (with_items history (Sent issued ∷ []))
  pub is_open : open_call (with_items history (Sent issued ∷ [])) issued.name ≡ Some issued
  pub kept : P (with_items history (Sent issued ∷ []))

-- what is known once it was answered OK, or given up, and the id then
abbrev pub known_then : Bool → Call → Known
known_then ok call = cond ok (known_by_success call) Maybe

-- the id of its name then
abbrev pub id_then : Bool → Call → Option ℕ → Option ℕ → Option ℕ
id_then ok call brought id = cond ok (option_or (id_brought call brought) id) id

-- what is known of what the call touches, over what was known before
over : (b : Bool) (known mid was now : Known) → was ≡ now → cond b known was ≡ cond b known (cond b mid now)
over true known mid was now e = refl
over false known mid was now e = e

module _ (P : History → Type 0) (Fits : Option ℕ → List ℕ → Party → Call → Option ℕ → Type 0) (keeps : Keeps P Fits) (rest : OrchestratorView) where
  -- whatever is sent for a row that is told
  pub sent-now : (row : RowShown) (told : IsTold P rest row) (party : Party) (call : Call) (brought : Option ℕ) → IsOfName row.name call → DetachesNothing row.name party call → Fits row.id row.name party call brought
      → IsSentNow P told.view told.history (call_now told.view row.name party call)
  sent-now row told party call brought named quiet fits =
      record {
        form = ((next, named), told.form);
        agrees = now;
        is_open = sym (now.same_open_calls row.name) ∙ own row.name (Some issued) ((told.view).open_calls row.name);
        kept = keeps.sent told.history issued row.id brought fits (sym ((told.agrees).same_ids row.name) ∙ sym (told.reads).ids) next told.kept;
      }
    where
      issued : Issued
      issued = call_now told.view row.name party call

      next : IsNextNumber (last_number told.history) (number_after (told.view).last)
      next = subst (λ l. IsNextNumber l (number_after (told.view).last)) (told.agrees).same_last (next-number (told.view).last)

      now : Agrees (after_sent issued told.view) (with_items told.history (Sent issued ∷ []))
      now = view-follows.sent told.view told.history issued told.form told.agrees next (λ node touched undoing. absurd (quiet node touched undoing))

  module _ (name : List ℕ) (arguments : Arguments) where
    -- of a name that has no open call what is wanted is dropped
    pub dropped : (id : Option ℕ) (exists : Known) (entries : List NodeEntryShown) (view : OrchestratorView) (history : History) → IsWellFormed history → Agrees view history → P history → view.nodes ≡ rest.nodes
        → view.last.session ≡ rest.last.session → ((other : List ℕ) → same_text name other ≡ false → SameAt view rest other)
        → ((thing : Thing) → name_in thing ≡ name → mark_of thing (still name arguments id exists entries) ≡ view.marks thing) → id ≡ view.ids name → Some arguments ≡ view.arguments name
        → ((node : List ℕ) → mark_of (Attached name node) (still name arguments id exists entries) ≢ No → held_on_node (still name arguments id exists entries) node ≡ view.holdings name node) → None ≡ view.open_calls name
        → IsTold P rest (still name arguments id exists entries)
    dropped id exists entries view history form agrees kept nodes session others marks ids of_name holdings open_calls =
        record {
          view = after_noted name None view;
          history = with_items history (Noted name None ∷ []);
          form = (tt, form);
          agrees = view-follows.noted view history name None agrees;
          same_nodes = nodes;
          same_session = session;
          reads =
              record {
                own = refl;
                there = own name true (view.rows name);
                marks = marks;
                ids = ids;
                goals = sym (own name None (view.goals name));
                arguments = of_name ∙ sym (own name (view.arguments name) (view.arguments name));
                holdings = holdings;
                open_calls = open_calls;
                counts = sym (own name 0 (view.counts name));
              };
          others = λ other e. same-then _ _ _ other (same-noted name None view other e) (others other e);
          kept = keeps.noted history name None kept;
        }

    -- a call is sent where nothing is wanted, and is answered OK or given up
    pub asked : (ok : Bool) (id after_id : Option ℕ) (was now : Known) (before after : List NodeEntryShown) (party : Party) (call : Call) (brought : Option ℕ) → after_id ≡ id_then ok call brought id → IsOfName name call
        → DetachesNothing name party call
        → ((thing : Thing) → name_in thing ≡ name
        → mark_of thing (still name arguments after_id now after) ≡ cond (is_thing thing (thing_at name party call)) (known_then ok call) (mark_of thing (still name arguments id was before)))
        → ((view : OrchestratorView) → Reads (still name arguments id was before) view name → (node : List ℕ) → mark_of (Attached name node) (still name arguments after_id now after) ≢ No
        → held_on_node (still name arguments after_id now after) node ≡ option_or (held_by_call node call) (view.holdings name node))
        → Fits id name party call brought → IsTold P rest (still name arguments id was before) → IsTold P rest (still name arguments after_id now after)
    asked ok id after_id was now before after party call brought is named quiet marks holds fits told = by ok is marks
      where
        view : OrchestratorView
        view = told.view

        reads : Reads (still name arguments id was before) view name
        reads = told.reads

        issued : Issued
        issued = call_now view name party call

        sent : IsSentNow P view told.history issued
        sent = sent-now (still name arguments id was before) told party call brought named quiet fits

        held : (node : List ℕ) → mark_of (Attached name node) (still name arguments after_id now after) ≢ No → held_on_node (still name arguments after_id now after) node ≡ (after_sent issued view).holdings name node
        held node maybe = holds view reads node maybe ∙ sym (own name (option_or (held_by_call node call) (view.holdings name node)) (view.holdings name node))

        by : (b : Bool) → after_id ≡ id_then b call brought id
            → ((thing : Thing) → name_in thing ≡ name → mark_of thing (still name arguments after_id now after) ≡ cond (is_thing thing (thing_at name party call)) (known_then b call) (mark_of thing (still name arguments id was before)))
            → IsTold P rest (still name arguments after_id now after)
        by true is marks =
            dropped after_id now after (after_accepted issued Ok brought (after_sent issued view)) (with_items (with_items told.history (Sent issued ∷ [])) (Accepted issued.number Ok brought ∷ []))
            (record { name = name; issued = issued; is_open = sent.is_open; has_number = refl }, sent.form) (view-follows.accepted _ _ issued Ok brought sent.form sent.agrees sent.is_open) (keeps.accepted _ issued id brought fits (inl refl) sent.kept)
            told.same_nodes told.same_session (λ other e. same-then _ _ _ other (same-accepted issued Ok brought (after_sent issued view) other e) (same-then _ _ _ other (same-sent issued view other e) (told.others other e)))
            (λ thing at. marks thing at ∙ over (is_thing thing (thing_at name party call)) (known_by_success call) Maybe (mark_of thing (still name arguments id was before)) (view.marks thing) (reads.marks thing at))
            (is ∙ ap (option_or (id_brought call brought)) reads.ids ∙ sym (own name (option_or (id_brought call brought) (view.ids name)) (view.ids name))) reads.arguments held (sym (own name None ((after_sent issued view).open_calls name)))
        by false is marks =
            dropped after_id now after (after_closed issued (after_sent issued view)) (with_items (with_items told.history (Sent issued ∷ [])) (Closed issued.number ∷ []))
            (record { name = name; issued = issued; is_open = sent.is_open; has_number = refl }, sent.form) (view-follows.closed _ _ issued sent.form sent.agrees sent.is_open) (keeps.closed _ issued.number sent.kept)
            told.same_nodes told.same_session (λ other e. same-then _ _ _ other (same-closed issued (after_sent issued view) other e) (same-then _ _ _ other (same-sent issued view other e) (told.others other e)))
            (λ thing at. marks thing at ∙ ap (cond (is_thing thing (thing_at name party call)) Maybe) (reads.marks thing at)) (is ∙ reads.ids) reads.arguments held (sym (own name None ((after_sent issued view).open_calls name)))
