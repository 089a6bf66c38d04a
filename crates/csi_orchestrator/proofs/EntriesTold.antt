-- The entries of a row, its volume and what is wanted of it come to be told, one call after another, where each call fits.
use Rattle.csi_orchestrator.proofs.Words.{◌≡◌, ◌≢◌, ◌≤◌, ◌+◌, ℕ, zero, suc, List, [], ◌∷◌, Bool, true, false, cond}
use Rattle.csi_orchestrator.proofs.Words.{refl, sym, ◌∙◌, ap, subst, arith, Option, Some, None, find, min, option_map}
use Rattle.csi_orchestrator.proofs.Words.{AllByRecursion, option_or, Call, Party, Controller, Node, Capability}
use Rattle.csi_orchestrator.proofs.Words.{same_text, Goal, Create, Use, Stop, Delete, TargetEntry, Thing, Exists}
use Rattle.csi_orchestrator.proofs.Words.{Attached, Known, Yes, No, Maybe, Issued, name_in, same_thing, is_thing}
use Rattle.csi_orchestrator.proofs.Words.{thing_at, Held, History, with_items, Sent, Closed, Noted, held_by_call}
use Rattle.csi_orchestrator.proofs.Words.{arguments_in_goal, IsOfName, IsWellFormed, OrchestratorView, Agrees}
use Rattle.csi_orchestrator.proofs.Words.{NodeEntryShown, RowShown, mark_in, mark_of, held_on_node, held_at, goal_shown}
use Rattle.csi_orchestrator.proofs.Words.{IsRestorable, AreTargetsApart, Aspect, Existence, Attachment, Staging}
use Rattle.csi_orchestrator.proofs.Words.{Publication, target_marked, node_marked, HasTries, IsStanding, after_sent}
use Rattle.csi_orchestrator.proofs.Words.{after_closed, after_noted}
use Rattle.csi_orchestrator.proofs.Lemmas.{false≢true, each-weaker}
use Rattle.csi_types.specs.declared.call.Call.TheVariants as calls
use Rattle.csi_orchestrator.specs.declared.request.Arguments.{Arguments}
use Rattle.csi_orchestrator.specs.Model.History.{Create as Creating}
use Rattle.csi_orchestrator.specs.Public.Shown.{AreNodesApart}
use Rattle.csi_orchestrator.proofs.TextLists.{text-same, same_text-flip}
use Rattle.csi_orchestrator.proofs.SplitLists.{find-of_none}
use Rattle.csi_orchestrator.proofs.RowViews.{Reads, same-then, same-sent, same-closed, same-noted}
use Rattle.csi_orchestrator.proofs.EntryRules.{HaveDistinctKeys}
use Rattle.csi_orchestrator.proofs.FirstEntries.{still, entry_of, target_of, targeted, more-marks, target-marks, held-front}
use Rattle.csi_orchestrator.proofs.RowMarks.{HasSpot, front-marked}
use Rattle.csi_orchestrator.proofs.RowsAfterSending.{mark-same}
use Rattle.csi_orchestrator.proofs.FewRows.{few-tries}
use Rattle.csi_orchestrator.proofs.RowsTold.{Keeps, IsTold, DetachesNothing, own, call_now, IsSentNow, sent-now, dropped, asked}
use Rattle.csi_orchestrator.proofs.ViewFollowed.{view-follows}

-- none of a list is of the text of one from which all are apart
none-of : {X : Type 0} (key : X → List ℕ) (x : X) (xs : List X) → AllByRecursion (λ y. same_text (key x) (key y) ≡ false) xs → find (λ y. same_text (key y) (key x)) xs ≡ None
none-of key x xs apart = find-of_none (λ y. same_text (key y) (key x)) xs (each-weaker (λ y. same_text (key x) (key y) ≡ false) (λ y. same_text (key y) (key x) ≡ false) xs (λ y f. same_text-flip (key y) (key x) ∙ f) apart)

-- ---- calls that fit

-- what may be so isn't known not to be so, nor what is so
yes-no : Yes ≢ No
yes-no e = cc

maybe-no : Maybe ≢ No
maybe-no e = cc

maybe-yes : Maybe ≢ Yes
maybe-yes e = cc

no-yes : No ≢ Yes
no-yes e = cc

module _ (Fits : Option ℕ → List ℕ → Party → Call → Option ℕ → Type 0) (name : List ℕ) (id : Option ℕ) where
  -- the call by which an aspect of an entry is so, or may be
  abbrev pub CallFits : Aspect → List ℕ → NodeEntryShown → Type 0
  CallFits Existence target entry = ⊥
  CallFits Attachment target entry = (number : ℕ) × Fits id name Controller (calls.ControllerPublishVolume number entry.node entry.capability entry.readonly) None
  CallFits Staging target entry = (number : ℕ) × ((capability : Capability) × Fits id name (Node entry.node) (calls.NodeStageVolume number capability) None)
  CallFits Publication target entry =
      (number : ℕ) × ((capability : Capability) × ((readonly : Bool) × Fits id name (Node entry.node) (calls.NodePublishVolume number target capability readonly) None))

  -- those of a target, and of an entry
  abbrev pub TargetFits : NodeEntryShown → TargetEntry → Type 0
  TargetFits entry t = t.published ≢ No → CallFits Publication t.target entry

  pub record EntryFits (entry : NodeEntryShown) : Type 0 where
    pub attaches : entry.attached ≢ No → CallFits Attachment [] entry
    pub stages : entry.staged ≢ No → CallFits Staging [] entry
    pub targets : AllByRecursion (TargetFits entry) entry.target_entries

  -- a call that was sent for a row again and again, and told nothing: what it touches may be so or not
  pub record IsTried (row : RowShown) : Type 0 where
    pub party : Party
    pub call : Call
    pub named : IsOfName name call
    pub detaches : DetachesNothing name party call
    pub holds : (node : List ℕ) → held_by_call node call ≡ None
    pub marks : (thing : Thing) → is_thing thing (thing_at name party call) ≡ true → mark_of thing row ≡ Maybe
    pub fits : Fits id name party call None

-- all calls of a row fit
pub record RowFits (Fits : Option ℕ → List ℕ → Party → Call → Option ℕ → Type 0) (row : RowShown) : Type 0 where
  pub creates : Fits None row.name Controller (calls.CreateVolume row.name row.arguments.required row.arguments.limit row.arguments.capabilities) row.id
  pub deletes : row.exists ≢ Yes → (number : ℕ) × Fits row.id row.name Controller (calls.DeleteVolume number) None
  pub entries : AllByRecursion (EntryFits Fits row.name row.id) row.node_entries
  pub tried : (n : ℕ) → row.tries ≡ suc n → IsTried Fits row.name row.id (still row.name row.arguments row.id row.exists row.node_entries)

-- the arguments stay those that are told
arguments-noted : (goal : Goal) (arguments : Arguments) (o : Option Arguments) → Some arguments ≡ o → Some arguments ≡ option_or (arguments_in_goal (Some (goal_shown arguments goal))) o
arguments-noted Create arguments o e = refl
arguments-noted goal arguments o e = e

-- an id that a call leaves
same-id : (ok : Bool) (id : Option ℕ) → id ≡ cond ok id id
same-id true id = refl
same-id false id = refl

-- the row with this goal, which was tried so often
abbrev wanting : Goal → ℕ → RowShown → RowShown
wanting goal tries row = record { name = row.name; arguments = row.arguments; id = row.id; exists = row.exists; goal = Some goal; open_call = None; tries = tries; node_entries = row.node_entries }

-- nothing is shown of its name
pub record IsUnknown (view : OrchestratorView) (name : List ℕ) : Type 0 where
  pub marks : (thing : Thing) → name_in thing ≡ name → view.marks thing ≡ No
  pub ids : view.ids name ≡ None
  pub open_calls : view.open_calls name ≡ None

-- what is known of a volume
exist-marks : (name : List ℕ) (arguments : Arguments) (id after : Option ℕ) (was now : Known) (thing : Thing) → name_in thing ≡ name
    → mark_of thing (still name arguments after now []) ≡ cond (same_thing thing (Exists name)) now (mark_of thing (still name arguments id was []))
exist-marks name arguments id after was now (Exists m) is = sym (ap (λ b. cond b now was) (subst (λ n. same_text m n ≡ true) is (text-same m)))
exist-marks name arguments id after was now thing is = refl

module _ (P : History → Type 0) (Fits : Option ℕ → List ℕ → Party → Call → Option ℕ → Type 0) (keeps : Keeps P Fits) (rest : OrchestratorView) (name : List ℕ) (arguments : Arguments) where
  module _ (id : Option ℕ) (exists : Known) where
    -- ---- an entry

    -- the row with these entries
    abbrev row : List NodeEntryShown → RowShown
    row entries = still name arguments id exists entries

    -- entries of which the same is known are told too
    told-alike : (old new : List NodeEntryShown) → ((thing : Thing) → mark_of thing (row new) ≡ mark_of thing (row old))
        → ((there : List ℕ) → mark_of (Attached name there) (row new) ≢ No → held_on_node (row new) there ≡ held_on_node (row old) there) → IsTold P rest (row old) → IsTold P rest (row new)
    told-alike old new same held told =
        record {
          view = told.view;
          history = told.history;
          form = told.form;
          agrees = told.agrees;
          same_nodes = told.same_nodes;
          same_session = told.same_session;
          reads =
              record {
                own = refl;
                there = reads.there;
                marks = λ thing is. same thing ∙ reads.marks thing is;
                ids = reads.ids;
                goals = reads.goals;
                arguments = reads.arguments;
                holdings = λ there maybe. held there maybe ∙ reads.holdings there (λ e. maybe (same (Attached name there) ∙ e));
                open_calls = reads.open_calls;
                counts = reads.counts;
              };
          others = told.others;
          kept = told.kept;
        }
      where
        reads : Reads (row old) told.view name
        reads = told.reads

    -- one more, of which nothing is known
    told-more : (node : List ℕ) (capability : Capability) (readonly : Bool) (later : List NodeEntryShown) → find (λ (e : NodeEntryShown). same_text e.node node) later ≡ None → IsTold P rest (row later)
        → IsTold P rest (row (entry_of node capability readonly No No [] ∷ later))
    told-more node capability readonly later none told =
        told-alike later (new ∷ later) (more-marks name arguments id exists node capability readonly later none) (λ there. held there (same_text node there)) told
      where
        new : NodeEntryShown
        new = entry_of node capability readonly No No []

        held : (there : List ℕ) (b : Bool) → mark_in (λ (e : NodeEntryShown). e.attached) (cond b (Some new) (find (λ (e : NodeEntryShown). same_text e.node there) later)) ≢ No
            → option_map held_at (cond b (Some new) (find (λ (e : NodeEntryShown). same_text e.node there) later)) ≡ option_map held_at (find (λ (e : NodeEntryShown). same_text e.node there) later)
        held there true maybe = absurd (maybe refl)
        held there false maybe = refl

    -- how it is held once its attachment is marked
    attach-holds : (entry : NodeEntryShown) (later : List NodeEntryShown) (target : List ℕ) (known : Known) (number : ℕ) (view : OrchestratorView) → Reads (row (entry ∷ later)) view name → (there : List ℕ)
        → mark_of (Attached name there) (row (node_marked known Attachment target entry ∷ later)) ≢ No → held_on_node (row (node_marked known Attachment target entry ∷ later)) there
        ≡ option_or (held_by_call there (calls.ControllerPublishVolume number entry.node entry.capability entry.readonly)) (view.holdings name there)
    attach-holds entry later target known number view reads there maybe = by (same_text entry.node there) (λ m. reads.holdings there m) maybe
      where
        o : Option NodeEntryShown
        o = find (λ (e : NodeEntryShown). same_text e.node there) later

        new : NodeEntryShown
        new = node_marked known Attachment target entry

        h : Held
        h = record { capability = entry.capability; readonly = entry.readonly }

        by : (b : Bool) → (mark_in (λ (e : NodeEntryShown). e.attached) (cond b (Some entry) o) ≢ No → option_map held_at (cond b (Some entry) o) ≡ view.holdings name there)
            → mark_in (λ (e : NodeEntryShown). e.attached) (cond b (Some new) o) ≢ No → option_map held_at (cond b (Some new) o) ≡ option_or (cond b (Some h) None) (view.holdings name there)
        by true was m = refl
        by false was m = was m

    -- it is held as before where another aspect is marked
    still-held : (old new : NodeEntryShown) (later : List NodeEntryShown) → new.node ≡ old.node → held_at new ≡ held_at old
        → ((there : List ℕ) → mark_of (Attached name there) (row (new ∷ later)) ≡ mark_of (Attached name there) (row (old ∷ later)))
        → (view : OrchestratorView) → Reads (row (old ∷ later)) view name → (there : List ℕ) → mark_of (Attached name there) (row (new ∷ later)) ≢ No → held_on_node (row (new ∷ later)) there ≡ view.holdings name there
    still-held old new later of_node same marks view reads there maybe = held-front name arguments id exists old new later there of_node same ∙ reads.holdings there (λ e. maybe (marks there ∙ e))

    -- an aspect of it is done, or tried
    told-set : (ok : Bool) (entry : NodeEntryShown) (later : List NodeEntryShown) (aspect : Aspect) (target : List ℕ) → HasSpot aspect entry target → CallFits Fits name id aspect target entry → IsTold P rest (row (entry ∷ later))
        → IsTold P rest (row (node_marked (cond ok Yes Maybe) aspect target entry ∷ later))
    told-set ok entry later Existence target spot fits told = absurd spot
    told-set ok entry later Attachment target spot fits told =
        asked P Fits keeps rest name arguments ok id id exists exists (entry ∷ later) _ Controller (calls.ControllerPublishVolume fits.0 entry.node entry.capability entry.readonly) None (same-id ok id) tt
        (λ there touched undoing. false≢true (sym undoing)) (front-marked (row []) entry later target (cond ok Yes Maybe) Attachment spot) (attach-holds entry later target (cond ok Yes Maybe) fits.0) fits.1 told
    told-set ok entry later Staging target spot fits told =
        let marks = front-marked (row []) entry later target (cond ok Yes Maybe) Staging spot in
        asked P Fits keeps rest name arguments ok id id exists exists (entry ∷ later) _ (Node entry.node) (calls.NodeStageVolume fits.0 fits.1.0) None (same-id ok id) tt (λ there touched undoing. false≢true touched) marks
        (still-held entry (node_marked (cond ok Yes Maybe) Staging target entry) later refl refl (λ there. marks (Attached name there) refl)) fits.1.1 told
    told-set ok entry later Publication target spot fits told =
        let marks = front-marked (row []) entry later target (cond ok Yes Maybe) Publication spot in
        asked P Fits keeps rest name arguments ok id id exists exists (entry ∷ later) _ (Node entry.node) (calls.NodePublishVolume fits.0 target fits.1.0 fits.1.1.0) None (same-id ok id) tt (λ there touched undoing. false≢true touched) marks
        (still-held entry (node_marked (cond ok Yes Maybe) Publication target entry) later refl refl (λ there. marks (Attached name there) refl)) fits.1.1.1 told

    -- whatever is known of an aspect of which nothing was known
    told-marked : (entry : NodeEntryShown) (later : List NodeEntryShown) (aspect : Aspect) (target : List ℕ) (known : Known) → HasSpot aspect entry target → node_marked No aspect target entry ≡ entry
        → (known ≢ No → CallFits Fits name id aspect target entry) → IsTold P rest (row (entry ∷ later)) → IsTold P rest (row (node_marked known aspect target entry ∷ later))
    told-marked entry later aspect target Yes spot none fits told = told-set true entry later aspect target spot (fits yes-no) told
    told-marked entry later aspect target Maybe spot none fits told = told-set false entry later aspect target spot (fits maybe-no) told
    told-marked entry later aspect target No spot none fits told = subst (λ (e : NodeEntryShown). IsTold P rest (row (e ∷ later))) (sym none) told

    -- all targets
    told-targets : (entry : NodeEntryShown) (later : List NodeEntryShown) (targets : List TargetEntry) → HaveDistinctKeys (λ (t : TargetEntry). t.target) targets → AllByRecursion (TargetFits Fits name id entry) targets
        → IsTold P rest (row (targeted entry [] ∷ later)) → IsTold P rest (row (targeted entry targets ∷ later))
    told-targets entry later [] apart fits told = told
    told-targets entry later (t ∷ targets) apart fits told =
        subst (λ (ts : List TargetEntry). IsTold P rest (row (targeted entry ts ∷ later))) (set t.published)
        (told-marked (targeted entry (target_of t.target No ∷ targets)) later Publication t.target t.published (target_of t.target No, front) (ap (λ (ts : List TargetEntry). targeted entry ts) (set No)) fits.0
        (told-alike (targeted entry targets ∷ later) (targeted entry (target_of t.target No ∷ targets) ∷ later) (target-marks name arguments id exists entry targets later t.target none)
        (λ there maybe. held-front name arguments id exists (targeted entry targets) (targeted entry (target_of t.target No ∷ targets)) later there refl refl) (told-targets entry later targets apart.1 fits.1 told)))
      where
        set : (known : Known) → target_marked known t.target (target_of t.target No ∷ targets) ≡ target_of t.target known ∷ targets
        set known = ap (λ b. cond b (target_of t.target known ∷ targets) (target_of t.target No ∷ target_marked known t.target targets)) (text-same t.target)

        front : find (λ (u : TargetEntry). same_text u.target t.target) (target_of t.target No ∷ targets) ≡ Some (target_of t.target No)
        front = ap (λ b. cond b (Some (target_of t.target No)) (find (λ (u : TargetEntry). same_text u.target t.target) targets)) (text-same t.target)

        none : find (λ (u : TargetEntry). same_text u.target t.target) targets ≡ None
        none = none-of (λ (u : TargetEntry). u.target) t targets apart.0

    -- all entries
    told-entries : (entries : List NodeEntryShown) → AreNodesApart entries → AllByRecursion AreTargetsApart entries → AllByRecursion (EntryFits Fits name id) entries → IsTold P rest (row []) → IsTold P rest (row entries)
    told-entries [] apart targets fits told = told
    told-entries (e ∷ later) apart targets fits told =
        told-targets e later e.target_entries targets.0 fits.0.targets
        (told-marked (entry_of e.node e.capability e.readonly e.attached No []) later Staging [] e.staged tt refl fits.0.stages
        (told-marked (entry_of e.node e.capability e.readonly No No []) later Attachment [] e.attached tt refl fits.0.attaches
        (told-more e.node e.capability e.readonly later (none-of (λ (p : NodeEntryShown). p.node) e later apart.0) (told-entries later apart.1 targets.1 fits.1 told))))

    -- ---- what is wanted of it

    -- it is noted
    told-noted : (entries : List NodeEntryShown) (goal : Goal) → IsTold P rest (row entries) → IsTold P rest (wanting goal 0 (row entries))
    told-noted entries goal told =
        record {
          view = after_noted name (Some (goal_shown arguments goal)) view;
          history = with_items told.history (Noted name (Some (goal_shown arguments goal)) ∷ []);
          form = (tt, told.form);
          agrees = view-follows.noted view told.history name (Some (goal_shown arguments goal)) told.agrees;
          same_nodes = told.same_nodes;
          same_session = told.same_session;
          reads =
              record {
                own = refl;
                there = own name true (view.rows name);
                marks = λ thing is. mark-same thing (wanting goal 0 (row entries)) (row entries) refl refl ∙ reads.marks thing is;
                ids = reads.ids;
                goals = sym (own name (Some (goal_shown arguments goal)) (view.goals name));
                arguments = arguments-noted goal arguments (view.arguments name) reads.arguments ∙ sym (own name (option_or (arguments_in_goal (Some (goal_shown arguments goal))) (view.arguments name)) (view.arguments name));
                holdings = reads.holdings;
                open_calls = reads.open_calls;
                counts = sym (own name 0 (view.counts name));
              };
          others = λ other e. same-then _ _ _ other (same-noted name (Some (goal_shown arguments goal)) view other e) (told.others other e);
          kept = keeps.noted told.history name (Some (goal_shown arguments goal)) told.kept;
        }
      where
        view : OrchestratorView
        view = told.view

        reads : Reads (row entries) view name
        reads = told.reads

    -- a call is sent for it that tells nothing, and is given up
    told-tried : (entries : List NodeEntryShown) (goal : Goal) (tries : ℕ) → IsTried Fits name id (row entries) → IsTold P rest (wanting goal tries (row entries)) → IsTold P rest (wanting goal (min 3 (1 + tries)) (row entries))
    told-tried entries goal tries tried told =
        record {
          view = after_closed issued (after_sent issued view);
          history = with_items (with_items told.history (Sent issued ∷ [])) (Closed issued.number ∷ []);
          form = (record { name = name; issued = issued; is_open = sent.is_open; has_number = refl }, sent.form);
          agrees = view-follows.closed _ _ issued sent.form sent.agrees sent.is_open;
          same_nodes = told.same_nodes;
          same_session = told.same_session;
          reads =
              record {
                own = refl;
                there = reads.there;
                marks = λ thing is. mark-same thing (wanting goal (min 3 (1 + tries)) (row entries)) (row entries) refl refl ∙ marked thing (is_thing thing (thing_at name tried.party tried.call)) refl
                    ∙ ap (cond (is_thing thing (thing_at name tried.party tried.call)) Maybe) (mark-same thing (row entries) (wanting goal tries (row entries)) refl refl ∙ reads.marks thing is);
                ids = reads.ids;
                goals = reads.goals;
                arguments = reads.arguments;
                holdings = λ node maybe. reads.holdings node maybe ∙ sym (ap (λ o. option_or o (view.holdings name node)) (tried.holds node)) ∙ sym (own name (option_or (held_by_call node tried.call) (view.holdings name node)) (view.holdings name node));
                open_calls = sym (own name None ((after_sent issued view).open_calls name));
                counts = ap (λ n. min 3 (1 + n)) reads.counts ∙ sym (own name (min 3 (1 + view.counts name)) (view.counts name));
              };
          others = λ other e. same-then _ _ _ other (same-closed issued (after_sent issued view) other e) (same-then _ _ _ other (same-sent issued view other e) (told.others other e));
          kept = keeps.closed _ issued.number sent.kept;
        }
      where
        view : OrchestratorView
        view = told.view

        reads : Reads (wanting goal tries (row entries)) view name
        reads = told.reads

        issued : Issued
        issued = call_now view name tried.party tried.call

        sent : IsSentNow P view told.history issued
        sent = sent-now P Fits keeps rest (wanting goal tries (row entries)) told tried.party tried.call None tried.named tried.detaches tried.fits

        marked : (thing : Thing) (b : Bool) → is_thing thing (thing_at name tried.party tried.call) ≡ b → mark_of thing (row entries) ≡ cond b Maybe (mark_of thing (row entries))
        marked thing false e = refl
        marked thing true e = tried.marks thing e

    -- as often as it may be
    told-tries : (entries : List NodeEntryShown) (goal : Goal) (tries : ℕ) → tries ≤ 3 → ((n : ℕ) → tries ≡ suc n → IsTried Fits name id (row entries)) → IsTold P rest (wanting goal 0 (row entries))
        → IsTold P rest (wanting goal tries (row entries))
    told-tries entries goal zero few tried told = told
    told-tries entries goal (suc n) few tried told =
        subst (λ (m : ℕ). IsTold P rest (wanting goal m (row entries))) (omega (arith, few)) (told-tried entries goal n (tried n refl) (told-tries entries goal n (omega (arith, few)) (λ m e. tried n refl) told))

    -- what is wanted, if anything is
    told-goal : (entries : List NodeEntryShown) (goal : Option Goal) (tries : ℕ) → HasTries goal tries → ((n : ℕ) → tries ≡ suc n → IsTried Fits name id (row entries)) → IsTold P rest (row entries)
        → IsTold P rest (record { name = name; arguments = arguments; id = id; exists = exists; goal = goal; open_call = None; tries = tries; node_entries = entries })
    told-goal entries None tries none tried told =
        subst (λ (n : ℕ). IsTold P rest (record { name = name; arguments = arguments; id = id; exists = exists; goal = None; open_call = None; tries = n; node_entries = entries })) (sym none) told
    told-goal entries (Some goal) tries some tried told = told-tries entries goal tries (few-tries (Some goal) tries some) tried (told-noted entries goal told)

  -- ---- the volume

  -- its id, and what is known of it
  told-life : (goal : Option Goal) (id : Option ℕ) (exists : Known) → IsStanding goal id exists → Fits None name Controller (calls.CreateVolume name arguments.required arguments.limit arguments.capabilities) id
      → (exists ≢ Yes → (number : ℕ) × Fits id name Controller (calls.DeleteVolume number) None) → IsTold P rest (still name arguments None No []) → IsTold P rest (still name arguments id exists [])
  told-life goal id exists standing creates deletes told = by goal id exists standing creates deletes
    where
      create : Call
      create = calls.CreateVolume name arguments.required arguments.limit arguments.capabilities

      wanted : Fits None name Controller create None → IsTold P rest (still name arguments None Maybe [])
      wanted fits =
          asked P Fits keeps rest name arguments false None None No Maybe [] [] Controller create None refl refl (λ there touched undoing. false≢true touched) (exist-marks name arguments None None No Maybe) (λ view reads there maybe. absurd (maybe refl)) fits told

      made : (number : ℕ) → Fits None name Controller create (Some number) → IsTold P rest (still name arguments (Some number) Yes [])
      made number fits =
          asked P Fits keeps rest name arguments true None (Some number) No Yes [] [] Controller create (Some number) refl refl (λ there touched undoing. false≢true touched) (exist-marks name arguments None (Some number) No Yes)
          (λ view reads there maybe. absurd (maybe refl)) fits told

      removed : (ok : Bool) (number : ℕ) → Fits None name Controller create (Some number) → (n : ℕ) × Fits (Some number) name Controller (calls.DeleteVolume n) None → IsTold P rest (still name arguments (Some number) (cond ok No Maybe) [])
      removed ok number fits gone =
          asked P Fits keeps rest name arguments ok (Some number) (Some number) Yes (cond ok No Maybe) [] [] Controller (calls.DeleteVolume gone.0) None (same-id ok (Some number)) tt (λ there touched undoing. false≢true touched)
          (exist-marks name arguments (Some number) (Some number) Yes (cond ok No Maybe)) (λ view reads there maybe. absurd (maybe refl)) gone.1 (made number fits)

      by : (goal : Option Goal) (id : Option ℕ) (exists : Known) → IsStanding goal id exists → Fits None name Controller create id → (exists ≢ Yes → (number : ℕ) × Fits id name Controller (calls.DeleteVolume number) None)
          → IsTold P rest (still name arguments id exists [])
      by None None Maybe standing fits gone = wanted fits
      by (Some Create) None Maybe standing fits gone = wanted fits
      by None (Some number) Yes standing fits gone = made number fits
      by (Some (Use usage)) (Some number) Yes standing fits gone = made number fits
      by (Some (Stop node target)) (Some number) Yes standing fits gone = made number fits
      by (Some Delete) (Some number) Maybe standing fits gone = removed false number fits (gone maybe-yes)
      by None (Some number) No standing fits gone = removed true number fits (gone no-yes)
      by goal id exists standing fits gone = absurd standing

  -- ---- the whole row

  -- its creation was noted, and isn't wanted any more
  told-new : (history : History) → IsWellFormed history → Agrees rest history → IsUnknown rest name → P history → IsTold P rest (still name arguments None No [])
  told-new history form agrees unknown kept =
      dropped P Fits keeps rest name arguments None No [] (after_noted name (Some (Creating arguments)) rest) (with_items history (Noted name (Some (Creating arguments)) ∷ [])) (tt, form)
      (view-follows.noted rest history name (Some (Creating arguments)) agrees) (keeps.noted history name (Some (Creating arguments)) kept) refl refl (λ other e. same-noted name (Some (Creating arguments)) rest other e)
      (λ thing is. none thing ∙ sym (unknown.marks thing is)) (sym unknown.ids) (sym (own name (Some arguments) (rest.arguments name))) (λ node maybe. absurd (maybe refl)) (sym unknown.open_calls)
    where
      none : (thing : Thing) → mark_of thing (still name arguments None No []) ≡ No
      none (Exists m) = refl
      none thing = refl

-- a row that keeps the rules
pub told-row : (P : History → Type 0) (Fits : Option ℕ → List ℕ → Party → Call → Option ℕ → Type 0) → Keeps P Fits → (rest : OrchestratorView) (history : History) (nodes : List (List ℕ)) (row : RowShown)
    → IsRestorable nodes row → RowFits Fits row → IsWellFormed history → Agrees rest history → IsUnknown rest row.name → P history → IsTold P rest row
told-row P Fits keeps rest history nodes row rules fits form agrees unknown kept =
    subst (IsTold P rest) same
    (told-goal P Fits keeps rest row.name row.arguments row.id row.exists row.node_entries row.goal row.tries (rules.steady).tries fits.tried
    (told-entries P Fits keeps rest row.name row.arguments row.id row.exists row.node_entries (rules.sound).nodes (rules.sound).targets fits.entries
    (told-life P Fits keeps rest row.name row.arguments row.goal row.id row.exists (rules.steady).standing fits.creates fits.deletes
    (told-new P Fits keeps rest row.name row.arguments history form agrees unknown kept))))
  where
    same : (let r : RowShown = record { name = row.name; arguments = row.arguments; id = row.id; exists = row.exists; goal = row.goal; open_call = None; tries = row.tries; node_entries = row.node_entries } in r) ≡ row
    same = let none = sym rules.quiet in λ i. record { name = row.name; arguments = row.arguments; id = row.id; exists = row.exists; goal = row.goal; open_call = none i; tries = row.tries; node_entries = row.node_entries }
