-- What a row tells once something was noted for it, or its call was given up.
use Rattle.csi_orchestrator.proofs.Words.{◌≡◌, ◌≢◌, ℕ, List, [], ◌∷◌, map, Bool, true, false, cond, not, refl, sym}
use Rattle.csi_orchestrator.proofs.Words.{◌∙◌, ap, subst, Option, Some, None, find, filter, option_map, AllByRecursion}
use Rattle.csi_orchestrator.proofs.Words.{option_or, IsAmong, EachTwo, same_text, Goal, Create, TargetEntry, Usage}
use Rattle.csi_orchestrator.proofs.Words.{Thing, Exists, Attached, Staged, Published, Known, No, Issued, name_in}
use Rattle.csi_orchestrator.proofs.Words.{is_no, Arguments, arguments_in_goal, OrchestratorView, after_accepted}
use Rattle.csi_orchestrator.proofs.Words.{after_closed, after_noted, AreNodesApart, wanted_row, row_wanted_anew}
use Rattle.csi_orchestrator.proofs.Words.{new_row, dropped_row, is_target_kept, is_node_kept, has_targets}
use Rattle.csi_orchestrator.proofs.Words.{with_kept_targets, with_entry, entry_for, with_target, new_target_entry}
use Rattle.csi_orchestrator.proofs.Words.{held_as, NodeEntryShown, RowShown, OrchestratorParts, row_of, node_entry_of}
use Rattle.csi_orchestrator.proofs.Words.{target_entry_of, mark_in, publication_known, mark_of, held_on_node, held_at}
use Rattle.csi_orchestrator.proofs.Words.{goal_shown, open_in_row, orchestrator_view, AreTargetsApart, closed, Status}
use Rattle.csi_orchestrator.proofs.Words.{is_ok_status, arith}
use Rattle.csi_orchestrator.proofs.Lemmas.{false≢true, false_from_ne_true, same_Some, each_of, among-find, among-kept}
use Rattle.csi_orchestrator.proofs.Lemmas.{in_filter, two-filter, find-map, find-append, find-passes, find-none}
use Rattle.csi_orchestrator.proofs.Lemmas.{find-none_in_filter, option_or-some, option_or-none, same_text-tells}
use Rattle.csi_orchestrator.specs.Model.History as history
use Rattle.csi_orchestrator.proofs.TextLists.{text-same}
use Rattle.csi_orchestrator.proofs.KnownTests.{no_is_no}
use Rattle.csi_orchestrator.proofs.KeyedSearches.{find-put}
use Rattle.csi_orchestrator.proofs.RowViews.{Reads, Here, here}
use Rattle.csi_orchestrator.proofs.JoinedLists.{own-entry}
use Rattle.csi_orchestrator.proofs.EntryRules.{by_if}
use Rattle.csi_orchestrator.proofs.RowsAfterSending.{mark-same}

-- of its own name
own : {X : Type 0} (name : List ℕ) (x y : X) → cond (same_text name name) x y ≡ x
own name x y = ap (λ b. cond b x y) (text-same name)

-- a row without a goal has no open call
pub no-call : (row : RowShown) → row.goal ≡ None → open_in_row row ≡ None
no-call row e = grind arith

-- its arguments are still those that are told
arguments-wanted : (goal : Goal) (row : RowShown) (o : Option Arguments) → Some row.arguments ≡ o → Some row.arguments ≡ option_or (arguments_in_goal (Some (goal_shown row.arguments goal))) o
arguments-wanted Create row o e = refl
arguments-wanted goal row o e = e

-- it tells what is shown once its goal was noted
pub reads-wanted : (goal : Goal) (row : RowShown) (view : OrchestratorView) (name : List ℕ) → Reads row view name → view.open_calls name ≡ None
    → Reads (wanted_row goal row) (after_noted name (Some (goal_shown row.arguments goal)) view) name
reads-wanted goal row view name reads quiet = grind (arith, own, mark-same, arguments-wanted)

-- a row of which the creation is wanted again tells what is shown once that was noted
pub reads-anew : (arguments : Arguments) (row : RowShown) (view : OrchestratorView) (name : List ℕ) → Reads row view name → view.open_calls name ≡ None
    → Reads (row_wanted_anew arguments row) (after_noted name (Some (history.Create arguments)) view) name
reads-anew arguments row view name reads quiet = grind (arith, own, mark-same)

-- a row for a name that had none
mark-new : (name : List ℕ) (arguments : Arguments) (thing : Thing) → mark_of thing (new_row name arguments) ≡ No
mark-new name arguments (Exists other) = refl
mark-new name arguments thing = refl

-- the new row tells what is shown once its creation was noted
pub reads-new : (arguments : Arguments) (parts : OrchestratorParts) (name : List ℕ) → row_of parts.rows name ≡ None
    → Reads (new_row name arguments) (after_noted name (Some (history.Create arguments)) (orchestrator_view parts)) name
reads-new arguments parts name none = grind (arith, own, mark-new)

-- its call was closed: it tells what is shown then, if nothing else changed
pub reads-shut : (row : RowShown) (view after : OrchestratorView) (name : List ℕ) → Reads row view name → here view name ≡ here after name → ((thing : Thing) → name_in thing ≡ name → view.marks thing ≡ after.marks thing)
    → ((node : List ℕ) → view.holdings name node ≡ after.holdings name node) → after.open_calls name ≡ None → Reads (closed row) after name
reads-shut row view after name reads rest marks holdings quiet = grind (arith, own, Here, mark-same)

-- a call that was given up, and one that there was not
pub reads-closed : (row : RowShown) (issued : Issued) (view : OrchestratorView) (name : List ℕ) → issued.name ≡ name → Reads row view name → Reads (closed row) (after_closed issued view) name
reads-closed row issued view name is reads =
    reads-shut row view (after_closed issued view) name reads refl (λ thing same. refl) (λ node. refl) (ap (λ n. cond (same_text n name) None (view.open_calls name)) is ∙ own name None (view.open_calls name))

-- a row whose name has no open call tells the same once it is closed
pub reads-quiet : (row : RowShown) (view : OrchestratorView) (name : List ℕ) → Reads row view name → view.open_calls name ≡ None → Reads (closed row) view name
reads-quiet row view name reads quiet = reads-shut row view view name reads refl (λ thing same. refl) (λ node. refl) quiet

-- one that was refused
pub reads-refused : (row : RowShown) (issued : Issued) (status : Status) (id : Option ℕ) (view : OrchestratorView) (name : List ℕ) → issued.name ≡ name → is_ok_status status ≡ false → Reads row view name
    → Reads (closed row) (after_accepted issued status id view) name
reads-refused row issued status id view name is bad reads =
    reads-shut row view (after_accepted issued status id view) name reads (rw bad refl) (λ thing same. rw bad refl) (λ node. refl)
    (ap (λ n. cond (same_text n name) None (view.open_calls name)) is ∙ own name None (view.open_calls name))

-- what a search finds where entries were taken out
kept-if : {X : Type 0} → (X → Bool) → Option X → Option X
kept-if q None = None
kept-if q (Some x) = cond (q x) (Some x) None

-- a search finds the entry that it found before, unless that one was taken out
find-kept : {X : Type 0} (key : X → List ℕ) (q : X → Bool) (text : List ℕ) (xs : List X) → EachTwo (λ a b. same_text (key a) (key b) ≡ false) xs
    → find (λ y. same_text (key y) text) (filter q xs) ≡ kept-if q (find (λ y. same_text (key y) text) xs)
unfolding kept-if
find-kept key q text xs two = by (find (λ y. same_text (key y) text) xs) refl
  where
    by : (o : Option _) → find (λ y. same_text (key y) text) xs ≡ o → find (λ y. same_text (key y) text) (filter q xs) ≡ kept-if q o
    by None e = find-none_in_filter (λ y. same_text (key y) text) q xs e
    by (Some x) e = kept (q x) refl
      where
        among : IsAmong x xs
        among = among-find (λ y. same_text (key y) text) xs x e

        is : key x ≡ text
        is = (same_text-tells (key x) text).0 (find-passes (λ y. same_text (key y) text) xs x e)

        kept : (b : Bool) → q x ≡ b → find (λ y. same_text (key y) text) (filter q xs) ≡ cond b (Some x) None
        kept true f = subst (λ t. find (λ y. same_text (key y) t) (filter q xs) ≡ Some x) is (own-entry key (filter q xs) x (two-filter _ q xs two) (in_filter q xs x among f))
        kept false f =
            find-none (λ y. same_text (key y) text) (filter q xs) (λ y there. false_from_ne_true (same_text (key y) text) (λ same.
            let passes = among-kept q xs y there in
            let found = own-entry key xs y two passes.0 in
            let its = subst (λ t. find (λ z. same_text (key z) t) xs ≡ Some y) ((same_text-tells (key y) text).0 same) found in
            false≢true (sym f ∙ ap q (same_Some x y (sym e ∙ its)) ∙ passes.1)))

-- a target that is left out isn't published
kept-mark : (o : Option TargetEntry) → mark_in (λ (a : TargetEntry). a.published) (kept-if is_target_kept o) ≡ mark_in (λ (a : TargetEntry). a.published) o
unfolding kept-if
kept-mark None = refl
kept-mark (Some target_entry) = by (is_no target_entry.published) refl
  where
    by : (b : Bool) → is_no target_entry.published ≡ b → mark_in (λ (a : TargetEntry). a.published) (cond (not b) (Some target_entry) None) ≡ target_entry.published
    by true e = sym (no_is_no target_entry.published e)
    by false e = refl

-- what is known of a target is as it was once the targets that aren't published are left out
targets-kept : (entry : NodeEntryShown) (target : List ℕ) → AreTargetsApart entry → publication_known target (with_kept_targets entry) ≡ publication_known target entry
targets-kept entry target apart = ap (mark_in (λ (a : TargetEntry). a.published)) (find-kept (λ (a : TargetEntry). a.target) is_target_kept target entry.target_entries apart) ∙ kept-mark (target_entry_of entry target)

-- a node that is left out has nothing
left-out : (entry : NodeEntryShown) → is_node_kept entry ≡ false → (entry.attached ≡ No) × (entry.staged ≡ No) × (has_targets entry.target_entries ≡ false)
left-out entry e = grind (arith, no_is_no, false≢true)

-- where a node has no target, none is published there
no-targets : (target_entries : List TargetEntry) (target : List ℕ) → has_targets target_entries ≡ false → mark_in (λ (a : TargetEntry). a.published) (find (λ (a : TargetEntry). same_text a.target target) target_entries) ≡ No
no-targets [] target e = refl
no-targets (target_entry ∷ target_entries) target e = absurd (false≢true (sym e))

-- the entry of a node in a dropped row: it lost the targets that are left out, and is there if it is kept
tidied-entry : (row : RowShown) (node : List ℕ) → AreNodesApart row.node_entries → node_entry_of (dropped_row row) node ≡ kept-if is_node_kept (option_map with_kept_targets (node_entry_of row node))
tidied-entry row node apart =
    find-kept (λ (p : NodeEntryShown). p.node) is_node_kept node (map with_kept_targets row.node_entries) (alike row.node_entries apart)
    ∙ ap (kept-if is_node_kept) (find-map (λ (p : NodeEntryShown). same_text p.node node) with_kept_targets row.node_entries (λ p. refl))
  where
    each : (entry : NodeEntryShown) (entries : List NodeEntryShown) → AllByRecursion (λ (b : NodeEntryShown). same_text entry.node b.node ≡ false) entries
        → AllByRecursion (λ (b : NodeEntryShown). same_text entry.node b.node ≡ false) (map with_kept_targets entries)
    each entry [] all = tt
    each entry (p ∷ ps) all = (all.0, each entry ps all.1)

    alike : (entries : List NodeEntryShown) → AreNodesApart entries → AreNodesApart (map with_kept_targets entries)
    alike [] two = tt
    alike (p ∷ ps) two = (each p ps two.0, alike ps two.1)

-- a reading that is No where nothing is left, and else is as it was
tidy-read : (read : NodeEntryShown → Known) (o : Option NodeEntryShown) → ((entry : NodeEntryShown) → o ≡ Some entry → read (with_kept_targets entry) ≡ read entry)
    → ((entry : NodeEntryShown) → is_node_kept (with_kept_targets entry) ≡ false → read (with_kept_targets entry) ≡ No)
    → mark_in read (kept-if is_node_kept (option_map with_kept_targets o)) ≡ mark_in read o
unfolding kept-if
tidy-read read None same none = refl
tidy-read read (Some entry) same none = by (is_node_kept (with_kept_targets entry)) refl
  where
    by : (b : Bool) → is_node_kept (with_kept_targets entry) ≡ b → mark_in read (cond b (Some (with_kept_targets entry)) None) ≡ read entry
    by true e = same entry refl
    by false e = sym (none entry e) ∙ same entry refl

-- a dropped row knows of each thing what it knew
mark-dropped : (row : RowShown) (thing : Thing) → AreNodesApart row.node_entries → AllByRecursion AreTargetsApart row.node_entries → mark_of thing (dropped_row row) ≡ mark_of thing row
mark-dropped row (Exists name) apart targets = refl
mark-dropped row (Attached name node) apart targets =
    ap (mark_in (λ (p : NodeEntryShown). p.attached)) (tidied-entry row node apart)
    ∙ tidy-read (λ (p : NodeEntryShown). p.attached) (node_entry_of row node) (λ entry e. refl) (λ entry e. (left-out (with_kept_targets entry) e).0)
mark-dropped row (Staged name node) apart targets =
    ap (mark_in (λ (p : NodeEntryShown). p.staged)) (tidied-entry row node apart)
    ∙ tidy-read (λ (p : NodeEntryShown). p.staged) (node_entry_of row node) (λ entry e. refl) (λ entry e. (left-out (with_kept_targets entry) e).1)
mark-dropped row (Published name node target) apart targets =
    ap (mark_in (publication_known target)) (tidied-entry row node apart)
    ∙ tidy-read (publication_known target) (node_entry_of row node)
    (λ entry e. targets-kept entry target (each_of AreTargetsApart row.node_entries entry targets (among-find (λ (p : NodeEntryShown). same_text p.node node) row.node_entries entry e)))
    (λ entry e. no-targets (with_kept_targets entry).target_entries target (left-out (with_kept_targets entry) e).2)

-- in a dropped row the volume is held as it was, where it may be attached
held-dropped : (row : RowShown) (node : List ℕ) → AreNodesApart row.node_entries → mark_in (λ (p : NodeEntryShown). p.attached) (node_entry_of (dropped_row row) node) ≢ No → held_on_node (dropped_row row) node ≡ held_on_node row node
unfolding kept-if
held-dropped row node apart maybe = ap (option_map held_at) (tidied-entry row node apart) ∙ by (node_entry_of row node) (λ e. maybe (ap (mark_in (λ (p : NodeEntryShown). p.attached)) (tidied-entry row node apart) ∙ e))
  where
    by : (o : Option NodeEntryShown) → mark_in (λ (p : NodeEntryShown). p.attached) (kept-if is_node_kept (option_map with_kept_targets o)) ≢ No → option_map held_at (kept-if is_node_kept (option_map with_kept_targets o)) ≡ option_map held_at o
    by None there = refl
    by (Some entry) there = kept (is_node_kept (with_kept_targets entry)) refl
      where
        kept : (b : Bool) → is_node_kept (with_kept_targets entry) ≡ b → option_map held_at (cond b (Some (with_kept_targets entry)) None) ≡ Some (held_at entry)
        kept true e = refl
        kept false e = absurd (there (ap (λ b. mark_in (λ (p : NodeEntryShown). p.attached) (cond b (Some (with_kept_targets entry)) None)) e))

-- nothing is wanted of it
pub reads-dropped : (row : RowShown) (view : OrchestratorView) (name : List ℕ) → AreNodesApart row.node_entries → AllByRecursion AreTargetsApart row.node_entries → Reads row view name → view.open_calls name ≡ None
    → Reads (dropped_row row) (after_noted name None view) name
reads-dropped row view name apart targets reads quiet =
    record {
      own = reads.own;
      there = own name true (view.rows name);
      marks = λ thing is. mark-dropped row thing apart targets ∙ reads.marks thing is;
      ids = reads.ids;
      goals = sym (own name None (view.goals name));
      arguments = reads.arguments ∙ sym (own name (view.arguments name) (view.arguments name));
      holdings = λ node maybe. held-dropped row node apart maybe ∙ reads.holdings node (λ e. maybe (mark-dropped row (Attached name node) apart targets ∙ e));
      open_calls = sym quiet;
      counts = sym (own name 0 (view.counts name));
    }

-- a use that an entry is held for leaves all but the capability and the flag
pub held-same : {Y : Type 0} (read : NodeEntryShown → Y) (usage : Usage) (entry : NodeEntryShown) → read (record entry { capability = usage.capability; readonly = usage.readonly }) ≡ read entry
    → read (held_as usage entry) ≡ read entry
held-same read usage entry same = by_if (λ (p : NodeEntryShown). read p ≡ read entry) (is_no entry.attached) _ entry (λ e. same) (λ e. refl)

-- an entry for a use tells nothing new
pub entry-there : (usage : Usage) (row : RowShown) (node : List ℕ) → node_entry_of (with_entry usage row) node ≡ cond (same_text usage.node node) (Some (entry_for usage (node_entry_of row usage.node))) (node_entry_of row node)
entry-there usage row node = find-put (λ (p : NodeEntryShown). p.node) (entry_for usage (node_entry_of row usage.node)) row.node_entries node ∙ ap (λ n. cond (same_text n node) (Some (entry_for usage (node_entry_of row usage.node))) (node_entry_of row node)) (node-is (node_entry_of row usage.node) refl)
  where
    node-is : (o : Option NodeEntryShown) → node_entry_of row usage.node ≡ o → (entry_for usage o).node ≡ usage.node
    node-is None e = refl
    node-is (Some entry) e = held-same (λ (p : NodeEntryShown). p.node) usage entry refl ∙ (same_text-tells entry.node usage.node).0 (find-passes (λ (p : NodeEntryShown). same_text p.node usage.node) row.node_entries entry e)

-- a reading of the entry is one of what was there
entry-read : (read : NodeEntryShown → Known) (usage : Usage) (o : Option NodeEntryShown) → read (entry_for usage None) ≡ No → ((entry : NodeEntryShown) → read (entry_for usage (Some entry)) ≡ read entry)
    → read (entry_for usage o) ≡ mark_in read o
entry-read read usage None new kept = new
entry-read read usage (Some entry) new kept = kept entry

-- a reading that is No in a new entry, and that a use leaves in one that is there, is as it was at each node
mark-entry : (read : NodeEntryShown → Known) (usage : Usage) (row : RowShown) (node : List ℕ) → read (entry_for usage None) ≡ No → ((entry : NodeEntryShown) → read (entry_for usage (Some entry)) ≡ read entry)
    → mark_in read (node_entry_of (with_entry usage row) node) ≡ mark_in read (node_entry_of row node)
mark-entry read usage row node new kept = grind (arith, entry-there, entry-read, same_text-tells)

-- a target that was put in isn't published
new-mark : (target other : List ℕ) → mark_in (λ (a : TargetEntry). a.published) (cond (same_text target other) (Some (new_target_entry target)) None) ≡ No
new-mark target other = grind arith

-- a target that was put in, if it wasn't there, leaves what is known of each target
mark-with-target : (target other : List ℕ) (target_entries : List TargetEntry) → mark_in (λ (a : TargetEntry). a.published) (find (λ (a : TargetEntry). same_text a.target other) (with_target target target_entries)) ≡ mark_in (λ (a : TargetEntry). a.published) (find (λ (a : TargetEntry). same_text a.target other) target_entries)
mark-with-target target other target_entries = grind (arith, option_or-none, new-mark, option_or-some, find-append)

-- a row with an entry for a use knows of each thing what it knew
pub mark-with-entry : (usage : Usage) (row : RowShown) (thing : Thing) → mark_of thing (with_entry usage row) ≡ mark_of thing row
mark-with-entry usage row thing = grind (arith, mark-entry, held-same, new-mark, mark-with-target)

-- and, where the volume may be attached, keeps how it is held
held-entry : (usage : Usage) (row : RowShown) (node : List ℕ) → mark_in (λ (p : NodeEntryShown). p.attached) (node_entry_of row node) ≢ No → held_on_node (with_entry usage row) node ≡ held_on_node row node
held-entry usage row node maybe = grind (arith, entry-there, no_is_no, same_text-tells)

-- a row without a goal tells what is shown of it, with an entry for a use too
pub reads-with-entry : (usage : Usage) (row : RowShown) (view : OrchestratorView) (name : List ℕ) → row.goal ≡ None → Reads row view name → Reads (with_entry usage row) view name
reads-with-entry usage row view name goal reads =
    record {
      own = reads.own;
      there = reads.there;
      marks = λ thing is. mark-with-entry usage row thing ∙ reads.marks thing is;
      ids = reads.ids;
      goals = reads.goals;
      arguments = reads.arguments;
      holdings = λ node maybe. held-entry usage row node (λ e. maybe (mark-with-entry usage row (Attached name node) ∙ e)) ∙ reads.holdings node (λ e. maybe (mark-with-entry usage row (Attached name node) ∙ e));
      open_calls = no-call (with_entry usage row) goal ∙ sym (no-call row goal) ∙ reads.open_calls;
      counts = reads.counts;
    }
