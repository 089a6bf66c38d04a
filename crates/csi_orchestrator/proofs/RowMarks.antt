-- What a row tells once the thing of a call that was due for it is marked.
use Rattle.csi_orchestrator.proofs.Words.{◌≡◌, ℕ, List, ◌∷◌, Bool, true, false, cond, not, refl, sym, ◌∙◌, ap, subst}
use Rattle.csi_orchestrator.proofs.Words.{Option, Some, None, find, option_map, ◌&&◌, kind_of, same_text, Marks, Goal}
use Rattle.csi_orchestrator.proofs.Words.{Create, Use, Stop, Delete, TargetEntry, Thing, Exists, Attached, Staged}
use Rattle.csi_orchestrator.proofs.Words.{Published, Known, name_in, same_thing, thing_at, is_thing, is_no, Due}
use Rattle.csi_orchestrator.proofs.Words.{marks_marked, HasEntry, MayBeWanted, Aspect, Existence, Attachment, Staging}
use Rattle.csi_orchestrator.proofs.Words.{Publication, aspect_of, node_marked, marked_at, at_goal, exists_marked}
use Rattle.csi_orchestrator.proofs.Words.{nodes_marked, marked_row, NodeEntryShown, RowShown, node_entry_of}
use Rattle.csi_orchestrator.proofs.Words.{target_entry_of, mark_in, publication_known, mark_of, held_on_node, held_at}
use Rattle.csi_orchestrator.proofs.Words.{others_in, marks_of_volume, marks_at, marks_for, arith}
use Rattle.csi_orchestrator.proofs.Lemmas.{false≢true, same_Some, same_text-tells}
use Rattle.csi_orchestrator.proofs.TextLists.{text-same}
use Rattle.csi_orchestrator.proofs.DueCases.{IsDueFor, ToMake, ToRemove, ToAttach, ToStage, ToPublish, ToUnpublish, ToUnstage, ToDetach}
use Rattle.csi_orchestrator.proofs.TextLists.{same_text-flip}
use Rattle.csi_orchestrator.proofs.EntryRules.{any-change}
use Rattle.csi_orchestrator.proofs.KeyedSearches.{find-change}

-- a reading that the change leaves
unread : {R : Type 0} (read : Option NodeEntryShown → R) (change : NodeEntryShown → NodeEntryShown) (b : Bool) (o : Option NodeEntryShown) → ((node_entry : NodeEntryShown) → read (Some (change node_entry)) ≡ read (Some node_entry))
    → read (cond b (option_map change o) o) ≡ read o
unread read change b o same = grind arith

-- a reading that it sets, where there is an entry
reset : (read : Option NodeEntryShown → Known) (change : NodeEntryShown → NodeEntryShown) (mark : Known) (b : Bool) (o : Option NodeEntryShown) → ((node_entry : NodeEntryShown) → read (Some (change node_entry)) ≡ mark)
    → (b ≡ true → (node_entry : NodeEntryShown) × (o ≡ Some node_entry)) → read (cond b (option_map change o) o) ≡ cond b mark (read o)
reset read change mark false o sets there = refl
reset read change mark true o sets there = let node_entry = there refl in ap (λ p. read (option_map change p)) node_entry.1 ∙ sets node_entry.0

-- the entry of a node is that of another text, where they are the same
there-too : (row : RowShown) (node other : List ℕ) (node_entry : NodeEntryShown) → node_entry_of row node ≡ Some node_entry → same_text node other ≡ true → (node_entry : NodeEntryShown) × (node_entry_of row other ≡ Some node_entry)
there-too row node other node_entry found e = (node_entry, ap (node_entry_of row) (sym ((same_text-tells node other).0 e)) ∙ found)

-- of one name, things at nodes are the same where the nodes are
own-node : (name own other node : List ℕ) → name ≡ own → (same_text name own && same_text other node) ≡ same_text node other
own-node name own other node is = ap (λ b. b && same_text other node) ((same_text-tells name own).1 is) ∙ same_text-flip other node

-- the row with these entries
with-entries : RowShown → List NodeEntryShown → RowShown
with-entries row node_entries = record row { node_entries = node_entries }

-- the entry of a node stays its own, and the volume is held there as it was
pub node-stays : (mark : Known) (aspect : Aspect) (target : List ℕ) (node_entry : NodeEntryShown) → (node_marked mark aspect target node_entry).node ≡ node_entry.node
node-stays mark Existence target node_entry = refl
node-stays mark aspect target node_entry = refl

-- the volume is held at the node as it was
held-stays : (mark : Known) (aspect : Aspect) (target : List ℕ) (node_entry : NodeEntryShown) → held_at (node_marked mark aspect target node_entry) ≡ held_at node_entry
held-stays mark Existence target node_entry = refl
held-stays mark aspect target node_entry = refl

-- what the entries have of a node then
there : (row : RowShown) (node target other : List ℕ) (mark : Known) (aspect : Aspect)
    → node_entry_of (with-entries row (marked_at mark aspect node target row.node_entries)) other ≡ cond (same_text node other) (option_map (node_marked mark aspect target) (node_entry_of row other)) (node_entry_of row other)
unfolding with-entries
there row node target other mark aspect = find-change (λ (p : NodeEntryShown). p.node) node (node_marked mark aspect target) row.node_entries other (node-stays mark aspect target)

-- at each node the volume is held as it was, whatever is marked
held-there : (row : RowShown) (node target : List ℕ) (mark : Known) (aspect : Aspect) (other : List ℕ) → held_on_node (with-entries row (marked_at mark aspect node target row.node_entries)) other ≡ held_on_node row other
held-there row node target mark aspect other =
    ap (option_map held_at) (there row node target other mark aspect)
    ∙ unread (option_map held_at) (node_marked mark aspect target) (same_text node other) (node_entry_of row other) (λ p. ap Some (held-stays mark aspect target p))

-- the target with this mark
target-change : Known → TargetEntry → TargetEntry
target-change mark target_entry = record target_entry { published = mark }

-- once a target that has an entry is marked, it has the mark, and the other targets of the node are as they were
target-mark : (node_entry : NodeEntryShown) (target other : List ℕ) (mark : Known) (target_entry : TargetEntry) → target_entry_of node_entry target ≡ Some target_entry
    → publication_known other (node_marked mark Publication target node_entry) ≡ cond (same_text target other) mark (publication_known other node_entry)
unfolding target-change
target-mark node_entry target other mark target_entry found =
    ap (mark_in (λ (a : TargetEntry). a.published)) (find-change (λ (a : TargetEntry). a.target) target (target-change mark) node_entry.target_entries other (λ a. refl)) ∙ by (same_text target other) refl
  where
    by : (b : Bool) → same_text target other ≡ b
        → mark_in (λ (a : TargetEntry). a.published) (cond b (option_map (target-change mark) (target_entry_of node_entry other)) (target_entry_of node_entry other)) ≡ cond b mark (publication_known other node_entry)
    by true e = ap (λ o. mark_in (λ (a : TargetEntry). a.published) (option_map (target-change mark) o)) (ap (target_entry_of node_entry) (sym ((same_text-tells target other).0 e)) ∙ found)
    by false e = refl

-- the entry has what is to be marked
abbrev pub HasSpot : Aspect → NodeEntryShown → List ℕ → Type 0
HasSpot Existence node_entry target = ⊥
HasSpot Attachment node_entry target = Unit {0}
HasSpot Staging node_entry target = Unit {0}
HasSpot Publication node_entry target = (target_entry : TargetEntry) × (target_entry_of node_entry target ≡ Some target_entry)

-- the thing that is marked
abbrev pub thing_by : Aspect → List ℕ → List ℕ → List ℕ → Thing
thing_by Existence name node target = Exists name
thing_by Attachment name node target = Attached name node
thing_by Staging name node target = Staged name node
thing_by Publication name node target = Published name node target

-- a thing that is read from a node's entry, and that the mark leaves, or is
mark-left : (row : RowShown) (node target other : List ℕ) (mark : Known) (aspect : Aspect) (read : NodeEntryShown → Known) → ((node_entry : NodeEntryShown) → read (node_marked mark aspect target node_entry) ≡ read node_entry)
    → mark_in read (node_entry_of (with-entries row (marked_at mark aspect node target row.node_entries)) other) ≡ mark_in read (node_entry_of row other)
mark-left row node target other mark aspect read left =
    ap (mark_in read) (there row node target other mark aspect) ∙ unread (mark_in read) (node_marked mark aspect target) (same_text node other) (node_entry_of row other) left

-- a reading that is the mark in each marked entry: it is the mark at this node, and elsewhere as it was
mark-set : (row : RowShown) (node target : List ℕ) (mark : Known) (aspect : Aspect) (node_entry : NodeEntryShown) (name other : List ℕ) (read : NodeEntryShown → Known) → node_entry_of row node ≡ Some node_entry → name ≡ row.name
    → ((node_entry : NodeEntryShown) → read (node_marked mark aspect target node_entry) ≡ mark)
    → mark_in read (node_entry_of (with-entries row (marked_at mark aspect node target row.node_entries)) other) ≡ cond (same_text name row.name && same_text other node) mark (mark_in read (node_entry_of row other))
mark-set row node target mark aspect node_entry name other read found is sets =
    ap (mark_in read) (there row node target other mark aspect)
    ∙ reset (mark_in read) (node_marked mark aspect target) mark (same_text node other) (node_entry_of row other) sets (there-too row node other node_entry found)
    ∙ sym (ap (λ b. cond b mark (mark_in read (node_entry_of row other))) (own-node name row.name other node is))

-- of the things of the row's name, the one that is marked has the mark, and the others are as they were
things-marked : (row : RowShown) (node target : List ℕ) (mark : Known) (aspect : Aspect) (node_entry : NodeEntryShown) → node_entry_of row node ≡ Some node_entry → HasSpot aspect node_entry target
    → (thing : Thing) → name_in thing ≡ row.name
    → mark_of thing (with-entries row (marked_at mark aspect node target row.node_entries)) ≡ cond (same_thing thing (thing_by aspect row.name node target)) mark (mark_of thing row)
unfolding with-entries
things-marked row node target mark Existence node_entry found spot thing is = absurd spot
things-marked row node target mark Attachment node_entry found spot (Exists name) is = refl
things-marked row node target mark Attachment node_entry found spot (Attached name other) is = mark-set row node target mark Attachment node_entry name other (λ p. p.attached) found is (λ p. refl)
things-marked row node target mark Attachment node_entry found spot (Staged name other) is = mark-left row node target other mark Attachment (λ p. p.staged) (λ p. refl)
things-marked row node target mark Attachment node_entry found spot (Published name other other_target) is = mark-left row node target other mark Attachment (publication_known other_target) (λ p. refl)
things-marked row node target mark Staging node_entry found spot (Exists name) is = refl
things-marked row node target mark Staging node_entry found spot (Attached name other) is = mark-left row node target other mark Staging (λ p. p.attached) (λ p. refl)
things-marked row node target mark Staging node_entry found spot (Staged name other) is = mark-set row node target mark Staging node_entry name other (λ p. p.staged) found is (λ p. refl)
things-marked row node target mark Staging node_entry found spot (Published name other other_target) is = mark-left row node target other mark Staging (publication_known other_target) (λ p. refl)
things-marked row node target mark Publication node_entry found spot (Exists name) is = refl
things-marked row node target mark Publication node_entry found spot (Attached name other) is = mark-left row node target other mark Publication (λ p. p.attached) (λ p. refl)
things-marked row node target mark Publication node_entry found spot (Staged name other) is = mark-left row node target other mark Publication (λ p. p.staged) (λ p. refl)
things-marked row node target mark Publication node_entry found spot (Published name other t) is =
    ap (mark_in (publication_known t)) (there row node target other mark Publication) ∙ by (same_text node other) refl
    ∙ sym (ap (λ b. cond b mark (mark_in (publication_known t) (node_entry_of row other))) (three name row.name other t is))
  where
    three : (name own other t : List ℕ) → name ≡ own → (same_text name own && same_text other node && same_text t target) ≡ (same_text node other && same_text target t)
    three name own other t is =
        ap (λ b. b && same_text other node && same_text t target) ((same_text-tells name own).1 is) ∙ ap (λ b. b && same_text t target) (same_text-flip other node) ∙ ap (λ b. same_text node other && b) (same_text-flip t target)

    by : (b : Bool) → same_text node other ≡ b
        → mark_in (publication_known t) (cond b (option_map (node_marked mark Publication target) (node_entry_of row other)) (node_entry_of row other)) ≡ cond (b && same_text target t) mark (mark_in (publication_known t) (node_entry_of row other))
    by true e =
        let here : node_entry_of row other ≡ Some node_entry = ap (node_entry_of row) (sym ((same_text-tells node other).0 e)) ∙ found in
        ap (λ o. mark_in (publication_known t) (option_map (node_marked mark Publication target) o)) here ∙ target-mark node_entry target t mark spot.0 spot.1
        ∙ sym (ap (λ o. cond (same_text target t) mark (mark_in (publication_known t) o)) here)
    by false e = refl

-- so it is where the row's first entry is marked
pub front-marked : (row : RowShown) (node_entry : NodeEntryShown) (later : List NodeEntryShown) (target : List ℕ) (mark : Known) (aspect : Aspect) → HasSpot aspect node_entry target → (thing : Thing) → name_in thing ≡ row.name
    → mark_of thing (let r : RowShown = record row { node_entries = node_marked mark aspect target node_entry ∷ later } in r)
    ≡ cond (same_thing thing (thing_by aspect row.name node_entry.node target)) mark (mark_of thing (let r : RowShown = record row { node_entries = node_entry ∷ later } in r))
unfolding with-entries
front-marked row node_entry later target mark aspect spot thing is =
    ap (λ (es : List NodeEntryShown). mark_of thing (record row { node_entries = es })) (sym front) ∙ things-marked (record row { node_entries = node_entry ∷ later }) node_entry.node target mark aspect node_entry found spot thing is
  where
    front : marked_at mark aspect node_entry.node target (node_entry ∷ later) ≡ node_marked mark aspect target node_entry ∷ later
    front = ap (λ b. cond b (node_marked mark aspect target node_entry ∷ later) (node_entry ∷ marked_at mark aspect node_entry.node target later)) (text-same node_entry.node)

    found : find (λ (e : NodeEntryShown). same_text e.node node_entry.node) (node_entry ∷ later) ≡ Some node_entry
    found = ap (λ b. cond b (Some node_entry) (find (λ (e : NodeEntryShown). same_text e.node node_entry.node) later)) (text-same node_entry.node)

-- the row is as it was but for the marks, and of these the call's thing alone is marked
pub record IsMarked (row after : RowShown) (due : Due) (mark : Known) : Type 0 where
  pub same_name : after.name ≡ row.name
  pub same_arguments : after.arguments ≡ row.arguments
  pub same_id : after.id ≡ row.id
  pub same_goal : after.goal ≡ row.goal
  pub same_tries : after.tries ≡ row.tries
  pub marks : (thing : Thing) → name_in thing ≡ row.name → mark_of thing after ≡ cond (is_thing thing (thing_at row.name due.party due.call)) mark (mark_of thing row)
  pub held : (node : List ℕ) → held_on_node after node ≡ held_on_node row node

-- where the volume's own mark is set, no other thing of its name is marked
exists-mark : (row : RowShown) (mark : Known) (thing : Thing) → name_in thing ≡ row.name → mark_of thing (let r : RowShown = record row { exists = mark } in r) ≡ cond (same_thing thing (Exists row.name)) mark (mark_of thing row)
exists-mark row mark (Exists name) is = sym (ap (λ b. cond b mark row.exists) ((same_text-tells name row.name).1 is))
exists-mark row mark thing is = refl

-- where a mark isn't No there is an entry
pub has-node-entry : (read : NodeEntryShown → Known) (o : Option NodeEntryShown) → is_no (mark_in read o) ≡ false → (node_entry : NodeEntryShown) × (o ≡ Some node_entry)
has-node-entry read None e = absurd (false≢true (sym e))
has-node-entry read (Some node_entry) e = (node_entry, refl)

-- and one of the target
pub has-target-entry : (o : Option TargetEntry) → is_no (mark_in (λ (a : TargetEntry). a.published) o) ≡ false → (target_entry : TargetEntry) × (o ≡ Some target_entry)
has-target-entry None e = absurd (false≢true (sym e))
has-target-entry (Some target_entry) e = (target_entry, refl)

-- a goal that may be wanted has the entries that it needs
abbrev pub GoalHasEntry : RowShown → Option Goal → Type 0
GoalHasEntry row (Some (Use usage)) = HasEntry row usage
GoalHasEntry row goal = Unit {0}

-- what may be wanted has them
pub has-entry : (row : RowShown) (goal : Option Goal) → MayBeWanted row goal → GoalHasEntry row goal
has-entry row (Some (Use usage)) may = may.entry
has-entry row goal may = tt

-- where a call that is due is at work: at the volume, or at the entry of its goal's node
pub data Spot (row : RowShown) (goal : Goal) : Aspect → Option Thing → Type 0 where
  AtVolume : ((r : RowShown) → marks_for r goal ≡ marks_of_volume r) → Spot row goal Existence (Some (Exists row.name))
  AtNode : (node target : List ℕ) (aspect : Aspect) (node_entry : NodeEntryShown) → ((r : RowShown) → marks_for r goal ≡ marks_at r node target)
      → ((change : List ℕ → List ℕ → List NodeEntryShown → List NodeEntryShown) (node_entries : List NodeEntryShown) → at_goal change (Some goal) node_entries ≡ change node target node_entries)
      → node_entry_of row node ≡ Some node_entry → HasSpot aspect node_entry target → Spot row goal aspect (Some (thing_by aspect row.name node target))

-- the goal for which a call is due, and where the call is at work
pub record IsAtWork (row : RowShown) (due : Due) : Type 0 where
  pub goal : Goal
  pub is : row.goal ≡ Some goal
  pub spot : Spot row goal (aspect_of (kind_of due.call)) (thing_at row.name due.party due.call)

-- each call that is due for a row is at work at what the row's goal names
pub at-work : (row : RowShown) (due : Due) → GoalHasEntry row row.goal → IsDueFor row due → IsAtWork row due
at-work row _ entry (ToMake goal e) = record { goal = Create; is = goal; spot = AtVolume (λ r. refl) }
at-work row _ entry (ToRemove id goal own e) = record { goal = Delete; is = goal; spot = AtVolume (λ r. refl) }
at-work row _ entry (ToAttach usage id goal own a) =
    let e : HasEntry row usage = subst (GoalHasEntry row) goal entry in
    record { goal = Use usage; is = goal; spot = AtNode usage.node usage.target Attachment e.node_entry (λ r. refl) (λ change node_entries. refl) e.at_node tt }
at-work row _ entry (ToStage usage id goal own a s) =
    let e : HasEntry row usage = subst (GoalHasEntry row) goal entry in
    record { goal = Use usage; is = goal; spot = AtNode usage.node usage.target Staging e.node_entry (λ r. refl) (λ change node_entries. refl) e.at_node tt }
at-work row _ entry (ToPublish usage id goal own a s p) =
    let e : HasEntry row usage = subst (GoalHasEntry row) goal entry in
    record { goal = Use usage; is = goal; spot = AtNode usage.node usage.target Publication e.node_entry (λ r. refl) (λ change node_entries. refl) e.at_node (e.target_entry, e.at_target) }
at-work row _ entry (ToUnpublish node target id goal own p) =
    let node_entry = has-node-entry (publication_known target) (node_entry_of row node) p in
    let target_entry = has-target-entry (target_entry_of node_entry.0 target) (ap is_no (sym (ap (mark_in (publication_known target)) node_entry.1)) ∙ p) in
    record { goal = Stop node target; is = goal; spot = AtNode node target Publication node_entry.0 (λ r. refl) (λ change node_entries. refl) node_entry.1 target_entry }
at-work row _ entry (ToUnstage node target id goal own p o s) =
    let node_entry = has-node-entry (λ (q : NodeEntryShown). q.staged) (node_entry_of row node) s in
    record { goal = Stop node target; is = goal; spot = AtNode node target Staging node_entry.0 (λ r. refl) (λ change node_entries. refl) node_entry.1 tt }
at-work row _ entry (ToDetach node target id goal own p o s a) =
    let node_entry = has-node-entry (λ (q : NodeEntryShown). q.attached) (node_entry_of row node) a in
    record { goal = Stop node target; is = goal; spot = AtNode node target Attachment node_entry.0 (λ r. refl) (λ change node_entries. refl) node_entry.1 tt }

-- what is marked by an aspect, and where that is of a node
marked-by : Known → Aspect → RowShown → RowShown
marked-by mark aspect row = record row { exists = exists_marked mark aspect row.exists; node_entries = nodes_marked mark aspect row.goal row.node_entries }

-- a mark for a goal with a node is set among the row's entries, and nowhere else
at-node : (row : RowShown) (goal : Goal) (node target : List ℕ) (mark : Known) (aspect : Aspect) (node_entry : NodeEntryShown) → row.goal ≡ Some goal
    → ((change : List ℕ → List ℕ → List NodeEntryShown → List NodeEntryShown) (node_entries : List NodeEntryShown) → at_goal change (Some goal) node_entries ≡ change node target node_entries) → HasSpot aspect node_entry target
    → marked-by mark aspect row ≡ with-entries row (marked_at mark aspect node target row.node_entries)
unfolding marked-by with-entries
at-node row goal node target mark Existence node_entry is at spot = absurd spot
at-node row goal node target mark aspect node_entry is at spot = ap (with-entries row) (ap (λ g. at_goal (marked_at mark aspect) g row.node_entries) is ∙ at (marked_at mark aspect) row.node_entries)

-- of the things of the row's name, the one at which a call is at work gets the mark, and no other one
spot-marks : (row : RowShown) (goal : Goal) (mark : Known) (aspect : Aspect) (own : Option Thing) → Spot row goal aspect own → row.goal ≡ Some goal
    → (thing : Thing) → name_in thing ≡ row.name → mark_of thing (marked-by mark aspect row) ≡ cond (is_thing thing own) mark (mark_of thing row)
unfolding marked-by
spot-marks row goal mark _ _ (AtVolume same) e thing is = exists-mark row mark thing is
spot-marks row goal mark _ _ (AtNode node target aspect node_entry same at found spot) e thing is =
    ap (mark_of thing) (at-node row goal node target mark aspect node_entry e at spot) ∙ things-marked row node target mark aspect node_entry found spot thing is

-- at each node the volume is held as it was
spot-held : (row : RowShown) (goal : Goal) (mark : Known) (aspect : Aspect) (own : Option Thing) → Spot row goal aspect own → row.goal ≡ Some goal → (node : List ℕ) → held_on_node (marked-by mark aspect row) node ≡ held_on_node row node
unfolding marked-by
spot-held row goal mark _ _ (AtVolume same) e other = refl
spot-held row goal mark _ _ (AtNode node target aspect node_entry same at found spot) e other =
    ap (λ r. held_on_node r other) (at-node row goal node target mark aspect node_entry e at spot) ∙ held-there row node target mark aspect other

-- a row in which a mark is set for its due call is marked so
pub is-marked : (row : RowShown) (due : Due) (mark : Known) → GoalHasEntry row row.goal → IsDueFor row due → IsMarked row (marked_row mark (kind_of due.call) row) due mark
unfolding marked-by
is-marked row due mark entry case =
    let work = at-work row due entry case in
    record {
      same_name = refl;
      same_arguments = refl;
      same_id = refl;
      same_goal = refl;
      same_tries = refl;
      marks = spot-marks row work.goal mark (aspect_of (kind_of due.call)) (thing_at row.name due.party due.call) work.spot work.is;
      held = spot-held row work.goal mark (aspect_of (kind_of due.call)) (thing_at row.name due.party due.call) work.spot work.is;
    }

-- what is known of what the goal names, by the node's entry
marks-by : Known → List ℕ → Option NodeEntryShown → Marks
marks-by exists target node_entry =
    record {
      exists = exists;
      attached = mark_in (λ p. p.attached) node_entry;
      staged = mark_in (λ p. p.staged) node_entry;
      published = mark_in (publication_known target) node_entry;
      others = others_in target node_entry;
    }

-- the target that is marked isn't among the others
others-same : (node_entry : NodeEntryShown) (target : List ℕ) (mark : Known) → others_in target (Some (node_marked mark Publication target node_entry)) ≡ others_in target (Some node_entry)
unfolding target-change
others-same node_entry target mark =
    any-change (λ (a : TargetEntry). not (same_text a.target target) && not (is_no a.published)) (λ (a : TargetEntry). a.target) target (target-change mark) node_entry.target_entries same
  where
    same : (a : TargetEntry) → a.target ≡ target → (not (same_text a.target target) && not (is_no mark)) ≡ (not (same_text a.target target) && not (is_no a.published))
    same a own =
        let is : same_text a.target target ≡ true = (same_text-tells a.target target).1 own in
        ap (λ b. not b && not (is_no mark)) is ∙ sym (ap (λ b. not b && not (is_no a.published)) is)

-- the same marks, but for the target and the others
published-of : Marks → Known → Bool → Marks
published-of marks mark others = record marks { published = mark; others = others }

-- a mark that is set in the entry is set in what is known by the entry
marks-changed : (exists mark : Known) (aspect : Aspect) (target : List ℕ) (node_entry : NodeEntryShown) → HasSpot aspect node_entry target
    → marks-by exists target (Some (node_marked mark aspect target node_entry)) ≡ marks_marked mark aspect (marks-by exists target (Some node_entry))
unfolding marks-by published-of
marks-changed exists mark Existence target node_entry spot = absurd spot
marks-changed exists mark Attachment target node_entry spot = refl
marks-changed exists mark Staging target node_entry spot = refl
marks-changed exists mark Publication target node_entry spot =
    ap (λ m. published-of (marks-by exists target (Some node_entry)) m (others_in target (Some (node_marked mark Publication target node_entry))))
    (target-mark node_entry target target mark spot.0 spot.1 ∙ ap (λ b. cond b mark (publication_known target node_entry)) (text-same target))
    ∙ ap (published-of (marks-by exists target (Some node_entry)) mark) (others-same node_entry target mark)

-- and in what is known of what the row's goal names
spot-known : (row : RowShown) (goal : Goal) (mark : Known) (aspect : Aspect) (own : Option Thing) → Spot row goal aspect own → row.goal ≡ Some goal
    → marks_for (marked-by mark aspect row) goal ≡ marks_marked mark aspect (marks_for row goal)
unfolding marked-by marks-by with-entries
spot-known row goal mark _ _ (AtVolume same) e = same (marked-by mark Existence row) ∙ sym (ap (marks_marked mark Existence) (same row))
spot-known row goal mark _ _ (AtNode node target aspect node_entry same at found spot) e =
    same (marked-by mark aspect row) ∙ ap (λ r. marks_at r node target) (at-node row goal node target mark aspect node_entry e at spot)
    ∙ ap (marks-by row.exists target)
    (there row node target node mark aspect ∙ ap (λ b. cond b (option_map (node_marked mark aspect target) (node_entry_of row node)) (node_entry_of row node)) (text-same node) ∙ ap (option_map (node_marked mark aspect target)) found)
    ∙ marks-changed row.exists mark aspect target node_entry spot ∙ sym (ap (λ o. marks_marked mark aspect (marks-by row.exists target o)) found) ∙ sym (ap (marks_marked mark aspect) (same row))

-- what is known of what the row's goal names, once what the due call does or undoes is marked
pub marks-then : (row : RowShown) (due : Due) (goal : Goal) (mark : Known) → GoalHasEntry row row.goal → IsDueFor row due → row.goal ≡ Some goal
    → marks_for (marked_row mark (kind_of due.call) row) goal ≡ marks_marked mark (aspect_of (kind_of due.call)) (marks_for row goal)
unfolding marked-by
marks-then row due goal mark entry case is =
    let work = at-work row due entry case in
    let same : work.goal ≡ goal = same_Some work.goal goal (sym work.is ∙ is) in
    subst (λ g. marks_for (marked_row mark (kind_of due.call) row) g ≡ marks_marked mark (aspect_of (kind_of due.call)) (marks_for row g)) same
    (spot-known row work.goal mark (aspect_of (kind_of due.call)) (thing_at row.name due.party due.call) work.spot work.is)
