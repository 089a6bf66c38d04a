-- Rows stay steady where the due call is sent, and where what was wanted is dropped.
use Rattle.csi_orchestrator.proofs.Words.{◌≡◌, ◌≢◌, ℕ, ◌+◌, List, [], ◌∷◌, Bool, true, cond, not, refl, sym, ◌∙◌, ap}
use Rattle.csi_orchestrator.proofs.Words.{subst, inl, inr, arith, ◌⊎◌, min, Option, Some, None, option_and_then}
use Rattle.csi_orchestrator.proofs.Words.{Result, Ok, Err, AllByRecursion, Kind, Number, kind_of, OrchFault, Marks}
use Rattle.csi_orchestrator.proofs.Words.{Goal, Use, Stop, Usage, Step, Known, Yes, No, Maybe, is_yes, is_no}
use Rattle.csi_orchestrator.proofs.Words.{Arguments, next_number, Due, NodeEntryShown, RowShown, node_entry_of}
use Rattle.csi_orchestrator.proofs.Words.{publication_known, marks_at, use_due, stop_due, due_by, due_in, Aspect}
use Rattle.csi_orchestrator.proofs.Words.{aspect_of, exists_marked, nodes_marked, tidied_entries, row_once_sent}
use Rattle.csi_orchestrator.proofs.Words.{dropped_row, new_row, MovedRow, outgoing_by, row_moved, row_sends_due}
use Rattle.csi_orchestrator.proofs.Words.{HasTries, IsAtWork, HasMarks, IsLeftSo, IsAtRest, AreMarked, HasLast}
use Rattle.csi_orchestrator.proofs.Words.{IsEmptyUnlessMade, IsSteadyRowIf, MayBeWanted}
use Rattle.csi_orchestrator.proofs.Lemmas.{false≢true, none-some}
use Rattle.csi_types.specs.declared.call.Kind.TheVariants as kinds
use Rattle.csi_orchestrator.specs.declared.step.Step.TheVariants as steps
use Rattle.csi_orchestrator.proofs.DueCases.{attaching, staging, publishing, unpublishing, unstaging, detaching, IsDueFor, due-cases, ToMake, ToRemove, ToAttach, ToStage, ToPublish, ToUnpublish, ToUnstage, ToDetach}
use Rattle.csi_orchestrator.proofs.KeptEntries.{AreFit, fit-marked, fit-tidied}
use Rattle.csi_orchestrator.proofs.KeptInUse.{rest-attached}
use Rattle.csi_orchestrator.proofs.KeptMarks.{IsOnWay}
use Rattle.csi_orchestrator.proofs.KeptStandings.{MayStand, use-made, stop-made, use-has_id, stop-has_id, sent-stands, dropped-stands}
use Rattle.csi_orchestrator.proofs.KeptTidied.{IsAtRestIfKept, used-tidied, one-tidied, met-used, left-used, gone-used, left-alone, left-gone}
use Rattle.csi_orchestrator.proofs.KeptUses.{AnyMark, sending-leads, known-at, others-at, due-marked}
use Rattle.csi_orchestrator.proofs.KnownTests.{not_yes}
use Rattle.csi_orchestrator.proofs.LastEntries.{due-last}
use Rattle.csi_orchestrator.proofs.RowRules.{FitsGoal, due-fits-goal}
use Rattle.csi_orchestrator.proofs.StepsSound.{MaySendDue, new-may}

-- a success of CreateVolume brings an id
abbrev pub BringsId : Type 0 → Step → Type 0
BringsId N (steps.Succeed kind id) = kind ≡ kinds.CreateVolume → ((own : ℕ) × (id ≡ Some own)) ⊎ N
BringsId N step = Unit {0}

-- what is told of a row, if anything, keeps its rules
abbrev pub KeptAfter : Type 0 → Result MovedRow OrchFault → Type 0
KeptAfter N (Ok moved_row) = IsSteadyRowIf N moved_row.row
KeptAfter N (Err fault) = Unit {0}

-- a row before its due call is sent
pub record IsReady (N : Type 0) (row : RowShown) : Type 0 where
  pub stands : MayStand N row.goal row.id row.exists
  pub bare : row.id ≡ None → row.node_entries ≡ []
  pub empty : IsEmptyUnlessMade row.exists row.node_entries
  pub marked : AreMarked IsOnWay AnyMark row.goal row.node_entries
  pub last : HasLast row.goal row.node_entries
  pub fit : AreFit row.arguments.capabilities row.node_entries

-- ---- the due call is sent

-- one more try, counted up to 3, is one at least
tried-more : (goal : Option Goal) (tries : ℕ) (kind : Kind) → FitsGoal goal kind → HasTries goal (min 3 (1 + tries))
tried-more goal tries kind fits = grind arith

-- which isn't none
not-untried : (tries : ℕ) → min 3 (1 + tries) ≡ 0 → ⊥
not-untried tries none = omega arith

-- no entries are none still, whatever is marked
pub none-marked : (mark : Known) (aspect : Aspect) (goal : Option Goal) (entries : List NodeEntryShown) → entries ≡ [] → nodes_marked mark aspect goal entries ≡ []
none-marked mark aspect goal entries none = grind arith

-- where the volume is used at none of its nodes, and attached nowhere, there are no entries
none-used : (entries : List NodeEntryShown) → AllByRecursion (λ (entry : NodeEntryShown). entry.attached ≡ No) entries → AllByRecursion IsAtRest entries → entries ≡ []
none-used [] detached used = refl
none-used (entry ∷ entries) detached used = absurd (false≢true (sym (rest-attached entry used.0) ∙ ap is_no detached.0))

-- the goal of a call at a node is of a volume that is there
pub made-at : (N : Type 0) → (row : RowShown) (goal : Goal) → row.goal ≡ Some goal → ((id : Option ℕ) (exists : Known) → MayStand N (Some goal) id exists → exists ≡ Yes) → MayStand N row.goal row.id row.exists → row.exists ≡ Yes
made-at N row goal e made may = made row.id row.exists (subst (λ g. MayStand N g row.id row.exists) e may)

-- a volume that isn't known to be there has no entries
sent-empty : (N : Type 0) → (row : RowShown) (due : Due) → IsDueFor row due → MayBeWanted row row.goal → IsReady N row
    → IsEmptyUnlessMade (exists_marked Maybe (aspect_of (kind_of due.call)) row.exists) (nodes_marked Maybe (aspect_of (kind_of due.call)) row.goal row.node_entries)
sent-empty N row _ (ToMake goal e) may ready = λ unmade. ready.empty (not_yes row.exists e)
sent-empty N row _ (ToRemove id goal own e) may ready = λ unmade. none-used row.node_entries (subst (MayBeWanted row) goal may) (subst (λ g. AreMarked IsOnWay AnyMark g row.node_entries) goal ready.marked)
sent-empty N row _ (ToAttach usage id goal own a) may ready = λ unmade. absurd (unmade (made-at N row (Use usage) goal (use-made N usage) ready.stands))
sent-empty N row _ (ToStage usage id goal own a s) may ready = λ unmade. absurd (unmade (made-at N row (Use usage) goal (use-made N usage) ready.stands))
sent-empty N row _ (ToPublish usage id goal own a s p) may ready = λ unmade. absurd (unmade (made-at N row (Use usage) goal (use-made N usage) ready.stands))
sent-empty N row _ (ToUnpublish node target id goal own p) may ready = λ unmade. absurd (unmade (made-at N row (Stop node target) goal (stop-made N node target) ready.stands))
sent-empty N row _ (ToUnstage node target id goal own p o s) may ready = λ unmade. absurd (unmade (made-at N row (Stop node target) goal (stop-made N node target) ready.stands))
sent-empty N row _ (ToDetach node target id goal own p o s a) may ready = λ unmade. absurd (unmade (made-at N row (Stop node target) goal (stop-made N node target) ready.stands))

-- it keeps the rules then
sent-kept : (N : Type 0) → (number : Number) (row : RowShown) (due : Due) → due_in row ≡ Some due → MayBeWanted row row.goal → IsReady N row → IsSteadyRowIf N (row_once_sent number (kind_of due.call) row)
sent-kept N number row due e may ready =
    let case = due-cases row due e in
    let fit = fit-marked row.arguments.capabilities Maybe (aspect_of (kind_of due.call)) row.goal row.node_entries ready.fit in
    record {
      tries = tried-more row.goal row.tries (kind_of due.call) (due-fits-goal row due e);
      untried = λ none. absurd (not-untried row.tries none);
      standing = sent-stands N row due case ready.stands;
      bare = λ unnamed. none-marked Maybe (aspect_of (kind_of due.call)) row.goal row.node_entries (ready.bare unnamed);
      empty = sent-empty N row due case may ready;
      marked = due-marked (λ kind. Maybe) IsAtWork (λ mark. mark ≢ No) sending-leads row due case ready.marked;
      last = due-last (λ kind. Maybe) row due case ready.last;
      allowed = fit.allowed;
      beside = fit.beside;
    }

-- ---- what was wanted is dropped

-- a use is met where the volume is attached, staged and published
record IsMet (marks : Marks) : Type 0 where
  pub attached : is_yes marks.attached ≡ true
  pub staged : is_yes marks.staged ≡ true
  pub published : is_yes marks.published ≡ true

-- no call is due for a use that is met
use-met : (usage : Usage) (marks : Marks) (id : ℕ) → use_due usage marks id ≡ None → IsMet marks
use-met usage marks id e = by (is_yes marks.attached) refl (is_yes marks.staged) refl (is_yes marks.published) refl e
  where
    by : (a : Bool) → is_yes marks.attached ≡ a → (s : Bool) → is_yes marks.staged ≡ s → (p : Bool) → is_yes marks.published ≡ p → cond (not a) (Some (attaching usage id)) (cond (not s) (Some (staging usage id)) (cond (not p) (Some (publishing usage id)) None)) ≡ None → IsMet marks
    by true a true s true p e = record { attached = a; staged = s; published = p }
    by a is_a s is_s p is_p e = absurd (none-some _ (sym e))

-- a stop is met where it isn't published at the target, and may be at others, or isn't at the node
abbrev IsStopped : Marks → Type 0
IsStopped marks = (is_no marks.published ≡ true) × ((marks.others ≡ true) ⊎ ((is_no marks.staged ≡ true) × (is_no marks.attached ≡ true)))

-- no call is due for a stop that is met
stop-met : (node target : List ℕ) (marks : Marks) (id : ℕ) → stop_due node target marks id ≡ None → IsStopped marks
stop-met node target marks id e = grind (arith, unpublishing, unstaging, detaching, none-some)

-- each entry that is left is in use
dropped-used : (N : Type 0) → (row : RowShown) → due_in row ≡ None → IsReady N row → AllByRecursion IsAtRest (tidied_entries row.node_entries)
dropped-used N row e ready = by row.goal e ready.stands ready.marked
  where
    use-over : (usage : Usage) → due_by row (Some (Use usage)) ≡ None → (own : ℕ) → row.id ≡ Some own → AreMarked IsOnWay AnyMark (Some (Use usage)) row.node_entries → AllByRecursion IsAtRest (tidied_entries row.node_entries)
    use-over usage e own has one =
        let met = use-met usage (marks_at row usage.node usage.target) own (sym (ap (option_and_then (use_due usage (marks_at row usage.node usage.target))) has) ∙ e) in
        one-tidied usage.node (HasMarks IsOnWay usage.target) row.node_entries
        (λ entry found marks.
        met-used usage.target entry marks (known-at (λ p. p.attached) is_yes true row usage.node entry found met.attached) (known-at (λ p. p.staged) is_yes true row usage.node entry found met.staged)
        (known-at (publication_known usage.target) is_yes true row usage.node entry found met.published))
        one

    stop-over : (node target : List ℕ) → due_by row (Some (Stop node target)) ≡ None → (own : ℕ) → row.id ≡ Some own → AreMarked IsOnWay AnyMark (Some (Stop node target)) row.node_entries → AllByRecursion IsAtRest (tidied_entries row.node_entries)
    stop-over node target e own has one = left (stop-met node target (marks_at row node target) own (sym (ap (option_and_then (stop_due node target (marks_at row node target))) has) ∙ e))
      where
        left : IsStopped (marks_at row node target) → AllByRecursion IsAtRest (tidied_entries row.node_entries)
        left (unpublished, inl others) = one-tidied node (λ (entry : NodeEntryShown). HasMarks IsOnWay target entry ⊎ IsLeftSo AnyMark entry) row.node_entries beside one
          where
            beside : (entry : NodeEntryShown) → node_entry_of row node ≡ Some entry → HasMarks IsOnWay target entry ⊎ IsLeftSo AnyMark entry → IsAtRestIfKept entry
            beside entry found (inl marks) = left-used target entry marks (known-at (publication_known target) is_no true row node entry found unpublished) (others-at target true row node entry found others)
            beside entry found (inr own) = absurd (false≢true (sym (left-alone target AnyMark entry own) ∙ others-at target true row node entry found others))
        left (unpublished, inr (unstaged, detached)) = one-tidied node (λ (entry : NodeEntryShown). HasMarks IsOnWay target entry ⊎ IsLeftSo AnyMark entry) row.node_entries gone one
          where
            gone : (entry : NodeEntryShown) → node_entry_of row node ≡ Some entry → HasMarks IsOnWay target entry ⊎ IsLeftSo AnyMark entry → IsAtRestIfKept entry
            gone entry found (inl marks) =
                gone-used target entry marks (known-at (publication_known target) is_no true row node entry found unpublished) (known-at (λ p. p.staged) is_no true row node entry found unstaged)
                (known-at (λ p. p.attached) is_no true row node entry found detached)
            gone entry found (inr own) = left-gone AnyMark entry own (known-at (λ p. p.attached) is_no true row node entry found detached)

    by : (goal : Option Goal) → due_by row goal ≡ None → MayStand N goal row.id row.exists → AreMarked IsOnWay AnyMark goal row.node_entries → AllByRecursion IsAtRest (tidied_entries row.node_entries)
    by (Some (Use usage)) e may one = let own = use-has_id N usage row.id row.exists may in use-over usage e own.0 own.1 one
    by (Some (Stop node target)) e may one = let own = stop-has_id N node target row.id row.exists may in stop-over node target e own.0 own.1 one
    by goal e may all = used-tidied row.node_entries all

-- it keeps the rules then
dropped-kept : (N : Type 0) → (row : RowShown) → due_in row ≡ None → IsReady N row → IsSteadyRowIf N (dropped_row row)
dropped-kept N row e ready =
    let fit = fit-tidied row.arguments.capabilities row.node_entries ready.fit in
    record {
      tries = refl;
      untried = λ none. tt;
      standing = dropped-stands N row e ready.stands;
      bare = λ unnamed. ap tidied_entries (ready.bare unnamed);
      empty = λ unmade. ap tidied_entries (ready.empty unmade);
      marked = dropped-used N row e ready;
      last = tt;
      allowed = fit.allowed;
      beside = fit.beside;
    }

-- the due call is sent, or what was wanted is dropped
pub sends-due-kept : (N : Type 0) → (last : Number) (row : RowShown) → MaySendDue row → IsReady N row → KeptAfter N (row_sends_due last row)
sends-due-kept N last row may ready = by (due_in row) refl (next_number last)
  where
    by : (o : Option Due) → due_in row ≡ o → (n : Option Number) → KeptAfter N (row_moved row (outgoing_by o n))
    by None e number = dropped-kept N row e ready
    by (Some due) e None = tt
    by (Some due) e (Some number) = sent-kept N number row due e (may.may due e) ready

-- a new row's volume isn't there
new-unmade : No ≡ Yes → ⊥
new-unmade e = cc

-- a new row
pub new-kept : (N : Type 0) → (last : Number) (name : List ℕ) (arguments : Arguments) → KeptAfter N (row_sends_due last (new_row name arguments))
new-kept N last name arguments = sends-due-kept N last (new_row name arguments) (new-may name arguments) (record { stands = λ yes. absurd (new-unmade yes); bare = λ unnamed. refl; empty = λ unmade. refl; marked = tt; last = tt; fit = record { allowed = tt; beside = tt } })
