-- What holds of a row after it was changed.
use Rattle.csi_orchestrator.proofs.Words.{◌≡◌, ℕ, List, Bool, false, cond, not, map, refl, sym, ◌∙◌, ap, subst, Option}
use Rattle.csi_orchestrator.proofs.Words.{Some, None, option_map, ◌&&◌, AllByRecursion, list_any, Kind, Number}
use Rattle.csi_orchestrator.proofs.Words.{kind_of, same_text, Goal, Create, Use, Stop, Delete, TargetEntry, Usage}
use Rattle.csi_orchestrator.proofs.Words.{Known, Maybe, is_no, Held, is_for_one_node, uses_as_second_writer, Due}
use Rattle.csi_orchestrator.proofs.Words.{NodeEntryShown, RowShown, node_entry_of, target_entry_of, held_at}
use Rattle.csi_orchestrator.proofs.Words.{AreTargetsApart, closed, due_by, due_in, Aspect, Existence, Publication}
use Rattle.csi_orchestrator.proofs.Words.{aspect_of, node_marked, marked_at, at_goal, exists_marked, nodes_marked}
use Rattle.csi_orchestrator.proofs.Words.{marked_row, row_once_sent, known_by_success_of, succeeded_row, wanted_row}
use Rattle.csi_orchestrator.proofs.Words.{is_target_kept, with_kept_targets, is_node_kept, dropped_row, stopped_goal}
use Rattle.csi_orchestrator.proofs.Words.{is_so_elsewhere, change_by, AreNodesApart, IsUsable, MayBeWanted, IsSoundRow}
use Rattle.csi_orchestrator.proofs.Words.{arith}
use Rattle.csi_orchestrator.proofs.Lemmas.{two-filter, none-some, each-filter, each-map, same_text-tells}
use Rattle.csi_types.specs.declared.call.Kind.TheVariants as kinds
use Rattle.csi_orchestrator.proofs.TextLists.{text-same}
use Rattle.csi_orchestrator.proofs.DueCases.{IsDueFor, due-cases, spelled}
use Rattle.csi_orchestrator.proofs.RowMarks.{has-entry}
use Rattle.csi_orchestrator.proofs.RowsAfterSending.{due-stays}
use Rattle.csi_orchestrator.proofs.KeyedSearches.{find-change}
use Rattle.csi_orchestrator.proofs.EntryRules.{each-change, apart-change, any-change, apart-map}

-- a node has one entry, and so has each target there
pub record AreDistinct (entries : List NodeEntryShown) : Type 0 where
  pub nodes : AreNodesApart entries
  pub targets : AllByRecursion AreTargetsApart entries

-- so it is in a kept row
pub kept-distinct : (row : RowShown) → IsSoundRow row → AreDistinct row.node_entries
kept-distinct row kept = record { nodes = kept.nodes; targets = kept.targets }

-- a change of the marks of a node's entry
pub record IsMild (target : List ℕ) (change : NodeEntryShown → NodeEntryShown) : Type 0 where
  pub same_node : (entry : NodeEntryShown) → (change entry).node ≡ entry.node
  pub same_capability : (entry : NodeEntryShown) → (change entry).capability ≡ entry.capability
  pub same_flag : (entry : NodeEntryShown) → (change entry).readonly ≡ entry.readonly
  pub still_apart : (entry : NodeEntryShown) → AreTargetsApart entry → AreTargetsApart (change entry)
  pub still_there : (entry : NodeEntryShown) (target_entry : TargetEntry) → target_entry_of entry target ≡ Some target_entry → (other : TargetEntry) × (target_entry_of (change entry) target ≡ Some other)

-- a mark that is set in an entry is such a change
pub mild-marked : (mark : Known) (aspect : Aspect) (target : List ℕ) → IsMild target (node_marked mark aspect target)
mild-marked mark Publication target =
    record {
      same_node = λ entry. refl;
      same_capability = λ entry. refl;
      same_flag = λ entry. refl;
      still_apart = λ entry apart. apart-change (λ (target_entry : TargetEntry). target_entry.target) target marks entry.target_entries (λ target_entry. refl) apart;
      still_there = λ entry target_entry e. (
        marks target_entry,
        find-change (λ (target_entry : TargetEntry). target_entry.target) target marks entry.target_entries target (λ target_entry. refl)
            ∙ ap (λ b. cond b (option_map marks (target_entry_of entry target)) (target_entry_of entry target)) (text-same target) ∙ ap (option_map marks) e,
      );
    }
  where
    marks : TargetEntry → TargetEntry
    marks target_entry = record target_entry { published = mark }
mild-marked mark aspect target =
    record { same_node = λ entry. refl; same_capability = λ entry. refl; same_flag = λ entry. refl; still_apart = λ entry apart. apart; still_there = λ entry target_entry e. (target_entry, e) }

-- such a change of a node's entry leaves each node and target its one entry
distinct-change : (node target : List ℕ) (change : NodeEntryShown → NodeEntryShown) (entries : List NodeEntryShown) → IsMild target change → AreDistinct entries → AreDistinct (change_by (λ (entry : NodeEntryShown). entry.node) node change entries)
distinct-change node target change entries mild distinct = grind (arith, apart-change, each-change)

-- a change at the node and the target of a goal does, if it does at every node and target
distinct-at : (change : List ℕ → List ℕ → List NodeEntryShown → List NodeEntryShown) → ((node target : List ℕ) (entries : List NodeEntryShown) → AreDistinct entries → AreDistinct (change node target entries))
    → (goal : Option Goal) (entries : List NodeEntryShown) → AreDistinct entries → AreDistinct (at_goal change goal entries)
distinct-at change keeps goal entries distinct = grind arith

-- so does each mark that is set for a goal: at its entry, among the entries, and in the row
at-goal-distinct : (mark : Known) (aspect : Aspect) (goal : Option Goal) (entries : List NodeEntryShown) → AreDistinct entries → AreDistinct (at_goal (marked_at mark aspect) goal entries)
at-goal-distinct mark aspect = distinct-at (marked_at mark aspect) (λ node target entries. distinct-change node target (node_marked mark aspect target) entries (mild-marked mark aspect target))

-- entries stay distinct whatever aspect is marked
nodes-distinct : (mark : Known) (aspect : Aspect) (goal : Option Goal) (entries : List NodeEntryShown) → AreDistinct entries → AreDistinct (nodes_marked mark aspect goal entries)
nodes-distinct mark Existence goal entries distinct = distinct
nodes-distinct mark aspect goal entries distinct = at-goal-distinct mark aspect goal entries distinct

-- a row's entries stay distinct where a call's kind marks it
pub marked-distinct : (mark : Known) (kind : Kind) (row : RowShown) → AreDistinct row.node_entries → AreDistinct (marked_row mark kind row).node_entries
marked-distinct mark kind row distinct = nodes-distinct mark (aspect_of kind) row.goal row.node_entries distinct

-- what is wanted of a row may be wanted of one with the same marks
usable-alike : (row other : RowShown) (usage : Usage) → other.exists ≡ row.exists → other.node_entries ≡ row.node_entries → IsUsable row usage → IsUsable other usage
usable-alike row other usage exists entries usable = grind arith

-- whatever goal it is
pub wanted-alike : (row other : RowShown) (goal : Option Goal) → other.id ≡ row.id → other.exists ≡ row.exists → other.node_entries ≡ row.node_entries → MayBeWanted row goal → MayBeWanted other goal
wanted-alike row other goal id exists entries may = grind (arith, usable-alike)

-- what is at this node isn't elsewhere
pub here : (so : Held → Bool) (node : List ℕ) (entry : NodeEntryShown) → entry.node ≡ node → is_so_elsewhere so node entry ≡ false
here so node entry e = ap (λ b. not b && not (is_no entry.attached) && so (held_at entry)) ((same_text-tells entry.node node).1 e)

-- a use that may be brought about, after a change of marks at its node
usable-change : (row : RowShown) (usage : Usage) (change : NodeEntryShown → NodeEntryShown) → IsMild usage.target change → IsUsable row usage
    → IsUsable (record row { node_entries = change_by (λ (entry : NodeEntryShown). entry.node) usage.node change row.node_entries }) usage
usable-change row usage change mild usable =
    let target_after = mild.still_there usable.entry.node_entry usable.entry.target_entry usable.entry.at_target in
    record {
      made = usable.made;
      entry =
          record {
            node_entry = change usable.entry.node_entry;
            target_entry = target_after.0;
            at_node =
                find-change (λ (entry : NodeEntryShown). entry.node) usage.node change row.node_entries usage.node mild.same_node
                ∙ ap (λ b. cond b (option_map change (node_entry_of row usage.node)) (node_entry_of row usage.node)) (text-same usage.node) ∙ ap (option_map change) usable.entry.at_node;
            at_target = target_after.1;
            same_capability = mild.same_capability usable.entry.node_entry ∙ usable.entry.same_capability;
            same_flag = mild.same_flag usable.entry.node_entry ∙ usable.entry.same_flag;
          };
      shared = unmoved (is_for_one_node usage) ∙ usable.shared;
      one_writer = unmoved (uses_as_second_writer usage) ∙ usable.one_writer;
    }
  where
    unmoved : (so : Held → Bool) → list_any (is_so_elsewhere so usage.node) (change_by (λ (entry : NodeEntryShown). entry.node) usage.node change row.node_entries) ≡ list_any (is_so_elsewhere so usage.node) row.node_entries
    unmoved so =
        any-change (is_so_elsewhere so usage.node) (λ (entry : NodeEntryShown). entry.node) usage.node change row.node_entries
        (λ entry e. here so usage.node (change entry) (mild.same_node entry ∙ e) ∙ sym (here so usage.node entry e))

-- the kinds of the calls that are due for a goal
abbrev pub IsAtNode : Aspect → Type 0
IsAtNode Existence = ⊥
IsAtNode aspect = Unit {0}

-- a call that is due for this goal is of such a kind
abbrev pub FitsGoal : Option Goal → Kind → Type 0
FitsGoal None kind = ⊥
FitsGoal (Some Create) kind = kind ≡ kinds.CreateVolume
FitsGoal (Some (Use usage)) kind = IsAtNode (aspect_of kind)
FitsGoal (Some (Stop node target)) kind = Unit {0}
FitsGoal (Some Delete) kind = kind ≡ kinds.DeleteVolume

-- the kind of a row's due call fits its goal
fits : (row : RowShown) (due : Due) → IsDueFor row due → FitsGoal row.goal (kind_of due.call)
fits row due h = grind arith

-- the same of the call that is due
pub due-fits-goal : (row : RowShown) (due : Due) → due_in row ≡ Some due → FitsGoal row.goal (kind_of due.call)
due-fits-goal row due e = fits row due (due-cases row due e)

-- what a call of the goal's kind does or undoes is marked
usable-marked : (mark : Known) (aspect : Aspect) (row : RowShown) (usage : Usage) → row.goal ≡ Some (Use usage) → IsAtNode aspect → IsUsable row usage
    → IsUsable (record row { exists = exists_marked mark aspect row.exists; node_entries = nodes_marked mark aspect row.goal row.node_entries }) usage
usable-marked mark Existence row usage e fits usable = absurd fits
usable-marked mark aspect row usage e fits usable =
    subst (λ g. IsUsable (record row { node_entries = at_goal (marked_at mark aspect) g row.node_entries }) usage) (sym e) (usable-change row usage (node_marked mark aspect usage.target) (mild-marked mark aspect usage.target) usable)

-- what is wanted may be wanted still, once a mark is set by a call that fits it
wanted-marked : (mark : Known) (kind : Kind) (row : RowShown) (goal : Option Goal) → row.goal ≡ goal → FitsGoal goal kind → MayBeWanted row goal → MayBeWanted (marked_row mark kind row) goal
wanted-marked mark kind row goal e fits may = grind (arith, usable-marked, fits)

-- the due call is sent
pub kept-sent : (number : Number) (row : RowShown) (due : Due) → due_in row ≡ Some due → AreDistinct row.node_entries → MayBeWanted row row.goal → IsSoundRow (row_once_sent number (kind_of due.call) row)
kept-sent number row due e distinct may =
    let after = marked-distinct Maybe (kind_of due.call) row distinct in
    let still = wanted-marked Maybe (kind_of due.call) row row.goal refl (due-fits-goal row due e) may in
    record {
      nodes = after.nodes;
      targets = after.targets;
      goal = wanted-alike (marked_row Maybe (kind_of due.call) row) (row_once_sent number (kind_of due.call) row) row.goal refl refl refl still;
      open_due = λ other is.
          let case = due-cases row due e in
          due-stays row due number (has-entry row row.goal may) case ∙ sym (spelled row due case) ∙ is;
    }

-- the open call is given up
pub kept-closed : (row : RowShown) → IsSoundRow row → IsSoundRow (closed row)
kept-closed row kept = record { nodes = kept.nodes; targets = kept.targets; goal = wanted-alike row (closed row) row.goal refl refl refl kept.goal; open_due = λ due is. absurd (none-some due is) }

-- nothing is wanted now
pub kept-dropped : (row : RowShown) → AreDistinct row.node_entries → IsSoundRow (dropped_row row)
kept-dropped row distinct =
    record {
      nodes = two-filter (λ (a b : NodeEntryShown). same_text a.node b.node ≡ false) is_node_kept (map with_kept_targets row.node_entries) (apart-map (λ (entry : NodeEntryShown). entry.node) with_kept_targets row.node_entries (λ entry. refl) distinct.nodes);
      targets =
          each-filter AreTargetsApart is_node_kept (map with_kept_targets row.node_entries)
          (each-map AreTargetsApart AreTargetsApart with_kept_targets row.node_entries (λ entry apart. two-filter (λ (a b : TargetEntry). same_text a.target b.target ≡ false) is_target_kept entry.target_entries apart) distinct.targets);
      goal = tt;
      open_due = λ due is. absurd (none-some due is);
    }

-- a use that didn't come about is stopped
pub wanted-stopped : (row : RowShown) (goal : Goal) → MayBeWanted row (Some goal) → MayBeWanted (wanted_row (stopped_goal goal) row) (Some (stopped_goal goal))
wanted-stopped row goal may = grind arith

-- the goal's call succeeded: where something is due still, it may be wanted still
pub wanted-succeeded : (kind : Kind) (id : Option ℕ) (row : RowShown) (goal : Option Goal) (due : Due) → row.goal ≡ goal → FitsGoal goal kind → MayBeWanted row goal
    → due_by (succeeded_row kind id row) goal ≡ Some due → MayBeWanted (succeeded_row kind id row) goal
wanted-succeeded kind id row None due e fits may next = tt
wanted-succeeded kind id row (Some Create) due e fits may next = grind (arith, fits)
wanted-succeeded kind id row (Some (Use usage)) due e fits may next =
    usable-alike (marked_row (known_by_success_of kind) kind row) (succeeded_row kind id row) usage refl refl (usable-marked (known_by_success_of kind) (aspect_of kind) row usage e fits may)
wanted-succeeded kind id row (Some (Stop node target)) due e fits may next = tt
wanted-succeeded kind id row (Some Delete) due e fits may next = wanted-marked (known_by_success_of kind) kind row (Some Delete) e fits may
