-- What a row is and tells once a node was lost.
use Rattle.csi_orchestrator.proofs.Words.{◌≡◌, ℕ, List, [], ◌∷◌, map, Bool, true, false, cond, refl, sym, ◌∙◌, ap}
use Rattle.csi_orchestrator.proofs.Words.{Option, Some, None, option_map, ◌||◌, AllByRecursion, list_any, same_text}
use Rattle.csi_orchestrator.proofs.Words.{Goal, Create, Use, Stop, Delete, Usage, No, Thing, is_gone_with, Held}
use Rattle.csi_orchestrator.proofs.Words.{NodeEntryShown, RowShown, node_entry_of, mark_of, goal_in, held_on_node}
use Rattle.csi_orchestrator.proofs.Words.{held_at, is_use_at, wanted_row, stopped_goal, entry_at_loss, stopped_at}
use Rattle.csi_orchestrator.proofs.Words.{row_at_loss, AreTargetsApart, closed, is_so_elsewhere, AreNodesApart}
use Rattle.csi_orchestrator.proofs.Words.{IsUsable, MayBeWanted, IsSoundRow, arith}
use Rattle.csi_orchestrator.proofs.Lemmas.{false≢true, none-some, each-map, find-map, find-passes, same_text-tells}
use Rattle.csi_orchestrator.proofs.EntryRules.{apart-map}
use Rattle.csi_orchestrator.proofs.LossViews.{stopped, is_stopped}

-- ---- an entry

-- an entry of the node, and one of another
pub entry-by : (P : NodeEntryShown → Type 0) (node : List ℕ) (entry : NodeEntryShown) → P (record entry { staged = No; target_entries = [] }) → P entry → P (entry_at_loss node entry)
entry-by P node entry lost other = grind arith

-- it is of the same node, attached and held as before, and its targets stay apart
pub lost-node : (node : List ℕ) (entry : NodeEntryShown) → (entry_at_loss node entry).node ≡ entry.node
lost-node node entry = entry-by (λ (e : NodeEntryShown). e.node ≡ entry.node) node entry refl refl

-- attached as before
pub lost-attached : (node : List ℕ) (entry : NodeEntryShown) → (entry_at_loss node entry).attached ≡ entry.attached
lost-attached node entry = entry-by (λ (e : NodeEntryShown). e.attached ≡ entry.attached) node entry refl refl

-- held as before
pub lost-held : (node : List ℕ) (entry : NodeEntryShown) → held_at (entry_at_loss node entry) ≡ held_at entry
lost-held node entry = entry-by (λ (e : NodeEntryShown). held_at e ≡ held_at entry) node entry refl refl

-- targets stay apart
lost-apart : (node : List ℕ) (entry : NodeEntryShown) → AreTargetsApart entry → AreTargetsApart (entry_at_loss node entry)
lost-apart node entry apart = entry-by AreTargetsApart node entry tt apart

-- an entry of another node is as it was
pub other-entry : (node : List ℕ) (entry : NodeEntryShown) → same_text entry.node node ≡ false → entry_at_loss node entry ≡ entry
other-entry node entry e = ap (λ b. cond b (let lost : NodeEntryShown = record entry { staged = No; target_entries = [] } in lost) entry) e

-- one of the node lost its staging and its targets
pub own-lost : (node : List ℕ) (entry : NodeEntryShown) → same_text entry.node node ≡ true → entry_at_loss node entry ≡ record entry { staged = No; target_entries = [] }
own-lost node entry e = ap (λ b. cond b (let lost : NodeEntryShown = record entry { staged = No; target_entries = [] } in lost) entry) e

-- ---- a row

-- the row with such entries
abbrev pub with_lost : List ℕ → RowShown → RowShown
with_lost node row = record row { node_entries = map (entry_at_loss node) row.node_entries }

-- what is so of the row whatever its goal is, once its call is closed, and once a use of the node is stopped
pub row-by : (P : RowShown → Type 0) (node : List ℕ) (row : RowShown) (goal : Option Goal) → (is_use_at node goal ≡ false → P (closed (with_lost node row)))
    → ((usage : Usage) → goal ≡ Some (Use usage) → same_text usage.node node ≡ true → P (record (with_lost node row) { goal = Some (Stop usage.node usage.target); open_call = None; tries = 0 })) → P (stopped_at node goal (with_lost node row))
row-by P node row goal other own = grind arith

-- its name, and what is read of its entries
pub lost-name : (node : List ℕ) (row : RowShown) → (row_at_loss node row).name ≡ row.name
lost-name node row = row-by (λ (r : RowShown). r.name ≡ row.name) node row row.goal (λ e. refl) (λ usage e f. refl)

-- the entry of a node
pub lost-entry : (node : List ℕ) (row : RowShown) (there : List ℕ) → node_entry_of (with_lost node row) there ≡ option_map (entry_at_loss node) (node_entry_of row there)
lost-entry node row there = find-map (λ (e : NodeEntryShown). same_text e.node there) (entry_at_loss node) row.node_entries (λ entry. ap (λ n. same_text n there) (lost-node node entry))

-- ---- the rules of the row

-- a test of how the volume is held elsewhere is as it was
elsewhere-same : (node : List ℕ) (so : Held → Bool) (there : List ℕ) (entry : NodeEntryShown) → is_so_elsewhere so there (entry_at_loss node entry) ≡ is_so_elsewhere so there entry
elsewhere-same node so there entry = entry-by (λ (e : NodeEntryShown). is_so_elsewhere so there e ≡ is_so_elsewhere so there entry) node entry refl refl

-- of all entries
any-same : (node : List ℕ) (so : Held → Bool) (there : List ℕ) (entries : List NodeEntryShown) → list_any (is_so_elsewhere so there) (map (entry_at_loss node) entries) ≡ list_any (is_so_elsewhere so there) entries
any-same node so there [] = refl
any-same node so there (entry ∷ entries) = λ i. elsewhere-same node so there entry i || any-same node so there entries i

-- a use at another node
lost-usable : (node : List ℕ) (row : RowShown) (usage : Usage) → same_text usage.node node ≡ false → IsUsable row usage → IsUsable (closed (with_lost node row)) usage
lost-usable node row usage other usable = grind (arith, same_text-tells, find-passes, other-entry, lost-entry, any-same)

-- what is wanted may be wanted still
lost-wanted : (node : List ℕ) (row : RowShown) (goal : Option Goal) → is_use_at node goal ≡ false → MayBeWanted row goal → MayBeWanted (closed (with_lost node row)) goal
lost-wanted node row None other may = tt
lost-wanted node row (Some Create) other may = may
lost-wanted node row (Some (Use usage)) other may = lost-usable node row usage other may
lost-wanted node row (Some (Stop there target)) other may = tt
lost-wanted node row (Some Delete) other may =
    each-map (λ (e : NodeEntryShown). e.attached ≡ No) (λ (e : NodeEntryShown). e.attached ≡ No) (entry_at_loss node) row.node_entries (λ entry no. lost-attached node entry ∙ no) may

-- nodes and targets stay apart
lost-nodes : (node : List ℕ) (row : RowShown) → AreNodesApart row.node_entries → AreNodesApart (map (entry_at_loss node) row.node_entries)
lost-nodes node row apart = apart-map (λ (e : NodeEntryShown). e.node) (entry_at_loss node) row.node_entries (lost-node node) apart

-- the targets of each
lost-targets : (node : List ℕ) (row : RowShown) → AllByRecursion AreTargetsApart row.node_entries → AllByRecursion AreTargetsApart (map (entry_at_loss node) row.node_entries)
lost-targets node row apart = each-map AreTargetsApart AreTargetsApart (entry_at_loss node) row.node_entries (lost-apart node) apart

-- a sound row stays so
pub lost-sound : (node : List ℕ) (row : RowShown) → IsSoundRow row → IsSoundRow (row_at_loss node row)
lost-sound node row sound = grind (arith, row-by, lost-nodes, lost-targets, lost-wanted, none-some)

-- ---- what it tells

-- the entry that is found is of the node
pub of-node : (row : RowShown) (there : List ℕ) (entry : NodeEntryShown) → node_entry_of row there ≡ Some entry → entry.node ≡ there
of-node row there entry e = (same_text-tells entry.node there).0 (find-passes (λ (x : NodeEntryShown). same_text x.node there) row.node_entries entry e)

-- what is known of a thing: nothing is staged or published at the node any more
pub lost-mark : (node : List ℕ) (row : RowShown) (thing : Thing) → mark_of thing (with_lost node row) ≡ cond (is_gone_with node thing) No (mark_of thing row)
lost-mark node row thing = grind (arith, lost-entry, lost-attached, own-lost, of-node, other-entry)

-- how it is held
pub lost-holding : (node : List ℕ) (row : RowShown) (there : List ℕ) → held_on_node (with_lost node row) there ≡ held_on_node row there
lost-holding node row there = grind (arith, lost-entry, lost-held)

-- what is wanted, and how often it was tried
pub lost-goal : (node : List ℕ) (row : RowShown) → goal_in (row_at_loss node row) ≡ stopped node (goal_in row)
lost-goal node row = grind (arith, stopped)

-- the tries of a use that is stopped begin anew
pub lost-tries : (node : List ℕ) (row : RowShown) → (row_at_loss node row).tries ≡ cond (is_stopped node (goal_in row)) 0 row.tries
lost-tries node row = grind (arith, is_stopped)

-- a row whose use of the node was stopped, once its entries lost the node
pub stopped-row : (node : List ℕ) (row : RowShown) (entries : List NodeEntryShown) → entries ≡ map (entry_at_loss node) row.node_entries → (goal : Option Goal) → row.goal ≡ goal → is_use_at node goal ≡ true
    → (result : RowShown) → ((g : Goal) → goal ≡ Some g → result ≡ wanted_row (stopped_goal g) (record row { node_entries = entries })) → result ≡ row_at_loss node row
stopped-row node row entries is (Some (Use usage)) e here result stops =
    stops (Use usage) refl ∙ ap (λ es. wanted_row (Stop usage.node usage.target) (record row { node_entries = es })) is
    ∙ sym (ap (λ g. stopped_at node g (with_lost node row)) e
    ∙ ap (λ b. cond b (let r : RowShown = record (with_lost node row) { goal = Some (Stop usage.node usage.target); open_call = None; tries = 0 } in r) (closed (with_lost node row))) here)
stopped-row node row entries is goal e here result stops = absurd (false≢true here)

-- no call of it is open
pub lost-closed : (node : List ℕ) (row : RowShown) → (row_at_loss node row).open_call ≡ None
lost-closed node row = row-by (λ (r : RowShown). r.open_call ≡ None) node row row.goal (λ e. refl) (λ usage e f. refl)
