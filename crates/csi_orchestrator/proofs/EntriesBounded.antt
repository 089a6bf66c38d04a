-- How many entries a row has after what becomes of them, and which.
use Rattle.csi_orchestrator.proofs.Words.{◌≡◌, ◌<◌, ◌≤◌, ◌+◌, ℕ, suc, List, [], ◌∷◌, Bool, true, false, cond, not}
use Rattle.csi_orchestrator.proofs.Words.{length, map, refl, sym, ◌∙◌, ap, inl, inr, arith, ◌≢◌, ◌&&◌, Option, Some}
use Rattle.csi_orchestrator.proofs.Words.{None, filter, find, count_by, nat_le, AllByRecursion, list_any, Kind}
use Rattle.csi_orchestrator.proofs.Words.{same_text, IsAmong, Goal, Use, Stop, TargetEntry, Known, Yes, No, Maybe}
use Rattle.csi_orchestrator.proofs.Words.{is_no, NodeEntryShown, RowShown, node_entry_of, Aspect, Existence}
use Rattle.csi_orchestrator.proofs.Words.{node_marked, marked_at, at_goal, nodes_marked, marked_row, is_target_kept}
use Rattle.csi_orchestrator.proofs.Words.{with_kept_targets, is_node_kept, tidied_entries, with_target, held_as}
use Rattle.csi_orchestrator.proofs.Words.{entry_for, with_entry, others_count, others_attached, change_by, put_by}
use Rattle.csi_orchestrator.proofs.Words.{IsEntryWithin, AreEntriesWithin, AreWithin, IsNeeded}
use Rattle.csi_orchestrator.proofs.Lemmas.{false≢true, nat_tests, length-map, length_push, none-some, same_text-tells}
use Rattle.csi_orchestrator.proofs.Lemmas.{count-cons, each-filter, each-map, filter-no_longer, among-find}
use Rattle.csi_orchestrator.specs.Model.History.{Usage}
use Rattle.csi_orchestrator.proofs.EntryRules.{by_if, each-change}

-- ---- how long lists of entries are

-- a change leaves as many
pub change-long : {X : Type 0} (key : X → List ℕ) (text : List ℕ) (change : X → X) (xs : List X) → length (change_by key text change xs) ≡ length xs
change-long key text change [] = refl
change-long key text change (x ∷ xs) = grind (arith, (change-long key text change xs))

-- one that is put in makes one more at most, and none where its text has an entry
pub put-long : {X : Type 0} (key : X → List ℕ) (entry : X) (xs : List X) → length (put_by key entry xs) ≤ length xs + 1
put-long key entry [] = omega arith
put-long key entry (x ∷ xs) = grind (arith, (put-long key entry xs))

-- putting in where an entry has the text makes none more
pub put-there : {X : Type 0} (key : X → List ℕ) (entry old : X) (xs : List X) → IsAmong old xs → key entry ≡ key old → length (put_by key entry xs) ≡ length xs
put-there key entry old [] among same = absurd among
put-there key entry old (x ∷ xs) (inl is) same =
    ap (λ b. length (cond b (entry ∷ xs) (x ∷ put_by key entry xs))) ((same_text-tells (key x) (key entry)).1 (ap key (sym is) ∙ sym same))
put-there key entry old (x ∷ xs) (inr there) same = grind (arith, (put-there key entry old xs there same))

-- ---- what becomes of a row's entries

-- a mark is set
node-marked : (nodes : List (List ℕ)) (mark : Known) (aspect : Aspect) (target : List ℕ) (entry : NodeEntryShown) → IsEntryWithin nodes entry → IsEntryWithin nodes (node_marked mark aspect target entry)
node-marked nodes mark aspect target entry own = grind (arith, change-long)

-- entries with a mark set at a node and a target stay within the bounds
marked-at : (nodes : List (List ℕ)) (mark : Known) (aspect : Aspect) (node target : List ℕ) (entries : List NodeEntryShown) → AllByRecursion (IsEntryWithin nodes) entries → AllByRecursion (IsEntryWithin nodes) (marked_at mark aspect node target entries)
marked-at nodes mark aspect node target entries all =
    each-change (IsEntryWithin nodes) (λ (entry : NodeEntryShown). entry.node) node (node_marked mark aspect target) entries (node-marked nodes mark aspect target) all

-- so do those with a mark set at a goal's node and target
at-goal : (nodes : List (List ℕ)) (mark : Known) (aspect : Aspect) (goal : Option Goal) (entries : List NodeEntryShown) → AllByRecursion (IsEntryWithin nodes) entries → AllByRecursion (IsEntryWithin nodes) (at_goal (marked_at mark aspect) goal entries)
at-goal nodes mark aspect (Some (Use usage)) entries all = marked-at nodes mark aspect usage.node usage.target entries all
at-goal nodes mark aspect (Some (Stop node target)) entries all = marked-at nodes mark aspect node target entries all
at-goal nodes mark aspect goal entries all = all

-- whatever aspect is marked
nodes-marked : (nodes : List (List ℕ)) (mark : Known) (aspect : Aspect) (goal : Option Goal) (entries : List NodeEntryShown) → AllByRecursion (IsEntryWithin nodes) entries → AllByRecursion (IsEntryWithin nodes) (nodes_marked mark aspect goal entries)
nodes-marked nodes mark Existence goal entries all = all
nodes-marked nodes mark aspect goal entries all = at-goal nodes mark aspect goal entries all

-- there are as many
marked-long : (mark : Known) (aspect : Aspect) (goal : Option Goal) (entries : List NodeEntryShown) → length (nodes_marked mark aspect goal entries) ≡ length entries
marked-long mark aspect goal entries = grind (arith, change-long)

-- so does a row that a call's kind marks
pub row-marked : (nodes : List (List ℕ)) (mark : Known) (kind : Kind) (row : RowShown) → AreWithin nodes row → AreWithin nodes (marked_row mark kind row)
row-marked nodes mark kind row all = grind (arith, marked-long, nodes-marked)

-- entries are dropped
pub all-tidied : (nodes : List (List ℕ)) (entries : List NodeEntryShown) → AreEntriesWithin nodes entries → AreEntriesWithin nodes (tidied_entries entries)
all-tidied nodes entries all =
    let most = all.few in
    let less = filter-no_longer is_node_kept (map with_kept_targets entries) in
    let long = length-map entries with_kept_targets in
    record {
      each =
          each-filter (IsEntryWithin nodes) is_node_kept (map with_kept_targets entries)
          (each-map (IsEntryWithin nodes) (IsEntryWithin nodes) with_kept_targets entries
          (λ entry own.
          let least = own.targets in
          let kept = filter-no_longer is_target_kept entry.target_entries in
          record { among = λ some. own.among (λ none. some (ap (filter is_target_kept) none)); targets = omega (arith, least, kept) }) all.each);
      few = omega (arith, most, less, long);
    }

-- where each target may be published, all but this one are counted
all-others : (target : List ℕ) (target_entries : List TargetEntry) → find (λ (t : TargetEntry). same_text t.target target) target_entries ≡ None
    → AllByRecursion (λ (t : TargetEntry). t.published ≢ No) target_entries
    → count_by (λ (t : TargetEntry). not (same_text t.target target) && not (is_no t.published)) target_entries ≡ length target_entries
all-others target [] none all = refl
all-others target (t ∷ ts) none all =
    count-cons (λ (t : TargetEntry). not (same_text t.target target) && not (is_no t.published)) t ts
    ∙ by (same_text t.target target) t.published none all.0 (λ later. all-others target ts later all.1)
  where
    by : (b : Bool) (k : Known) → cond b (Some t) (find (λ (t : TargetEntry). same_text t.target target) ts) ≡ None → k ≢ No
        → (find (λ (t : TargetEntry). same_text t.target target) ts ≡ None → count_by (λ (t : TargetEntry). not (same_text t.target target) && not (is_no t.published)) ts ≡ length ts)
        → cond (not b && not (is_no k)) 1 0 + count_by (λ (t : TargetEntry). not (same_text t.target target) && not (is_no t.published)) ts ≡ suc (length ts)
    by true k none may further = absurd (none-some t (sym none))
    by false No none may further = absurd (may refl)
    by false Yes none may further = let rest = further none in omega (arith, rest)
    by false Maybe none may further = let rest = further none in omega (arith, rest)

-- a number that isn't reached
pub not-reached : (most n : ℕ) → nat_le most n ≡ false → n < most
not-reached most n e = grind (arith, nat_tests)

-- the entry for a use, once there is room for its target
with-target-few : (target : List ℕ) (target_entries : List TargetEntry) → length target_entries ≤ 16 → AllByRecursion (λ (t : TargetEntry). t.published ≢ No) target_entries
    → nat_le 16 (count_by (λ (t : TargetEntry). not (same_text t.target target) && not (is_no t.published)) target_entries) ≡ false
    → length (with_target target target_entries) ≤ 16
with-target-few target target_entries few may room = grind (arith, all-others, not-reached, length_push)

-- an entry at which the volume is held as a use asks is still of its node
pub held-node : (usage : Usage) (entry : NodeEntryShown) → (held_as usage entry).node ≡ entry.node
held-node usage entry = by_if (λ (e : NodeEntryShown). e.node ≡ entry.node) (is_no entry.attached) (record entry { capability = usage.capability; readonly = usage.readonly }) entry (λ e. refl) (λ e. refl)

-- what is known of the entry that a use finds
pub record IsFoundEntry (nodes : List (List ℕ)) (usage : Usage) (entry : NodeEntryShown) : Type 0 where
  pub at_node : entry.node ≡ usage.node
  pub within : IsEntryWithin nodes entry
  pub needed : IsNeeded entry

-- the entry for a use is within the bounds, where its node is known and there is room for its target
pub entry-within : (nodes : List (List ℕ)) (usage : Usage) (entry : Option NodeEntryShown) → list_any (same_text usage.node) nodes ≡ true
    → ((own : NodeEntryShown) → entry ≡ Some own → IsFoundEntry nodes usage own) → nat_le 16 (others_count usage.target entry) ≡ false → IsEntryWithin nodes (entry_for usage entry)
entry-within nodes usage entry known own room = grind (arith, held-node, with-target-few)

-- where each entry may be attached and none is of the node, all are counted
all-elsewhere : (node : List ℕ) (entries : List NodeEntryShown) → find (λ (e : NodeEntryShown). same_text e.node node) entries ≡ None
    → AllByRecursion (λ (e : NodeEntryShown). is_no e.attached ≡ false) entries
    → count_by (λ (e : NodeEntryShown). not (same_text e.node node) && not (is_no e.attached)) entries ≡ length entries
all-elsewhere node [] none all = refl
all-elsewhere node (e ∷ es) none all =
    count-cons (λ (e : NodeEntryShown). not (same_text e.node node) && not (is_no e.attached)) e es
    ∙ by (same_text e.node node) (is_no e.attached) none all.0 (λ later. all-elsewhere node es later all.1)
  where
    by : (b k : Bool) → cond b (Some e) (find (λ (e : NodeEntryShown). same_text e.node node) es) ≡ None → k ≡ false
        → (find (λ (e : NodeEntryShown). same_text e.node node) es ≡ None → count_by (λ (e : NodeEntryShown). not (same_text e.node node) && not (is_no e.attached)) es ≡ length es)
        → cond (not b && not k) 1 0 + count_by (λ (e : NodeEntryShown). not (same_text e.node node) && not (is_no e.attached)) es ≡ suc (length es)
    by true k none may further = absurd (none-some e (sym none))
    by false true none may further = absurd (false≢true (sym may))
    by false false none may further = let rest = further none in omega (arith, rest)

-- with the entry for a use there are few still, where there is room for its node
pub with-entry-few : (usage : Usage) (row : RowShown) → length row.node_entries ≤ 64 → AllByRecursion (λ (e : NodeEntryShown). is_no e.attached ≡ false) row.node_entries
    → nat_le 64 (others_attached usage.node row) ≡ false → length (with_entry usage row).node_entries ≤ 64
with-entry-few usage row few may room = by (node_entry_of row usage.node) refl
  where
    by : (o : Option NodeEntryShown) → node_entry_of row usage.node ≡ o → length (put_by (λ (e : NodeEntryShown). e.node) (entry_for usage o) row.node_entries) ≤ 64
    by (Some entry) e =
        let same = put-there (λ (e : NodeEntryShown). e.node) (entry_for usage (Some entry)) entry row.node_entries (among-find (λ (p : NodeEntryShown). same_text p.node usage.node) row.node_entries entry e) (held-node usage entry) in
        omega (arith, same, few)
    by None e =
        let all = all-elsewhere usage.node row.node_entries e may in
        let below = not-reached 64 _ room in
        let long = put-long (λ (e : NodeEntryShown). e.node) (entry_for usage None) row.node_entries in
        omega (arith, all, below, long)
