-- Where a history says that a volume may be in use, its row has an entry that says so.
use Rattle.csi_orchestrator.proofs.Words.{◌≡◌, ◌≢◌, ℕ, List, Bool, true, false, cond, not, length, refl, sym, ◌∙◌, ap}
use Rattle.csi_orchestrator.proofs.Words.{subst, Option, Some, None, option_map, filter, filter_map, nat_lt, ◌&&◌}
use Rattle.csi_orchestrator.proofs.Words.{AllByRecursion, list_any, IsAmong, same_text, TargetEntry, Known, Yes, No}
use Rattle.csi_orchestrator.proofs.Words.{Maybe, Thing, Attached, Published, Issued, name_in, thing_of, is_thing}
use Rattle.csi_orchestrator.proofs.Words.{touches, is_no, Held, History, since, ends, known, known_by, held, issued_in}
use Rattle.csi_orchestrator.proofs.Words.{issued_of, distinct, attached_node, nodes_in_use, published_target}
use Rattle.csi_orchestrator.proofs.Words.{targets_in_use, other_nodes, held_elsewhere, is_otherwise, is_held_otherwise}
use Rattle.csi_orchestrator.proofs.Words.{NodeEntryShown, RowShown, node_entry_of, target_entry_of, mark_in}
use Rattle.csi_orchestrator.proofs.Words.{publication_known, held_at, AreTargetsApart, others_in, AreNodesApart}
use Rattle.csi_orchestrator.proofs.Words.{is_so_elsewhere, has_elsewhere, is_entry_otherwise, others_count}
use Rattle.csi_orchestrator.proofs.Words.{others_attached, is_attached_somewhere}
use Rattle.csi_orchestrator.proofs.Lemmas.{false≢true, false_from_ne_true, and_parts, not-true, length-filter}
use Rattle.csi_orchestrator.proofs.Lemmas.{same_Some, among-find, each_of, all_of, in_filter, among-kept, in-filter_map}
use Rattle.csi_orchestrator.proofs.Lemmas.{empty-where, among-filter_map, has-some, some-has, two-filter, find-passes}
use Rattle.csi_orchestrator.proofs.Lemmas.{alike, then-any, any-then, any-counted, filter-each, same_text-tells}
use Rattle.csi_orchestrator.specs.Model.History.{Usage}
use Rattle.csi_orchestrator.proofs.SinceItems.{since-sent}
use Rattle.csi_orchestrator.proofs.ViewsFollow.{touches-name, latest}
use Rattle.csi_orchestrator.proofs.JoinedLists.{own-entry}
use Rattle.csi_orchestrator.proofs.RowViews.{IsRowOf}
use Rattle.csi_orchestrator.proofs.TextLists.{among-distinct, distinct-once, as-many-as}

-- a text is in use where the thing that it makes may be so: the thing's latest call is of the name, and gives the text back
used : (history : History) (name : List ℕ) (made : List ℕ → Thing) (pick : Option Thing → Option (List ℕ)) (text : List ℕ) → name_in (made text) ≡ name
    → ((thing : Option Thing) → is_thing (made text) thing ≡ true → pick thing ≡ Some text) → is_no (known history (made text)) ≡ false
    → IsAmong text (filter (λ t. not (is_no (known history (made t)))) (distinct (filter_map (λ (i : Issued). pick (thing_of i)) (issued_of history name))))
used history name made pick text own picks maybe =
    in_filter (λ (t : List ℕ). not (is_no (known history (made t)))) _ text (among-distinct _ text (by (latest history (made text)) refl maybe)) (ap not maybe)
  where
    by : (o : Option Issued) → latest history (made text) ≡ o → is_no (known_by history.items (made text) o) ≡ false
        → IsAmong text (filter_map (λ (i : Issued). pick (thing_of i)) (issued_of history name))
    by None e f = absurd (false≢true (sym f))
    by (Some issued) e f =
        let of = find-passes (touches (made text)) (issued_in (since (ends (made text)) history.items)) issued e in
        let named = subst (λ n. same_text issued.name n ≡ true) own (touches-name (made text) issued of) in
        let among = in_filter (λ (i : Issued). same_text i.name name) (issued_in history.items) issued (since-sent (ends (made text)) history.items issued (among-find (touches (made text)) (issued_in (since (ends (made text)) history.items)) issued e)) named in
        in-filter_map (λ (i : Issued). pick (thing_of i)) (issued_of history name) issued text among (picks (thing_of issued) of)

-- a node at which the volume may be attached, and a target at which it may be published
pub node-in-use : (history : History) (name node : List ℕ) → is_no (known history (Attached name node)) ≡ false → IsAmong node (nodes_in_use history name)
node-in-use history name node = used history name (Attached name) attached_node node refl of
  where
    of : (thing : Option Thing) → is_thing (Attached name node) thing ≡ true → attached_node thing ≡ Some node
    of (Some (Attached own other)) is = ap Some (sym ((same_text-tells node other).0 (and_parts (same_text name own) (same_text node other) is).1))
    of None is = absurd (false≢true is)
    of (Some thing) is = absurd (false≢true is)

-- a target at which the volume may be published is in use
pub target-in-use : (history : History) (name node target : List ℕ) → is_no (known history (Published name node target)) ≡ false → IsAmong target (targets_in_use history name node)
target-in-use history name node target = used history name (Published name node) (published_target node) target refl of
  where
    of : (thing : Option Thing) → is_thing (Published name node target) thing ≡ true → published_target node thing ≡ Some target
    of (Some (Published own there other_target)) is =
        let both = and_parts (same_text name own && same_text node there) (same_text target other_target) is in
        let at_node = (same_text-tells node there).0 (and_parts (same_text name own) (same_text node there) both.0).1 in
        ap (λ t. cond t (Some other_target) None) ((same_text-tells there node).1 (sym at_node)) ∙ ap Some (sym ((same_text-tells target other_target).0 both.1))
    of None is = absurd (false≢true is)
    of (Some thing) is = absurd (false≢true is)

-- only such a node, and only such a target, is in use
node-may : (history : History) (name node : List ℕ) → IsAmong node (nodes_in_use history name) → is_no (known history (Attached name node)) ≡ false
node-may history name node among = not-true _ (among-kept (λ (n : List ℕ). not (is_no (known history (Attached name n)))) _ node among).1

-- a target in use is one at which the volume may be published
target-may : (history : History) (name node target : List ℕ) → IsAmong target (targets_in_use history name node) → is_no (known history (Published name node target)) ≡ false
target-may history name node target among = not-true _ (among-kept (λ (t : List ℕ). not (is_no (known history (Published name node t)))) _ target among).1

-- an entry that may be attached is of a node in use
entry-in-use : (row : RowShown) (history : History) (name : List ℕ) (node_entry : NodeEntryShown) → IsRowOf row history name → AreNodesApart row.node_entries → IsAmong node_entry row.node_entries → is_no node_entry.attached ≡ false
    → IsAmong node_entry.node (nodes_in_use history name) × (held history name node_entry.node ≡ Some (held_at node_entry))
entry-in-use row history name node_entry own apart among maybe =
    let found : node_entry_of row node_entry.node ≡ Some node_entry = own-entry (λ (p : NodeEntryShown). p.node) row.node_entries node_entry apart among in
    let here : mark_in (λ (p : NodeEntryShown). p.attached) (node_entry_of row node_entry.node) ≡ node_entry.attached = ap (mark_in (λ (p : NodeEntryShown). p.attached)) found in
    let may : is_no (known history (Attached name node_entry.node)) ≡ false = ap is_no (sym (own.marks (Attached name node_entry.node) refl) ∙ here) ∙ maybe in
    (node-in-use history name node_entry.node may, sym (own.holdings node_entry.node (λ no. false≢true (sym maybe ∙ ap is_no (sym here ∙ no)))) ∙ ap (option_map held_at) found)

-- a node in use has an entry that may be attached
entry-of-node : (row : RowShown) (history : History) (name node : List ℕ) → IsRowOf row history name → IsAmong node (nodes_in_use history name)
    → (node_entry : NodeEntryShown) × IsAmong node_entry row.node_entries × (node_entry.node ≡ node) × (is_no node_entry.attached ≡ false) × (held history name node ≡ Some (held_at node_entry))
entry-of-node row history name node own among = by (node_entry_of row node) refl (ap is_no (own.marks (Attached name node) refl) ∙ node-may history name node among)
  where
    by : (o : Option NodeEntryShown) → node_entry_of row node ≡ o → is_no (mark_in (λ (p : NodeEntryShown). p.attached) o) ≡ false
        → (node_entry : NodeEntryShown) × IsAmong node_entry row.node_entries × (node_entry.node ≡ node) × (is_no node_entry.attached ≡ false) × (held history name node ≡ Some (held_at node_entry))
    by None e maybe = absurd (false≢true (sym maybe))
    by (Some node_entry) e maybe = (
      node_entry,
      among-find (λ (p : NodeEntryShown). same_text p.node node) row.node_entries node_entry e,
      (same_text-tells node_entry.node node).0 (find-passes (λ (p : NodeEntryShown). same_text p.node node) row.node_entries node_entry e),
      maybe,
      sym (own.holdings node (λ no. false≢true (sym maybe ∙ ap is_no (sym (ap (mark_in (λ (p : NodeEntryShown). p.attached)) e) ∙ no)))) ∙ ap (option_map held_at) e,
    )

-- the volume may be attached so at another node
pub elsewhere-alike : (so : Held → Bool) (row : RowShown) (history : History) (name node : List ℕ) → IsRowOf row history name → AreNodesApart row.node_entries → list_any so (held_elsewhere history name node) ≡ has_elsewhere so node row
elsewhere-alike so row history name node own apart = alike (list_any so (held_elsewhere history name node)) (has_elsewhere so node row) there back
  where
    others : List (List ℕ)
    others = filter (λ other. not (same_text other node)) (nodes_in_use history name)

    there : list_any so (held_elsewhere history name node) ≡ true → has_elsewhere so node row ≡ true
    there e =
        let holding = any-then so (held_elsewhere history name node) e in
        let other = among-filter_map (held history name) others holding.0 holding.1 in
        let is_in = among-kept (λ other. not (same_text other node)) (nodes_in_use history name) other.0 other.1 in
        let node_entry = entry-of-node row history name other.0 own is_in.0 in
        let differs : not (same_text node_entry.0.node node) ≡ true = ap (λ n. not (same_text n node)) node_entry.2 ∙ is_in.1 in
        let it : so (held_at node_entry.0) ≡ true = ap so (same_Some (held_at node_entry.0) holding.0 (sym node_entry.4 ∙ other.2)) ∙ holding.2 in
        then-any (is_so_elsewhere so node) row.node_entries node_entry.0 node_entry.1 (ap (λ b. b && not (is_no node_entry.0.attached) && so (held_at node_entry.0)) differs ∙ ap (λ b. not b && so (held_at node_entry.0)) node_entry.3 ∙ it)

    back : has_elsewhere so node row ≡ true → list_any so (held_elsewhere history name node) ≡ true
    back e =
        let node_entry = any-then (is_so_elsewhere so node) row.node_entries e in
        let tests = and_parts (not (same_text node_entry.0.node node) && not (is_no node_entry.0.attached)) (so (held_at node_entry.0)) node_entry.2 in
        let first = and_parts (not (same_text node_entry.0.node node)) (not (is_no node_entry.0.attached)) tests.0 in
        let used = entry-in-use row history name node_entry.0 own apart node_entry.1 (not-true (is_no node_entry.0.attached) first.1) in
        then-any so (held_elsewhere history name node) (held_at node_entry.0)
        (in-filter_map (held history name) others node_entry.0.node (held_at node_entry.0) (in_filter (λ other. not (same_text other node)) (nodes_in_use history name) node_entry.0.node used.0 first.0) used.1)
        tests.1

-- the volume may be attached somewhere
pub attached-alike : (row : RowShown) (history : History) (name : List ℕ) → IsRowOf row history name → AreNodesApart row.node_entries → nat_lt 0 (length (nodes_in_use history name)) ≡ is_attached_somewhere row
attached-alike row history name own apart = alike (nat_lt 0 (length (nodes_in_use history name))) (is_attached_somewhere row) there back
  where
    there : nat_lt 0 (length (nodes_in_use history name)) ≡ true → is_attached_somewhere row ≡ true
    there e =
        let node = has-some (nodes_in_use history name) e in
        let node_entry = entry-of-node row history name node.0 own node.1 in
        then-any (λ (p : NodeEntryShown). not (is_no p.attached)) row.node_entries node_entry.0 node_entry.1 (ap not node_entry.3)

    back : is_attached_somewhere row ≡ true → nat_lt 0 (length (nodes_in_use history name)) ≡ true
    back e =
        let node_entry = any-then (λ (p : NodeEntryShown). not (is_no p.attached)) row.node_entries e in
        some-has (nodes_in_use history name) node_entry.0.node (entry-in-use row history name node_entry.0 own apart node_entry.1 (not-true (is_no node_entry.0.attached) node_entry.2)).0

-- it may be attached at this node otherwise
pub otherwise-alike : (row : RowShown) (history : History) (name : List ℕ) (usage : Usage) → IsRowOf row history name → is_held_otherwise history name usage ≡ is_entry_otherwise usage (node_entry_of row usage.node)
otherwise-alike row history name usage own =
    ap (λ k. not (is_no k) && is_otherwise usage (held history name usage.node)) (sym (own.marks (Attached name usage.node) refl)) ∙ by (node_entry_of row usage.node) (own.holdings usage.node)
  where
    by : (o : Option NodeEntryShown) → (mark_in (λ (p : NodeEntryShown). p.attached) o ≢ No → option_map held_at o ≡ held history name usage.node)
        → (not (is_no (mark_in (λ (p : NodeEntryShown). p.attached) o)) && is_otherwise usage (held history name usage.node)) ≡ is_entry_otherwise usage o
    by None holds = refl
    by (Some node_entry) holds = at node_entry.attached holds
      where
        at : (k : Known) → (k ≢ No → Some (held_at node_entry) ≡ held history name usage.node) → (not (is_no k) && is_otherwise usage (held history name usage.node)) ≡ (not (is_no k) && is_otherwise usage (Some (held_at node_entry)))
        at No holds = refl
        at Yes holds = ap (is_otherwise usage) (sym (holds (λ e. cc)))
        at Maybe holds = ap (is_otherwise usage) (sym (holds (λ e. cc)))

-- the other targets of a node are as many as its other entries that may be published
pub others-alike : (row : RowShown) (history : History) (name node target : List ℕ) → IsRowOf row history name → AllByRecursion AreTargetsApart row.node_entries
    → length (filter (λ t. not (same_text t target)) (targets_in_use history name node)) ≡ others_count target (node_entry_of row node)
others-alike row history name node target own apart = by (node_entry_of row node) refl
  where
    targets : List (List ℕ)
    targets = filter (λ t. not (same_text t target)) (targets_in_use history name node)

    -- a target among them is another one, and may be published
    may : (t : List ℕ) → IsAmong t targets → (not (same_text t target) ≡ true) × (is_no (mark_in (publication_known t) (node_entry_of row node)) ≡ false)
    may t among =
        let other = among-kept (λ t. not (same_text t target)) (targets_in_use history name node) t among in
        (other.1, ap is_no (own.marks (Published name node t) refl) ∙ target-may history name node t other.0)

    by : (o : Option NodeEntryShown) → node_entry_of row node ≡ o → length targets ≡ others_count target o
    by None e = ap length (empty-where targets (λ t among. false≢true (sym (may t among).1 ∙ ap (λ o. is_no (mark_in (publication_known t) o)) e)))
    by (Some node_entry) e =
        as-many-as targets (λ (a : TargetEntry). a.target) (filter is_at_another_target node_entry.target_entries)
        (two-filter (λ (a b : List ℕ). same_text a b ≡ false) (λ t. not (same_text t target)) _
        (two-filter (λ (a b : List ℕ). same_text a b ≡ false) (λ (t : List ℕ). not (is_no (known history (Published name node t)))) _
        (distinct-once (filter_map (λ (i : Issued). published_target node (thing_of i)) (issued_of history name)))))
        (two-filter (λ (a b : TargetEntry). same_text a.target b.target ≡ false) is_at_another_target node_entry.target_entries targets_apart)
        (λ t among. let it = may t among in entry t it.0 (target_entry_of node_entry t) refl (sym (ap (λ o. is_no (mark_in (publication_known t) o)) e) ∙ it.1)) from ∙ length-filter is_at_another_target node_entry.target_entries
      where
        is_at_another_target : TargetEntry → Bool
        is_at_another_target target_entry = not (same_text target_entry.target target) && not (is_no target_entry.published)

        targets_apart : AreTargetsApart node_entry
        targets_apart = each_of AreTargetsApart row.node_entries node_entry apart (among-find (λ (p : NodeEntryShown). same_text p.node node) row.node_entries node_entry e)

        entry : (t : List ℕ) → not (same_text t target) ≡ true → (o : Option TargetEntry) → target_entry_of node_entry t ≡ o → is_no (mark_in (λ (a : TargetEntry). a.published) o) ≡ false
            → (target_entry : TargetEntry) × IsAmong target_entry (filter is_at_another_target node_entry.target_entries) × (target_entry.target ≡ t)
        entry t differs None f maybe = absurd (false≢true (sym maybe))
        entry t differs (Some target_entry) f maybe =
            let is : target_entry.target ≡ t = (same_text-tells target_entry.target t).0 (find-passes (λ (a : TargetEntry). same_text a.target t) node_entry.target_entries target_entry f) in
            let other : is_at_another_target target_entry ≡ true = ap (λ b. b && not (is_no target_entry.published)) (ap (λ u. not (same_text u target)) is ∙ differs) ∙ ap not maybe in
            (target_entry, in_filter is_at_another_target node_entry.target_entries target_entry (among-find (λ (a : TargetEntry). same_text a.target t) node_entry.target_entries target_entry f) other, is)

        from : (target_entry : TargetEntry) → IsAmong target_entry (filter is_at_another_target node_entry.target_entries) → IsAmong target_entry.target targets
        from target_entry among =
            let kept = among-kept is_at_another_target node_entry.target_entries target_entry among in
            let parts = and_parts (not (same_text target_entry.target target)) (not (is_no target_entry.published)) kept.1 in
            let mark : mark_in (publication_known target_entry.target) (node_entry_of row node) ≡ target_entry.published = ap (mark_in (publication_known target_entry.target)) e ∙ ap (mark_in (λ (a : TargetEntry). a.published)) (own-entry (λ (a : TargetEntry). a.target) node_entry.target_entries target_entry targets_apart kept.0) in
            in_filter (λ t. not (same_text t target)) (targets_in_use history name node) target_entry.target
            (target-in-use history name node target_entry.target (ap is_no (sym (own.marks (Published name node target_entry.target) refl) ∙ mark) ∙ not-true _ parts.1)) parts.0

-- the other nodes in use are as many as the other entries that may be attached
pub nodes-alike : (row : RowShown) (history : History) (name node : List ℕ) → IsRowOf row history name → AreNodesApart row.node_entries → length (other_nodes history name node) ≡ others_attached node row
nodes-alike row history name node own apart =
    as-many-as (other_nodes history name node) (λ (p : NodeEntryShown). p.node) (filter is_at_another_node row.node_entries)
    (two-filter (λ (a b : List ℕ). same_text a b ≡ false) (λ other. not (same_text other node)) _
    (two-filter (λ (a b : List ℕ). same_text a b ≡ false) (λ (n : List ℕ). not (is_no (known history (Attached name n)))) _
    (distinct-once (filter_map (λ (i : Issued). attached_node (thing_of i)) (issued_of history name)))))
    (two-filter (λ (a b : NodeEntryShown). same_text a.node b.node ≡ false) is_at_another_node row.node_entries apart) there back
    ∙ length-filter is_at_another_node row.node_entries
  where
    is_at_another_node : NodeEntryShown → Bool
    is_at_another_node p = not (same_text p.node node) && not (is_no p.attached)

    there : (other : List ℕ) → IsAmong other (other_nodes history name node) → (p : NodeEntryShown) × IsAmong p (filter is_at_another_node row.node_entries) × (p.node ≡ other)
    there other among =
        let kept = among-kept (λ other. not (same_text other node)) (nodes_in_use history name) other among in
        let entry = entry-of-node row history name other own kept.0 in
        let differs : not (same_text entry.0.node node) ≡ true = ap (λ n. not (same_text n node)) entry.2 ∙ kept.1 in (
          entry.0,
          in_filter is_at_another_node row.node_entries entry.0 entry.1 (ap (λ b. b && not (is_no entry.0.attached)) differs ∙ ap not entry.3),
          entry.2,
        )

    back : (p : NodeEntryShown) → IsAmong p (filter is_at_another_node row.node_entries) → IsAmong p.node (other_nodes history name node)
    back p among =
        let kept = among-kept is_at_another_node row.node_entries p among in
        let parts = and_parts (not (same_text p.node node)) (not (is_no p.attached)) kept.1 in
        in_filter (λ other. not (same_text other node)) (nodes_in_use history name) p.node (entry-in-use row history name p own apart kept.0 (not-true (is_no p.attached) parts.1)).0 parts.0

-- some are where some are counted
pub others-counted : (target : List ℕ) (node_entry : Option NodeEntryShown) → nat_lt 0 (others_count target node_entry) ≡ others_in target node_entry
others-counted target None = refl
others-counted target (Some node_entry) = any-counted (λ (a : TargetEntry). not (same_text a.target target) && not (is_no a.published)) node_entry.target_entries

-- where this target isn't published, some target is in use where another one may be published
pub in-use-alike : (row : RowShown) (history : History) (name node target : List ℕ) → IsRowOf row history name → AllByRecursion AreTargetsApart row.node_entries
    → is_no (mark_in (publication_known target) (node_entry_of row node)) ≡ true → nat_lt 0 (length (targets_in_use history name node)) ≡ others_in target (node_entry_of row node)
in-use-alike row history name node target own apart quiet =
    ap (λ ts. nat_lt 0 (length ts)) (sym (filter-each (λ t. not (same_text t target)) _ (all_of _ (targets_in_use history name node) others)))
    ∙ ap (nat_lt 0) (others-alike row history name node target own apart) ∙ others-counted target (node_entry_of row node)
  where
    others : (t : List ℕ) → IsAmong t (targets_in_use history name node) → not (same_text t target) ≡ true
    others t among =
        ap not (false_from_ne_true (same_text t target) (λ e.
        let may = target-may history name node target (subst (λ u. IsAmong u (targets_in_use history name node)) ((same_text-tells t target).0 e) among) in
        false≢true (sym may ∙ ap is_no (sym (own.marks (Published name node target) refl)) ∙ quiet)))
