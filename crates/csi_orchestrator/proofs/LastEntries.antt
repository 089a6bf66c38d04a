-- Why the target of a use that isn't published yet stays the last of its node.
use Rattle.csi_orchestrator.proofs.Words.{◌≡◌, ℕ, List, [], ◌∷◌, ◌++◌, true, false, cond, refl, sym, ◌∙◌, ap, subst}
use Rattle.csi_orchestrator.proofs.Words.{inl, inr, Option, Some, None, is_some, find, option_map, AllByRecursion}
use Rattle.csi_orchestrator.proofs.Words.{Kind, kind_of, same_text, Use, TargetEntry, Usage, Known, Yes, Due}
use Rattle.csi_orchestrator.proofs.Words.{NodeEntryShown, RowShown, node_entry_of, target_entry_of, mark_in}
use Rattle.csi_orchestrator.proofs.Words.{publication_known, is_yes, change_by, Aspect, Attachment, Staging}
use Rattle.csi_orchestrator.proofs.Words.{Publication, aspect_of, node_marked, marked_at, at_goal, nodes_marked}
use Rattle.csi_orchestrator.proofs.Words.{new_target_entry, with_target, held_as, entry_for, with_entry, IsAtRest}
use Rattle.csi_orchestrator.proofs.Words.{IsLast, CameLast, HasLast, arith}
use Rattle.csi_orchestrator.proofs.Lemmas.{false≢true, none-some, same_Some, each_of, among-find, find-passes}
use Rattle.csi_orchestrator.proofs.Lemmas.{same_text-tells}
use Rattle.csi_types.specs.declared.call.Kind.TheVariants as kinds
use Rattle.csi_orchestrator.proofs.EntriesBounded.{held-node}
use Rattle.csi_orchestrator.proofs.DueCases.{IsDueFor, ToMake, ToRemove, ToAttach, ToStage, ToPublish, ToUnpublish, ToUnstage, ToDetach}
use Rattle.csi_orchestrator.proofs.KeptUses.{known-at}
use Rattle.csi_orchestrator.proofs.KeyedSearches.{find-change, find-put}
use Rattle.csi_orchestrator.proofs.RowMarks.{node-stays}
use Rattle.csi_orchestrator.proofs.TextLists.{text-same}

-- ---- lists

-- one more in front of a list that ends so
last-behind : {X : Type 0} (key : X → List ℕ) (text : List ℕ) (x : X) (xs : List X) → IsLast key text xs → IsLast key text (x ∷ xs)
last-behind key text x [] last = absurd last
last-behind key text x (y ∷ ys) last = last

-- a change that leaves the texts
last-change : {X : Type 0} (key : X → List ℕ) (text other : List ℕ) (change : X → X) (xs : List X) → ((x : X) → key (change x) ≡ key x) → IsLast key text xs → IsLast key text (change_by key other change xs)
last-change key text other change [] same last = absurd last
last-change key text other change (x ∷ []) same last = grind arith
last-change key text other change (x ∷ y ∷ ys) same last = grind (arith, last-behind, (last-change key text other change (y ∷ ys) same last))

-- one that was put behind
last-append : {X : Type 0} (key : X → List ℕ) (text : List ℕ) (x : X) (xs : List X) → same_text (key x) text ≡ true → IsLast key text (xs ++ x ∷ [])
last-append key text x [] e = e
last-append key text x (y ∷ ys) e = last-behind key text y (ys ++ x ∷ []) (last-append key text x ys e)

-- ---- a mark is set

-- the targets of an entry in which it is set
targets-last : (mark : Known) (aspect : Aspect) (target : List ℕ) (entry : NodeEntryShown) → IsLast (λ (t : TargetEntry). t.target) target entry.target_entries
    → IsLast (λ (t : TargetEntry). t.target) target (node_marked mark aspect target entry).target_entries
targets-last mark Publication target entry last = last-change (λ (t : TargetEntry). t.target) target target (λ (t : TargetEntry). record t { published = mark }) entry.target_entries (λ t. refl) last
targets-last mark other target entry last = last

-- in the entries of a use
last-marked : (mark : Known) (aspect : Aspect) (usage : Usage) (entries : List NodeEntryShown)
    → ((entry : NodeEntryShown) → find (λ (e : NodeEntryShown). same_text e.node usage.node) entries ≡ Some entry → is_yes (publication_known usage.target (node_marked mark aspect usage.target entry)) ≡ false
    → is_yes (publication_known usage.target entry) ≡ false)
    → HasLast (Some (Use usage)) entries → HasLast (Some (Use usage)) (marked_at mark aspect usage.node usage.target entries)
last-marked mark aspect usage entries before last = λ entry found. by (find (λ (e : NodeEntryShown). same_text e.node usage.node) entries) refl entry (sym changed ∙ found)
  where
    changed : find (λ (e : NodeEntryShown). same_text e.node usage.node) (marked_at mark aspect usage.node usage.target entries) ≡ option_map (node_marked mark aspect usage.target) (find (λ (e : NodeEntryShown). same_text e.node usage.node) entries)
    changed =
        find-change (λ (e : NodeEntryShown). e.node) usage.node (node_marked mark aspect usage.target) entries usage.node (node-stays mark aspect usage.target)
        ∙ ap (λ b. cond b (option_map (node_marked mark aspect usage.target) (find (λ (e : NodeEntryShown). same_text e.node usage.node) entries)) (find (λ (e : NodeEntryShown). same_text e.node usage.node) entries)) (text-same usage.node)

    by : (o : Option NodeEntryShown) → find (λ (e : NodeEntryShown). same_text e.node usage.node) entries ≡ o → (entry : NodeEntryShown) → option_map (node_marked mark aspect usage.target) o ≡ Some entry
        → CameLast usage.target entry
    by None e entry f = absurd (none-some entry f)
    by (Some own) e entry f =
        subst (CameLast usage.target) (same_Some (node_marked mark aspect usage.target own) entry f) (λ un. targets-last mark aspect usage.target own (last own e (before own e un)))

-- what a due call does or undoes is marked
pub due-last : (mark : Kind → Known) (row : RowShown) (due : Due) → IsDueFor row due → HasLast row.goal row.node_entries
    → HasLast row.goal (nodes_marked (mark (kind_of due.call)) (aspect_of (kind_of due.call)) row.goal row.node_entries)
due-last mark row _ (ToMake goal e) last = subst (λ g. HasLast g row.node_entries → HasLast g row.node_entries) (sym goal) (λ own. own) last
due-last mark row _ (ToRemove id goal own e) last = subst (λ g. HasLast g row.node_entries → HasLast g row.node_entries) (sym goal) (λ own. own) last
due-last mark row _ (ToAttach usage id goal own a) last =
    subst (λ g. HasLast g row.node_entries → HasLast g (at_goal (marked_at (mark kinds.ControllerPublishVolume) Attachment) g row.node_entries)) (sym goal)
    (last-marked (mark kinds.ControllerPublishVolume) Attachment usage row.node_entries (λ entry found un. un)) last
due-last mark row _ (ToStage usage id goal own a s) last =
    subst (λ g. HasLast g row.node_entries → HasLast g (at_goal (marked_at (mark kinds.NodeStageVolume) Staging) g row.node_entries)) (sym goal)
    (last-marked (mark kinds.NodeStageVolume) Staging usage row.node_entries (λ entry found un. un)) last
due-last mark row _ (ToPublish usage id goal own a s p) last =
    subst (λ g. HasLast g row.node_entries → HasLast g (at_goal (marked_at (mark kinds.NodePublishVolume) Publication) g row.node_entries)) (sym goal)
    (last-marked (mark kinds.NodePublishVolume) Publication usage row.node_entries (λ entry found un. known-at (publication_known usage.target) is_yes false row usage.node entry found p)) last
due-last mark row _ (ToUnpublish node target id goal own p) last =
    subst (λ g. HasLast g row.node_entries → HasLast g (at_goal (marked_at (mark kinds.NodeUnpublishVolume) Publication) g row.node_entries)) (sym goal) (λ none. tt) last
due-last mark row _ (ToUnstage node target id goal own p o s) last =
    subst (λ g. HasLast g row.node_entries → HasLast g (at_goal (marked_at (mark kinds.NodeUnstageVolume) Staging) g row.node_entries)) (sym goal) (λ none. tt) last
due-last mark row _ (ToDetach node target id goal own p o s a) last =
    subst (λ g. HasLast g row.node_entries → HasLast g (at_goal (marked_at (mark kinds.ControllerUnpublishVolume) Attachment) g row.node_entries)) (sym goal) (λ none. tt) last

-- ---- a use begins

-- the target comes behind those of an entry at which no goal is at work, or is published already
targeted-last : (usage : Usage) (own : NodeEntryShown) → IsAtRest own → CameLast usage.target (record (held_as usage own) { target_entries = with_target usage.target own.target_entries })
targeted-last usage own rest = by (target_entry_of own usage.target) refl rest
  where
    by : (o : Option TargetEntry) → target_entry_of own usage.target ≡ o → IsAtRest own
        → CameLast usage.target (record (held_as usage own) { target_entries = cond (is_some o) own.target_entries (own.target_entries ++ new_target_entry usage.target ∷ []) })
    by (Some t) e (inl used) = λ un.
        absurd (false≢true
        (sym un ∙ ap (λ (o : Option TargetEntry). is_yes (mark_in (λ (t : TargetEntry). t.published) o)) e
        ∙ ap is_yes (each_of (λ (t : TargetEntry). t.published ≡ Yes) own.target_entries t used.published (among-find (λ (t : TargetEntry). same_text t.target usage.target) own.target_entries t e))))
    by (Some t) e (inr left) = absurd (none-some t (sym (ap (find (λ (x : TargetEntry). same_text x.target usage.target)) left.targets) ∙ e))
    by None e rest = λ un. last-append (λ (t : TargetEntry). t.target) usage.target (new_target_entry usage.target) own.target_entries (text-same usage.target)

-- the entry for a use
record BeginsLast (usage : Usage) (entry : NodeEntryShown) : Type 0 where
  pub at_node : entry.node ≡ usage.node
  pub came : CameLast usage.target entry

-- a use begins
pub use-last : (usage : Usage) (row : RowShown) → AllByRecursion IsAtRest row.node_entries → HasLast (Some (Use usage)) (with_entry usage row).node_entries
use-last usage row all = λ entry found. subst (CameLast usage.target) (same_Some (entry_for usage (node_entry_of row usage.node)) entry (sym put ∙ found)) begins.came
  where
    by : (o : Option NodeEntryShown) → node_entry_of row usage.node ≡ o → BeginsLast usage (entry_for usage o)
    by None e = record { at_node = refl; came = λ un. text-same usage.target }
    by (Some own) e =
        let among = among-find (λ (p : NodeEntryShown). same_text p.node usage.node) row.node_entries own e in
        record {
          at_node = held-node usage own ∙ (same_text-tells own.node usage.node).0 (find-passes (λ (p : NodeEntryShown). same_text p.node usage.node) row.node_entries own e);
          came = targeted-last usage own (each_of IsAtRest row.node_entries own all among);
        }

    begins : BeginsLast usage (entry_for usage (node_entry_of row usage.node))
    begins = by (node_entry_of row usage.node) refl

    put : find (λ (e : NodeEntryShown). same_text e.node usage.node) (with_entry usage row).node_entries ≡ Some (entry_for usage (node_entry_of row usage.node))
    put =
        find-put (λ (e : NodeEntryShown). e.node) (entry_for usage (node_entry_of row usage.node)) row.node_entries usage.node
        ∙ ap (λ b. cond b (Some (entry_for usage (node_entry_of row usage.node))) (node_entry_of row usage.node)) ((same_text-tells (entry_for usage (node_entry_of row usage.node)).node usage.node).1 begins.at_node)
