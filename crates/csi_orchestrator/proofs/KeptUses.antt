-- Why the marks at a goal's node may be as they are: where a use or a stop begins, and once a mark is set by the due call.
use Rattle.csi_orchestrator.proofs.Words.{◌≡◌, ◌≢◌, ℕ, List, [], ◌∷◌, ◌++◌, Bool, true, false, cond, not, refl, sym}
use Rattle.csi_orchestrator.proofs.Words.{◌∙◌, ap, subst, inl, inr, ◌⊎◌, ◌&&◌, Option, Some, None, is_some, find}
use Rattle.csi_orchestrator.proofs.Words.{AllByRecursion, list_any, Kind, kind_of, same_text, Goal, Use, Stop}
use Rattle.csi_orchestrator.proofs.Words.{TargetEntry, Usage, Known, Yes, No, Maybe, is_yes, is_no, Due}
use Rattle.csi_orchestrator.proofs.Words.{NodeEntryShown, RowShown, node_entry_of, target_entry_of, mark_in}
use Rattle.csi_orchestrator.proofs.Words.{publication_known, Aspect, Attachment, Staging, Publication, aspect_of}
use Rattle.csi_orchestrator.proofs.Words.{node_marked, marked_at, at_goal, nodes_marked, known_by_success_of}
use Rattle.csi_orchestrator.proofs.Words.{new_target_entry, with_target, held_as, entry_for, with_entry, HasOne}
use Rattle.csi_orchestrator.proofs.Words.{IsAtWork, HasMarks, IsInUse, IsLeftSo, IsLeft, IsAtRest, AreMarked, others_in}
use Rattle.csi_orchestrator.proofs.Words.{is_left, AreTargetsApart, AreNodesApart, arith}
use Rattle.csi_orchestrator.proofs.Lemmas.{false≢true, and_parts, or_parts, not-true, none-some, each_of, among-find}
use Rattle.csi_orchestrator.proofs.Lemmas.{find-passes, same_text-tells}
use Rattle.csi_types.specs.declared.call.Kind.TheVariants as kinds
use Rattle.csi_orchestrator.proofs.EntriesBounded.{held-node}
use Rattle.csi_orchestrator.proofs.DueCases.{IsDueFor, ToMake, ToRemove, ToAttach, ToStage, ToPublish, ToUnpublish, ToUnstage, ToDetach}
use Rattle.csi_orchestrator.proofs.HasOnes.{one-change, one-of, one-last, one-put, one-weaker}
use Rattle.csi_orchestrator.proofs.KeptMarks.{IsOnWay, work-way, attach-goes, stage-goes, publish-goes, unpublish-goes, unstage-goes, detach-goes, alone-then, known-there, attachment-marked, staging-marked, publication-marked}
use Rattle.csi_orchestrator.proofs.KeptInUse.{rest-attached}
use Rattle.csi_orchestrator.proofs.KnownTests.{not_yes}
use Rattle.csi_orchestrator.proofs.RowMarks.{node-stays, has-node-entry, has-target-entry}
use Rattle.csi_orchestrator.proofs.TextLists.{text-same}

-- whatever the mark is
abbrev pub AnyMark : Known → Type 0
AnyMark mark = Unit {0}

-- ---- where it begins

-- what is in use is on the way, whatever is known of a target
used-way : (entry : NodeEntryShown) (published : Known) → IsInUse entry → IsOnWay entry.attached entry.staged published
used-way entry published used = subst (λ a. IsOnWay a entry.staged published) (sym used.attached) (subst (λ s. IsOnWay Yes s published) (sym used.staged) tt)

-- an entry in use that has the target
used-marks : (target : List ℕ) (entry : NodeEntryShown) (t : TargetEntry) → IsInUse entry → AreTargetsApart entry → target_entry_of entry target ≡ Some t → HasMarks IsOnWay target entry
used-marks target entry t used apart found =
    record {
      published = Yes;
      marks = used-way entry Yes used;
      targets =
          one-of (λ (t : TargetEntry). t.target) target (λ (t : TargetEntry). t.published ≡ Yes) (λ (t : TargetEntry). t.published ≡ Yes) t entry.target_entries apart used.published found
          (each_of (λ (t : TargetEntry). t.published ≡ Yes) entry.target_entries t used.published (among-find (λ (t : TargetEntry). same_text t.target target) entry.target_entries t found));
      alone = λ unstaged. absurd (unstaged used.staged);
    }

-- the same once the target has its entry
targeted : (target : List ℕ) (entry : NodeEntryShown) → IsInUse entry → AreTargetsApart entry → HasMarks IsOnWay target (record entry { target_entries = with_target target entry.target_entries })
targeted target entry used apart = by (target_entry_of entry target) refl
  where
    by : (o : Option TargetEntry) → target_entry_of entry target ≡ o → HasMarks IsOnWay target (record entry { target_entries = cond (is_some o) entry.target_entries (entry.target_entries ++ new_target_entry target ∷ []) })
    by (Some t) e = used-marks target entry t used apart e
    by None e =
        record {
          published = No;
          marks = used-way entry No used;
          targets =
              one-last (λ (t : TargetEntry). t.target) target (λ (t : TargetEntry). t.published ≡ No) (λ (t : TargetEntry). t.published ≡ Yes) (new_target_entry target) entry.target_entries used.published e (text-same target) refl;
          alone = λ unstaged. absurd (unstaged used.staged);
        }

-- what is left of a node that was lost is on the way, once the target has its entry
left-targeted : (target : List ℕ) (entry : NodeEntryShown) → IsLeft entry → HasMarks IsOnWay target (record entry { target_entries = with_target target entry.target_entries })
left-targeted target entry left = grind (arith, IsOnWay, text-same)

-- an entry that may be attached is held as it was
pub held-as_is : (usage : Usage) (entry : NodeEntryShown) → is_no entry.attached ≡ false → held_as usage entry ≡ entry
held-as_is usage entry attached = ap (λ b. cond b (let e : NodeEntryShown = record entry { capability = usage.capability; readonly = usage.readonly } in e) entry) attached

-- the entry for a use
record Begins (usage : Usage) (entry : NodeEntryShown) : Type 0 where
  pub at_node : entry.node ≡ usage.node
  pub marks : HasMarks IsOnWay usage.target entry

-- a use begins
pub use-begins : (usage : Usage) (row : RowShown) → AreNodesApart row.node_entries → AllByRecursion AreTargetsApart row.node_entries → AllByRecursion IsAtRest row.node_entries
    → AreMarked IsOnWay AnyMark (Some (Use usage)) (with_entry usage row).node_entries
use-begins usage row apart targets all =
    subst (λ n. HasOne (λ (e : NodeEntryShown). e.node) n (HasMarks IsOnWay usage.target) IsAtRest (with_entry usage row).node_entries) entry.at_node
    (one-put (λ (e : NodeEntryShown). e.node) (HasMarks IsOnWay usage.target) IsAtRest (entry_for usage (node_entry_of row usage.node)) row.node_entries apart all entry.marks)
  where
    begun : (own : NodeEntryShown) → IsAtRest own → AreTargetsApart own → HasMarks IsOnWay usage.target (record own { target_entries = with_target usage.target own.target_entries })
    begun own (inl used) apart = targeted usage.target own used apart
    begun own (inr left) apart = left-targeted usage.target own left

    by : (o : Option NodeEntryShown) → node_entry_of row usage.node ≡ o → Begins usage (entry_for usage o)
    by None e = record { at_node = refl; marks = record { published = No; marks = tt; targets = inl (text-same usage.target, refl, tt); alone = λ unstaged. refl } }
    by (Some own) e =
        let among = among-find (λ (p : NodeEntryShown). same_text p.node usage.node) row.node_entries own e in
        let rest = each_of IsAtRest row.node_entries own all among in
        record {
          at_node = held-node usage own ∙ (same_text-tells own.node usage.node).0 (find-passes (λ (p : NodeEntryShown). same_text p.node usage.node) row.node_entries own e);
          marks =
              subst (λ (h : NodeEntryShown). HasMarks IsOnWay usage.target (record h { target_entries = with_target usage.target own.target_entries })) (sym (held-as_is usage own (rest-attached own rest)))
              (begun own rest (each_of AreTargetsApart row.node_entries own targets among));
        }

    entry : Begins usage (entry_for usage (node_entry_of row usage.node))
    entry = by (node_entry_of row usage.node) refl

-- a list of targets that all are published, with none but this one, and without this one, is empty
pub no-others : (target : List ℕ) (ts : List TargetEntry) → AllByRecursion (λ (t : TargetEntry). t.published ≡ Yes) ts → find (λ (t : TargetEntry). same_text t.target target) ts ≡ None
    → list_any (λ (t : TargetEntry). not (same_text t.target target) && not (is_no t.published)) ts ≡ false → ts ≡ []
no-others target [] all none others = refl
no-others target (t ∷ ts) all none others = grind (arith, or_parts, none-some, false≢true)

-- an entry in use is published at the target, or at another one
used-published : (target : List ℕ) (entry : NodeEntryShown) → IsInUse entry → is_no (publication_known target entry) ≡ true → others_in target (Some entry) ≡ false → ⊥
used-published target entry used unpublished others = by (target_entry_of entry target) refl
  where
    by : (o : Option TargetEntry) → target_entry_of entry target ≡ o → ⊥
    by None e = used.some (no-others target entry.target_entries used.published e others)
    by (Some t) e =
        false≢true
        (sym (ap is_no (each_of (λ (t : TargetEntry). t.published ≡ Yes) entry.target_entries t used.published (among-find (λ (t : TargetEntry). same_text t.target target) entry.target_entries t e)))
        ∙ sym (ap (λ o. is_no (mark_in (λ (t : TargetEntry). t.published) o)) e) ∙ unpublished)

-- a stop begins where the volume may be published at the target, or only its attachment is left at the node
pub stop-begins : (node target : List ℕ) (row : RowShown) → AreNodesApart row.node_entries → AllByRecursion AreTargetsApart row.node_entries → AllByRecursion IsAtRest row.node_entries
    → (is_no (mark_in (publication_known target) (node_entry_of row node)) ≡ false) ⊎ (is_left node target row ≡ true) → AreMarked IsOnWay AnyMark (Some (Stop node target)) row.node_entries
stop-begins node target row apart targets all (inl maybe) =
    let entry = has-node-entry (publication_known target) (node_entry_of row node) maybe in
    let own = has-target-entry (target_entry_of entry.0 target) (ap is_no (sym (ap (mark_in (publication_known target)) entry.1)) ∙ maybe) in
    let among = among-find (λ (p : NodeEntryShown). same_text p.node node) row.node_entries entry.0 entry.1 in
    one-of (λ (e : NodeEntryShown). e.node) node (λ (e : NodeEntryShown). HasMarks IsOnWay target e ⊎ IsLeftSo AnyMark e) IsAtRest entry.0 row.node_entries apart all entry.1
    (by (each_of IsAtRest row.node_entries entry.0 all among) (each_of AreTargetsApart row.node_entries entry.0 targets among) own.1)
  where
    by : {entry : NodeEntryShown} {t : TargetEntry} → IsAtRest entry → AreTargetsApart entry → target_entry_of entry target ≡ Some t → HasMarks IsOnWay target entry ⊎ IsLeftSo AnyMark entry
    by {entry = entry} {t = t} (inl used) apart found = inl (used-marks target entry t used apart found)
    by {entry = entry} {t = t} (inr left) apart found = absurd (none-some t (sym (ap (find (λ (x : TargetEntry). same_text x.target target)) left.targets) ∙ found))
stop-begins node target row apart targets all (inr left) =
    let both = and_parts (not (is_no (mark_in (λ (e : NodeEntryShown). e.attached) (node_entry_of row node)))) (is_no (mark_in (publication_known target) (node_entry_of row node)) && not (others_in target (node_entry_of row node))) left in
    let rest = and_parts (is_no (mark_in (publication_known target) (node_entry_of row node))) (not (others_in target (node_entry_of row node))) both.1 in
    let entry = has-node-entry (λ (e : NodeEntryShown). e.attached) (node_entry_of row node) (not-true (is_no (mark_in (λ (e : NodeEntryShown). e.attached) (node_entry_of row node))) both.0) in
    let among = among-find (λ (p : NodeEntryShown). same_text p.node node) row.node_entries entry.0 entry.1 in
    one-of (λ (e : NodeEntryShown). e.node) node (λ (e : NodeEntryShown). HasMarks IsOnWay target e ⊎ IsLeftSo AnyMark e) IsAtRest entry.0 row.node_entries apart all entry.1
    (by (each_of IsAtRest row.node_entries entry.0 all among) (sym (ap (λ o. is_no (mark_in (publication_known target) o)) entry.1) ∙ rest.0)
    (sym (ap (others_in target) entry.1) ∙ not-true (others_in target (node_entry_of row node)) rest.1))
  where
    by : {entry : NodeEntryShown} → IsAtRest entry → is_no (publication_known target entry) ≡ true → others_in target (Some entry) ≡ false → HasMarks IsOnWay target entry ⊎ IsLeftSo AnyMark entry
    by {entry = entry} (inl used) unpublished others = absurd (used-published target entry used unpublished others)
    by {entry = entry} (inr own) unpublished others = inr (record { attached = tt; staged = own.staged; targets = own.targets })

-- ---- once a mark is set

-- what is marked where a call is sent, or succeeded, leads to such marks
pub record Leads (mark : Kind → Known) (Then : Known → Known → Known → Type 0) (So : Known → Type 0) : Type 0 where
  pub attaches : (a s p : Known) → is_yes a ≡ false → IsOnWay a s p → Then (mark kinds.ControllerPublishVolume) s p
  pub stages : (a s p : Known) → is_yes a ≡ true → is_yes s ≡ false → IsOnWay a s p → Then a (mark kinds.NodeStageVolume) p
  pub publishes : (a s p : Known) → is_yes a ≡ true → is_yes s ≡ true → Then a s (mark kinds.NodePublishVolume)
  pub unpublishes : (a s p : Known) → is_no p ≡ false → IsOnWay a s p → Then a s (mark kinds.NodeUnpublishVolume)
  pub unstages : (a s p : Known) → is_no p ≡ true → is_no s ≡ false → IsOnWay a s p → Then a (mark kinds.NodeUnstageVolume) p
  pub detaches : (s p : Known) → is_no p ≡ true → is_no s ≡ true → Then (mark kinds.ControllerUnpublishVolume) s p
  pub leaves : So (mark kinds.ControllerUnpublishVolume)

-- a call that is sent leads to marks at work
pub sending-leads : Leads (λ kind. Maybe) IsAtWork (λ mark. mark ≢ No)
sending-leads = grind (arith, attach-goes, stage-goes, publish-goes, unpublish-goes, unstage-goes, detach-goes)

-- a call that succeeded leads to marks on the way
pub success-leads : Leads known_by_success_of IsOnWay AnyMark
success-leads = grind (arith, attach-goes, stage-goes, publish-goes, unpublish-goes, unstage-goes, detach-goes)

-- a test of what is known at a node, by the entry that is found there
pub known-at : (read : NodeEntryShown → Known) (test : Known → Bool) (b : Bool) (row : RowShown) (node : List ℕ) (entry : NodeEntryShown) → node_entry_of row node ≡ Some entry
    → test (mark_in read (node_entry_of row node)) ≡ b → test (read entry) ≡ b
known-at read test b row node entry found e = sym (ap (λ o. test (mark_in read o)) found) ∙ e

-- the same of the others
pub others-at : (target : List ℕ) (b : Bool) (row : RowShown) (node : List ℕ) (entry : NodeEntryShown) → node_entry_of row node ≡ Some entry → others_in target (node_entry_of row node) ≡ b → others_in target (Some entry) ≡ b
others-at target b row node entry found e = sym (ap (others_in target) found) ∙ e

-- whether it isn't published at the goal's target, by the entry
unpublished-at : (b : Bool) (target : List ℕ) (row : RowShown) (node : List ℕ) (entry : NodeEntryShown) (has : HasMarks IsOnWay target entry) → node_entry_of row node ≡ Some entry
    → is_no (mark_in (publication_known target) (node_entry_of row node)) ≡ b → is_no has.published ≡ b
unpublished-at b target row node entry has found e = sym (ap is_no (known-there IsOnWay target entry has)) ∙ known-at (publication_known target) is_no b row node entry found e

-- a mark is set in the entry of the goal's node
marked-there : (P R : NodeEntryShown → Type 0) (mark : Known) (aspect : Aspect) (node target : List ℕ) (row : RowShown)
    → ((entry : NodeEntryShown) → node_entry_of row node ≡ Some entry → P entry → R (node_marked mark aspect target entry))
    → HasOne (λ (e : NodeEntryShown). e.node) node P IsAtRest row.node_entries → HasOne (λ (e : NodeEntryShown). e.node) node R IsAtRest (marked_at mark aspect node target row.node_entries)
marked-there P R mark aspect node target row turns one =
    one-change (λ (e : NodeEntryShown). e.node) node (node_marked mark aspect target) P IsAtRest R row.node_entries (node-stays mark aspect target) turns one

-- the same of a stop, whose entry may be what is left of a node that was lost
marked-left : (Then : Known → Known → Known → Type 0) (So : Known → Type 0) (mark : Known) (aspect : Aspect) (node target : List ℕ) (row : RowShown)
    → ((entry : NodeEntryShown) → node_entry_of row node ≡ Some entry → HasMarks IsOnWay target entry → HasMarks Then target (node_marked mark aspect target entry))
    → ((entry : NodeEntryShown) → node_entry_of row node ≡ Some entry → IsLeftSo AnyMark entry → IsLeftSo So (node_marked mark aspect target entry))
    → HasOne (λ (e : NodeEntryShown). e.node) node (λ (e : NodeEntryShown). HasMarks IsOnWay target e ⊎ IsLeftSo AnyMark e) IsAtRest row.node_entries
    → HasOne (λ (e : NodeEntryShown). e.node) node (λ (e : NodeEntryShown). HasMarks Then target e ⊎ IsLeftSo So e) IsAtRest (marked_at mark aspect node target row.node_entries)
marked-left Then So mark aspect node target row turns stays one =
    marked-there (λ (e : NodeEntryShown). HasMarks IsOnWay target e ⊎ IsLeftSo AnyMark e) (λ (e : NodeEntryShown). HasMarks Then target e ⊎ IsLeftSo So e) mark aspect node target row either one
  where
    either : (entry : NodeEntryShown) → node_entry_of row node ≡ Some entry → HasMarks IsOnWay target entry ⊎ IsLeftSo AnyMark entry
        → HasMarks Then target (node_marked mark aspect target entry) ⊎ IsLeftSo So (node_marked mark aspect target entry)
    either entry found (inl has) = inl (turns entry found has)
    either entry found (inr left) = inr (stays entry found left)

-- what is left of a node isn't published there
left-unpublished : (target : List ℕ) (row : RowShown) (node : List ℕ) (entry : NodeEntryShown) → node_entry_of row node ≡ Some entry → IsLeftSo AnyMark entry
    → is_no (mark_in (publication_known target) (node_entry_of row node)) ≡ false → ⊥
left-unpublished target row node entry found left e =
    false≢true (sym (known-at (publication_known target) is_no false row node entry found e) ∙ ap (λ ts. is_no (mark_in (λ (t : TargetEntry). t.published) (find (λ (t : TargetEntry). same_text t.target target) ts))) left.targets)

-- what a due call does or undoes is marked
pub due-marked : (mark : Kind → Known) (Then : Known → Known → Known → Type 0) (So : Known → Type 0) → Leads mark Then So → (row : RowShown) (due : Due) → IsDueFor row due → AreMarked IsOnWay AnyMark row.goal row.node_entries
    → AreMarked Then So row.goal (nodes_marked (mark (kind_of due.call)) (aspect_of (kind_of due.call)) row.goal row.node_entries)
due-marked mark Then So leads row _ (ToMake goal e) marked = subst (λ g. AreMarked IsOnWay AnyMark g row.node_entries → AreMarked Then So g row.node_entries) (sym goal) (λ all. all) marked
due-marked mark Then So leads row _ (ToRemove id goal own e) marked = subst (λ g. AreMarked IsOnWay AnyMark g row.node_entries → AreMarked Then So g row.node_entries) (sym goal) (λ all. all) marked
due-marked mark Then So leads row _ (ToAttach usage id goal own a) marked =
    let m = mark kinds.ControllerPublishVolume in
    subst (λ g. AreMarked IsOnWay AnyMark g row.node_entries → AreMarked Then So g (at_goal (marked_at m Attachment) g row.node_entries)) (sym goal)
    (marked-there (HasMarks IsOnWay usage.target) (HasMarks Then usage.target) m Attachment usage.node usage.target row (λ entry found has.
    attachment-marked IsOnWay Then usage.target m entry has
    (leads.attaches entry.attached entry.staged has.published (known-at (λ p. p.attached) is_yes false row usage.node entry found a) has.marks)))
    marked
due-marked mark Then So leads row _ (ToStage usage id goal own a s) marked =
    let m = mark kinds.NodeStageVolume in
    subst (λ g. AreMarked IsOnWay AnyMark g row.node_entries → AreMarked Then So g (at_goal (marked_at m Staging) g row.node_entries)) (sym goal)
    (marked-there (HasMarks IsOnWay usage.target) (HasMarks Then usage.target) m Staging usage.node usage.target row (λ entry found has.
    let unstaged = known-at (λ p. p.staged) is_yes false row usage.node entry found s in
    staging-marked IsOnWay Then usage.target m entry has
    (leads.stages entry.attached entry.staged has.published (known-at (λ p. p.attached) is_yes true row usage.node entry found a) unstaged has.marks)
    (λ other. has.alone (not_yes entry.staged unstaged))))
    marked
due-marked mark Then So leads row _ (ToPublish usage id goal own a s p) marked =
    let m = mark kinds.NodePublishVolume in
    subst (λ g. AreMarked IsOnWay AnyMark g row.node_entries → AreMarked Then So g (at_goal (marked_at m Publication) g row.node_entries)) (sym goal)
    (marked-there (HasMarks IsOnWay usage.target) (HasMarks Then usage.target) m Publication usage.node usage.target row (λ entry found has.
    publication-marked IsOnWay Then usage.target m entry has
    (leads.publishes entry.attached entry.staged has.published (known-at (λ p. p.attached) is_yes true row usage.node entry found a) (known-at (λ p. p.staged) is_yes true row usage.node entry found s))))
    marked
due-marked mark Then So leads row _ (ToUnpublish node target id goal own p) marked =
    let m = mark kinds.NodeUnpublishVolume in
    subst (λ g. AreMarked IsOnWay AnyMark g row.node_entries → AreMarked Then So g (at_goal (marked_at m Publication) g row.node_entries)) (sym goal)
    (marked-left Then So m Publication node target row (λ entry found has.
    publication-marked IsOnWay Then target m entry has
    (leads.unpublishes entry.attached entry.staged has.published (unpublished-at false target row node entry has found p) has.marks))
    (λ entry found left. absurd (left-unpublished target row node entry found left p)))
    marked
due-marked mark Then So leads row _ (ToUnstage node target id goal own p o s) marked =
    let m = mark kinds.NodeUnstageVolume in
    subst (λ g. AreMarked IsOnWay AnyMark g row.node_entries → AreMarked Then So g (at_goal (marked_at m Staging) g row.node_entries)) (sym goal)
    (marked-left Then So m Staging node target row (λ entry found has.
    staging-marked IsOnWay Then target m entry has
    (leads.unstages entry.attached entry.staged has.published (unpublished-at true target row node entry has found p) (known-at (λ p. p.staged) is_no false row node entry found s) has.marks)
    (λ other. alone-then target has.published entry.target_entries has.targets (others-at target false row node entry found o)))
    (λ entry found left. absurd (false≢true (sym (known-at (λ p. p.staged) is_no false row node entry found s) ∙ ap is_no left.staged))))
    marked
due-marked mark Then So leads row _ (ToDetach node target id goal own p o s a) marked =
    let m = mark kinds.ControllerUnpublishVolume in
    subst (λ g. AreMarked IsOnWay AnyMark g row.node_entries → AreMarked Then So g (at_goal (marked_at m Attachment) g row.node_entries)) (sym goal)
    (marked-left Then So m Attachment node target row (λ entry found has.
    attachment-marked IsOnWay Then target m entry has
    (leads.detaches entry.staged has.published (unpublished-at true target row node entry has found p) (known-at (λ p. p.staged) is_no true row node entry found s)))
    (λ entry found left. record { attached = leads.leaves; staged = left.staged; targets = left.targets }))
    marked

-- marks at work are on the way
work-on : (target : List ℕ) (entry : NodeEntryShown) → HasMarks IsAtWork target entry → HasMarks IsOnWay target entry
work-on target entry has = record { published = has.published; marks = work-way entry.attached entry.staged has.published has.marks; targets = has.targets; alone = has.alone }

-- those of all entries are
pub work-marked : (goal : Option Goal) (entries : List NodeEntryShown) → AreMarked IsAtWork (λ mark. mark ≢ No) goal entries → AreMarked IsOnWay AnyMark goal entries
work-marked goal entries one = grind (arith, one-weaker, IsOnWay, work-on)
