-- Why a row keeps its rules where a node is lost.
use Rattle.csi_orchestrator.proofs.Words.{◌≡◌, ◌≢◌, ℕ, List, [], Bool, true, false, map, refl, sym, ◌∙◌, ap, subst}
use Rattle.csi_orchestrator.proofs.Words.{inl, inr, arith, ◌⊎◌, Option, Some, AllByRecursion, EachTwo, Capability}
use Rattle.csi_orchestrator.proofs.Words.{same_text, Goal, Use, Stop, Usage, Known, Yes, No, NodeEntryShown, RowShown}
use Rattle.csi_orchestrator.proofs.Words.{node_entry_of, is_use_at, entry_at_loss, row_at_loss, IsUntried}
use Rattle.csi_orchestrator.proofs.Words.{IsStandingIf, HasOne, IsAtWork, HasMarks, IsLeft, IsAtRest, AreMarked}
use Rattle.csi_orchestrator.proofs.Words.{CameLast, HasLast, IsAllowed, CanBeBeside, IsSteadyRowIf}
use Rattle.csi_orchestrator.proofs.Lemmas.{none-some, same_Some, each-map, two-map, two-more, same_text-tells}
use Rattle.csi_orchestrator.proofs.HasOnes.{one-map}
use Rattle.csi_orchestrator.proofs.KeptInUse.{rest-attached, work-attached}
use Rattle.csi_orchestrator.proofs.KnownTests.{not_no}
use Rattle.csi_orchestrator.proofs.RowsLost.{entry-by, lost-node, other-entry, own-lost, with_lost, row-by, lost-entry, of-node}

-- ---- entries

-- what is left of the node's entry
left-of : (node : List ℕ) (entry : NodeEntryShown) → same_text entry.node node ≡ true → entry.attached ≢ No → IsLeft (entry_at_loss node entry)
left-of node entry own may = subst IsLeft (sym (own-lost node entry own)) (record { attached = may; staged = refl; targets = refl })

-- no goal is at work at an entry still
rest-lost : (node : List ℕ) (entry : NodeEntryShown) → IsAtRest entry → IsAtRest (entry_at_loss node entry)
rest-lost node entry rest = entry-by IsAtRest node entry (inr (record { attached = not_no entry.attached (rest-attached entry rest); staged = refl; targets = refl })) rest

-- an entry is allowed still
lost-allowed : (capabilities : List Capability) (node : List ℕ) (entry : NodeEntryShown) → IsAllowed capabilities entry → IsAllowed capabilities (entry_at_loss node entry)
lost-allowed capabilities node entry own = entry-by (IsAllowed capabilities) node entry (record { capable = own.capable; one_target = λ one. omega arith }) own

-- any two can be beside one another still
lost-beside : (node : List ℕ) (a b : NodeEntryShown) → CanBeBeside a b → CanBeBeside (entry_at_loss node a) (entry_at_loss node b)
lost-beside node a b can = grind (arith, entry-by)

-- the entry that is found then is that of the entry that was
found-lost : (node : List ℕ) (row : RowShown) (there : List ℕ) (entry : NodeEntryShown) → node_entry_of (with_lost node row) there ≡ Some entry
    → (own : NodeEntryShown) × (node_entry_of row there ≡ Some own) × (entry ≡ entry_at_loss node own)
found-lost node row there entry found = grind (arith, lost-entry, none-some, same_Some)

-- an entry of another text isn't of the node
another : (node text : List ℕ) (entry : NodeEntryShown) → same_text text node ≡ false → same_text entry.node text ≡ true → entry_at_loss node entry ≡ entry
another node text entry other own = other-entry node entry (ap (λ n. same_text n node) ((same_text-tells entry.node text).0 own) ∙ other)

-- ---- how the entries go with the goal

-- a use at another node
use-lost : (node : List ℕ) (row : RowShown) (usage : Usage) → same_text usage.node node ≡ false → HasOne (λ (e : NodeEntryShown). e.node) usage.node (HasMarks IsAtWork usage.target) IsAtRest row.node_entries
    → HasOne (λ (e : NodeEntryShown). e.node) usage.node (HasMarks IsAtWork usage.target) IsAtRest (map (entry_at_loss node) row.node_entries)
use-lost node row usage other one =
    one-map (λ (e : NodeEntryShown). e.node) usage.node (entry_at_loss node) (HasMarks IsAtWork usage.target) IsAtRest (HasMarks IsAtWork usage.target) row.node_entries (lost-node node)
    (λ entry own has. subst (HasMarks IsAtWork usage.target) (sym (another node usage.node entry other own)) has) (rest-lost node) one

-- a use at the node becomes its stop
stop-lost : (node : List ℕ) (row : RowShown) (usage : Usage) → same_text usage.node node ≡ true → HasOne (λ (e : NodeEntryShown). e.node) usage.node (HasMarks IsAtWork usage.target) IsAtRest row.node_entries
    → HasOne (λ (e : NodeEntryShown). e.node) usage.node (λ (e : NodeEntryShown). HasMarks IsAtWork usage.target e ⊎ IsLeft e) IsAtRest (map (entry_at_loss node) row.node_entries)
stop-lost node row usage same one =
    one-map (λ (e : NodeEntryShown). e.node) usage.node (entry_at_loss node) (HasMarks IsAtWork usage.target) IsAtRest (λ (e : NodeEntryShown). HasMarks IsAtWork usage.target e ⊎ IsLeft e) row.node_entries (lost-node node)
    (λ entry own has. inr (left-of node entry (ap (λ n. same_text n node) ((same_text-tells entry.node usage.node).0 own) ∙ same) (not_no entry.attached (work-attached entry.attached entry.staged has.published has.marks)))) (rest-lost node) one

-- a stop
stays-lost : (node : List ℕ) (row : RowShown) (there target : List ℕ) → HasOne (λ (e : NodeEntryShown). e.node) there (λ (e : NodeEntryShown). HasMarks IsAtWork target e ⊎ IsLeft e) IsAtRest row.node_entries
    → HasOne (λ (e : NodeEntryShown). e.node) there (λ (e : NodeEntryShown). HasMarks IsAtWork target e ⊎ IsLeft e) IsAtRest (map (entry_at_loss node) row.node_entries)
stays-lost node row there target one =
    one-map (λ (e : NodeEntryShown). e.node) there (entry_at_loss node) (λ (e : NodeEntryShown). HasMarks IsAtWork target e ⊎ IsLeft e) IsAtRest (λ (e : NodeEntryShown). HasMarks IsAtWork target e ⊎ IsLeft e) row.node_entries
    (lost-node node) (λ entry own. by entry own (same_text there node) refl) (rest-lost node) one
  where
    by : (entry : NodeEntryShown) → same_text entry.node there ≡ true → (b : Bool) → same_text there node ≡ b → HasMarks IsAtWork target entry ⊎ IsLeft entry
        → HasMarks IsAtWork target (entry_at_loss node entry) ⊎ IsLeft (entry_at_loss node entry)
    by entry own true e (inl has) = inr (left-of node entry (ap (λ n. same_text n node) ((same_text-tells entry.node there).0 own) ∙ e) (not_no entry.attached (work-attached entry.attached entry.staged has.published has.marks)))
    by entry own true e (inr left) = inr (left-of node entry (ap (λ n. same_text n node) ((same_text-tells entry.node there).0 own) ∙ e) left.attached)
    by entry own false e has = subst (λ (x : NodeEntryShown). HasMarks IsAtWork target x ⊎ IsLeft x) (sym (another node there entry e own)) has

-- whatever the goal is, unless it is a use of the node
marked-lost : (node : List ℕ) (row : RowShown) (goal : Option Goal) → is_use_at node goal ≡ false → AreMarked IsAtWork (λ mark. mark ≢ No) goal row.node_entries
    → AreMarked IsAtWork (λ mark. mark ≢ No) goal (map (entry_at_loss node) row.node_entries)
marked-lost node row (Some (Use usage)) other one = use-lost node row usage other one
marked-lost node row (Some (Stop there target)) other one = stays-lost node row there target one
marked-lost node row goal other all = each-map IsAtRest IsAtRest (entry_at_loss node) row.node_entries (rest-lost node) all

-- the target of a use at another node is the last still
last-lost : (node : List ℕ) (row : RowShown) (goal : Option Goal) → is_use_at node goal ≡ false → HasLast goal row.node_entries → HasLast goal (map (entry_at_loss node) row.node_entries)
last-lost node row (Some (Use usage)) other last = λ entry found.
    let own = found-lost node row usage.node entry found in
    let at = (same_text-tells own.0.node usage.node).1 (of-node row usage.node own.0 own.1) in
    subst (CameLast usage.target) (sym (own.2 ∙ another node usage.node own.0 other at)) (last own.0 own.1)
last-lost node row goal other last = tt

-- what wasn't tried is still of a node that was lost
untried-lost : (node : List ℕ) (row : RowShown) (goal : Option Goal) → IsUntried goal row.node_entries → IsUntried goal (map (entry_at_loss node) row.node_entries)
untried-lost node row (Some (Stop there target)) own = λ entry found.
    let was = found-lost node row there entry found in
    ap (λ (e : NodeEntryShown). e.target_entries) was.2 ∙ entry-by (λ (e : NodeEntryShown). e.target_entries ≡ []) node was.0 refl (own was.0 was.1)
untried-lost node row goal own = tt

-- a use of a volume that is there may be stopped
stop-stands : (N : Type 0) (usage : Usage) (id : Option ℕ) (exists : Known) → IsStandingIf N (Some (Use usage)) id exists → IsStandingIf N (Some (Stop usage.node usage.target)) id exists
stop-stands N usage (Some id) Yes own = tt
stop-stands N usage id exists own = absurd own

-- ---- the row

-- it keeps its rules
pub lost-kept : (N : Type 0) (node : List ℕ) (row : RowShown) → IsSteadyRowIf N row → IsSteadyRowIf N (row_at_loss node row)
lost-kept N node row kept =
    row-by (IsSteadyRowIf N) node row row.goal
    (λ other.
    record {
      tries = kept.tries;
      untried = λ none. untried-lost node row row.goal (kept.untried none);
      standing = kept.standing;
      bare = λ unnamed. ap (map (entry_at_loss node)) (kept.bare unnamed);
      empty = λ unmade. ap (map (entry_at_loss node)) (kept.empty unmade);
      marked = marked-lost node row row.goal other kept.marked;
      last = last-lost node row row.goal other kept.last;
      allowed = allowed;
      beside = beside;
    })
    (λ usage e same.
    record {
      tries = omega arith;
      untried = λ none entry found.
          let own = found-lost node row usage.node entry found in
          ap (λ (x : NodeEntryShown). x.target_entries) (own.2 ∙ own-lost node own.0 (ap (λ n. same_text n node) (of-node row usage.node own.0 own.1) ∙ same));
      standing = stop-stands N usage row.id row.exists (subst (λ g. IsStandingIf N g row.id row.exists) e kept.standing);
      bare = λ unnamed. ap (map (entry_at_loss node)) (kept.bare unnamed);
      empty = λ unmade. ap (map (entry_at_loss node)) (kept.empty unmade);
      marked = stop-lost node row usage same (subst (λ g. AreMarked IsAtWork (λ mark. mark ≢ No) g row.node_entries) e kept.marked);
      last = tt;
      allowed = allowed;
      beside = beside;
    })
  where
    allowed : AllByRecursion (IsAllowed row.arguments.capabilities) (map (entry_at_loss node) row.node_entries)
    allowed = each-map (IsAllowed row.arguments.capabilities) (IsAllowed row.arguments.capabilities) (entry_at_loss node) row.node_entries (lost-allowed row.arguments.capabilities node) kept.allowed

    beside : EachTwo CanBeBeside (map (entry_at_loss node) row.node_entries)
    beside = two-map CanBeBeside (entry_at_loss node) row.node_entries (two-more CanBeBeside (λ a b. CanBeBeside (entry_at_loss node a) (entry_at_loss node b)) row.node_entries (lost-beside node) kept.beside)
