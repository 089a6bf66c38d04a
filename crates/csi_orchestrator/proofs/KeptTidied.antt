-- Why no goal is at work at the entries that are kept once a goal is dropped.
use Rattle.csi_orchestrator.proofs.Words.{◌≡◌, ◌≢◌, ℕ, List, [], ◌∷◌, Bool, true, false, not, length, map, filter}
use Rattle.csi_orchestrator.proofs.Words.{refl, sym, ◌∙◌, ap, subst, inl, inr, arith, Some, find, ◌&&◌, AllByRecursion}
use Rattle.csi_orchestrator.proofs.Words.{list_any, same_text, TargetEntry, Known, Yes, No, Maybe, is_yes, is_no}
use Rattle.csi_orchestrator.proofs.Words.{NodeEntryShown, publication_known, is_target_kept, with_kept_targets}
use Rattle.csi_orchestrator.proofs.Words.{has_targets, is_node_kept, tidied_entries, HasOne, HasMarks, IsInUse}
use Rattle.csi_orchestrator.proofs.Words.{IsLeftSo, IsAtRest, others_in}
use Rattle.csi_orchestrator.proofs.Lemmas.{false≢true, and_parts, each-map, each-weaker, filter-each, filter-no_one}
use Rattle.csi_orchestrator.proofs.Lemmas.{in_filter, among-empty, any-then}
use Rattle.csi_orchestrator.proofs.HasOnes.{one-each}
use Rattle.csi_orchestrator.proofs.KeptMarks.{IsOnWay, then-alone, known-there}
use Rattle.csi_orchestrator.proofs.KnownTests.{yes_is_yes}

-- what is so of each that passes is so of each that is kept
each-if_kept : {X : Type 0} (P : X → Type 0) (q : X → Bool) (xs : List X) → AllByRecursion (λ x. q x ≡ true → P x) xs → AllByRecursion P (filter q xs)
each-if_kept P q [] all = tt
each-if_kept P q (x ∷ xs) all = grind (arith, (each-if_kept P q xs all.1))

-- no goal is at work at it once its targets are tidied, if it is kept
abbrev pub IsAtRestIfKept : NodeEntryShown → Type 0
IsAtRestIfKept entry = is_node_kept (with_kept_targets entry) ≡ true → IsAtRest (with_kept_targets entry)

-- an entry in use stays so
use-kept : (entry : NodeEntryShown) → IsInUse entry → IsInUse (with_kept_targets entry)
use-kept entry used =
    let same : filter is_target_kept entry.target_entries ≡ entry.target_entries = filter-each is_target_kept entry.target_entries
    (each-weaker (λ (t : TargetEntry). t.published ≡ Yes) (λ (t : TargetEntry). is_target_kept t ≡ true) entry.target_entries (λ t is. ap (λ k. not (is_no k)) is) used.published) in
    record {
      attached = used.attached;
      staged = used.staged;
      published = subst (AllByRecursion (λ (t : TargetEntry). t.published ≡ Yes)) (sym same) used.published;
      some = λ none. used.some (sym same ∙ none);
    }

-- so does what is left of a node that was lost
rest-kept : (entry : NodeEntryShown) → IsAtRest entry → IsAtRest (with_kept_targets entry)
rest-kept entry (inl used) = inl (use-kept entry used)
rest-kept entry (inr left) = inr (record { attached = left.attached; staged = left.staged; targets = ap (filter is_target_kept) left.targets })

-- entries at which no goal is at work, if they are kept, once they are tidied
tidied : (entries : List NodeEntryShown) → AllByRecursion IsAtRestIfKept entries → AllByRecursion IsAtRest (tidied_entries entries)
tidied entries all =
    each-if_kept IsAtRest is_node_kept (map with_kept_targets entries)
    (each-map IsAtRestIfKept (λ (entry : NodeEntryShown). is_node_kept entry ≡ true → IsAtRest entry) with_kept_targets entries (λ entry own. own) all)

-- so are those that all are so
pub used-tidied : (entries : List NodeEntryShown) → AllByRecursion IsAtRest entries → AllByRecursion IsAtRest (tidied_entries entries)
used-tidied entries all = tidied entries (each-weaker IsAtRest IsAtRestIfKept entries (λ entry own kept. rest-kept entry own) all)

-- so are those of which one is if it is kept
pub one-tidied : (node : List ℕ) (P : NodeEntryShown → Type 0) (entries : List NodeEntryShown)
    → ((entry : NodeEntryShown) → find (λ (other : NodeEntryShown). same_text other.node node) entries ≡ Some entry → P entry → IsAtRestIfKept entry)
    → HasOne (λ (entry : NodeEntryShown). entry.node) node P IsAtRest entries → AllByRecursion IsAtRest (tidied_entries entries)
one-tidied node P entries f one =
    tidied entries (one-each (λ (entry : NodeEntryShown). entry.node) node P IsAtRest IsAtRestIfKept entries f (λ entry own kept. rest-kept entry own) one)

-- an entry whose target is published, as wanted
pub met-used : (target : List ℕ) (entry : NodeEntryShown) → HasMarks IsOnWay target entry → is_yes entry.attached ≡ true → is_yes entry.staged ≡ true → is_yes (publication_known target entry) ≡ true → IsAtRestIfKept entry
met-used target entry has attached staged published kept =
    let own : has.published ≡ Yes = yes_is_yes has.published (sym (ap is_yes (known-there IsOnWay target entry has)) ∙ published) in
    inl (use-kept entry (record {
      attached = yes_is_yes entry.attached attached;
      staged = yes_is_yes entry.staged staged;
      published =
          one-each (λ (t : TargetEntry). t.target) target (λ (t : TargetEntry). t.published ≡ has.published) (λ (t : TargetEntry). t.published ≡ Yes) (λ (t : TargetEntry). t.published ≡ Yes) entry.target_entries
          (λ t found is. is ∙ own) (λ t is. is) has.targets;
      some = λ none. subst (HasOne (λ (t : TargetEntry). t.target) target (λ (t : TargetEntry). t.published ≡ has.published) (λ (t : TargetEntry). t.published ≡ Yes)) none has.targets;
    }))

-- what is staged is attached
staged-attached : (a s p : Known) → s ≡ Yes → IsOnWay a s p → a ≡ Yes
staged-attached a s p e w = grind (arith, IsOnWay)

-- an entry whose target isn't published any more, beside others
pub left-used : (target : List ℕ) (entry : NodeEntryShown) → HasMarks IsOnWay target entry → is_no (publication_known target entry) ≡ true → others_in target (Some entry) ≡ true → IsAtRestIfKept entry
left-used target entry has unpublished others kept =
    let staged = by entry.staged refl in
    inl (record { attached = staged-attached entry.attached entry.staged has.published staged has.marks; staged = staged; published = published; some = some })
  where
    by : (k : Known) → entry.staged ≡ k → entry.staged ≡ Yes
    by Yes e = e
    by No e = absurd (false≢true (sym (then-alone target has.published entry.target_entries has.targets (has.alone (λ is. false≢true (ap is_yes (sym e ∙ is))))) ∙ others))
    by Maybe e = absurd (false≢true (sym (then-alone target has.published entry.target_entries has.targets (has.alone (λ is. false≢true (ap is_yes (sym e ∙ is))))) ∙ others))

    own : is_no has.published ≡ true
    own = sym (ap is_no (known-there IsOnWay target entry has)) ∙ unpublished

    published : AllByRecursion (λ (t : TargetEntry). t.published ≡ Yes) (filter is_target_kept entry.target_entries)
    published =
        each-if_kept (λ (t : TargetEntry). t.published ≡ Yes) is_target_kept entry.target_entries
        (one-each (λ (t : TargetEntry). t.target) target (λ (t : TargetEntry). t.published ≡ has.published) (λ (t : TargetEntry). t.published ≡ Yes) (λ (t : TargetEntry). is_target_kept t ≡ true → t.published ≡ Yes) entry.target_entries
        (λ t found is passes. absurd (false≢true (sym (ap not (ap is_no is ∙ own)) ∙ passes))) (λ t is passes. is) has.targets)

    some : filter is_target_kept entry.target_entries ≢ []
    some none =
        let other = any-then (λ (t : TargetEntry). not (same_text t.target target) && not (is_no t.published)) entry.target_entries others in
        among-empty other.0 (filter is_target_kept entry.target_entries) none
        (in_filter is_target_kept entry.target_entries other.0 other.1 (and_parts (not (same_text other.0.target target)) (not (is_no other.0.published)) other.2).1)

-- the one target isn't kept where it isn't published
none-left : (target : List ℕ) (mark : Known) (ts : List TargetEntry) → HasOne (λ (t : TargetEntry). t.target) target (λ (t : TargetEntry). t.published ≡ mark) (λ (t : TargetEntry). t.published ≡ Yes) ts
    → is_no mark ≡ true → length ts ≡ 1 → filter is_target_kept ts ≡ []
none-left target mark [] one unpublished long = absurd one
none-left target mark (t ∷ []) (inl here) unpublished long = filter-no_one is_target_kept (t ∷ []) (ap not (ap is_no here.1 ∙ unpublished), tt)
none-left target mark (t ∷ []) (inr later) unpublished long = absurd later.2
none-left target mark (t ∷ u ∷ us) one unpublished long = absurd (omega (arith, long))

-- an entry of which nothing is so any more isn't kept
pub gone-used : (target : List ℕ) (entry : NodeEntryShown) → HasMarks IsOnWay target entry → is_no (publication_known target entry) ≡ true → is_no entry.staged ≡ true → is_no entry.attached ≡ true → IsAtRestIfKept entry
gone-used target entry has unpublished unstaged detached kept = grind (arith, false≢true, none-left, known-there, IsOnWay)

-- what is left of a node that was lost has no other target
pub left-alone : (target : List ℕ) (So : Known → Type 0) (entry : NodeEntryShown) → IsLeftSo So entry → others_in target (Some entry) ≡ false
left-alone target So entry left = ap (list_any (λ (t : TargetEntry). not (same_text t.target target) && not (is_no t.published))) left.targets

-- it isn't kept once it is detached
pub left-gone : (So : Known → Type 0) (entry : NodeEntryShown) → IsLeftSo So entry → is_no entry.attached ≡ true → IsAtRestIfKept entry
left-gone So entry left detached kept =
    absurd (false≢true (sym (ap (λ b. not (b && is_no entry.staged && not (has_targets (filter is_target_kept entry.target_entries)))) detached
    ∙ ap (λ k. not (is_no k && not (has_targets (filter is_target_kept entry.target_entries)))) left.staged ∙ ap (λ ts. not (not (has_targets (filter is_target_kept ts)))) left.targets) ∙ kept))
