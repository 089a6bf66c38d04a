-- Why each entry of a row stays one that is allowed, and any two of them stay such that the volume may be held by both.
use Rattle.csi_orchestrator.proofs.Words.{◌≡◌, ◌≤◌, ℕ, List, [], ◌∷◌, Bool, true, false, not, length, map, refl, sym}
use Rattle.csi_orchestrator.proofs.Words.{◌∙◌, ap, subst, inr, arith, Option, Some, None, ◌&&◌, ◌||◌, AllByRecursion}
use Rattle.csi_orchestrator.proofs.Words.{IsAmong, EachTwo, Capability, same_text, has_capability, is_single_node}
use Rattle.csi_orchestrator.proofs.Words.{are_two_writers, allows_one_target, Goal, Use, Stop, Usage, Known, is_no}
use Rattle.csi_orchestrator.proofs.Words.{is_for_one_node, uses_as_second_writer, Held, NodeEntryShown, RowShown}
use Rattle.csi_orchestrator.proofs.Words.{node_entry_of, held_at, change_by, put_by, Aspect, Existence, node_marked}
use Rattle.csi_orchestrator.proofs.Words.{marked_at, at_goal, nodes_marked, is_target_kept, with_kept_targets}
use Rattle.csi_orchestrator.proofs.Words.{is_node_kept, tidied_entries, with_target, entry_for, with_entry}
use Rattle.csi_orchestrator.proofs.Words.{is_entry_otherwise, IsAtRest, IsAllowed, CanBeBeside, others_in}
use Rattle.csi_orchestrator.proofs.Words.{is_so_elsewhere, has_elsewhere, AreNodesApart}
use Rattle.csi_orchestrator.proofs.Lemmas.{length-append, each-filter, each-map, each-weaker, filter-no_longer}
use Rattle.csi_orchestrator.proofs.Lemmas.{each_of, among-find, find-passes, two-filter, two-map, two-more, none-among}
use Rattle.csi_orchestrator.proofs.Lemmas.{same_text-tells}
use Rattle.csi_orchestrator.proofs.EntriesBounded.{change-long}
use Rattle.csi_orchestrator.proofs.EntryRules.{each-change, each-put}
use Rattle.csi_orchestrator.proofs.JoinedLists.{own-entry}
use Rattle.csi_orchestrator.proofs.KeptInUse.{rest-attached}
use Rattle.csi_orchestrator.proofs.KeptUses.{no-others, held-as_is}
use Rattle.csi_orchestrator.proofs.UseRules.{held-for}

-- ---- two entries

-- an entry is changed so that it can be beside all that it could be beside
two-change : {X : Type 0} (R : X → X → Type 0) (key : X → List ℕ) (text : List ℕ) (change : X → X) (xs : List X) → ((x y : X) → R x y → R (change x) y) → ((x y : X) → R x y → R x (change y)) → EachTwo R xs
    → EachTwo R (change_by key text change xs)
two-change R key text change [] first second two = tt
two-change R key text change (x ∷ xs) first second two = grind (arith, each-weaker, each-change, (two-change R key text change xs first second two.1))

-- one is put in that can be beside what the one of its text can be, and beside each other one
two-put : {X : Type 0} (R : X → X → Type 0) (key : X → List ℕ) (x : X) (xs : List X) → ((y : X) → IsAmong y xs → key y ≡ key x → (z : X) → R y z → R x z) → ((y : X) → IsAmong y xs → same_text (key y) (key x) ≡ false → R y x)
    → EachTwo R xs → EachTwo R (put_by key x xs)
two-put R key x [] same other two = (tt, tt)
two-put R key x (y ∷ ys) same other two = grind (arith, each-weaker, same_text-tells, each-put, (two-put R key x ys (λ z among. same z (inr among)) (λ z among. other z (inr among)) two.1))

-- ---- marks

-- a mark leaves the capability and the flag, and as many targets
record IsHeldAs (entry other : NodeEntryShown) : Type 0 where
  pub same_capability : other.capability ≡ entry.capability
  pub same_flag : other.readonly ≡ entry.readonly
  pub no_longer : length other.target_entries ≤ length entry.target_entries

-- so it is of each aspect
held-marked : (mark : Known) (aspect : Aspect) (target : List ℕ) (entry : NodeEntryShown) → IsHeldAs entry (node_marked mark aspect target entry)
held-marked mark aspect target entry = grind (arith, change-long)

-- an entry that is held as an allowed one is allowed
held-allowed : (capabilities : List Capability) (entry other : NodeEntryShown) → IsHeldAs entry other → IsAllowed capabilities entry → IsAllowed capabilities other
held-allowed capabilities entry other held own = grind arith

-- it can be beside what that can be beside
held-first : (entry other beside : NodeEntryShown) → IsHeldAs entry other → CanBeBeside entry beside → CanBeBeside other beside
held-first entry other beside held can = grind arith

-- and what can be beside that can be beside it
held-second : (beside entry other : NodeEntryShown) → IsHeldAs entry other → CanBeBeside beside entry → CanBeBeside beside other
held-second beside entry other held can = grind arith

-- the entries of a row: each is allowed, and any two can be beside one another
pub record AreFit (capabilities : List Capability) (entries : List NodeEntryShown) : Type 0 where
  pub allowed : AllByRecursion (IsAllowed capabilities) entries
  pub beside : EachTwo CanBeBeside entries

-- they stay so where a mark is set at a node and a target
fit-at : (capabilities : List Capability) (mark : Known) (aspect : Aspect) (node target : List ℕ) (entries : List NodeEntryShown) → AreFit capabilities entries → AreFit capabilities (marked_at mark aspect node target entries)
fit-at capabilities mark aspect node target entries fit = grind (arith, each-change, held-allowed, held-marked, two-change, held-first, held-second)

-- at a goal's node and target
fit-goal : (capabilities : List Capability) (mark : Known) (aspect : Aspect) (goal : Option Goal) (entries : List NodeEntryShown) → AreFit capabilities entries → AreFit capabilities (at_goal (marked_at mark aspect) goal entries)
fit-goal capabilities mark aspect (Some (Use usage)) entries fit = fit-at capabilities mark aspect usage.node usage.target entries fit
fit-goal capabilities mark aspect (Some (Stop node target)) entries fit = fit-at capabilities mark aspect node target entries fit
fit-goal capabilities mark aspect goal entries fit = fit

-- whatever aspect is marked
pub fit-marked : (capabilities : List Capability) (mark : Known) (aspect : Aspect) (goal : Option Goal) (entries : List NodeEntryShown) → AreFit capabilities entries → AreFit capabilities (nodes_marked mark aspect goal entries)
fit-marked capabilities mark Existence goal entries fit = fit
fit-marked capabilities mark aspect goal entries fit = fit-goal capabilities mark aspect goal entries fit

-- ---- what is left

-- an entry with the targets that are kept is held as it was
held-tidied : (entry : NodeEntryShown) → IsHeldAs entry (with_kept_targets entry)
held-tidied entry = record { same_capability = refl; same_flag = refl; no_longer = filter-no_longer is_target_kept entry.target_entries }

-- entries stay fit where they are tidied
pub fit-tidied : (capabilities : List Capability) (entries : List NodeEntryShown) → AreFit capabilities entries → AreFit capabilities (tidied_entries entries)
fit-tidied capabilities entries fit =
    record {
      allowed =
          each-filter (IsAllowed capabilities) is_node_kept (map with_kept_targets entries)
          (each-map (IsAllowed capabilities) (IsAllowed capabilities) with_kept_targets entries (λ entry own. held-allowed capabilities entry (with_kept_targets entry) (held-tidied entry) own) fit.allowed);
      beside =
          two-filter CanBeBeside is_node_kept (map with_kept_targets entries)
          (two-map CanBeBeside with_kept_targets entries
          (two-more CanBeBeside (λ a b. CanBeBeside (with_kept_targets a) (with_kept_targets b)) entries
          (λ a b can. held-second (with_kept_targets a) b (with_kept_targets b) (held-tidied b) (held-first a (with_kept_targets a) b (held-tidied a) can)) fit.beside));
    }

-- ---- a use begins

-- what stands in the way of a use: nothing
pub record IsAdmitted (usage : Usage) (row : RowShown) : Type 0 where
  pub capable : has_capability row.arguments.capabilities usage.capability ≡ true
  pub one_node : has_elsewhere (is_for_one_node usage) usage.node row ≡ false
  pub one_writer : has_elsewhere (uses_as_second_writer usage) usage.node row ≡ false
  pub alike : is_entry_otherwise usage (node_entry_of row usage.node) ≡ false
  pub target : allows_one_target usage.capability.mode ≡ true → others_in usage.target (node_entry_of row usage.node) ≡ false

-- an entry that may be attached and isn't held otherwise has the capability and the flag of the use
used-alike : (usage : Usage) (entry : NodeEntryShown) → IsAtRest entry → is_entry_otherwise usage (Some entry) ≡ false → (entry.capability ≡ usage.capability) × (entry.readonly ≡ usage.readonly)
used-alike usage entry used alike =
    let same = held-as_is usage entry (rest-attached entry used) in
    let held = held-for usage entry alike in
    (sym (ap (λ (e : NodeEntryShown). e.capability) same) ∙ held.as_capable, sym (ap (λ (e : NodeEntryShown). e.readonly) same) ∙ held.as_flagged)

-- where the mode allows one target, there is one once the use's own has its entry
one-targeted : (target : List ℕ) (entry : NodeEntryShown) → IsAtRest entry → length entry.target_entries ≤ 1 → others_in target (Some entry) ≡ false → length (with_target target entry.target_entries) ≤ 1
one-targeted target entry used few others = grind (arith, length-append, no-others)

-- the entry for a use is allowed, and held as the use asks
record IsAdmittedEntry (usage : Usage) (capabilities : List Capability) (entry : NodeEntryShown) : Type 0 where
  pub at_node : entry.node ≡ usage.node
  pub as_capable : entry.capability ≡ usage.capability
  pub as_flagged : entry.readonly ≡ usage.readonly
  pub allowed : IsAllowed capabilities entry

-- so is the one that a row has or gets
admitted-entry : (usage : Usage) (row : RowShown) → IsAdmitted usage row → AllByRecursion IsAtRest row.node_entries → AreFit row.arguments.capabilities row.node_entries
    → IsAdmittedEntry usage row.arguments.capabilities (entry_for usage (node_entry_of row usage.node))
admitted-entry usage row admitted all fit = by (node_entry_of row usage.node) refl admitted.alike admitted.target
  where
    by : (o : Option NodeEntryShown) → node_entry_of row usage.node ≡ o → is_entry_otherwise usage o ≡ false → (allows_one_target usage.capability.mode ≡ true → others_in usage.target o ≡ false)
        → IsAdmittedEntry usage row.arguments.capabilities (entry_for usage o)
    by None e alike one = record { at_node = refl; as_capable = refl; as_flagged = refl; allowed = record { capable = admitted.capable; one_target = λ allows. omega arith } }
    by (Some entry) e alike one =
        let among = among-find (λ (p : NodeEntryShown). same_text p.node usage.node) row.node_entries entry e in
        let used = each_of IsAtRest row.node_entries entry all among in
        let own = each_of (IsAllowed row.arguments.capabilities) row.node_entries entry fit.allowed among in
        let same = used-alike usage entry used alike in
        subst (λ (h : NodeEntryShown). IsAdmittedEntry usage row.arguments.capabilities (record h { target_entries = with_target usage.target entry.target_entries })) (sym (held-as_is usage entry (rest-attached entry used)))
        (record {
          at_node = (same_text-tells entry.node usage.node).0 (find-passes (λ (p : NodeEntryShown). same_text p.node usage.node) row.node_entries entry e);
          as_capable = same.0;
          as_flagged = same.1;
          allowed =
              record {
                capable = own.capable;
                one_target = λ allows. one-targeted usage.target entry used (own.one_target allows) (one (ap (λ (c : Capability). allows_one_target c.mode) (sym same.0) ∙ allows));
              };
        })

-- a test that no entry of another node passes
elsewhere-free : (so : Held → Bool) (node : List ℕ) (row : RowShown) (entry : NodeEntryShown) → has_elsewhere so node row ≡ false → IsAmong entry row.node_entries → same_text entry.node node ≡ false → IsAtRest entry → so (held_at entry) ≡ false
elsewhere-free so node row entry none among apart used =
    sym (ap (λ b. not b && not (is_no entry.attached) && so (held_at entry)) apart ∙ ap (λ b. not b && so (held_at entry)) (rest-attached entry used))
    ∙ none-among (is_so_elsewhere so node) row.node_entries entry none among

-- entries stay fit with the one for a use that is admitted
pub fit-use : (usage : Usage) (row : RowShown) → IsAdmitted usage row → AreNodesApart row.node_entries → AllByRecursion IsAtRest row.node_entries → AreFit row.arguments.capabilities row.node_entries
    → AreFit row.arguments.capabilities (with_entry usage row).node_entries
fit-use usage row admitted apart all fit =
    record {
      allowed = each-put (IsAllowed row.arguments.capabilities) (λ (e : NodeEntryShown). e.node) entry row.node_entries own.allowed fit.allowed;
      beside = two-put CanBeBeside (λ (e : NodeEntryShown). e.node) entry row.node_entries same other fit.beside;
    }
  where
    entry : NodeEntryShown
    entry = entry_for usage (node_entry_of row usage.node)

    own : IsAdmittedEntry usage row.arguments.capabilities (entry_for usage (node_entry_of row usage.node))
    own = admitted-entry usage row admitted all fit

    same : (old : NodeEntryShown) → IsAmong old row.node_entries → old.node ≡ entry.node → (beside : NodeEntryShown) → CanBeBeside old beside → CanBeBeside entry beside
    same old among node beside can =
        let found : node_entry_of row usage.node ≡ Some old = ap (node_entry_of row) (sym (node ∙ own.at_node)) ∙ own-entry (λ (e : NodeEntryShown). e.node) row.node_entries old apart among in
        let alike = used-alike usage old (each_of IsAtRest row.node_entries old all among) (ap (is_entry_otherwise usage) (sym found) ∙ admitted.alike) in
        record {
          several = ap (λ (c : Capability). is_single_node c.mode || is_single_node beside.capability.mode) (own.as_capable ∙ sym alike.0) ∙ can.several;
          one_writer =
              ap (λ (c : Capability). are_two_writers c.mode entry.readonly beside.capability.mode beside.readonly) (own.as_capable ∙ sym alike.0)
              ∙ ap (λ r. are_two_writers old.capability.mode r beside.capability.mode beside.readonly) (own.as_flagged ∙ sym alike.1) ∙ can.one_writer;
        }

    other : (old : NodeEntryShown) → IsAmong old row.node_entries → same_text old.node entry.node ≡ false → CanBeBeside old entry
    other old among differs =
        let used = each_of IsAtRest row.node_entries old all among in
        let apart_from : same_text old.node usage.node ≡ false = ap (same_text old.node) (sym own.at_node) ∙ differs in
        record {
          several = ap (λ (c : Capability). is_single_node old.capability.mode || is_single_node c.mode) own.as_capable ∙ elsewhere-free (is_for_one_node usage) usage.node row old admitted.one_node among apart_from used;
          one_writer =
              ap (λ (c : Capability). are_two_writers old.capability.mode old.readonly c.mode entry.readonly) own.as_capable
              ∙ ap (λ r. are_two_writers old.capability.mode old.readonly usage.capability.mode r) own.as_flagged
              ∙ elsewhere-free (uses_as_second_writer usage) usage.node row old admitted.one_writer among apart_from used;
        }
