-- The tests of a row's entries and tries are passed exactly where it keeps the rules.
use Rattle.csi_orchestrator.proofs.Words.{◌≡◌, ◌≤◌, ℕ, zero, suc, length, map, Bool, false, List, [], ◌∷◌, refl}
use Rattle.csi_orchestrator.proofs.Words.{sym, ◌∙◌, ap, inl, inr, arith, ◌⊎◌, ◌&&◌, ◌||◌, Option, Some, None, find}
use Rattle.csi_orchestrator.proofs.Words.{option_map, AllByRecursion, list_any, EachTwo, Capability, same_text}
use Rattle.csi_orchestrator.proofs.Words.{has_capability, allows_one_target, Goal, Stop, TargetEntry, NodeEntry, Yes}
use Rattle.csi_orchestrator.proofs.Words.{NodeEntryShown, IsEntryWithin, AreTargetsApart, node_entry_shown, HasTries}
use Rattle.csi_orchestrator.proofs.Words.{IsUntried, IsInUse, IsLeft, IsAtRest, IsAllowed, CanBeBeside, is_published}
use Rattle.csi_orchestrator.proofs.Words.{is_settled, is_resting, is_other_target, are_targets_apart, is_entry_fit}
use Rattle.csi_orchestrator.proofs.Words.{are_beside, are_entries_fit, has_tries, is_untargeted, is_tried, ⊎_elim}
use Rattle.csi_orchestrator.proofs.Lemmas.{or_from, or_parts, eq-eqb, eqb-true, none-some, same_Some, find-of_map}
use Rattle.csi_orchestrator.proofs.Lemmas.{each-weaker, false≢true}
use Rattle.csi_orchestrator.specs.declared.request.Arguments.{Arguments}
use Rattle.csi_orchestrator.specs.Public.Shown.{AreNodesApart}
use Rattle.csi_orchestrator.specs.Private.Judging.{is_left}
use Rattle.csi_orchestrator.proofs.Tells.{Tells, like, always, passes, fails, yes_tells, no_tells, most, empty, some, both, either, unless_so, where_so, not_so, each, each_shown}

-- ---- an entry at which no goal is at work

-- it is in use
settled : (entry : NodeEntry) → Tells (is_settled entry) (IsInUse (node_entry_shown entry))
settled entry =
    let targets = entry.target_entries.items in
    like (both (yes_tells entry.attached) (both (yes_tells entry.staged) (both (some targets) (each is_published (λ (t : TargetEntry). t.published ≡ Yes) (λ t. yes_tells t.published) targets))))
    (λ is. record { attached = is.0; staged = is.1.0; published = is.1.1.1; some = is.1.1.0 }) (λ used. (used.attached, (used.staged, (used.some, used.published))))

-- it is of a node that was lost
pub left : (entry : NodeEntry) → Tells (is_left entry) (IsLeft (node_entry_shown entry))
left entry =
    like (both (not_so (no_tells entry.attached)) (both (no_tells entry.staged) (empty entry.target_entries.items))) (λ is. record { attached = is.0; staged = is.1.0; targets = is.1.1 })
    (λ kept. (kept.attached, (kept.staged, kept.targets)))

-- it is one of the two
pub resting : (entry : NodeEntry) → Tells (is_resting entry) (IsAtRest (node_entry_shown entry))
resting entry = either (settled entry) (left entry)

-- ---- an entry that is fit

-- its targets are apart
apart : (targets : List TargetEntry) → Tells (are_targets_apart targets) (EachTwo (λ (a b : TargetEntry). same_text a.target b.target ≡ false) targets)
apart [] = always tt
apart (t ∷ later) = both (each (is_other_target t) (λ (b : TargetEntry). same_text t.target b.target ≡ false) (λ b. fails (same_text t.target b.target)) later) (apart later)

-- an entry, as it is shown, is of these nodes, apart, and as the volume's arguments allow
record IsFit (nodes : List (List ℕ)) (capabilities : List Capability) (entry : NodeEntryShown) : Type 0 where
  pub within : IsEntryWithin nodes entry
  pub apart : AreTargetsApart entry
  pub allowed : IsAllowed capabilities entry

fit : (nodes : List (List ℕ)) (arguments : Arguments) (entry : NodeEntry) → Tells (is_entry_fit nodes arguments entry) (IsFit nodes arguments.capabilities (node_entry_shown entry))
fit nodes arguments entry =
    let targets = entry.target_entries.items in
    like
    (both (most (length targets) 16)
    (both (where_so (allows_one_target entry.capability.mode) (most (length targets) 1))
    (both (unless_so (passes (list_any (same_text entry.node) nodes)) (empty targets)) (both (passes (has_capability arguments.capabilities entry.capability)) (apart targets)))))
    (λ is. record { within = record { among = is.1.1.0; targets = is.0 }; apart = is.1.1.1.1; allowed = record { capable = is.1.1.1.0; one_target = is.1.0 } })
    (λ fit. (fit.within.targets, (fit.allowed.one_target, (fit.within.among, (fit.allowed.capable, fit.apart)))))

-- ---- two entries

-- whether there are two writers doesn't hang on their order
writers-flip : (a b c d : Bool) → (a && b && (c || d)) ≡ false → (b && a && (d || c)) ≡ false
writers-flip a b c d e = grind (arith, false≢true)

-- nor does whether they can be beside one another
pub beside-flip : (a b : NodeEntryShown) → CanBeBeside a b → CanBeBeside b a
beside-flip a b can = grind (arith, or_parts, or_from, writers-flip)

-- they are apart, and can
abbrev IsApartBeside : NodeEntryShown → NodeEntryShown → Type 0
IsApartBeside a b = (same_text a.node b.node ≡ false) × CanBeBeside a b

beside : (a b : NodeEntry) → Tells (are_beside a b) (IsApartBeside (node_entry_shown a) (node_entry_shown b))
beside a b = grind (arith, like, both, fails, beside-flip)

-- ---- all entries

-- what the tests say of them, as they are shown
pub record AreEntriesFit (nodes : List (List ℕ)) (capabilities : List Capability) (entries : List NodeEntryShown) : Type 0 where
  pub within : AllByRecursion (IsEntryWithin nodes) entries
  pub targets : AllByRecursion AreTargetsApart entries
  pub allowed : AllByRecursion (IsAllowed capabilities) entries
  pub apart : AreNodesApart entries
  pub beside : EachTwo CanBeBeside entries

-- both of each
each-both : {X : Type 0} (P Q : X → Type 0) (xs : List X) → AllByRecursion P xs → AllByRecursion Q xs → AllByRecursion (λ x. P x × Q x) xs
each-both P Q [] ps qs = tt
each-both P Q (x ∷ xs) ps qs = ((ps.0, qs.0), each-both P Q xs ps.1 qs.1)

pub entries_tell : (nodes : List (List ℕ)) (arguments : Arguments) (entries : List NodeEntry) → Tells (are_entries_fit nodes arguments entries) (AreEntriesFit nodes arguments.capabilities (map node_entry_shown entries))
entries_tell nodes arguments [] = always (record { within = tt; targets = tt; allowed = tt; apart = tt; beside = tt })
entries_tell nodes arguments (entry ∷ later) =
    like (both (fit nodes arguments entry) (both (each_shown node_entry_shown (are_beside entry) (IsApartBeside own) (beside entry) later) (entries_tell nodes arguments later)))
    (λ is.
    record {
      within = (is.0.within, is.1.1.within);
      targets = (is.0.apart, is.1.1.targets);
      allowed = (is.0.allowed, is.1.1.allowed);
      apart = (each-weaker (IsApartBeside own) Apart others (λ b can. can.0) is.1.0, is.1.1.apart);
      beside = (each-weaker (IsApartBeside own) (CanBeBeside own) others (λ b can. can.1) is.1.0, is.1.1.beside);
    })
    (λ fit. (
      record { within = fit.within.0; apart = fit.targets.0; allowed = fit.allowed.0 },
      (
        each-both Apart (CanBeBeside own) others fit.apart.0 fit.beside.0,
        record { within = fit.within.1; targets = fit.targets.1; allowed = fit.allowed.1; apart = fit.apart.1; beside = fit.beside.1 },
      ),
    ))
  where
    own : NodeEntryShown
    own = node_entry_shown entry

    others : List NodeEntryShown
    others = map node_entry_shown later

    Apart : NodeEntryShown → Type 0
    Apart b = same_text entry.node b.node ≡ false

-- ---- tries

-- so many go with what is wanted
pub tries_tell : (goal : Option Goal) (tries : ℕ) → Tells (has_tries goal tries) (HasTries goal tries)
tries_tell goal tries = grind (arith, eqb-true, eq-eqb, most, both)

-- an entry that is found, if one is, has no targets
untargeted : (o : Option NodeEntry) → Tells (is_untargeted o) ((entry : NodeEntryShown) → option_map node_entry_shown o ≡ Some entry → entry.target_entries ≡ [])
untargeted None = always (λ entry e. absurd (none-some entry e))
untargeted (Some own) = like (empty own.target_entries.items) (λ none entry e. sym (ap (λ (s : NodeEntryShown). s.target_entries) (same_Some (node_entry_shown own) entry e)) ∙ none) (λ f. f (node_entry_shown own) refl)

-- a stop that wasn't tried is of a node without targets
pub tried_tells : (goal : Option Goal) (tries : ℕ) (entries : List NodeEntry) → Tells (is_tried goal tries entries) (tries ≡ 0 → IsUntried goal (map node_entry_shown entries))
tried_tells (Some (Stop node target)) tries entries =
    like (either (most 1 tries) (untargeted (find (λ (e : NodeEntry). same_text e.node node) entries))) (λ is none entry found. ⊎_elim (λ some. absurd (omega (arith, some, none))) (λ f. f entry (sym shown ∙ found)) is) (back tries)
  where
    shown : find (λ (e : NodeEntryShown). same_text e.node node) (map node_entry_shown entries) ≡ option_map node_entry_shown (find (λ (e : NodeEntry). same_text e.node node) entries)
    shown = find-of_map (λ (e : NodeEntryShown). same_text e.node node) node_entry_shown entries

    back : (n : ℕ) → (n ≡ 0 → IsUntried (Some (Stop node target)) (map node_entry_shown entries))
        → (1 ≤ n) ⊎ ((entry : NodeEntryShown) → option_map node_entry_shown (find (λ (e : NodeEntry). same_text e.node node) entries) ≡ Some entry → entry.target_entries ≡ [])
    back zero untried = inr (λ entry e. untried refl entry (shown ∙ e))
    back (suc n) untried = inl (omega arith)
tried_tells goal tries entries = always (λ none. tt)
