-- Why the call that is due for a row may be sent.
use Rattle.csi_orchestrator.proofs.Words.{◌≡◌, ◌≢◌, ℕ, List, Bool, true, false, not, refl, sym, ◌∙◌, ap, subst, inr}
use Rattle.csi_orchestrator.proofs.Words.{Option, Some, None, option_map, AllByRecursion, IsAmong, same_text}
use Rattle.csi_orchestrator.proofs.Words.{is_single_node, Thing, Exists, Attached, Staged, Published, Yes, No, name_in}
use Rattle.csi_orchestrator.proofs.Words.{is_yes, is_no, Held, History, known, held, open_call, Due, is_for_one_node}
use Rattle.csi_orchestrator.proofs.Words.{uses_as_second_writer, CanBeHeldToo, holding_by, IsGuarded, MayIssue}
use Rattle.csi_orchestrator.proofs.Words.{NodeEntryShown, RowShown, node_entry_of, mark_in, publication_known, mark_of}
use Rattle.csi_orchestrator.proofs.Words.{held_at, AreTargetsApart, others_in, due_in, has_elsewhere, IsUsable}
use Rattle.csi_orchestrator.proofs.Words.{MayBeWanted, arith}
use Rattle.csi_orchestrator.proofs.Lemmas.{false≢true, true_from_ne_false, or_parts, among-find, each_of, some-has}
use Rattle.csi_orchestrator.proofs.Lemmas.{find-passes, same_Some, none-some, then-any, same_text-tells}
use Rattle.csi_types.specs.Public.Holding.{CanHoldBoth}
use Rattle.csi_orchestrator.specs.Model.History.{Usage}
use Rattle.csi_orchestrator.proofs.DueCases.{IsDueFor, due-cases, ToMake, ToRemove, ToAttach, ToStage, ToPublish, ToUnpublish, ToUnstage, ToDetach}
use Rattle.csi_orchestrator.proofs.InUse.{in-use-alike, target-in-use}
use Rattle.csi_orchestrator.proofs.KnownTests.{yes_is_yes, no_is_no, not_yes, not_no, yes_not_no, is_not_no}
use Rattle.csi_orchestrator.proofs.RowViews.{IsRowOf}
use Rattle.csi_orchestrator.proofs.TextLists.{texts-differ}

-- what may be sent of this due call
Guarded : History → List ℕ → Due → Type 0
Guarded history name due = IsGuarded history name due.party due.call

-- a search of a row's entries by their node
node-entry-there : (row : RowShown) (node : List ℕ) (entry : NodeEntryShown) → node_entry_of row node ≡ Some entry → IsAmong entry row.node_entries × (entry.node ≡ node)
node-entry-there row node entry e =
    (among-find (λ (p : NodeEntryShown). same_text p.node node) row.node_entries entry e, (same_text-tells entry.node node).0 (find-passes (λ (p : NodeEntryShown). same_text p.node node) row.node_entries entry e))

-- an entry by which the volume may be at another node, and is held not so
not-so : (row : RowShown) (so : Held → Bool) (node other : List ℕ) (entry : NodeEntryShown) → has_elsewhere so node row ≡ false → node_entry_of row other ≡ Some entry → other ≢ node → entry.attached ≢ No → so (held_at entry) ≡ false
not-so row so node other entry none e apart maybe = grind (arith, node-entry-there, texts-differ, false≢true, then-any, is_not_no)

-- what is known of a thing of the row's name
known-yes : (row : RowShown) (history : History) (thing : Thing) → IsRowOf row history row.name → name_in thing ≡ row.name → is_yes (mark_of thing row) ≡ true → known history thing ≡ Yes
known-yes row history thing told own e = sym (told.marks thing own) ∙ yes_is_yes (mark_of thing row) e

-- a thing that the row marks No is known as No
known-no : (row : RowShown) (history : History) (thing : Thing) → IsRowOf row history row.name → name_in thing ≡ row.name → is_no (mark_of thing row) ≡ true → known history thing ≡ No
known-no row history thing told own e = sym (told.marks thing own) ∙ no_is_no (mark_of thing row) e

-- one that it doesn't mark Yes isn't known as Yes
known-not-yes : (row : RowShown) (history : History) (thing : Thing) → IsRowOf row history row.name → name_in thing ≡ row.name → is_yes (mark_of thing row) ≡ false → known history thing ≢ Yes
known-not-yes row history thing told own e = not_yes (known history thing) (ap is_yes (sym (told.marks thing own)) ∙ e)

-- one that it doesn't mark No isn't known as No
known-not-no : (row : RowShown) (history : History) (thing : Thing) → IsRowOf row history row.name → name_in thing ≡ row.name → is_no (mark_of thing row) ≡ false → known history thing ≢ No
known-not-no row history thing told own e = not_no (known history thing) (ap is_no (sym (told.marks thing own)) ∙ e)

-- nowhere may it be attached
detached-there : (row : RowShown) (node : List ℕ) → AllByRecursion (λ (entry : NodeEntryShown). entry.attached ≡ No) row.node_entries → mark_of (Attached row.name node) row ≡ No
detached-there row node detached = grind (arith, each_of, node-entry-there)

-- how a usage holds the volume
abbrev held-so : Usage → Held
held-so usage = record { capability = usage.capability; readonly = usage.readonly }

-- the volume can be held so beside its other holdings
shared-so : (row : RowShown) (history : History) (usage : Usage) (id : ℕ) → IsRowOf row history row.name → IsUsable row usage → CanBeHeldToo history row.name id usage.node (held-so usage)
shared-so row history usage id told usable other there apart maybe holds = by (node_entry_of row other) refl (told.holdings other (λ no. maybe (sym (told.marks (Attached row.name other) refl) ∙ no)) ∙ holds)
  where
    not_none : None ≡ Some there → ⊥
    not_none e = none-some there e

    attached : (entry : NodeEntryShown) → node_entry_of row other ≡ Some entry → entry.attached ≢ No
    attached entry e detached = maybe (sym (told.marks (Attached row.name other) refl) ∙ ap (mark_in (λ (p : NodeEntryShown). p.attached)) e ∙ detached)

    alike : (entry : NodeEntryShown) → node_entry_of row other ≡ Some entry → held_at entry ≡ there → CanHoldBoth (holding_by id other there) (holding_by id usage.node (held-so usage))
    alike entry e same =
        let modes = or_parts (is_single_node there.capability.mode) (is_single_node usage.capability.mode)
        (ap (is_for_one_node usage) (sym same) ∙ not-so row (is_for_one_node usage) usage.node other entry usable.shared e apart (attached entry e)) in
        let writers = ap (uses_as_second_writer usage) (sym same) ∙ not-so row (uses_as_second_writer usage) usage.node other entry usable.one_writer e apart (attached entry e) in
        inr (record { apart = apart; first_shared = ap not modes.0; second_shared = ap not modes.1; no_second_writer = ap not writers })

    by : (o : Option NodeEntryShown) → node_entry_of row other ≡ o → option_map held_at o ≡ Some there → CanHoldBoth (holding_by id other there) (holding_by id usage.node (held-so usage))
    by None e same = absurd (not_none same)
    by (Some entry) e same = alike entry e (same_Some (held_at entry) there same)

-- the volume is held at the node as the use asks
held-there : (row : RowShown) (history : History) (usage : Usage) → IsRowOf row history row.name → IsUsable row usage → is_yes (mark_of (Attached row.name usage.node) row) ≡ true
    → held history row.name usage.node ≡ Some (held-so usage)
held-there row history usage told usable e = grind (arith, yes_not_no, yes_is_yes)

-- no target of the node is published where the goal's own isn't, and no other is
quiet-targets : (row : RowShown) (history : History) (node target other : List ℕ) → IsRowOf row history row.name → AllByRecursion AreTargetsApart row.node_entries
    → is_no (mark_in (publication_known target) (node_entry_of row node)) ≡ true → others_in target (node_entry_of row node) ≡ false → known history (Published row.name node other) ≡ No
quiet-targets row history node target other told apart this others =
    no_is_no _ (true_from_ne_false _ (λ maybe.
    false≢true (sym (in-use-alike row history row.name node target told apart this ∙ others) ∙ some-has _ other (target-in-use history row.name node other maybe))))

-- call by call
guarded : (row : RowShown) (history : History) (due : Due) → IsRowOf row history row.name → AllByRecursion AreTargetsApart row.node_entries → MayBeWanted row row.goal → IsDueFor row due → Guarded history row.name due
unfolding Guarded
guarded row history _ told apart wanted (ToMake goal e) =
    record { own_name = refl; not_made = known-not-yes row history (Exists row.name) told refl e; no_id = sym told.ids ∙ subst (MayBeWanted row) goal wanted }
guarded row history _ told apart wanted (ToRemove id goal own e) = (
  sym told.ids ∙ own,
  record {
    made = known-not-no row history (Exists row.name) told refl e;
    detached = λ node. sym (told.marks (Attached row.name node) refl) ∙ detached-there row node (subst (MayBeWanted row) goal wanted);
  },
)
guarded row history _ told apart wanted (ToAttach usage id goal own a) =
    let usable : IsUsable row usage = subst (MayBeWanted row) goal wanted in (
      sym told.ids ∙ own,
      record {
        made = sym (told.marks (Exists row.name) refl) ∙ usable.made;
        not_attached = known-not-yes row history (Attached row.name usage.node) told refl a;
        shared = shared-so row history usage id told usable;
      },
    )
guarded row history _ told apart wanted (ToStage usage id goal own a s) = (
  sym told.ids ∙ own,
  record {
    attached = known-yes row history (Attached row.name usage.node) told refl a;
    not_staged = known-not-yes row history (Staged row.name usage.node) told refl s;
    as_held = (held-so usage, held-there row history usage told (subst (MayBeWanted row) goal wanted) a, refl);
  },
)
guarded row history _ told apart wanted (ToPublish usage id goal own a s p) = (
  sym told.ids ∙ own,
  record {
    staged = known-yes row history (Staged row.name usage.node) told refl s;
    not_published = known-not-yes row history (Published row.name usage.node usage.target) told refl p;
    as_held = held-there row history usage told (subst (MayBeWanted row) goal wanted) a;
  },
)
guarded row history _ told apart wanted (ToUnpublish node target id goal own p) = sym told.ids ∙ own
guarded row history _ told apart wanted (ToUnstage node target id goal own p o s) =
    (sym told.ids ∙ own, record { not_published = λ other. quiet-targets row history node target other told apart p o })
guarded row history _ told apart wanted (ToDetach node target id goal own p o s a) = (sym told.ids ∙ own, record { not_staged = known-no row history (Staged row.name node) told refl s })

-- the call that is due for a row may be sent, where none is open
pub due-guarded : (row : RowShown) (history : History) (due : Due) → IsRowOf row history row.name → AllByRecursion AreTargetsApart row.node_entries → MayBeWanted row row.goal → open_call history row.name ≡ None → due_in row ≡ Some due
    → MayIssue history row.name due.party due.call
unfolding Guarded
due-guarded row history due told apart wanted none_open e = record { none_open = none_open; guarded = guarded row history due told apart wanted (due-cases row due e) }
