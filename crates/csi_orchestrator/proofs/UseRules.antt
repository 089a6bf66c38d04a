-- What holds of a row once an entry for a use was put in.
use Rattle.csi_orchestrator.proofs.Words.{◌≡◌, ℕ, List, [], ◌∷◌, ◌++◌, Bool, true, false, cond, refl, ◌∙◌, ap, Option}
use Rattle.csi_orchestrator.proofs.Words.{Some, None, find, is_some, AllByRecursion, list_any, same_text, same_flag}
use Rattle.csi_orchestrator.proofs.Words.{Use, TargetEntry, Yes, Held, is_for_one_node}
use Rattle.csi_orchestrator.proofs.Words.{uses_as_second_writer, NodeEntryShown, RowShown, node_entry_of}
use Rattle.csi_orchestrator.proofs.Words.{target_entry_of, AreTargetsApart, wanted_row, new_target_entry, with_target}
use Rattle.csi_orchestrator.proofs.Words.{held_as, entry_for, with_entry, is_so_elsewhere, has_elsewhere}
use Rattle.csi_orchestrator.proofs.Words.{is_entry_otherwise, put_by, IsUsable, arith}
use Rattle.csi_orchestrator.proofs.Lemmas.{false≢true, and_parts, not-false, each_of, among-find, none_passes}
use Rattle.csi_orchestrator.proofs.Lemmas.{two-append, find-append_one, find-passes, same_text-tells}
use Rattle.csi_orchestrator.proofs.Lemmas.{same_capability-tells}
use Rattle.csi_orchestrator.specs.Model.History.{Usage}
use Rattle.csi_orchestrator.proofs.TextLists.{text-same}
use Rattle.csi_orchestrator.proofs.KeyedSearches.{find-put}
use Rattle.csi_orchestrator.proofs.EntryRules.{each-put, apart-put, any-put}
use Rattle.csi_orchestrator.proofs.RowRules.{AreDistinct, here}

-- an entry that serves a use
pub record Serves (usage : Usage) (node_entry : NodeEntryShown) : Type 0 where
  pub at_node : node_entry.node ≡ usage.node
  pub as_capable : node_entry.capability ≡ usage.capability
  pub as_flagged : node_entry.readonly ≡ usage.readonly
  pub apart : AreTargetsApart node_entry
  pub target_entry : TargetEntry
  pub at_target : target_entry_of node_entry usage.target ≡ Some target_entry

-- the target has its entry among these, which stay apart
with-target-apart : (target : List ℕ) (node_entry : NodeEntryShown) → AreTargetsApart node_entry → AreTargetsApart (record node_entry { target_entries = with_target target node_entry.target_entries })
with-target-apart target node_entry apart = grind (arith, two-append, none_passes)

-- the target's entry is found among them
with-target-found : (target : List ℕ) (target_entries : List TargetEntry) → (target_entry : TargetEntry) × (find (λ (a : TargetEntry). same_text a.target target) (with_target target target_entries) ≡ Some target_entry)
with-target-found target target_entries = by (find (λ (a : TargetEntry). same_text a.target target) target_entries) refl
  where
    by : (o : Option TargetEntry) → find (λ (a : TargetEntry). same_text a.target target) target_entries ≡ o
        → (target_entry : TargetEntry) × (find (λ (a : TargetEntry). same_text a.target target) (cond (is_some o) target_entries (target_entries ++ new_target_entry target ∷ [])) ≡ Some target_entry)
    by (Some target_entry) e = (target_entry, e)
    by None e = (new_target_entry target, find-append_one (λ (a : TargetEntry). same_text a.target target) target_entries (new_target_entry target) (text-same target) e)

-- flags that pass the test are equal
pub flag-same : (a b : Bool) → same_flag a b ≡ true → a ≡ b
flag-same a b h = grind (arith, false≢true)

-- an entry by which the volume is held for a use, where it isn't held otherwise
pub record IsHeldFor (usage : Usage) (node_entry held : NodeEntryShown) : Type 0 where
  pub same_node : held.node ≡ node_entry.node
  pub as_capable : held.capability ≡ usage.capability
  pub as_flagged : held.readonly ≡ usage.readonly

-- an entry by which it isn't held otherwise is so, once it is held for the use
pub held-for : (usage : Usage) (node_entry : NodeEntryShown) → is_entry_otherwise usage (Some node_entry) ≡ false → IsHeldFor usage node_entry (held_as usage node_entry)
held-for usage node_entry fits = grind (arith, and_parts, not-false, same_capability-tells, flag-same)

-- the entry for a use serves it
entry-serves : (usage : Usage) (row : RowShown) → AllByRecursion AreTargetsApart row.node_entries → is_entry_otherwise usage (node_entry_of row usage.node) ≡ false
    → Serves usage (entry_for usage (node_entry_of row usage.node))
entry-serves usage row apart fits = by (node_entry_of row usage.node) refl fits
  where
    by : (o : Option NodeEntryShown) → node_entry_of row usage.node ≡ o → is_entry_otherwise usage o ≡ false → Serves usage (entry_for usage o)
    by None e fit =
        record {
          at_node = refl;
          as_capable = refl;
          as_flagged = refl;
          apart = (tt, tt);
          target_entry = new_target_entry usage.target;
          at_target = ap (λ b. cond b (Some (new_target_entry usage.target)) None) (text-same usage.target);
        }
    by (Some node_entry) e fit =
        let held = held-for usage node_entry fit in
        let found = with-target-found usage.target node_entry.target_entries in
        record {
          at_node = held.same_node ∙ (same_text-tells node_entry.node usage.node).0 (find-passes (λ (p : NodeEntryShown). same_text p.node usage.node) row.node_entries node_entry e);
          as_capable = held.as_capable;
          as_flagged = held.as_flagged;
          apart =
              with-target-apart usage.target node_entry
              (each_of AreTargetsApart row.node_entries node_entry apart (among-find (λ (p : NodeEntryShown). same_text p.node usage.node) row.node_entries node_entry e));
          target_entry = found.0;
          at_target = found.1;
        }

-- with an entry for a use too, each node and each target there has one entry
pub distinct-entry : (usage : Usage) (row : RowShown) → AreDistinct row.node_entries → is_entry_otherwise usage (node_entry_of row usage.node) ≡ false → AreDistinct (with_entry usage row).node_entries
distinct-entry usage row distinct fits =
    record {
      nodes = apart-put (λ (node_entry : NodeEntryShown). node_entry.node) (entry_for usage (node_entry_of row usage.node)) row.node_entries distinct.nodes;
      targets =
          each-put AreTargetsApart (λ (node_entry : NodeEntryShown). node_entry.node) (entry_for usage (node_entry_of row usage.node)) row.node_entries
          (entry-serves usage row distinct.targets fits).apart distinct.targets;
    }

-- a use that isn't refused may be brought about once its entry is there
pub usable-entry : (usage : Usage) (row : RowShown) → AllByRecursion AreTargetsApart row.node_entries → row.exists ≡ Yes
    → has_elsewhere (is_for_one_node usage) usage.node row ≡ false → has_elsewhere (uses_as_second_writer usage) usage.node row ≡ false
    → is_entry_otherwise usage (node_entry_of row usage.node) ≡ false → IsUsable (wanted_row (Use usage) (with_entry usage row)) usage
usable-entry usage row apart exists one_node second fits =
    record {
      made = exists;
      entry =
          record {
            node_entry = entry;
            target_entry = serves.target_entry;
            at_node =
                find-put (λ (node_entry : NodeEntryShown). node_entry.node) entry row.node_entries usage.node
                ∙ ap (λ b. cond b (Some entry) (node_entry_of row usage.node)) ((same_text-tells entry.node usage.node).1 serves.at_node);
            at_target = serves.at_target;
            same_capability = serves.as_capable;
            same_flag = serves.as_flagged;
          };
      shared = unmoved (is_for_one_node usage) ∙ one_node;
      one_writer = unmoved (uses_as_second_writer usage) ∙ second;
    }
  where
    entry : NodeEntryShown
    entry = entry_for usage (node_entry_of row usage.node)

    serves : Serves usage (entry_for usage (node_entry_of row usage.node))
    serves = entry-serves usage row apart fits

    unmoved : (so : Held → Bool) → list_any (is_so_elsewhere so usage.node) (put_by (λ (node_entry : NodeEntryShown). node_entry.node) entry row.node_entries) ≡ list_any (is_so_elsewhere so usage.node) row.node_entries
    unmoved so = any-put (is_so_elsewhere so usage.node) (λ (node_entry : NodeEntryShown). node_entry.node) entry row.node_entries (λ node_entry e. here so usage.node node_entry (e ∙ serves.at_node))
