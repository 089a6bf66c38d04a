-- The first entry of the node is changed.
use Rattle.csi_orchestrator.proofs.Words.{◌≡◌, ℕ, List, get_or, map, position, rules, set, same_text, Some, Kind, Known}
use Rattle.csi_orchestrator.proofs.Words.{NodeEntry, aspect_of, marked_at, node_marked, NodeEntryShown, node_entry_shown}
use Rattle.csi_orchestrator.proofs.ChangedEntries.{change-place, change-none_placed}
use Rattle.csi_orchestrator.proofs.entries.mark_at.Goals as goal

-- what is marked in the entry where the node's is found
marked-there : (node target : List ℕ) (known : Known) (kind : Kind) (entries : List NodeEntry) (i : ℕ) (entry made : NodeEntry) → position (λ (entry : NodeEntry). same_text entry.node node) entries ≡ Some i
    → entry ≡ get_or entries i entry
    → node_entry_shown made ≡ node_marked known (aspect_of kind) target (node_entry_shown entry)
    → map node_entry_shown (set entries i made) ≡ marked_at known (aspect_of kind) node target (map node_entry_shown entries)
marked-there node target known kind entries i entry made at there is =
    change-place node_entry_shown (λ (entry : NodeEntryShown). entry.node) node (node_marked known (aspect_of kind) target) entries i entry made at there is

pub returns-in-CreateVolume : goal.returns-in-CreateVolume
returns-in-CreateVolume c =
    let entry = c.index_mut-entry.result.now in
    marked-there c.args.node.now c.args.target.now c.args.known c.args.kind c.args.entries.now.items c.in-Some.index entry entry (cc) c.index_mut-entry.ensures.value (search rules)

pub returns-in-ControllerPublishVolume : goal.returns-in-ControllerPublishVolume
returns-in-ControllerPublishVolume c =
    let entry = c.index_mut-entry.result.now in
    marked-there c.args.node.now c.args.target.now c.args.known c.args.kind c.args.entries.now.items c.in-Some.index entry (record entry { attached = c.args.known }) (cc) c.index_mut-entry.ensures.value (search rules)

pub returns-in-NodeStageVolume : goal.returns-in-NodeStageVolume
returns-in-NodeStageVolume c =
    let entry = c.index_mut-entry.result.now in
    marked-there c.args.node.now c.args.target.now c.args.known c.args.kind c.args.entries.now.items c.in-Some.index entry (record entry { staged = c.args.known }) (cc) c.index_mut-entry.ensures.value (search rules)

pub returns-in-NodePublishVolume : goal.returns-in-NodePublishVolume
returns-in-NodePublishVolume c =
    let entry = c.index_mut-entry.result.now in
    marked-there c.args.node.now c.args.target.now c.args.known c.args.kind c.args.entries.now.items c.in-Some.index entry (record entry { target_entries = c.mark_target.new.target_entries }) (cc)
    c.index_mut-entry.ensures.value (search rules)

pub returns-in_default : goal.returns-in_default
returns-in_default c =
    change-none_placed node_entry_shown (λ (entry : NodeEntryShown). entry.node) c.args.node.now (node_marked c.args.known (aspect_of c.args.kind) c.args.target.now) c.args.entries.now.items (cc)
