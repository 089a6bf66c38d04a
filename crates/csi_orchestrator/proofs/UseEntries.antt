-- An entry for a use, where its node's entry stands and where there is none.
use Rattle.csi_orchestrator.proofs.Words.{◌≡◌, ℕ, List, [], ◌∷◌, ◌++◌, get_or, map, set, refl, sym, ◌∙◌, ap, Option}
use Rattle.csi_orchestrator.proofs.Words.{Some, None, find, position, same_text, NodeEntry, Usage, put_by}
use Rattle.csi_orchestrator.proofs.Words.{NodeEntryShown, node_entry_shown, entry_for}
use Rattle.csi_orchestrator.proofs.Lemmas.{position-Some, same_text-tells}
use Rattle.csi_orchestrator.proofs.ChangedEntries.{find-place, find-none_placed, put-place, put-none_placed}
use Rattle.csi_orchestrator.proofs.RowsAfterNotes.{held-same}

-- the entry of a use's node
abbrev entry_of : Usage → List NodeEntry → Option NodeEntryShown
entry_of usage entries = find (λ (entry : NodeEntryShown). same_text entry.node usage.node) (map node_entry_shown entries)

-- the entries as they are shown, with the entry for a use put in
abbrev pub Added : Usage → List NodeEntry → List NodeEntry → Type 0
Added usage old new = map node_entry_shown new ≡ put_by (λ (entry : NodeEntryShown). entry.node) (entry_for usage (entry_of usage old)) (map node_entry_shown old)

-- it stands in the place of the node's entry, and last where there is none
pub added-there : (usage : Usage) (entries : List NodeEntry) (i : ℕ) (entry made : NodeEntry) → position (λ (p : NodeEntry). same_text p.node usage.node) entries ≡ Some i → entry ≡ get_or entries i entry
    → node_entry_shown made ≡ entry_for usage (Some (node_entry_shown entry)) → Added usage entries (set entries i made)
added-there usage entries i entry made at there is =
    let found = find-place node_entry_shown (λ (p : NodeEntryShown). same_text p.node usage.node) entries i entry at there in
    let facts = position-Some (λ (p : NodeEntry). same_text p.node usage.node) entries i entry at in
    let own = ap (λ (p : NodeEntry). same_text p.node usage.node) there ∙ facts.1 in
    let node = held-same (λ (p : NodeEntryShown). p.node) usage (node_entry_shown entry) refl ∙ (same_text-tells entry.node usage.node).0 own in
    put-place node_entry_shown (λ (p : NodeEntryShown). p.node) (entry_for usage (Some (node_entry_shown entry))) usage.node entries i entry made node at is
    ∙ ap (λ (o : Option NodeEntryShown). put_by (λ (p : NodeEntryShown). p.node) (entry_for usage o) (map node_entry_shown entries)) (sym found)

-- where the node has no entry, it stands last
pub added-last : (usage : Usage) (entries : List NodeEntry) (made : NodeEntry) → position (λ (p : NodeEntry). same_text p.node usage.node) entries ≡ None → node_entry_shown made ≡ entry_for usage None → Added usage entries (entries ++ made ∷ [])
added-last usage entries made none is =
    let found = find-none_placed node_entry_shown (λ (p : NodeEntryShown). same_text p.node usage.node) entries none in
    put-none_placed node_entry_shown (λ (p : NodeEntryShown). p.node) (entry_for usage None) usage.node entries made refl none is
    ∙ ap (λ (o : Option NodeEntryShown). put_by (λ (p : NodeEntryShown). p.node) (entry_for usage o) (map node_entry_shown entries)) (sym found)
