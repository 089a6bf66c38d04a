-- How the test of a use goes on behind an entry of another node, and whether a node has targets.
use Rattle.csi_orchestrator.proofs.Words.{◌≡◌, ◌<◌, ◌+◌, ℕ, List, get_or, drop, length, map, Bool, true, false, refl}
use Rattle.csi_orchestrator.proofs.Words.{sym, ◌∙◌, ap, ◌&&◌, ◌==◌, Option, Some, None, find, option_map, same_text}
use Rattle.csi_orchestrator.proofs.Words.{Usage, NodeEntry, NodeEntryShown, node_entry_shown, is_resting}
use Rattle.csi_orchestrator.proofs.Words.{is_untargeted, is_use_on_the_way, arith}
use Rattle.csi_orchestrator.proofs.Lemmas.{drop_more, find-of_map}

-- an entry of another node, and what is behind it
pub use-walks : (usage : Usage) (entries : List NodeEntry) (place : ℕ) (entry : NodeEntry) → place < length entries → entry ≡ get_or entries place entry → same_text entry.node usage.node ≡ false
    → is_use_on_the_way usage (drop place entries) ≡ (is_resting entry && is_use_on_the_way usage (drop (place + 1) entries))
use-walks usage entries place entry inside is other = grind (arith, drop_more)

-- an entry as it is shown, if there is one, has no targets
untargeted_shown : Option NodeEntryShown → Bool
untargeted_shown None = true
untargeted_shown (Some entry) = length entry.target_entries == 0

-- so it is with the entry as it is kept
shown-untargeted : (o : Option NodeEntry) → is_untargeted o ≡ untargeted_shown (option_map node_entry_shown o)
unfolding untargeted_shown
shown-untargeted None = refl
shown-untargeted (Some entry) = refl

-- what is found of a node, as it is shown
pub untargeted-as : (entries : List NodeEntry) (node : List ℕ) (o : Option NodeEntry) → option_map node_entry_shown o ≡ find (λ (s : NodeEntryShown). same_text s.node node) (map node_entry_shown entries)
    → is_untargeted o ≡ is_untargeted (find (λ (e : NodeEntry). same_text e.node node) entries)
untargeted-as entries node o is =
    shown-untargeted o ∙ ap untargeted_shown (is ∙ find-of_map (λ (s : NodeEntryShown). same_text s.node node) node_entry_shown entries) ∙ sym (shown-untargeted (find (λ (e : NodeEntry). same_text e.node node) entries))
