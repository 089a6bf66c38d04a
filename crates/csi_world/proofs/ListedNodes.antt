-- Nodes that are like what is listed of them, one by one; and what the readers of the plugins list is like each world that the
-- plugins show.
use Rattle.csi_world.proofs.Words.{◌≡◌, List, [], ◌∷◌, map, true, Some, find, refl, sym, ap, subst, inl, inr, ◌++◌}
use Rattle.csi_world.proofs.Words.{list_any, IsAmong, same_text, NodeAt, NodeLists, AreDistinctTexts, node_listed}
use Rattle.csi_world.proofs.Words.{IsNodeAlike, AreNodesAlike, IsListOf, AreListsOf, NodeParts, AreNodesShown, arith}
use Rattle.csi_world.proofs.Lemmas.{false≢true, in-map, then-any, same_text-tells}

-- ---- each node with the list of it

-- ---- node by node

-- each node has one that is listed and like it
pub listed-of : (ls : List NodeLists) (ns : List NodeAt) → AreNodesAlike (map node_listed ls) ns → (n : NodeAt) → IsAmong n ns → (l : NodeLists) × IsAmong l ls × IsNodeAlike (node_listed l) n
listed-of [] [] alike n among = absurd among
listed-of [] (m ∷ ms) alike n among = absurd alike
listed-of (l ∷ ls) [] alike n among = absurd among
listed-of (l ∷ ls) (m ∷ ms) alike n (inl e) = (l, inl refl, subst (IsNodeAlike (node_listed l)) (sym e) alike.0)
listed-of (l ∷ ls) (m ∷ ms) alike n (inr there) = let found = listed-of ls ms alike.1 n there in (found.0, inr found.1, found.2)

-- each that is listed is like a node
pub node-of : (ls : List NodeLists) (ns : List NodeAt) → AreNodesAlike (map node_listed ls) ns → (l : NodeLists) → IsAmong l ls → (n : NodeAt) × IsAmong n ns × IsNodeAlike (node_listed l) n
node-of [] ns alike l among = absurd among
node-of (k ∷ ks) [] alike l among = absurd alike
node-of (k ∷ ks) (m ∷ ms) alike l (inl e) = (m, inl refl, subst (λ j. IsNodeAlike (node_listed j) m) (sym e) alike.0)
node-of (k ∷ ks) (m ∷ ms) alike l (inr there) = let found = node-of ks ms alike.1 l there in (found.0, inr found.1, found.2)

-- where the ids differ, the node of an id is the one that has it
id_among : (ns : List NodeAt) (n : NodeAt) → IsAmong n ns → list_any (same_text n.id) (map (λ (m : NodeAt). m.id) ns) ≡ true
id_among ns n among = then-any (same_text n.id) (map (λ (m : NodeAt). m.id) ns) n.id (in-map (λ (m : NodeAt). m.id) ns n among) ((same_text-tells n.id n.id).1 refl)

-- where the ids differ, each node is found by its id
pub node-found-by-id : (ns : List NodeAt) (n : NodeAt) → AreDistinctTexts (map (λ (m : NodeAt). m.id) ns) → IsAmong n ns → find (λ (m : NodeAt). same_text m.id n.id) ns ≡ Some n
node-found-by-id [] n apart among = absurd among
node-found-by-id (m ∷ ms) n apart (inl e) =
    let own : same_text m.id n.id ≡ true = (same_text-tells m.id n.id).1 (ap (λ (k : NodeAt). k.id) (sym e)) in
    rw own (ap Some (sym e))
node-found-by-id (m ∷ ms) n apart (inr there) = grind (arith, same_text-tells, false≢true, id_among, (node-found-by-id ms n apart.1 there))

-- ---- the lists of nodes

-- lists of nodes, with the list of one more, are lists of them all
pub lists-more : (nodes : List NodeParts) (lists : List NodeAt) (parts : NodeParts) (listed : NodeAt) → AreListsOf nodes lists → IsListOf parts listed
    → AreListsOf (nodes ++ parts ∷ []) (lists ++ listed ∷ [])
lists-more [] [] parts listed are is = (is, tt)
lists-more [] (l ∷ ls) parts listed are is = absurd are
lists-more (n ∷ ns) [] parts listed are is = absurd are
lists-more (n ∷ ns) (l ∷ ls) parts listed are is = (are.0, lists-more ns ls parts listed are.1 is)

-- lists of nodes are like whatever nodes these show
pub lists-alike : (nodes : List NodeParts) (lists shown : List NodeAt) → AreListsOf nodes lists → AreNodesShown nodes shown → AreNodesAlike lists shown
lists-alike [] [] [] are is = tt
lists-alike [] [] (s ∷ ss) are is = absurd is
lists-alike [] (l ∷ ls) shown are is = absurd are
lists-alike (n ∷ ns) [] shown are is = absurd are
lists-alike (n ∷ ns) (l ∷ ls) [] are is = absurd is
lists-alike (n ∷ ns) (l ∷ ls) (s ∷ ss) are is = (are.0.shows s is.1 is.0, lists-alike ns ls ss are.1 is.2)

-- the ids of a world's nodes are those that are shown
pub shown-ids : (nodes : List NodeParts) (shown : List NodeAt) → AreNodesShown nodes shown → map (λ (n : NodeParts). n.id) nodes ≡ map (λ (n : NodeAt). n.id) shown
shown-ids [] [] is = refl
shown-ids [] (s ∷ ss) is = absurd is
shown-ids (n ∷ ns) [] is = absurd is
shown-ids (n ∷ ns) (s ∷ ss) is = let first = is.0 in let rest = shown-ids ns ss is.2 in λ i. first i ∷ rest i
