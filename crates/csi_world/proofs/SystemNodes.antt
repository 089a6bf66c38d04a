-- The nodes of a world: the one of an id, where it stands, and what follows where another is put there.
use Rattle.csi_world.proofs.Words.{◌≡◌, ℕ, zero, suc, Bool, false, cond, not, List, [], ◌∷◌, ◌++◌, length, map, filter}
use Rattle.csi_world.proofs.Words.{take, drop, Option, Some, None, find, option_map, nat_lt, refl, sym, ◌∙◌, ap, subst}
use Rattle.csi_world.proofs.Words.{inr, ⊎_elim, set, list_any, remove, IsAmong, FirstAt, Config, has_node}
use Rattle.csi_world.proofs.Words.{is_bad_greatest, has_same_node, has_bad_slots, config_fault, same_text, NodeParts}
use Rattle.csi_world.proofs.Words.{NodeState, NodeAt, new_node, node_id, with_state, AreNodesShown, IsSameNode}
use Rattle.csi_world.proofs.Words.{new_node_parts, has_same_id, ShowsNode, AreDistinctTexts, arith}
use Rattle.csi_world.proofs.Lemmas.{or_parts, false≢true, take-append-drop, among-append, among-either, among-joined}
use Rattle.csi_world.proofs.Lemmas.{among-right, none_passes, some_is_not_none, FirstAt-find, find-missed, alike}
use Rattle.csi_world.proofs.Lemmas.{any-of_map, any-none, none-among, same_text-tells}
use Rattle.csi_types.specs.declared.config.NodeSlots.{NodeSlots}
use Rattle.csi_types.specs.declared.config.ConfigFault.TheVariants.{BadGreatest, TooManyNodes, SameNode, BadSlots}
use Rattle.csi_node.specs.Model.Record.{Shows as NodeShows}

-- is this node the one of the id
abbrev pub is_shown_node : List ℕ → NodeParts → Bool
is_shown_node id node = same_text node.id id

-- the node has this id
abbrev pub is_node : List ℕ → NodeAt → Bool
is_node id node = same_text node.id id

-- what is shown of the node of an id
pub node-shown : (id : List ℕ) (shown : List NodeParts) (nodes : List NodeAt) → AreNodesShown shown nodes → ShowsNode (find (is_shown_node id) shown) (option_map (λ (n : NodeAt). n.state) (find (is_node id) nodes))
node-shown id [] [] are = tt
node-shown id [] (n ∷ ns) are = absurd are
node-shown id (x ∷ xs) [] are = absurd are
node-shown id (x ∷ xs) (n ∷ ns) are = grind (arith, false≢true, (node-shown id xs ns (are.2)))

-- where the first node of an id is shown, the world's node of the id is shown so
pub state-shown : (id : List ℕ) (shown : List NodeParts) (nodes : List NodeAt) (i : ℕ) (one : NodeParts) → AreNodesShown shown nodes → FirstAt (is_shown_node id) shown i one
    → (state : NodeState) × (option_map (λ (n : NodeAt). n.state) (find (is_node id) nodes) ≡ Some state) × NodeShows one state
state-shown id shown nodes i one are first =
    let known : Option NodeState = option_map (λ (n : NodeAt). n.state) (find (is_node id) nodes) in
    by known (subst (λ (o : Option NodeParts). ShowsNode o known) (FirstAt-find (is_shown_node id) shown i one first) (node-shown id shown nodes are))
  where
    by : (o : Option NodeState) → ShowsNode (Some one) o → (state : NodeState) × (o ≡ Some state) × NodeShows one state
    by None shows = absurd shows
    by (Some state) shows = (state, refl, shows)

-- where a node is put that shows the same
pub same-put : (p : NodeParts → Bool) (shown : List NodeParts) (nodes : List NodeAt) (i : ℕ) (old new : NodeParts) → AreNodesShown shown nodes → FirstAt p shown i old → IsSameNode old new → AreNodesShown (set shown i new) nodes
same-put p [] nodes i old new are first same = absurd first
same-put p (x ∷ xs) [] i old new are first same = absurd are
same-put p (x ∷ xs) (n ∷ ns) zero old new are first same =
    (same.id ∙ ap (λ (m : NodeParts). m.id) (sym (first.1)) ∙ are.0, same.shown n.state (subst (λ (m : NodeParts). NodeShows m n.state) (first.1) (are.1)), are.2)
same-put p (x ∷ xs) (n ∷ ns) (suc i) old new are first same = (are.0, are.1, same-put p xs ns i old new (are.2) (first.1) same)

-- the ids stay
pub ids-put : (p : NodeParts → Bool) (shown : List NodeParts) (i : ℕ) (old new : NodeParts) → FirstAt p shown i old → new.id ≡ old.id → map (λ (m : NodeParts). m.id) (set shown i new) ≡ map (λ (m : NodeParts). m.id) shown
ids-put p [] i old new first same = absurd first
ids-put p (x ∷ xs) zero old new first same = ap (λ (t : List ℕ). t ∷ map (λ (m : NodeParts). m.id) xs) (same ∙ ap (λ (m : NodeParts). m.id) (sym (first.1)))
ids-put p (x ∷ xs) (suc i) old new first same = ap (λ (ts : List (List ℕ)). x.id ∷ ts) (ids-put p xs i old new (first.1) same)

-- ---- ids that differ

-- where no two nodes are of one id, their ids are distinct
pub apart-texts : (nodes : List NodeParts) → has_same_id nodes ≡ false → AreDistinctTexts (map (λ (m : NodeParts). m.id) nodes)
apart-texts [] h = tt
apart-texts (n ∷ ns) h =
    let both = or_parts (list_any (λ (other : NodeParts). same_text n.id other.id) ns) (has_same_id ns) h in
    (any-of_map (same_text n.id) (λ (m : NodeParts). m.id) ns ∙ both.0, apart-texts ns both.1)

-- and the other way round
pub texts-apart : (nodes : List NodeParts) → AreDistinctTexts (map (λ (m : NodeParts). m.id) nodes) → has_same_id nodes ≡ false
texts-apart [] h = refl
texts-apart (n ∷ ns) h = rw (sym (any-of_map (same_text n.id) (λ (m : NodeParts). m.id) ns) ∙ h.0) (texts-apart ns h.1)

-- the nodes of a configuration without a fault have distinct ids
none-same : (nodes : List NodeSlots) → has_same_node nodes ≡ false → has_same_id (map (new_node_parts 0) (map node_id nodes)) ≡ false
none-same [] h = refl
none-same (n ∷ ns) h =
    let both = or_parts (has_node n.id ns) (has_same_node ns) h in
    rw (any-of_map (λ (other : NodeParts). same_text n.id other.id) (new_node_parts 0) (map node_id ns) ∙ any-of_map (same_text n.id) node_id ns ∙ both.0) (none-same ns both.1)

-- where none of four faults is found, the third isn't there
fault-none : (a b c d : Bool) → cond a (Some BadGreatest) (cond b (Some TooManyNodes) (cond c (Some SameNode) (cond d (Some BadSlots) None))) ≡ None → c ≡ false
fault-none a b c d h = grind (arith, some_is_not_none)

-- so do its new nodes
pub new-apart : (config : Config) → config_fault config.greatest config.nodes ≡ None → has_same_id (map (new_node_parts 0) (map node_id config.nodes)) ≡ false
new-apart config h =
    none-same config.nodes (fault-none (is_bad_greatest config.greatest) (nat_lt 64 (length config.nodes)) (has_same_node config.nodes) (has_bad_slots config.nodes) h)

-- a text is the same both ways
pub same-symmetric : (a b : List ℕ) → same_text a b ≡ same_text b a
same-symmetric a b = alike (same_text a b) (same_text b a) (λ h. (same_text-tells b a).1 (sym ((same_text-tells a b).0 h))) (λ h. (same_text-tells a b).1 (sym ((same_text-tells b a).0 h)))

-- where none has the id, nothing changes
none-changed : (id : List ℕ) (state : NodeState) (shown : List NodeParts) (nodes : List NodeAt) → AreNodesShown shown nodes → list_any (same_text id) (map (λ (m : NodeParts). m.id) shown) ≡ false → map (with_state id state) nodes ≡ nodes
none-changed id state [] [] are none = refl
none-changed id state [] (n ∷ ns) are none = absurd are
none-changed id state (x ∷ xs) [] are none = absurd are
none-changed id state (x ∷ xs) (n ∷ ns) are none =
    let both = or_parts (same_text id x.id) (list_any (same_text id) (map (λ (m : NodeParts). m.id) xs)) none in
    let other : same_text n.id id ≡ false = ap (λ t. same_text t id) (sym (are.0)) ∙ same-symmetric x.id id ∙ both.0 in
    let here : with_state id state n ≡ n = rw other refl in
    λ i. here i ∷ none-changed id state xs ns (are.2) (both.1) i

-- where none has the id, none is taken out
none-taken : (id : List ℕ) (shown : List NodeParts) (nodes : List NodeAt) → AreNodesShown shown nodes → list_any (same_text id) (map (λ (m : NodeParts). m.id) shown) ≡ false → filter (λ (n : NodeAt). not (same_text n.id id)) nodes ≡ nodes
none-taken id [] [] are none = refl
none-taken id [] (n ∷ ns) are none = absurd are
none-taken id (x ∷ xs) [] are none = absurd are
none-taken id (x ∷ xs) (n ∷ ns) are none =
    let both = or_parts (same_text id x.id) (list_any (same_text id) (map (λ (m : NodeParts). m.id) xs)) none in
    let other : same_text n.id id ≡ false = ap (λ t. same_text t id) (sym are.0) ∙ same-symmetric x.id id ∙ both.0 in
    rw other (ap (λ (ms : List NodeAt). n ∷ ms) (none-taken id xs ns are.2 both.1))

-- what is left once one is taken out was there
removed-among : {X : Type 0} (xs : List X) (i : ℕ) (x : X) → IsAmong x (remove xs i) → IsAmong x xs
removed-among xs i x among = subst (IsAmong x) (take-append-drop i xs) (⊎_elim (among-append (take i xs) (drop i xs) x) (λ there. among-right (take i xs) (drop i xs) x (later xs i x there)) (among-joined (take i xs) (drop (suc i) xs) x among))
  where
    later : {X : Type 0} (xs : List X) (i : ℕ) (x : X) → IsAmong x (drop (suc i) xs) → IsAmong x (drop i xs)
    later [] zero x among = among
    later [] (suc i) x among = among
    later (y ∷ ys) zero x among = inr among
    later (y ∷ ys) (suc i) x among = later ys i x among

-- where a node is put that shows this state
pub state-put : (id : List ℕ) (state : NodeState) (shown : List NodeParts) (nodes : List NodeAt) (i : ℕ) (old new : NodeParts) → AreNodesShown shown nodes → AreDistinctTexts (map (λ (m : NodeParts). m.id) shown)
    → FirstAt (is_shown_node id) shown i old → new.id ≡ old.id → NodeShows new state → AreNodesShown (set shown i new) (map (with_state id state) nodes)
state-put id state [] nodes i old new are apart first same shows = absurd first
state-put id state (x ∷ xs) [] i old new are apart first same shows = absurd are
state-put id state (x ∷ xs) (n ∷ ns) zero old new are apart first same shows = grind (arith, same_text-tells, none-changed)
state-put id state (x ∷ xs) (n ∷ ns) (suc i) old new are apart first same shows = grind (arith, (state-put id state xs ns i old new (are.2) (apart.1) (first.1) same shows))

-- ---- nodes that join

-- nodes that answered nothing
pub new-shown : (ids : List (List ℕ)) → AreNodesShown (map (new_node_parts 0) ids) (map (new_node 0) ids)
new-shown [] = tt
new-shown (id ∷ ids) = (refl, record { shows = record { count = refl; kept = λ i. refl; staged = λ i. refl; published = λ i. refl }; session = refl }, new-shown ids)

-- a node that joins is shown after the others
pub joined-shown : (session : ℕ) (id : List ℕ) (shown : List NodeParts) (nodes : List NodeAt) → AreNodesShown shown nodes → AreNodesShown (shown ++ new_node_parts session id ∷ []) (nodes ++ new_node session id ∷ [])
joined-shown session id [] [] are = (refl, record { shows = record { count = refl; kept = λ i. refl; staged = λ i. refl; published = λ i. refl }; session = refl }, tt)
joined-shown session id [] (n ∷ ns) are = absurd are
joined-shown session id (x ∷ xs) [] are = absurd are
joined-shown session id (x ∷ xs) (n ∷ ns) are = (are.0, are.1, joined-shown session id xs ns are.2)

-- no two are of one id then, where none had that id
pub joined-apart : (session : ℕ) (id : List ℕ) (shown : List NodeParts) → has_same_id shown ≡ false → find (is_shown_node id) shown ≡ None → has_same_id (shown ++ new_node_parts session id ∷ []) ≡ false
joined-apart session id [] apart none = refl
joined-apart session id (x ∷ xs) apart none =
    let both = or_parts (list_any (λ (other : NodeParts). same_text x.id other.id) xs) (has_same_id xs) apart in
    let missed = find-missed (same_text x.id id) x (find (is_shown_node id) xs) none in
    let new : NodeParts = new_node_parts session id in
    let first : list_any (λ (other : NodeParts). same_text x.id other.id) (xs ++ new ∷ []) ≡ false
    = any-none (λ (other : NodeParts). same_text x.id other.id) (xs ++ new ∷ []) (λ y among.
    ⊎_elim (λ there. none-among (λ (other : NodeParts). same_text x.id other.id) xs y both.0 there) (λ e. ap (λ (other : NodeParts). same_text x.id other.id) e ∙ missed.0) (among-either xs new y among)) in
    rw first (joined-apart session id xs both.1 missed.1)

-- ---- nodes that are lost

-- the node at the first place of an id is taken out, and so is each of the id in the world
pub lost-shown : (id : List ℕ) (shown : List NodeParts) (nodes : List NodeAt) (i : ℕ) (old : NodeParts) → AreNodesShown shown nodes → AreDistinctTexts (map (λ (m : NodeParts). m.id) shown) → FirstAt (is_shown_node id) shown i old
    → AreNodesShown (remove shown i) (filter (λ (n : NodeAt). not (same_text n.id id)) nodes)
lost-shown id [] nodes i old are apart first = absurd first
lost-shown id (x ∷ xs) [] i old are apart first = absurd are
lost-shown id (x ∷ xs) (n ∷ ns) zero old are apart first = grind (arith, same_text-tells, none-taken)
lost-shown id (x ∷ xs) (n ∷ ns) (suc i) old are apart first =
    let other : same_text n.id id ≡ false = ap (λ t. same_text t id) (sym are.0) ∙ first.0 in
    rw other (are.0, are.1, lost-shown id xs ns i old are.2 apart.1 first.1)

-- where none is of the id, none is taken out
pub none-taken_of : (id : List ℕ) (shown : List NodeParts) (nodes : List NodeAt) → AreNodesShown shown nodes → find (is_shown_node id) shown ≡ None → filter (λ (n : NodeAt). not (same_text n.id id)) nodes ≡ nodes
none-taken_of id shown nodes are none =
    none-taken id shown nodes are
    (any-of_map (same_text id) (λ (m : NodeParts). m.id) shown ∙ any-none (λ (m : NodeParts). same_text id m.id) shown (λ m among. same-symmetric id m.id ∙ none_passes (is_shown_node id) shown m none among))

-- no two are of one id still
pub lost-apart : (shown : List NodeParts) (i : ℕ) → has_same_id shown ≡ false → has_same_id (remove shown i) ≡ false
lost-apart [] i apart = by i
  where
    by : (i : ℕ) → has_same_id (remove {X = NodeParts} [] i) ≡ false
    by zero = refl
    by (suc i) = refl
lost-apart (x ∷ xs) zero apart = (or_parts (list_any (λ (other : NodeParts). same_text x.id other.id) xs) (has_same_id xs) apart).1
lost-apart (x ∷ xs) (suc i) apart =
    let both = or_parts (list_any (λ (other : NodeParts). same_text x.id other.id) xs) (has_same_id xs) apart in
    let first : list_any (λ (other : NodeParts). same_text x.id other.id) (remove xs i) ≡ false
    = any-none (λ (other : NodeParts). same_text x.id other.id) (remove xs i) (λ y among. none-among (λ (other : NodeParts). same_text x.id other.id) xs y both.0 (removed-among xs i y among)) in
    rw first (lost-apart xs i both.1)
