-- The counts of the configured nodes after a row changed.
use Rattle.std.proofs.Common.{◌≡◌, ◌≢◌, ◌≤◌, ◌<◌, ◌+◌, ℕ, Bool, true, false, cond, not, filter, List, [], ◌∷◌, ◌++◌, length, get_or, set, refl, sym, ◌∙◌, ap, subst, slice_index, arith}
use Rattle.std.specs.Prelude.{Option, Some, None, find, is_some, count_by, map, ◌==◌, ◌||◌, ◌&&◌, nat_le, slice_get}
use Rattle.std.specs.List.{AllByRecursion, list_any}
use Rattle.std.proofs.lemmas.Bool.{true≢false, eq-eqb, eqb-true, or_parts}
use Rattle.std.proofs.lemmas.Grind.{get_or-set_at}
use Rattle.std.proofs.lemmas.List.{get_or-set_other, length-set}
use Rattle.std.proofs.lemmas.List.Quantifiers.{position-Some}
use Rattle.std.proofs.lemmas.List.Sums.{count_by-le-length}
use Rattle.std.proofs.lemmas.Map.Views.{any-filter_same}
use Rattle.std.proofs.Math.Bool.{or-false, or-true}
use Rattle.std.proofs.lemmas.List.Folds.{list_any-append}
use Rattle.csi_types.proofs.Counts.{count-cons}
use Rattle.csi_types.proofs.Options.{some_is_not_none}
use Rattle.csi_types.proofs.Places.{FirstAt-find, FirstAt-position}
use Rattle.csi_types.proofs.Tests.{any-find, any-find_none}
use Rattle.csi_types.proofs.Searches.{find-filter_not, find-no_place}
use Rattle.csi_types.proofs.Equality.{same_text-tells}
use Rattle.csi_types.specs.declared.config.NodeSlots.{NodeSlots}
use Rattle.csi_types.specs.Model.Config.{has_node}
use Rattle.csi_types.specs.Public.Config.{has_same_node}
use Rattle.csi_types.specs.Model.Same.{same_text}
use Rattle.csi_controller.specs.declared.row.NodeHolding.{NodeHolding}
use Rattle.csi_controller.specs.Model.Table.{Change, Stays, Makes, Ends, Attaches, Detaches}
use Rattle.csi_controller.specs.Public.OneRow.{RowShown, row_changed, held_by}
use Rattle.csi_controller.specs.Private.OneRow.{moved, CanChange}
use Rattle.csi_controller.specs.Public.Counts.{is_held, count_held, place_of, AreCounted}
use Rattle.csi_controller.specs.Private.Counts.{count_at_place, is_full_with, is_node_full, count_after, counted_at, recounted}
use Rattle.csi_controller.specs.Private.PlanLaws.{counted-alike, counted-left, at-got, counted-set}
use Rattle.csi_controller.proofs.SameText.{text-turned}
use Rattle.csi_fence.proofs.StayingRows.{count-set}

-- ---- where a node is configured

-- a node without a name and without slots, for a place where there is none
some_node : NodeSlots
some_node = record { id = []; slots = 0 }

-- a node's place is within the list, and the entry there is that node's
stands : (node : List ℕ) (nodes : List NodeSlots) (place : ℕ) (other : NodeSlots) → place_of node nodes ≡ Some place → (place < length nodes) × ((get_or nodes place other).id ≡ node)
stands node nodes place other at =
    let found = position-Some (λ (entry : NodeSlots). same_text entry.id node) nodes place other at in
    (found.0, (same_text-tells (get_or nodes place other).id node).0 found.1)

-- two nodes that have one place are the same
same-node : (a b : List ℕ) (nodes : List NodeSlots) (place : ℕ) → place_of a nodes ≡ Some place → place_of b nodes ≡ Some place → a ≡ b
same-node a b nodes place at other = sym (stands a nodes place some_node at).1 ∙ (stands b nodes place some_node other).1

-- ---- one more node is counted

-- where the counts before a place are right, and the node's there is put at it, the counts up to it are right
pub counted-more : (nodes : List NodeSlots) (rows : List RowShown) (counts : List ℕ) (i : ℕ) (entry : NodeSlots) (count : ℕ) → i < length counts → entry ≡ get_or nodes i entry → count ≡ count_held entry.id rows
    → ((node : List ℕ) (place : ℕ) → place_of node nodes ≡ Some place → place < i → slice_index counts place ≡ count_held node rows)
    → (node : List ℕ) (place : ℕ) → place_of node nodes ≡ Some place → place < i + 1 → slice_index (set counts i count) place ≡ count_held node rows
counted-more nodes rows counts i entry count inside is told before node place at below = by (place == i) refl
  where
    by : (b : Bool) → (place == i) ≡ b → slice_index (set counts i count) place ≡ count_held node rows
    by true e =
        let same : place ≡ i = eqb-true place i e in
        let own : entry.id ≡ node = ap (λ (x : NodeSlots). x.id) (is ∙ ap (λ k. get_or nodes k entry) (sym same)) ∙ (stands node nodes place entry at).1 in
        get_or-set_at counts i place count 0 same inside ∙ told ∙ ap (λ n. count_held n rows) own
    by false e =
        let other : place ≢ i = λ same. true≢false (sym (eq-eqb place i same) ∙ e) in
        get_or-set_other counts i place count 0 other ∙ before node place at (omega (arith, below, other))

-- ---- a row changed

-- the counts are right once one node's went up or down by one, where no other node's changes
at-node : (nodes : List NodeSlots) (rows after : List RowShown) (node : List ℕ) (is : Bool) (counts : List ℕ) → AreCounted nodes rows counts → count_after is (count_held node rows) ≡ count_held node after
    → ((other : List ℕ) → same_text node other ≡ false → count_held other after ≡ count_held other rows) → (found : Option ℕ) → place_of node nodes ≡ found → AreCounted nodes after (counted_at found is counts)
at-node nodes rows after node is counts counted own others None none = record { few = counted.few; distinct = counted.distinct; fits = counted.fits; each = each }
  where
    other_node : (other : List ℕ) (place : ℕ) → place_of other nodes ≡ Some place → (b : Bool) → same_text node other ≡ b → same_text node other ≡ false
    other_node other place at true e = absurd (some_is_not_none place (sym (ap (λ n. place_of n nodes) ((same_text-tells node other).0 e) ∙ at) ∙ none))
    other_node other place at false e = e

    each : (other : List ℕ) (place : ℕ) → place_of other nodes ≡ Some place → slice_index counts place ≡ count_held other after
    each other place at = counted.each other place at ∙ sym (others other (other_node other place at (same_text node other) refl))
at-node nodes rows after node is counts counted own others (Some found) here =
    record { few = counted.few; distinct = counted.distinct; fits = let long = length-set counts found value in let fits = counted.fits in omega (arith, long, fits); each = λ other place at. each other place at (same_text node other) refl }
  where
    value : ℕ
    value = count_after is (slice_index counts found)

    same_place : (a b : ℕ) → Some a ≡ Some b → a ≡ b
    same_place a b h = cc

    inside : found < length counts
    inside = let within = (stands node nodes found some_node here).0 in let fits = counted.fits in omega (arith, within, fits)

    each : (other : List ℕ) (place : ℕ) → place_of other nodes ≡ Some place → (b : Bool) → same_text node other ≡ b → slice_index (set counts found value) place ≡ count_held other after
    each other place at true e =
        let same : node ≡ other = (same_text-tells node other).0 e in
        let place_is : place ≡ found = same_place place found (sym at ∙ ap (λ n. place_of n nodes) (sym same) ∙ here) in
        get_or-set_at counts found place value 0 place_is inside ∙ ap (count_after is) (counted.each node found here) ∙ own ∙ ap (λ n. count_held n after) same
    each other place at false e =
        let apart : place ≢ found = λ same. true≢false (sym ((same_text-tells node other).1 (same-node node other nodes found here (at ∙ ap Some same))) ∙ e) in
        get_or-set_other counts found place value 0 apart ∙ counted.each other place at ∙ sym (others other e)

-- the counts after a row came to be held at a node, or ceased to be, and is held elsewhere as before
node-counted : (nodes : List NodeSlots) (rows : List RowShown) (place : ℕ) (row new : RowShown) (node : List ℕ) (is : Bool) (counts : List ℕ) → AreCounted nodes rows counts → length rows ≤ 4096
    → slice_get rows place ≡ Some row → is_held node row ≡ not is → is_held node new ≡ is → ((other : List ℕ) → same_text node other ≡ false → is_held other new ≡ is_held other row)
    → AreCounted nodes (set rows place new) (counted_at (place_of node nodes) is counts)
node-counted nodes rows place row new node is counts counted limit at was now others = by is was now
  where
    after : List RowShown
    after = set rows place new

    others_counted : (other : List ℕ) → same_text node other ≡ false → count_held other after ≡ count_held other rows
    others_counted other e = counted-set other rows place row new (at-got rows place row at) (others other e)

    few : count_held node rows ≤ 4096
    few = let most = count_by-le-length (is_held node) rows in omega (arith, most, limit)

    by : (is : Bool) → is_held node row ≡ not is → is_held node new ≡ is → AreCounted nodes after (counted_at (place_of node nodes) is counts)
    by false w n =
        let whole = count-set (is_held node) rows place row new at in
        let less : count_held node after + 1 ≡ count_held node rows = (λ i. count_held node after + cond (sym w i) 1 0) ∙ whole ∙ (λ i. count_held node rows + cond (n i) 1 0) ∙ omega arith in
        let small = few in
        at-node nodes rows after node false counts counted (omega (arith, less, small)) others_counted (place_of node nodes) refl
    by true w n =
        let whole = count-set (is_held node) rows place row new at in
        let more : count_held node after ≡ count_held node rows + 1 = omega arith ∙ (λ i. count_held node after + cond (sym w i) 1 0) ∙ whole ∙ (λ i. count_held node rows + cond (n i) 1 0) in
        let small = few in
        at-node nodes rows after node true counts counted (omega (arith, more, small)) others_counted (place_of node nodes) refl

-- a row that is held as before leaves all counts
same-counted : (nodes : List NodeSlots) (rows : List RowShown) (place : ℕ) (row new : RowShown) (counts : List ℕ) → AreCounted nodes rows counts → slice_get rows place ≡ Some row → new.items ≡ row.items
    → AreCounted nodes (set rows place new) counts
same-counted nodes rows place row new counts counted at same =
    counted-alike nodes rows (set rows place new) counts (λ node. counted-set node rows place row new (at-got rows place row at) (ap (list_any (λ held. same_text held.node node)) same)) counted

-- ---- all nodes

-- the counts are right once each configured node was counted
pub all-counted : (nodes : List NodeSlots) (rows : List RowShown) (counts : List ℕ) (count : ℕ) → length nodes ≤ 64 → has_same_node nodes ≡ false → length counts ≡ 64 → length nodes ≤ count
    → ((node : List ℕ) (place : ℕ) → place_of node nodes ≡ Some place → place < count → slice_index counts place ≡ count_held node rows) → AreCounted nodes rows counts
all-counted nodes rows counts count few distinct long all each =
    record { few = few; distinct = distinct; fits = omega (arith, few, long); each = λ node place at. each node place at (let inside = (stands node nodes place some_node at).0 in omega (arith, inside, all)) }

-- no entry is that of a node that isn't found
not-configured : (node : List ℕ) (nodes : List NodeSlots) → None ≡ place_of node nodes → list_any (λ (entry : NodeSlots). same_text entry.id node) nodes ≡ false
not-configured node nodes none = any-find_none (λ (entry : NodeSlots). same_text entry.id node) nodes (find-no_place (λ (entry : NodeSlots). same_text entry.id node) nodes (sym none))

-- a node is configured exactly where an entry is its
has_node-any : (node : List ℕ) (nodes : List NodeSlots) → has_node node nodes ≡ list_any (λ (entry : NodeSlots). same_text entry.id node) nodes
has_node-any node [] = refl
has_node-any node (e ∷ es) = (λ i. text-turned node e.id i || has_node-any node es i)

-- the first entry of a node is at its place
pub entry-found : (node : List ℕ) (nodes : List NodeSlots) (place : ℕ) (entry : NodeSlots) → Some place ≡ place_of node nodes → entry ≡ get_or nodes place entry → find (λ (e : NodeSlots). same_text e.id node) nodes ≡ Some entry
entry-found node nodes place entry at is =
    let p : NodeSlots → Bool = λ e. same_text e.id node in
    FirstAt-find p nodes place entry (FirstAt-position p nodes place entry (sym at) is)

-- and then the node is configured
pub found-configured : (node : List ℕ) (nodes : List NodeSlots) (place : ℕ) (entry : NodeSlots) → Some place ≡ place_of node nodes → entry ≡ get_or nodes place entry → true ≡ has_node node nodes
found-configured node nodes place entry at is =
    sym (has_node-any node nodes ∙ any-find (λ (e : NodeSlots). same_text e.id node) nodes ∙ ap is_some (entry-found node nodes place entry at is))

-- so it is where these are the nodes of a configuration
pub configured-at : (node : List ℕ) (seen nodes : List NodeSlots) (place : ℕ) (entry : NodeSlots) → seen ≡ nodes → Some place ≡ place_of node seen → entry ≡ get_or seen place entry → has_node node nodes ≡ true
configured-at node seen nodes place entry same at is = sym (found-configured node seen place entry at is ∙ ap (has_node node) same)

-- and by these counts it takes no more volumes where its own is none below its slots
pub full-at : (node : List ℕ) (seen nodes : List NodeSlots) (counts : List ℕ) (place : ℕ) (entry : NodeSlots) → seen ≡ nodes → Some place ≡ place_of node seen → entry ≡ get_or seen place entry
    → is_node_full nodes counts node ≡ nat_le entry.slots (slice_index counts place)
full-at node seen nodes counts place entry same at is =
    ap (λ (ns : List NodeSlots). is_node_full ns counts node) (sym same)
    ∙ ap (λ (found : Option ℕ). is_full_with (count_at_place found counts) (find (λ (e : NodeSlots). same_text e.id node) seen)) (sym at)
    ∙ ap (is_full_with (slice_index counts place)) (entry-found node seen place entry at is)

-- a node that isn't found isn't configured
pub lost-configured : (node : List ℕ) (nodes : List NodeSlots) → None ≡ place_of node nodes → false ≡ has_node node nodes
lost-configured node nodes none = sym (has_node-any node nodes ∙ not-configured node nodes none)

-- so it is where these are the nodes of a configuration
pub lost-at : (node : List ℕ) (seen nodes : List NodeSlots) → seen ≡ nodes → None ≡ place_of node seen → has_node node nodes ≡ false
lost-at node seen nodes same none = sym (lost-configured node seen none ∙ ap (has_node node) same)

-- ---- what is taken out of a row

-- what is held at another node stays where a node's is taken out
other_held : (node other : List ℕ) → same_text node other ≡ false → (held : NodeHolding) → same_text held.node other ≡ true → not (same_text held.node node) ≡ true
other_held node other differ held here = by (same_text held.node node) refl
  where
    by : (b : Bool) → same_text held.node node ≡ b → not b ≡ true
    by true e = absurd (true≢false (sym ((same_text-tells node other).1 (sym ((same_text-tells held.node node).0 e) ∙ (same_text-tells held.node other).0 here)) ∙ differ))
    by false e = refl

-- what is held at one node is taken out, and nothing else
taken-others : (node other : List ℕ) (items : List NodeHolding) → same_text node other ≡ false
    → list_any (λ (held : NodeHolding). same_text held.node other) (filter (λ (held : NodeHolding). not (same_text held.node node)) items) ≡ list_any (λ (held : NodeHolding). same_text held.node other) items
taken-others node other items differ =
    any-filter_same (λ (held : NodeHolding). same_text held.node other) (λ (held : NodeHolding). not (same_text held.node node)) true (other_held node other differ) items

-- once what is held at a node is taken out, nothing is held there
here_none : (node : List ℕ) (items : List NodeHolding) → list_any (λ (held : NodeHolding). same_text held.node node) (filter (λ (held : NodeHolding). not (same_text held.node node)) items) ≡ false
here_none node items =
    any-find_none (λ (held : NodeHolding). same_text held.node node) (filter (λ (held : NodeHolding). not (same_text held.node node)) items) (find-filter_not (λ (held : NodeHolding). same_text held.node node) items)

-- ---- what is added to a row

-- one of a list with one more at its end passes where one did before, or the new one does
one_more : (p : NodeHolding → Bool) (items : List NodeHolding) (held : NodeHolding) (b : Bool) → p held ≡ b → list_any p (items ++ held ∷ []) ≡ (list_any p items || b)
one_more p items held b e = list_any-append p items (held ∷ []) ∙ ap (λ (t : Bool). list_any p items || t) (or-false (p held) ∙ e)

-- ---- a row that a call changed

-- the counts are right after a row's change, once they are counted again for the node that it moves
pub changed-counted : (nodes : List NodeSlots) (rows : List RowShown) (place : ℕ) (row new : RowShown) (change : Change) (counts : List ℕ) → AreCounted nodes rows counts → length rows ≤ 4096
    → slice_get rows place ≡ Some row → CanChange row change → new.items ≡ (row_changed row change).items
    → AreCounted nodes (set rows place new) (recounted nodes (moved change) counts)
changed-counted nodes rows place row new Stays counts counted limit at can items = same-counted nodes rows place row new counts counted at items
changed-counted nodes rows place row new (Makes name capacity capabilities) counts counted limit at can items = absurd can
changed-counted nodes rows place row new (Ends id) counts counted limit at can items = same-counted nodes rows place row new counts counted at items
changed-counted nodes rows place row new (Attaches holding) counts counted limit at can items =
    node-counted nodes rows place row new holding.node true counts counted limit at (any-find (λ (other : NodeHolding). same_text other.node holding.node) row.items ∙ ap is_some can.free)
    (ap (list_any (λ (other : NodeHolding). same_text other.node holding.node)) items
    ∙ one_more (λ (other : NodeHolding). same_text other.node holding.node) row.items (held_by holding) true ((same_text-tells holding.node holding.node).1 refl) ∙ or-true (is_held holding.node row))
    (λ other differ. ap (list_any (λ (h : NodeHolding). same_text h.node other)) items
    ∙ one_more (λ (h : NodeHolding). same_text h.node other) row.items (held_by holding) false differ ∙ or-false (is_held other row))
changed-counted nodes rows place row new (Detaches id node) counts counted limit at can items =
    node-counted nodes rows place row new node false counts counted limit at (any-find (λ (held : NodeHolding). same_text held.node node) row.items ∙ can.1)
    (ap (list_any (λ (held : NodeHolding). same_text held.node node)) items ∙ here_none node row.items)
    (λ other differ. ap (list_any (λ (held : NodeHolding). same_text held.node other)) items ∙ taken-others node other row.items differ)

-- ---- a row that is added

-- one more row, without holdings, leaves every node's count
pub added-one : (node : List ℕ) (rows : List RowShown) (row : RowShown) → row.items ≡ [] → count_held node (rows ++ row ∷ []) ≡ count_held node rows
added-one node [] row empty = count-cons (is_held node) row [] ∙ ap (λ (items : List NodeHolding). cond (list_any (λ (held : NodeHolding). same_text held.node node) items) 1 0 + count_held node []) empty
added-one node (r ∷ rs) row empty = count-cons (is_held node) r (rs ++ row ∷ []) ∙ ap (λ n. cond (is_held node r) 1 0 + n) (added-one node rs row empty) ∙ sym (count-cons (is_held node) r rs)

-- the counts stay right where a row without holdings is put at the end
pub made-counted : (nodes : List NodeSlots) (rows : List RowShown) (counts : List ℕ) (row : RowShown) → row.items ≡ [] → AreCounted nodes rows counts → AreCounted nodes (rows ++ row ∷ []) counts
made-counted nodes rows counts row empty counted = counted-alike nodes rows (rows ++ row ∷ []) counts (λ node. added-one node rows row empty) counted

-- ---- rows that are left out

-- the counts stay right where such rows are left out
pub counted-fewer : (nodes : List NodeSlots) (q : RowShown → Bool) (rows : List RowShown) (counts : List ℕ) → AllByRecursion (λ (row : RowShown). q row ≡ false → row.items ≡ []) rows
    → AreCounted nodes rows counts → AreCounted nodes (filter q rows) counts
counted-fewer nodes q rows counts empty counted = counted-alike nodes rows (filter q rows) counts (λ node. counted-left node q rows empty) counted

-- ---- rows as they are shown

-- as many rows are held at a node as are shown so
pub count-shown : {X : Type 0} (p : RowShown → Bool) (f : X → RowShown) (xs : List X) → count_by (λ (x : X). p (f x)) xs ≡ count_by p (map f xs)
count-shown p f [] = refl
count-shown {X} p f (x ∷ xs) = count-cons (λ (x : X). p (f x)) x xs ∙ ap (λ n. cond (p (f x)) 1 0 + n) (count-shown p f xs) ∙ sym (count-cons p (f x) (map f xs))

-- ---- whether a node is full

-- a node that is none of these is found by none of them, whatever else is asked
others-fail : (id node : List ℕ) (nodes : List NodeSlots) (count : ℕ) → same_text id node ≡ true → has_node id nodes ≡ false → list_any (λ (entry : NodeSlots). same_text entry.id node && nat_le entry.slots count) nodes ≡ false
others-fail id node [] count same none = refl
others-fail id node (e ∷ es) count same none =
    let parts = or_parts (same_text id e.id) (has_node id es) none in
    let differ : same_text e.id node ≡ false = text-turned e.id node ∙ subst (λ n. same_text n e.id ≡ false) ((same_text-tells id node).0 same) parts.0 in
    rw differ (others-fail id node es count same parts.1)

-- where no two nodes are one, the first that is the node tells whether any of them takes no more than so many volumes
full-first : (nodes : List NodeSlots) (node : List ℕ) (count : ℕ) → has_same_node nodes ≡ false
    → list_any (λ (entry : NodeSlots). same_text entry.id node && nat_le entry.slots count) nodes ≡ is_full_with count (find (λ (entry : NodeSlots). same_text entry.id node) nodes)
full-first [] node count distinct = refl
full-first (e ∷ es) node count distinct = by (same_text e.id node) refl (full-first es node count parts.1)
  where
    parts : (has_node e.id es ≡ false) × (has_same_node es ≡ false)
    parts = or_parts (has_node e.id es) (has_same_node es) distinct

    by : (b : Bool) → same_text e.id node ≡ b
        → list_any (λ (entry : NodeSlots). same_text entry.id node && nat_le entry.slots count) es ≡ is_full_with count (find (λ (entry : NodeSlots). same_text entry.id node) es)
        → list_any (λ (entry : NodeSlots). same_text entry.id node && nat_le entry.slots count) (e ∷ es) ≡ is_full_with count (find (λ (entry : NodeSlots). same_text entry.id node) (e ∷ es))
    by true same rest = rw same (ap (λ b. nat_le e.slots count || b) (others-fail e.id node es count same parts.0) ∙ or-false (nat_le e.slots count))
    by false differ rest = rw differ rest

-- the count at a configured node's place is the count of its volumes
pub full-told : (nodes : List NodeSlots) (rows : List RowShown) (counts : List ℕ) (node : List ℕ) → AreCounted nodes rows counts
    → list_any (λ (entry : NodeSlots). same_text entry.id node && nat_le entry.slots (count_held node rows)) nodes ≡ is_node_full nodes counts node
full-told nodes rows counts node counted = full-first nodes node (count_held node rows) counted.distinct ∙ by (place_of node nodes) refl
  where
    found : Option NodeSlots
    found = find (λ (entry : NodeSlots). same_text entry.id node) nodes

    by : (place : Option ℕ) → place_of node nodes ≡ place → is_full_with (count_held node rows) found ≡ is_full_with (count_at_place place counts) found
    by None none = let absent = find-no_place (λ (entry : NodeSlots). same_text entry.id node) nodes none in ap (is_full_with (count_held node rows)) absent ∙ sym (ap (is_full_with 0) absent)
    by (Some place) at = ap (λ n. is_full_with n found) (sym (counted.each node place at))
