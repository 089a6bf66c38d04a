-- The rules of the rows say that their holdings exclude one another.
use Rattle.std.proofs.Common.{◌≡◌, ℕ, true, false, List, [], ◌∷◌, map, refl, ◌∙◌}
use Rattle.std.specs.Prelude.{None, find}
use Rattle.std.specs.List.{AllByRecursion}
use Rattle.csi_types.specs.Model.Members.{EachTwo}
use Rattle.csi_types.specs.Public.Places.{AtMostOne}
use Rattle.csi_types.proofs.Equality.{same_text-tells}
use Rattle.csi_types.specs.Model.Holding.{is_compatible, AreApart}
use Rattle.csi_types.specs.Model.Same.{same_text}
use Rattle.csi_controller.specs.declared.row.NodeHolding.{NodeHolding}
use Rattle.csi_controller.specs.declared.row.ControllerRow.{ControllerRow}
use Rattle.csi_controller.specs.Public.Core.{AreCompatible, IsSoundRow, volume_holding}
use Rattle.csi_controller.specs.Public.Exclusive.{IsRowExclusive}
use Rattle.csi_controller.proofs.HoldingsApart.{apart}
use Rattle.csi_controller.proofs.SameText.{text-turned}
use Rattle.csi_types.proofs.Members.{all_of, none_passes}

-- no later one is at the same node
pub other_nodes : (node : List ℕ) (later : List NodeHolding) → find (λ (h : NodeHolding). same_text h.node node) later ≡ None → AllByRecursion (λ (h : NodeHolding). same_text h.node node ≡ false) later
other_nodes node later none =
    all_of (λ (h : NodeHolding). same_text h.node node ≡ false) later (λ h among. none_passes (λ (h : NodeHolding). same_text h.node node) later h none among)

-- which volume they are of doesn't matter
two-apart : (id : ℕ) (later earlier : NodeHolding) → same_text later.node earlier.node ≡ false → is_compatible (volume_holding 1 later) (volume_holding 1 earlier) ≡ true → AreApart (volume_holding id earlier) (volume_holding id later)
two-apart id later earlier differ compatible =
    let one = apart (volume_holding 1 later) (volume_holding 1 earlier) (text-turned earlier.node later.node ∙ differ) compatible in
    record { nodes = one.nodes; first_shared = one.first_shared; second_shared = one.second_shared; one_writer = one.one_writer }

-- the first holding is apart from each later one, at another node, that can be held with it
from_first : (id : ℕ) (held : NodeHolding) (later : List NodeHolding) → AllByRecursion (λ (h : NodeHolding). same_text h.node held.node ≡ false) later
    → AllByRecursion (λ (h : NodeHolding). is_compatible (volume_holding 1 h) (volume_holding 1 held) ≡ true) later → AllByRecursion (AreApart (volume_holding id held)) (map (volume_holding id) later)
from_first id held [] nodes compatible = tt
from_first id held (h ∷ hs) nodes compatible = (two-apart id h held (nodes.0) (compatible.0), from_first id held hs (nodes.1) (compatible.1))

-- of holdings at different nodes, each of which can be held with each earlier one, each two are apart
each_two : (id : ℕ) (items : List NodeHolding) → ((node : List ℕ) → AtMostOne (λ (h : NodeHolding). same_text h.node node) items) → AreCompatible items → EachTwo AreApart (map (volume_holding id) items)
each_two id [] one compatible = tt
each_two id (held ∷ later) one compatible =
    (from_first id held later (other_nodes held.node later ((one held.node).0 ((same_text-tells held.node held.node).1 refl))) (compatible.0), each_two id later (λ node. (one node).1) (compatible.1))

-- the holdings of a row that keeps the rules are apart, and there are none where it was deleted
pub row-exclusive : (n : ℕ) (row : ControllerRow) → IsSoundRow n row → IsRowExclusive row
row-exclusive n row sound = record { apart = each_two row.id row.holdings.items sound.apart sound.compatible; live = sound.gone }
