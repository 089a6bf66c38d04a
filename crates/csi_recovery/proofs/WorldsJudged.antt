-- The records of the plugins of a simulated world are of what they know.
use Rattle.std.proofs.Common.{ℕ, List, [], ◌∷◌, map, filter, Bool, true, false, cond, sym, ◌∙◌, subst}
use Rattle.std.specs.List.{list_any}
use Rattle.csi_types.specs.Model.Same.{same_text}
use Rattle.csi_node.specs.Model.Record.{NodeParts}
use Rattle.csi_world.specs.Model.Simulated.{AreNodesShown}
use Rattle.csi_world.specs.Model.World.{NodeAt}
use Rattle.csi_world.specs.Public.Given.{IsKept, AreThose}
use Rattle.csi_recovery.specs.Private.Worlds.{IsCopyOf}
use Rattle.csi_recovery.specs.Public.Recovered.{GivenNode}
use Rattle.csi_world.specs.Public.Recovery.{is_given}
use Rattle.csi_recovery.specs.Public.Judged.{AreGiven}

-- a node that is there, as one whose store is given
abbrev as_given : NodeAt → GivenNode
as_given at = record { id = at.id; state = at.state }

-- the records of the given ones are given
pub records-given : (given : List (List ℕ)) (olds kept : List NodeParts) (nodes : List NodeAt) → AreNodesShown olds nodes → AreThose IsCopyOf given olds kept
    → AreGiven kept (map as_given (filter (is_given given) nodes))
records-given given [] [] [] shown are = tt
records-given given [] (x ∷ xs) [] shown are = absurd are
records-given given [] kept (n ∷ ns) shown are = absurd shown
records-given given (o ∷ os) kept [] shown are = absurd shown
records-given given (o ∷ os) kept (n ∷ ns) shown are =
    by (λ ks so. records-given given os ks ns shown.2 so) (list_any (same_text n.id) given) kept (subst (λ (id : List ℕ). IsKept (list_any (same_text id) given) IsCopyOf o (AreThose IsCopyOf given os) kept) shown.0 are)
  where
    rest : List NodeAt
    rest = filter (is_given given) ns

    by : ((ks : List NodeParts) → AreThose IsCopyOf given os ks → AreGiven ks (map as_given rest))
        → (b : Bool) (ks : List NodeParts) → IsKept b IsCopyOf o (AreThose IsCopyOf given os) ks → AreGiven ks (map as_given (cond b (n ∷ rest) rest))
    by more true [] so = absurd so
    by more true (x ∷ xs) so = (record { id = sym ((so.0).id ∙ shown.0); shows = (so.0).shown n.state shown.1 }, more xs so.1)
    by more false ks so = more ks so
