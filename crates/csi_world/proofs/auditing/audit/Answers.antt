-- The ids of a world's nodes differ.
use Rattle.csi_world.proofs.Words.{List, map, sym, subst, NodeParts, AreDistinctTexts}
use Rattle.csi_world.proofs.SystemNodes.{apart-texts}
use Rattle.csi_world.proofs.auditing.audit.Goals as goal

pub audit_parts-requires : goal.audit_parts-requires
audit_parts-requires c =
    subst (λ (nodes : List NodeParts). AreDistinctTexts (map (λ (n : NodeParts). n.id) nodes)) (sym c.nodes.ensures) (apart-texts c.args.world.now.nodes c.nodes_law.ensures.apart)
