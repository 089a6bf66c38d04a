-- No two of the records are of one node, and so are the parts.
use Rattle.csi_world.proofs.Words.{◌≡◌, false, None, List, subst, sym, config_fault, NodeParts, has_same_id}
use Rattle.std.proofs.Common.{rules}
use Rattle.csi_world.proofs.world.World.assemble.Goals as goal

pub of-requires : goal.of-requires
of-requires c =
    let apart : has_same_id c.in-Ok.nodes.items ≡ false = subst (λ (nodes : List NodeParts). has_same_id nodes ≡ false) (sym c.in-Ok.ensures.nodes) c.in-Ok.ensures.apart in
    let fit : config_fault c.args.config.greatest c.args.config.nodes ≡ None = search rules in
    record { apart = apart; fit = fit }
