use Rattle.std.proofs.Common.{rules}
use Rattle.std.proofs.lemmas.Fn.{filter_same}
use Rattle.csi_node.specs.Public.WithoutSession.{stays_in}
use Rattle.csi_node.proofs.record.forget.Goals as goal

pub returns : goal.returns
returns c = filter_same _ (stays_in c.args.session) _ (λ x b f called. search rules) _ _ c.retain.ensures.filtered
