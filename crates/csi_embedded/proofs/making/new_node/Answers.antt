use Rattle.std.proofs.Common.{◌∙◌, ℕ, List, [], ◌∷◌, ap, refl, Some}
use Rattle.csi_records.specs.Public.Spelling.{present, node_head}
use Rattle.csi_service.specs.Public.Services.{node_service_parts}
use Rattle.csi_embedded.proofs.MadePlugins.{told-head}
use Rattle.csi_embedded.proofs.making.new_node.Goals as goal

pub returns-clause-made : goal.returns-clause-made
returns-clause-made c =
    let service = c.in_ok-service.service in (
      record {
        service = service;
        is = c.new-2.ensures.plugin;
        own = c.in_ok-service.ensures.node ∙ c.in_ok-id.ensures.made;
        parts = c.in_ok-service.ensures.parts ∙ ap (λ (id : List ℕ). node_head present id (Some c.args.session) ∷ []) c.in_ok-id.ensures.made;
        told = told-head _ _ _ (node_head present c.in_ok-id.id (Some c.args.session)) (node_service_parts service) c.new-2.ensures.told c.in_ok-head.ensures c.in_ok-node_head_value.ensures.value refl c.in_ok-service.ensures.parts;
      },
      refl,
    )
