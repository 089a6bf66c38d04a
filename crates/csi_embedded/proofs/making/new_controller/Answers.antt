use Rattle.std.proofs.Common.{◌∙◌, sym, ap, refl, Some, Ok}
use Rattle.csi_records.specs.Public.Spelling.{present, controller_head}
use Rattle.csi_service.specs.Public.Services.{controller_service_parts}
use Rattle.csi_embedded.proofs.MadePlugins.{told-head}
use Rattle.csi_embedded.proofs.making.new_controller.Goals as goal

pub returns-clause-made : goal.returns-clause-made
returns-clause-made c =
    let service = c.new-service.result in (
      record {
        service = service;
        is = c.new.ensures.plugin;
        config = c.in_ok-config.ensures.made ∙ ap Ok (sym c.new-service.ensures.config);
        shows = c.new-service.ensures.shows;
        parts = c.new-service.ensures.parts;
        told = told-head _ _ _ (controller_head present 1 (Some 0)) (controller_service_parts service) c.new.ensures.told c.in_ok-head.ensures c.in_ok-controller_head_value.ensures refl c.new-service.ensures.parts;
      },
      refl,
    )
