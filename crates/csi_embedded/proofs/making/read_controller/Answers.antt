use Rattle.csi_embedded.proofs.MadePlugins.{told-renewal}
use Rattle.csi_embedded.proofs.making.read_controller.Goals as goal

pub returns-clause-made : goal.returns-clause-made
returns-clause-made c =
    record {
      service = c.in_ok-service.service;
      is = c.new.ensures.plugin;
      version = c.in-Ok.stored.version;
      config = c.in_ok-config.config;
      said = c.in_ok-config.ensures.made;
      kept = c.in-Ok.stored.kept;
      read = c.in-Ok.ensures;
      has = c.in_ok-service.ensures.has;
      renews = told-renewal c.in-Ok.stored.version _ _ _ _ c.in_ok-changed.ending c.in_ok-changed.ensures c.in_ok-service.ensures.parts c.new.ensures.told;
    }
