-- A commit that is done, or refused.
use Rattle.std.proofs.Common.{map}
use Rattle.csi_stores.specs.Public.Part.{part_change}
use Rattle.csi_plugins.proofs.CarryingOut.{given-done, given-refused}
use Rattle.csi_plugins.proofs.rebuilding.give.Goals as goal

pub returns-in-Ok-clause-done : goal.returns-in-Ok-clause-done
returns-in-Ok-clause-done g c =
    let told = c.in-Ok.ensures in given-done (g.K.Keep.store c.args.new.now) (g.K.Keep.store c.commit.new.self) (map part_change c.args.parts.now) told.honest told.done

pub returns-in-Err-clause-stopped : goal.returns-in-Err-clause-stopped
returns-in-Err-clause-stopped g c =
    let told = c.in-Err.ensures in given-refused (g.K.Keep.store c.args.new.now) (g.K.Keep.store c.commit.new.self) (map part_change c.args.parts.now) told.honest told.refused told.some
