-- Stores that weren't called stay; and where all were read, the records are refused.
use Rattle.std.proofs.Common.{inr, map}
use Rattle.std.proofs.lemmas.Result.{IfErr-weaker}
use Rattle.csi_plugins.specs.Private.Recovering.{changes_of}
use Rattle.csi_plugins.proofs.GivenStores.{unchanged-same}
use Rattle.csi_plugins.proofs.RecoveredStores.{all-same, are-read}
use Rattle.csi_plugins.proofs.recovering.made.Goals as goal

pub returns-in-Err-clause-unchanged : goal.returns-in-Err-clause-unchanged
returns-in-Err-clause-unchanged g c =
    record { new = c.look_at_new.ensures.unchanged; controller = unchanged-same (g.K.Keep.store c.args.controller.now); nodes = all-same g.K.Keep.store c.args.nodes.now }

pub returns-in-Err-controller_in-clause-unchanged : goal.returns-in-Err-controller_in-clause-unchanged
returns-in-Err-controller_in-clause-unchanged g c =
    record { new = c.look_at_new.ensures.unchanged; controller = c.controller_in.ensures.unchanged; nodes = all-same g.K.Keep.store c.args.nodes.now }

pub returns-in-Ok-nodes_in-clause-refused : goal.returns-in-Ok-nodes_in-clause-refused
returns-in-Ok-nodes_in-clause-refused g c =
    let read = c.in-Ok-controller_in.read in
    let given = c.in-Ok-nodes_in.given in
    IfErr-weaker c.planned.result _ _
    (λ ending why. inr (
      read.kept,
      given.kept.items,
      are-read g.K.Keep.store
          (record { new = c.args.new.now; controller = c.args.controller.now; nodes = c.args.nodes.now })
          (record { new = c.look_at_new.new.keep; controller = c.controller_in.new.keep; nodes = c.nodes_in.new.keeps })
          read.kept (changes_of read.renewal) given.kept.items (map changes_of given.renewals.items) c.in-Ok-controller_in.ensures.read c.in-Ok-nodes_in.ensures.read,
      why,
    ))
    c.planned.ensures.refused
