-- What raises the session is made of the records before this one, and the others are left.
use Rattle.std.proofs.Common.{◌≡◌, length, map}
use Rattle.csi_plugins.specs.Private.Recovering.{changes_of}
use Rattle.csi_plugins.proofs.MadePlans.{AreMadeSome}
use Rattle.csi_plugins.proofs.planning.nodes_raising.Given as goal

abbrev pub invariant-loop-record : goal.invariant-loop-record
invariant-loop-record l =
    AreMadeSome l.session l.fn.given.kept.items (map changes_of l.fn.given.renewals.items) l.record-iterator.rest.items (map changes_of l.left.rest.items) (map changes_of l.changes.items)
    × (l.record-iterator.rest.len ≡ length l.record-iterator.rest.items) × (l.left.rest.len ≡ length l.left.rest.items)
