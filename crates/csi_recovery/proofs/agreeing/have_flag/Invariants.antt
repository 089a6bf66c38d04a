-- What is left passes exactly where the whole list does.
use Rattle.std.proofs.Common.{◌≡◌, drop}
use Rattle.std.specs.List.{list_all}
use Rattle.csi_recovery.specs.Private.Walks.{has_flag}
use Rattle.csi_recovery.proofs.agreeing.have_flag.Given as goal

abbrev pub invariant-loop-there : goal.invariant-loop-there
invariant-loop-there l = list_all (has_flag l.readonly) (drop l.there-index l.targets) ≡ list_all (has_flag l.readonly) l.targets
