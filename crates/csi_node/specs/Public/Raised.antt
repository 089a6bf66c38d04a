-- A node whose session an operator raised, without a call. This profile's own.
use Rattle.std.specs.Prelude.{ℕ, nat_lt, if◌then◌else◌}
use Rattle.csi_node.specs.Model.State.{NodeState}
use Rattle.csi_node.specs.Model.Fenced.{begun}

-- the session begins, where it is later than the greatest that the node heard of, as if a call had begun it: every call of an earlier one is
-- stale from then on, and the rows of volumes that aren't staged are forgotten
abbrev pub raised : ℕ → NodeState → NodeState
raised session state = if nat_lt state.session session then begun session state else state
