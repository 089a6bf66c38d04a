-- The rules of one row of a node's record, as tests. This profile's own.
use Rattle.std.specs.Prelude.{ℕ, ◌==◌, List, [], ◌∷◌, length, Option, Some, None, is_some, Bool, true, not, ◌&&◌, ◌||◌, nat_le}
use Rattle.csi_types.specs.declared.capability.Capability.{Capability}
use Rattle.csi_types.specs.Public.Call.{is_node_kind}
use Rattle.csi_types.specs.Model.Sharing.{allows_one_target}
use Rattle.csi_node.specs.declared.row.NodeTarget.{NodeTarget}
use Rattle.csi_node.specs.Model.OneRow.{NodeRowShown}
use Rattle.csi_node.specs.Public.OneRow.{target_among}
use Rattle.csi_node.specs.Model.Table.{begins_with_slash}

-- the kept reply is one that a node gives
abbrev pub has_own_reply : NodeRowShown → Bool
has_own_reply row = is_node_kind row.kept.kind && not (is_some row.kept.reply.id)

-- a volume that is staged so may have so many targets, as far as its mode says
abbrev pub fits_mode : Option Capability → ℕ → Bool
fits_mode None count = count == 0
fits_mode (Some capability) count = not (allows_one_target capability.mode) || nat_le count 1

-- each is a path from the root, and there once
abbrev pub are_fit : List NodeTarget → Bool
are_fit [] = true
are_fit (there ∷ later) = begins_with_slash there.target && not (is_some (target_among later there.target)) && are_fit later

-- at most 16 targets, as many as the mode allows and none where the volume isn't staged, paths from the root, each there once
abbrev pub has_fit_targets : NodeRowShown → Bool
has_fit_targets row = nat_le (length row.targets) 16 && fits_mode row.staged (length row.targets) && are_fit row.targets

-- all of them
abbrev pub is_sound_row : NodeRowShown → Bool
is_sound_row row = has_own_reply row && has_fit_targets row
