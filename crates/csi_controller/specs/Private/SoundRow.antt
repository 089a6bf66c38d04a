-- The rules of one row of a controller's record, as tests. This profile's own.
use Rattle.std.specs.Prelude.{ℕ, ◌==◌, List, [], ◌∷◌, length, Bool, true, not, ◌&&◌, ◌||◌, nat_le, nat_lt}
use Rattle.std.specs.List.{list_all}
use Rattle.csi_types.specs.declared.capacity.TheConstants.{MAX_CAPACITY}
use Rattle.csi_types.specs.declared.call.Party.TheVariants.{Controller}
use Rattle.csi_types.specs.declared.capability.Capability.{Capability}
use Rattle.csi_types.specs.Public.Call.{is_party_of}
use Rattle.csi_types.specs.Model.Holding.{is_compatible}
use Rattle.csi_types.specs.Public.Reply.{has_id_by_rule}
use Rattle.csi_types.specs.Model.Same.{same_text, has_capability}
use Rattle.csi_controller.specs.declared.row.NodeHolding.{NodeHolding}
use Rattle.csi_controller.specs.declared.row.ControllerRow.{ControllerRow}
use Rattle.csi_controller.specs.Public.Core.{volume_holding, next_shown}

-- the id is below the next one, and the capacity from 1 to the greatest that a call may name
abbrev pub has_fit_numbers : ℕ → ControllerRow → Bool
has_fit_numbers next_id row = nat_lt row.id (next_shown next_id) && nat_le 1 row.capacity && nat_le row.capacity MAX_CAPACITY

-- the kept reply is one that a controller gives
abbrev pub has_own_reply : ControllerRow → Bool
has_own_reply row = is_party_of row.kind Controller && has_id_by_rule row.kind row.reply

-- two holdings are at different nodes, and can be held together
abbrev pub are_beside : NodeHolding → NodeHolding → Bool
are_beside held later = not (same_text later.node held.node) && is_compatible (volume_holding 1 later) (volume_holding 1 held)

-- each is in one of these capabilities, and beside each later one
abbrev pub are_fit : List Capability → List NodeHolding → Bool
are_fit capabilities [] = true
are_fit capabilities (held ∷ later) = has_capability capabilities held.capability && list_all (are_beside held) later && are_fit capabilities later

-- at most 64 holdings, none of a volume that was deleted, each in a capability of the volume's, and each two beside one another
abbrev pub has_fit_holdings : ControllerRow → Bool
has_fit_holdings row =
    nat_le (length row.holdings.items) 64 && (row.live || (length row.holdings.items == 0)) && are_fit row.capabilities row.holdings.items

-- all of them
abbrev pub is_sound_row : ℕ → ControllerRow → Bool
is_sound_row next_id row =
    has_fit_numbers next_id row && has_own_reply row && not (length row.capabilities == 0) && has_fit_holdings row
