-- A volume that is made, and what a new name is answered. Only private functions cite it.
use Rattle.std.specs.Prelude.{ℕ, List, true}
use Rattle.csi_types.specs.declared.capability.Capability.{Capability}
use Rattle.csi_types.specs.declared.number.Number.{Number}
use Rattle.csi_types.specs.declared.call.Kind.TheVariants.{CreateVolume}
use Rattle.csi_types.specs.Model.Replies.{ok_reply_with}
use Rattle.csi_controller.specs.Model.State.{Volume}
use Rattle.csi_controller.specs.Model.Table.{Outcome, argument_fault, unless, create_new}

-- a volume that was just made
abbrev pub made_volume : Number → ℕ → List ℕ → ℕ → List Capability → Volume
made_volume number id name capacity capabilities =
    record { id = id; name = name; capacity = capacity; capabilities = capabilities; is_live = true; kept = record { number = number; kind = CreateVolume; reply = ok_reply_with id } }

-- what a CreateVolume of a name that no volume has is answered, by what the controller has
abbrev pub new_line : ℕ → ℕ → ℕ → List ℕ → ℕ → ℕ → List Capability → Outcome
new_line greatest count next name required limit capabilities =
    unless (argument_fault required limit capabilities) (create_new greatest count next name required limit capabilities)
