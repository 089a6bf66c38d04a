-- Which replies have an id. In CSI's spec.md only CreateVolume's response has one.
use Rattle.std.specs.Prelude.{Bool, true, false}
use Rattle.csi_types.specs.declared.status.Status.{Status}
use Rattle.csi_types.specs.declared.status.Status.TheVariants.{Ok}

-- the status is OK
abbrev pub is_ok_status : Status → Bool
is_ok_status Ok = true
is_ok_status _ = false
