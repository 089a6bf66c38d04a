-- Capabilities, in JSON. This profile's own.
use Rattle.std.specs.Prelude.{nat_le, if◌then◌else◌, List, length, Option, Some, None, codes, bytes_eq}
use Rattle.serde_json.specs.Data.{Data}
use Rattle.serde_json.specs.Find.{get, as_str}
use Rattle.csi_types.specs.declared.capability.Access.{Access}
use Rattle.csi_types.specs.declared.capability.Access.TheVariants.{Block, Mount}
use Rattle.csi_types.specs.declared.capability.Capability.{Capability}
use Rattle.csi_types.specs.Public.Mode.{mode_from_number}
use Rattle.csi_types.specs.declared.mode.Mode.{Mode}
use Rattle.csi_json.specs.Public.Json.{◌>>=◌, number_of, fs_type_of, sized_object, all_of}

-- a mode, by its number
unfoldable pub mode_of : Data → Option Mode
mode_of d = do
  number ← number_of d
  mode_from_number number

-- block access: an object of two members
unfoldable pub block_of : Data → Option Access
block_of d = do
  object ← sized_object 2 d
  Some Block

-- mounted access: an object of three members, of which `fs` is the file system
unfoldable pub mount_of : Data → Option Access
mount_of d = do
  object ← sized_object 3 d
  fs_type ← get (codes "fs") object >>= fs_type_of
  Some (Mount fs_type)

-- an access, by what `access` says
unfoldable pub access_of : Data → Option Access
access_of d = do
  kind ← get (codes "access") d >>= as_str
  if bytes_eq kind (codes "block") then block_of d
      else if bytes_eq kind (codes "mount") then mount_of d
      else None

-- a capability: its access and its mode
unfoldable pub capability_of : Data → Option Capability
capability_of d = do
  access ← access_of d
  mode ← get (codes "mode") d >>= mode_of
  Some (record { access = access; mode = mode })

-- at most eight
unfoldable pub capabilities_of : Data → Option (List Capability)
capabilities_of d = do
  capabilities ← all_of capability_of d
  if nat_le (length capabilities) 8 then Some capabilities else None
