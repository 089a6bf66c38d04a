use Rattle.std.proofs.Common.{take}
use Rattle.std.specs.List.{AllByRecursion}
use Rattle.csi_types.specs.Public.VolumeId.{IsVolumeId}
use Rattle.csi_service.proofs.changed.ids_law.Given as goal

-- the ids so far are numbers from 1
abbrev pub invariant-loop-id : goal.invariant-loop-id
invariant-loop-id l = AllByRecursion IsVolumeId (take l.id-index l.ids)
