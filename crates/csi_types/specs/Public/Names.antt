-- The names of calls (CSI's spec.md, "RPC Interface") and of statuses (gRPC's, as in "Error Scheme").
use Rattle.std.specs.Prelude.{ℕ, List, codes}
use Rattle.csi_types.specs.declared.call.Kind.{Kind}
use Rattle.csi_types.specs.declared.call.Kind.TheVariants as kinds
use Rattle.csi_types.specs.declared.status.Status.{Status}
use Rattle.csi_types.specs.declared.status.Status.TheVariants as statuses

-- a call's name
abbrev pub kind_name : Kind → List ℕ
kind_name kinds.CreateVolume = codes "CreateVolume"
kind_name kinds.DeleteVolume = codes "DeleteVolume"
kind_name kinds.ControllerPublishVolume = codes "ControllerPublishVolume"
kind_name kinds.ControllerUnpublishVolume = codes "ControllerUnpublishVolume"
kind_name kinds.NodeStageVolume = codes "NodeStageVolume"
kind_name kinds.NodeUnstageVolume = codes "NodeUnstageVolume"
kind_name kinds.NodePublishVolume = codes "NodePublishVolume"
kind_name kinds.NodeUnpublishVolume = codes "NodeUnpublishVolume"

-- a status's name
abbrev pub status_name : Status → List ℕ
status_name statuses.Ok = codes "OK"
status_name statuses.Cancelled = codes "CANCELLED"
status_name statuses.Unknown = codes "UNKNOWN"
status_name statuses.InvalidArgument = codes "INVALID_ARGUMENT"
status_name statuses.DeadlineExceeded = codes "DEADLINE_EXCEEDED"
status_name statuses.NotFound = codes "NOT_FOUND"
status_name statuses.AlreadyExists = codes "ALREADY_EXISTS"
status_name statuses.PermissionDenied = codes "PERMISSION_DENIED"
status_name statuses.ResourceExhausted = codes "RESOURCE_EXHAUSTED"
status_name statuses.FailedPrecondition = codes "FAILED_PRECONDITION"
status_name statuses.Aborted = codes "ABORTED"
status_name statuses.OutOfRange = codes "OUT_OF_RANGE"
status_name statuses.Unimplemented = codes "UNIMPLEMENTED"
status_name statuses.Internal = codes "INTERNAL"
status_name statuses.Unavailable = codes "UNAVAILABLE"
status_name statuses.DataLoss = codes "DATA_LOSS"
status_name statuses.Unauthenticated = codes "UNAUTHENTICATED"
