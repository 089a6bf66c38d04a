-- How a call ended, by the status codes of gRPC, which CSI's spec.md, "Error Scheme", uses.
use Rattle.std.specs.Prelude.{ℕ, zero, suc, Option, Some, None, List, [], ◌∷◌}
use Rattle.csi_types.specs.declared.status.Status.{Status}
use Rattle.csi_types.specs.declared.status.Status.TheVariants.{Ok, Cancelled, Unknown, InvalidArgument, DeadlineExceeded, NotFound, AlreadyExists, PermissionDenied, ResourceExhausted, FailedPrecondition, Aborted, OutOfRange, Unimplemented, Internal, Unavailable, DataLoss, Unauthenticated}

-- a status's code
abbrev pub status_code : Status → ℕ
status_code Ok = 0
status_code Cancelled = 1
status_code Unknown = 2
status_code InvalidArgument = 3
status_code DeadlineExceeded = 4
status_code NotFound = 5
status_code AlreadyExists = 6
status_code PermissionDenied = 7
status_code ResourceExhausted = 8
status_code FailedPrecondition = 9
status_code Aborted = 10
status_code OutOfRange = 11
status_code Unimplemented = 12
status_code Internal = 13
status_code Unavailable = 14
status_code DataLoss = 15
status_code Unauthenticated = 16

-- the codes are the statuses' places in this list
abbrev pub statuses : List Status
statuses = Ok ∷ Cancelled ∷ Unknown ∷ InvalidArgument ∷ DeadlineExceeded ∷ NotFound ∷ AlreadyExists ∷ PermissionDenied ∷ ResourceExhausted ∷ FailedPrecondition ∷ Aborted ∷ OutOfRange ∷ Unimplemented ∷ Internal ∷ Unavailable ∷ DataLoss ∷ Unauthenticated ∷ []

-- the status at a place of a list
abbrev pub status_at_code : List Status → ℕ → Option Status
status_at_code [] code = None
status_at_code (status ∷ others) zero = Some status
status_at_code (status ∷ others) (suc code) = status_at_code others code

-- the status of a code, if it has one
abbrev pub status_from_code : ℕ → Option Status
status_from_code code = status_at_code statuses code
