-- The capacity that a volume gets, in bytes. CSI's spec.md, "CreateVolume", has the range; which capacity
-- in it is granted is this profile's own.
use Rattle.std.specs.Prelude.{ℕ, ◌||◌, nat_lt, if◌then◌else◌, Result, Ok, Err}
use Rattle.csi_types.specs.declared.status.Status.{Status}
use Rattle.csi_types.specs.declared.status.Status.TheVariants.{InvalidArgument, OutOfRange}
use Rattle.csi_types.specs.Model.Capacity.{is_bad_range, is_empty_range, capacity_wanted}

-- what a volume gets by what is required, by its limit and by the greatest capacity that there is, or the status that refuses it
abbrev pub grant_of : ℕ → ℕ → ℕ → Result ℕ Status
grant_of required limit greatest =
    if is_bad_range required limit then Err InvalidArgument
    else if is_empty_range required limit || nat_lt greatest (capacity_wanted required limit) then Err OutOfRange
    else Ok (capacity_wanted required limit)
