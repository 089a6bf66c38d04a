-- A store that fails at one call. This profile's own.
use Rattle.std.specs.Prelude.{ℕ, ◌+◌, ◌-◌, ◌^◌, min}
use Rattle.csi_stores.specs.Public.Stores.{Store}

-- the store under it, whose failures are counted with its own
abbrev pub failing : ℕ → Store → Store
failing own under = record under { faults = min (under.faults + own) (2 ^ 64 - 1) }
