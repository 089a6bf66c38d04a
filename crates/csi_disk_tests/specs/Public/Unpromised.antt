-- A store of which nothing is promised. This profile's own.
use Rattle.std.specs.Prelude.{ℕ}
use Rattle.csi_stores.specs.Public.Stores.{Store}

-- how often it failed, and nothing else: for tests, which see what is there
abbrev pub unpromised : ℕ → Store
unpromised count = record {
  honest = ⊥;
  holds = λ content. ⊥;
  foreign = λ place. ⊥;
  leaves = λ found. ⊥;
  fits = λ content. ⊥;
  faults = count;
}
