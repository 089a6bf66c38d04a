-- A store in memory, as contracts see it.
use Rattle.std.specs.Prelude.{◌≡◌, ◌≤◌, ⊤, ℕ, List, map}
use Rattle.csi_stores.specs.declared.entries.Entry.{Entry}
use Rattle.csi_stores.specs.Public.Part.{StoredPart}
use Rattle.csi_stores.specs.Public.Content.{AreRisingParts, size_of}
use Rattle.csi_stores.specs.Public.Stores.{Store, Parts}

-- its limit in bytes, and its parts
pub record Memory : Type 0 where
  pub limit : ℕ
  pub parts : List StoredPart

-- its parts stand by rising key, and fit its limit
pub record IsMemory (memory : Memory) : Type 0 where
  pub rising : AreRisingParts memory.parts
  pub fits : size_of memory.parts ≤ memory.limit

-- a part that it has
abbrev pub stored : Entry → StoredPart
stored entry = record { key = entry.key; value = entry.value.items }

-- all that it has
abbrev pub all_stored : List Entry → List StoredPart
all_stored entries = map stored entries

-- as a store: what it has is all that opening it again finds, it always has a list of parts, and nothing in it fails
abbrev pub memory_store : Memory → Store
memory_store memory = record {
  honest = ⊤;
  holds = λ content. memory.parts ≡ content;
  foreign = λ place. ⊥;
  leaves = λ found. found ≡ Parts memory.parts;
  fits = λ content. size_of content ≤ memory.limit;
  faults = 0;
}
