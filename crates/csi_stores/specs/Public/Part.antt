-- The parts of a record, as contracts see them. This profile's own.
use Rattle.std.specs.Prelude.{◌≡◌, ℕ, ◌<◌, ◌^◌, List, [], ◌++◌, length, map, Option, Some, None, option_map, Result, OnOk, OnErr}
use Rattle.std.specs.Global.{Vec}
use Rattle.csi_types.specs.Public.Limits.{IsWord}
use Rattle.csi_stores.specs.declared.part.Part.{Part}

-- a part that is there: its key and its value
pub record StoredPart : Type 0 where
  pub key : ℕ
  pub value : List ℕ

-- a part that is put in, or, where it has no value, taken out
pub record StoredChange : Type 0 where
  pub key : ℕ
  pub value : Option (List ℕ)

-- the changes that put these parts in
abbrev pub put_all : List StoredPart → List StoredChange
put_all parts = map (λ part. record { key = part.key; value = Some part.value }) parts

-- the changes that take out what is under these keys
abbrev pub take_all : List ℕ → List StoredChange
take_all keys = map (λ key. record { key = key; value = None }) keys

-- the bytes of a value
abbrev pub value_bytes : Vec ℕ → List ℕ
value_bytes bytes = bytes.items

-- a part as the change that it makes: its value is put in, or what is there taken out
abbrev pub part_change : Part → StoredChange
part_change part = record { key = part.key; value = option_map value_bytes part.value }

-- a part without a value is as one without a byte
abbrev pub value_in : Option (Vec ℕ) → List ℕ
value_in None = []
value_in (Some bytes) = bytes.items

-- a part, as it is there
abbrev pub stored_in : Part → StoredPart
stored_in part = record { key = part.key; value = value_in part.value }

-- parts, as they are there
abbrev pub all_stored_in : List Part → List StoredPart
all_stored_in parts = map stored_in parts

-- what a part may be: its key is a number of 64 bits, and so is the count of its value's bytes one of 32
pub record IsPart (part : StoredPart) : Type 0 where
  pub key : IsWord part.key
  pub value : length part.value < 2 ^ 32

-- what makes these changes was put behind the parts, or they are as they were
pub record PutsBehind {E : Type 0} (before after : List Part) (changes : List StoredChange) (result : Result (Unit {0}) E) : Type 0 where
  pub ok : OnOk result (map part_change after ≡ map part_change before ++ changes)
  pub err : OnErr result (after ≡ before)
