-- What a store has: parts, each a value under a key, by rising key; and what putting parts in and taking parts out makes of
-- it. This profile's own.
use Rattle.std.specs.Prelude.{ℕ, ◌+◌, ◌<◌, ◌==◌, nat_lt, not, if◌then◌else◌, List, [], ◌∷◌, filter, length, sum_by, Option, Some, None}
use Rattle.std.specs.List.{AllByRecursion}
use Rattle.csi_stores.specs.Public.Part.{StoredPart, StoredChange}

-- the part takes the place of the one of its key, or goes where its key belongs
abbrev pub put_in : StoredPart → List StoredPart → List StoredPart
put_in part [] = part ∷ []
put_in part (other ∷ others) =
    if nat_lt other.key part.key then other ∷ put_in part others
    else if other.key == part.key then part ∷ others
    else part ∷ other ∷ others

-- the part of this key is gone
abbrev pub take_out : ℕ → List StoredPart → List StoredPart
take_out key parts = filter (λ part. not (part.key == key)) parts

-- by whether there is a value
abbrev pub changed_to : ℕ → Option (List ℕ) → List StoredPart → List StoredPart
changed_to key (Some value) parts = put_in (record { key = key; value = value }) parts
changed_to key None parts = take_out key parts

-- one change after another
abbrev pub all_changed : List StoredChange → List StoredPart → List StoredPart
all_changed [] parts = parts
all_changed (change ∷ changes) parts = all_changed changes (changed_to change.key change.value parts)

-- each key is below the later ones
abbrev pub AreRisingParts : List StoredPart → Type 0
AreRisingParts [] = Unit {0}
AreRisingParts (part ∷ parts) = AllByRecursion (λ (later : StoredPart). part.key < later.key) parts × AreRisingParts parts

-- the bytes that parts take: 8 for each key, and the values
abbrev pub size_of : List StoredPart → ℕ
size_of parts = sum_by (λ part. 8 + length part.value) parts
