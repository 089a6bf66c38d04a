-- What opening a store finds and leaves: a record in the present version stays; no parts become the head of a new record, and parts in
-- an earlier version become the record that they are read as, in the present one, in one commit. This profile's own.
use Rattle.std.specs.Prelude.{◌≡◌, ◌≢◌, ◌⊎◌, ℕ, ◌==◌, Bool, not, List, [], ◌++◌, map, filter}
use Rattle.std.specs.List.{list_any}
use Rattle.csi_records.specs.declared.version.RecordVersion.{RecordVersion}
use Rattle.csi_stores.specs.Public.Part.{StoredPart, StoredChange, put_all, take_all}
use Rattle.csi_stores.specs.Public.Content.{all_changed}
use Rattle.csi_records.specs.declared.fault.RecordStop.{RecordStop}
use Rattle.csi_records.specs.declared.fault.RecordStop.TheVariants as stops
use Rattle.csi_records.specs.Public.Spelling.{present}
use Rattle.csi_service.specs.Public.StoreOpening.{OpeningRules, Opening}

-- what is made of the parts that were found, before the store is changed, and what is to be committed: nothing where they stay, else what opening
-- makes of them
pub record IsMade {C : Type 0} (opening : Opening C) (found : List StoredPart) (core : C) (changes : List StoredChange) : Type 0 where
  pub makes : opening.makes found core
  pub is : opening.is core
  pub leads : all_changed changes found ≡ opening.leaves found core
  pub becomes : (changes ≡ []) ⊎ (opening.rules.becomes found (opening.leaves found core) × opening.rules.is_record (opening.leaves found core))

-- why nothing is made
abbrev pub IsUnmade : OpeningRules → List StoredPart → RecordStop → Type 0
IsUnmade rules found (stops.BadRecord place) = rules.refused found place
IsUnmade rules found stops.NoMemory = Unit {0}

-- ---- a plugin's record

-- one of the parts has this key
abbrev pub has_key : ℕ → List StoredPart → Bool
has_key key parts = list_any (λ part. part.key == key) parts

-- the keys of the first parts that the second ones lack
abbrev pub left_out : List StoredPart → List StoredPart → List ℕ
left_out olds news = map (λ part. part.key) (filter (λ part. not (has_key part.key news)) olds)

-- what a record that was read of these parts in this version has to be committed: nothing where that is the present one, else all its
-- parts, and what takes out those that it lacks
abbrev pub IsRenewal : {X : Type 0} → (RecordVersion → List StoredPart → Type 0) → (X → List StoredPart) → RecordVersion → List StoredPart → X → List StoredChange → Type 0
IsRenewal Are parts_of version found kept changes =
    ((version ≡ present) × (changes ≡ []))
    ⊎ ((version ≢ present) × (changes ≡ put_all (parts_of kept) ++ take_all (left_out found (parts_of kept))) × Are present (parts_of kept))
