-- Parts stay by rising key.
use Rattle.std.proofs.Common.{◌≡◌, ℕ, ◌<◌, Bool, true, false, cond, refl, List, [], ◌∷◌, arith}
use Rattle.std.specs.Prelude.{nat_lt, ◌==◌, not, Option, Some, None}
use Rattle.std.specs.List.{AllByRecursion}
use Rattle.std.proofs.lemmas.Bool.Decides.{nat_tests}
use Rattle.csi_stores.specs.Public.Part.{StoredPart, StoredChange}
use Rattle.csi_stores.specs.Public.Content.{put_in, take_out, changed_to, all_changed, AreRisingParts}

-- all keys are above this one
abbrev pub AreAbove : ℕ → List StoredPart → Type 0
AreAbove key parts = AllByRecursion (λ (later : StoredPart). key < later.key) parts

-- where all keys are above one and a higher one is put in, all are above it
above-put : (key : ℕ) (part : StoredPart) (parts : List StoredPart) → key < part.key → AreAbove key parts → AreAbove key (put_in part parts)
above-put key part [] less above = (less, tt)
above-put key part (other ∷ others) less above = by (nat_lt other.key part.key) (other.key == part.key) (above-put key part others less above.1)
  where
    by : (b c : Bool) → AreAbove key (put_in part others) → AreAbove key (cond b (other ∷ put_in part others) (cond c (part ∷ others) (part ∷ other ∷ others)))
    by true c rest = (above.0, rest)
    by false true rest = (less, above.1)
    by false false rest = (less, above)

-- keys that are above a key are above a lower one
pub above-more : (low key : ℕ) (parts : List StoredPart) → low < key → AreAbove key parts → AreAbove low parts
above-more low key [] less above = tt
above-more low key (part ∷ parts) less above = (omega (arith, above.0), above-more low key parts less above.1)

-- where keys rise, they do with a part put in
pub rising-put : (part : StoredPart) (parts : List StoredPart) → AreRisingParts parts → AreRisingParts (put_in part parts)
rising-put part [] rising = (tt, tt)
rising-put part (other ∷ others) rising = by (nat_lt other.key part.key) (other.key == part.key) refl refl (rising-put part others rising.1)
  where
    by : (b c : Bool) → nat_lt other.key part.key ≡ b → (other.key == part.key) ≡ c → AreRisingParts (put_in part others) → AreRisingParts (cond b (other ∷ put_in part others) (cond c (part ∷ others) (part ∷ other ∷ others)))
    by true c t u rest = let less : other.key < part.key = grind (arith, nat_tests) in (above-put other.key part others less rising.0, rest)
    by false true t u rest = let same : other.key ≡ part.key = grind (arith, nat_tests) in (rw same at rising.0, rising.1)
    by false false t u rest = let less : part.key < other.key = grind (arith, nat_tests) in ((less, above-more part.key other.key others less rising.0), rising)

-- keys that are above a key stay so when one is taken out
above-take : (key out : ℕ) (parts : List StoredPart) → AreAbove key parts → AreAbove key (take_out out parts)
above-take key out [] above = tt
above-take key out (part ∷ parts) above = by (not (part.key == out)) (above-take key out parts above.1)
  where
    by : (b : Bool) → AreAbove key (take_out out parts) → AreAbove key (cond b (part ∷ take_out out parts) (take_out out parts))
    by true rest = (above.0, rest)
    by false rest = rest

-- where keys rise, they do with a part taken out
rising-take : (out : ℕ) (parts : List StoredPart) → AreRisingParts parts → AreRisingParts (take_out out parts)
rising-take out [] rising = tt
rising-take out (part ∷ parts) rising = by (not (part.key == out)) (rising-take out parts rising.1)
  where
    by : (b : Bool) → AreRisingParts (take_out out parts) → AreRisingParts (cond b (part ∷ take_out out parts) (take_out out parts))
    by true rest = (above-take part.key out parts rising.0, rest)
    by false rest = rest

-- where keys rise, they do after a change
rising-one : (key : ℕ) (value : Option (List ℕ)) (parts : List StoredPart) → AreRisingParts parts → AreRisingParts (changed_to key value parts)
rising-one key (Some value) parts rising = rising-put (record { key = key; value = value }) parts rising
rising-one key None parts rising = rising-take key parts rising

-- where keys rise, they do after all changes
pub rising-all : (changes : List StoredChange) (parts : List StoredPart) → AreRisingParts parts → AreRisingParts (all_changed changes parts)
rising-all [] parts rising = rising
rising-all (change ∷ changes) parts rising = rising-all changes (changed_to change.key change.value parts) (rising-one change.key change.value parts rising)
