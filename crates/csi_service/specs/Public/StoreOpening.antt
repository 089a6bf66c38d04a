-- What opening a store finds and leaves, whatever is made of its parts: what it makes stands in the store before it is given. This profile's
-- own.
use Rattle.std.specs.Prelude.{◌≡◌, ◌⊎◌, ℕ, List}
use Rattle.csi_stores.specs.Public.Counting.{HasRisen}
use Rattle.csi_stores.specs.declared.keep.KeepFault.{KeepFault}
use Rattle.csi_stores.specs.declared.keep.KeepFault.TheVariants.{Device, NoMemory, BadRecord, Full}
use Rattle.csi_stores.specs.Public.Part.{StoredPart}
use Rattle.csi_stores.specs.Public.Stores.{Store, Found, Parts, IsOnly, FindsSome}

-- what opening is to make of a store's parts: the place of the first that is refused, where they are no record; and what its one commit makes of
-- them, which is a record
pub record OpeningRules : Type 1 where
  pub refused : List StoredPart → ℕ → Type 0
  pub becomes : List StoredPart → List StoredPart → Type 0
  pub is_record : List StoredPart → Type 0

-- and what it gives: this is made of the parts that were there; it is as all that is made; and these are the parts that are left
pub record Opening (C : Type 0) : Type 1 where
  pub rules : OpeningRules
  pub makes : List StoredPart → C → Type 0
  pub is : C → Type 0
  pub leaves : List StoredPart → C → List StoredPart

-- this was made of what was there, and the store has its parts alone
abbrev pub HasOpened : {C : Type 0} → Opening C → Store → Store → C → Type 0
HasOpened opening before after core =
    after.honest → (content : List StoredPart) → before.holds content
    → opening.makes content core × opening.is core × IsOnly after (Parts (opening.leaves content core))

-- Why a store isn't opened: the device only where it failed in this call; parts that are no record, at the first that is refused; and Full
-- only where what the commit of opening would make doesn't fit.
abbrev pub IsUnopened : OpeningRules → Store → Store → KeepFault → Type 0
IsUnopened rules before after Device = HasRisen before.faults after.faults
IsUnopened rules before after NoMemory = Unit {0}
IsUnopened rules before after (BadRecord place) = after.honest → (content : List StoredPart) → before.holds content → rules.refused content place
IsUnopened rules before after Full =
    after.honest → (content : List StoredPart) → before.holds content → (new : List StoredPart) × rules.becomes content new × (before.fits new → ⊥)

-- for this reason nothing was changed, and the store has what it had alone
abbrev pub StaysFor : (List StoredPart → Type 0) → Store → Store → Type 0
StaysFor Why before after = after.honest → (content : List StoredPart) → before.holds content → Why content × IsOnly after (Parts content)

-- what the commit of opening makes, a record, is found
pub record IsRewritten (rules : OpeningRules) (content : List StoredPart) (found : Found) : Type 0 where
  pub new : List StoredPart
  pub is : found ≡ Parts new
  pub becomes : rules.becomes content new
  pub is_record : rules.is_record new

-- Whether it is opened or not, opening again finds what it would have found before, or what the commit of opening makes; of what is no
-- list of parts nothing is changed; and it finds something.
pub record LeavesOpening (rules : OpeningRules) (before after : Store) : Type 0 where
  pub parts : after.honest → (content : List StoredPart) → before.holds content → (other : Found) → after.leaves other
      → before.leaves other ⊎ IsRewritten rules content other
  pub foreign : after.honest → (place : ℕ) → before.foreign place → (other : Found) → after.leaves other → before.leaves other
  pub some : after.honest → (found : Found) → IsOnly before found → FindsSome after
