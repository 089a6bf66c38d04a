-- How items, frames or lines, are answered one after another, and what they changed is kept for one commit. This profile's own.
use Rattle.std.specs.Prelude.{◌≡◌, ℕ, ◌+◌, ◌-◌, ◌^◌, min, List, [], ◌∷◌, ◌++◌, Bool, if◌then◌else◌, Option}
use Rattle.csi_stores.specs.Public.Content.{all_changed}
use Rattle.csi_stores.specs.Public.Part.{StoredPart, StoredChange}
use Rattle.csi_stores.specs.Public.Stores.{Store}
use Rattle.csi_streams.specs.declared.waiting.Waiting.{Waiting}
use Rattle.csi_streams.specs.Public.Waiting.{Settling, changes_of, Settles}

-- from one core to another, item after item: each item got this answer
abbrev pub AnswersEach : {C X Y : Type 0} → (C → X → Y → C → Type 0) → C → List X → List Y → C → Type 0
AnswersEach answers core [] [] now = now ≡ core
AnswersEach answers core [] (answer ∷ given) now = ⊥
AnswersEach answers core (item ∷ items) [] now = ⊥
AnswersEach {C} answers core (item ∷ items) (answer ∷ given) now = (next : C) × answers core item answer next × AnswersEach answers next items given now

-- An item was answered: its answer waits behind the others, and what it changed behind what they changed. Where the answer is one, it is counted.
pub record Adds {C X Y : Type 0} (answers : C → X → Y → C → Type 0) (parts_of : C → List StoredPart) (bytes_of : Y → List ℕ) (is_there : Y → Bool) (old : C) (waited : Waiting) (item : X) (new : C) (waits : Waiting) : Type 0 where
  pub answer : Y
  pub answered : answers old item answer new
  pub out : waits.out.items ≡ waited.out.items ++ bytes_of answer
  pub changes : List StoredChange
  pub changed : changes_of waits ≡ changes_of waited ++ changes
  pub parts : parts_of new ≡ all_changed changes (parts_of old)
  pub items : waits.items ≡ min (waited.items + 1) (2 ^ 64 - 1)
  pub committed : waits.committed ≡ waited.committed
  pub counted : waits.answers ≡ min (waited.answers + (if is_there answer then 1 else 0)) (2 ^ 64 - 1)

-- the item was answered; before that what waited may have been committed and written
abbrev pub IsAnswered : {C X Y K W : Type 0} → (C → X → Y → C → Type 0) → (C → List StoredPart) → (Y → List ℕ) → (Y → Bool) → (K → Store) → (W → Option (List ℕ)) → C → Settling K W → X → C → Settling K W → Type 0
IsAnswered {C} {X} {Y} {K} {W} answers parts_of bytes_of is_there store contents old before item new after =
    (mid : Settling K W) × Settles store contents before mid × Adds answers parts_of bytes_of is_there old mid.own item new after.own × (after.store ≡ mid.store) × (after.out ≡ mid.out)
