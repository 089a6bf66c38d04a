-- A store before and after a call, and what serving says of it. This profile's own.
use Rattle.std.specs.Prelude.{◌≡◌, ◌⊎◌, ℕ, ◌≤◌, List, Result, IfErr, OnOk, OnErr}
use Rattle.csi_stores.specs.declared.keep.KeepFault.{KeepFault}
use Rattle.csi_stores.specs.declared.keep.KeepFault.TheVariants.{Device, NoMemory, BadRecord, Full}
use Rattle.csi_stores.specs.Public.Part.{StoredPart, StoredChange}
use Rattle.csi_stores.specs.Public.Content.{all_changed}
use Rattle.csi_stores.specs.Public.Counting.{HasRisen}

-- What opening a store may find: these parts, by rising key; a list in which the thing at this place, from 0, is the first that is no
-- part; or no list at all.
pub data Found : Type 0 where
  Parts : (content : List StoredPart) → Found
  Foreign : (place : ℕ) → Found
  Unlisted : Found

-- What a store is at some time, as its keeper tells it: whether all that is outside it did as it says so far (a disk gave back what
-- was written, and nobody else wrote); which parts it has, by rising key; or that it has no list of parts, and where, from 0, the first
-- thing stands that is none; what opening it again now, after a stop, may find; for which parts it has room; and how often the device
-- under it failed.
pub record Store : Type 1 where
  pub honest : Type 0
  pub holds : List StoredPart → Type 0
  pub foreign : ℕ → Type 0
  pub leaves : Found → Type 0
  pub fits : List StoredPart → Type 0
  pub faults : ℕ

-- ---- what opening it again finds

-- what it has
abbrev pub Has : Store → Found → Type 0
Has now (Parts content) = now.holds content
Has now (Foreign place) = now.foreign place
Has now Unlisted = ⊥

-- it has this, and opening it again finds this and nothing else
pub record IsOnly (now : Store) (found : Found) : Type 0 where
  pub there : Has now found
  pub left : now.leaves found
  pub alone : (other : Found) → now.leaves other → other ≡ found

-- what it has is what opening it again finds, and nothing else is
abbrev pub IsSettled : Store → Type 0
IsSettled now = now.honest → (found : Found) → Has now found → IsOnly now found

-- opening it again finds something
abbrev pub FindsSome : Store → Type 0
FindsSome now = ∥ ((found : Found) × now.leaves found) ∥₁

-- ---- why a call of a keeper was refused

-- Why loading was refused: the device only where it failed in this call, and BadRecord only where there are no parts to be read. Want of
-- memory may come at any time, and loading finds room for what is there.
abbrev pub IsLoadFault : Store → Store → KeepFault → Type 0
IsLoadFault before after Device = HasRisen before.faults after.faults
IsLoadFault before after NoMemory = Unit {0}
IsLoadFault before after (BadRecord place) = after.honest → (content : List StoredPart) → before.holds content → ⊥
IsLoadFault before after Full = ⊥

-- Why a commit was refused: the device only where it failed in this call, and Full only where what the store would have doesn't
-- fit it.
abbrev pub IsCommitFault : Store → Store → (List StoredPart → List StoredPart) → KeepFault → Type 0
IsCommitFault before after change Device = HasRisen before.faults after.faults
IsCommitFault before after change NoMemory = Unit {0}
IsCommitFault before after change (BadRecord place) = ⊥
IsCommitFault before after change Full = after.honest → (content : List StoredPart) → before.holds content → before.fits (change content) → ⊥

-- ---- what a commit does

-- These changes are made, one after another, all or none. Where all is done, opening it again finds that alone; after a refusal it
-- finds what it would have found before, or all of them done.
pub record CommitsChanges (before after : Store) (changes : List StoredChange) (result : Result (Unit {0}) KeepFault) : Type 0 where
  pub honest : after.honest → before.honest
  pub done : after.honest → (content : List StoredPart) → before.holds content → OnOk result (IsOnly after (Parts (all_changed changes content)))
  pub refused : after.honest → (content : List StoredPart) → before.holds content → OnErr result ((other : Found) → after.leaves other → before.leaves other ⊎ (other ≡ Parts (all_changed changes content)))
  pub some : after.honest → (content : List StoredPart) → IsOnly before (Parts content) → FindsSome after
  pub room : (content : List StoredPart) → before.fits content → after.fits content
  pub no_more_room : (content : List StoredPart) → after.fits content → before.fits content
  pub faults : before.faults ≤ after.faults
  pub cause : IfErr result (λ fault. IsCommitFault before after (all_changed changes) fault)

-- ---- what callers say of stores

-- what calls never change, or only raise
pub record FollowsStore (before after : Store) : Type 0 where
  pub honest : after.honest → before.honest
  pub room : (content : List StoredPart) → before.fits content → after.fits content
  pub no_more_room : (content : List StoredPart) → after.fits content → before.fits content
  pub faults : before.faults ≤ after.faults

-- where it had the first content alone, it has the second alone
abbrev pub LeavesOnly : Store → Store → List StoredPart → List StoredPart → Type 0
LeavesOnly before after first second = after.honest → IsOnly before (Parts first) → IsOnly after (Parts second)

-- opening it again finds one of the two, and nothing else
pub record FindsEither (now : Store) (old new : List StoredPart) : Type 0 where
  pub some : FindsSome now
  pub each : (other : Found) → now.leaves other → (other ≡ Parts old) ⊎ (other ≡ Parts new)

-- where it had the first content alone, opening it again finds one of the two others
abbrev pub LeavesEither : Store → Store → List StoredPart → List StoredPart → List StoredPart → Type 0
LeavesEither before after first old new = after.honest → IsOnly before (Parts first) → FindsEither after old new

-- Why a commit was refused that was to lead to this content: the device only where it failed meanwhile, Full only where the
-- content doesn't fit.
abbrev pub IsContentRefusal : Store → Store → List StoredPart → List StoredPart → KeepFault → Type 0
IsContentRefusal before after first next Device = HasRisen before.faults after.faults
IsContentRefusal before after first next NoMemory = Unit {0}
IsContentRefusal before after first next (BadRecord place) = ⊥
IsContentRefusal before after first next Full = after.honest → IsOnly before (Parts first) → before.fits next → ⊥
