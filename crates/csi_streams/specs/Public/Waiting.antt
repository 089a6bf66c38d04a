-- What waits of the items that were answered, frames or lines, and how it is committed and written. This profile's own.
use Rattle.std.specs.Prelude.{◌≡◌, ◌⊎◌, ℕ, ◌+◌, ◌-◌, ◌^◌, ◌<◌, min, List, [], map, Option, Result, OnOk, IfErr}
use Rattle.std.specs.Io.KnownBytes.{Appends}
use Rattle.csi_stores.specs.declared.keep.KeepFault.{KeepFault}
use Rattle.csi_stores.specs.declared.counted.Counted.{Counted}
use Rattle.csi_stores.specs.Public.Counting.{HasRisen}
use Rattle.csi_stores.specs.Public.Content.{all_changed}
use Rattle.csi_stores.specs.Public.Part.{StoredPart, StoredChange, part_change}
use Rattle.csi_stores.specs.Public.Stores.{Store, FollowsStore, LeavesOnly, LeavesEither, IsContentRefusal}
use Rattle.csi_stores.specs.Public.Writing.{WritesFront}
use Rattle.csi_streams.specs.Public.State.{State}
use Rattle.csi_streams.specs.declared.waiting.AnswerFault.{AnswerFault}
use Rattle.csi_streams.specs.declared.waiting.AnswerFault.TheVariants as why
use Rattle.csi_streams.specs.declared.waiting.Waiting.{Waiting}

-- what waits, a store and a writer
abbrev pub Settling : Type 0 → Type 0 → Type 0
Settling K W = State Waiting K (Counted W)

-- what the items changed that wait, one change after another
abbrev pub changes_of : Waiting → List StoredChange
changes_of waiting = map part_change waiting.parts.items

-- as many items were committed as were, and those that wait
abbrev pub IsCountedOn : Waiting → Waiting → Type 0
IsCountedOn old new = new.committed ≡ min (old.committed + old.items) (2 ^ 64 - 1)

-- the store has what the items changed that waited
abbrev pub Commits : {K : Type 0} → (K → Store) → Waiting → K → K → Type 0
Commits store waiting before after = (content : List StoredPart) → LeavesOnly (store before) (store after) content (all_changed (changes_of waiting) content)

-- all that waited was committed, and then written
pub record Settled {K W : Type 0} (store : K → Store) (contents : W → Option (List ℕ)) (old new : Settling K W) : Type 0 where
  pub none : new.own.items ≡ 0
  pub parts : new.own.parts.items ≡ []
  pub out : new.own.out.items ≡ []
  pub committed : IsCountedOn old.own new.own
  pub answers : new.own.answers ≡ old.own.answers
  pub kept : Commits store old.own old.store new.store
  pub written : Appends (contents old.out.inner) (contents new.out.inner) old.own.out.items
  pub follows : FollowsStore (store old.store) (store new.store)
  pub quiet : new.out.faults ≡ old.out.faults

-- nothing was done, or so
abbrev pub Settles : {K W : Type 0} → (K → Store) → (W → Option (List ℕ)) → Settling K W → Settling K W → Type 0
Settles store contents old new = (new ≡ old) ⊎ Settled store contents old new

-- What waited was refused by the store: opening it again finds what it had, or all that the items changed. Nothing was written.
pub record Refused {K W : Type 0} (store : K → Store) (old new : Settling K W) (fault : KeepFault) : Type 0 where
  pub some : 0 < old.own.items
  pub committed : new.own.committed ≡ old.own.committed
  pub left : (content : List StoredPart) → LeavesEither (store old.store) (store new.store) content content (all_changed (changes_of old.own) content)
  pub cause : (content : List StoredPart) → IsContentRefusal (store old.store) (store new.store) content (all_changed (changes_of old.own) content) fault
  pub unwritten : new.out ≡ old.out
  pub follows : FollowsStore (store old.store) (store new.store)

-- it was committed, and a front of the answers was written
pub record Unwritten {K W : Type 0} (store : K → Store) (contents : W → Option (List ℕ)) (old new : Settling K W) : Type 0 where
  pub some : 0 < old.own.items
  pub committed : IsCountedOn old.own new.own
  pub kept : Commits store old.own old.store new.store
  pub written : WritesFront (contents old.out.inner) (contents new.out.inner) old.own.out.items
  pub risen : HasRisen old.out.faults new.out.faults
  pub follows : FollowsStore (store old.store) (store new.store)

-- one or the other
abbrev pub SettleStops : {K W : Type 0} → (K → Store) → (W → Option (List ℕ)) → Settling K W → Settling K W → AnswerFault → Type 0
SettleStops store contents old new why.NoMemory = ⊥
SettleStops store contents old new (why.Keep fault) = Refused store old new fault
SettleStops store contents old new why.Output = Unwritten store contents old new

-- What waits was settled, or nothing was done; and then what waits is as it is wanted. Or settling it stopped.
pub record SettlesWaiting {K W : Type 0} (store : K → Store) (contents : W → Option (List ℕ)) (wanted : Type 0) (old new : Settling K W) (result : Result (Unit {0}) AnswerFault) : Type 0 where
  pub ok : OnOk result (Settles store contents old new)
  pub none : OnOk result wanted
  pub err : IfErr result (SettleStops store contents old new)

-- the same waits
pub record WaitsSame (old new : Waiting) : Type 0 where
  pub out : new.out.items ≡ old.out.items
  pub parts : new.parts.items ≡ old.parts.items
  pub items : new.items ≡ old.items
  pub committed : new.committed ≡ old.committed
  pub answers : new.answers ≡ old.answers

-- there was no memory for an item, and what waited before it was committed and written; or that was refused
abbrev pub EndsWaiting : {K W : Type 0} → (K → Store) → (W → Option (List ℕ)) → Settling K W → Settling K W → AnswerFault → Type 0
EndsWaiting store contents old new why.NoMemory = Settles store contents old new × (new.own.items ≡ 0)
EndsWaiting store contents old new (why.Keep fault) = SettleStops store contents old new (why.Keep fault)
EndsWaiting store contents old new why.Output = SettleStops store contents old new why.Output

-- It stops so. Before that what waited may have been committed and written; and what waits is what waited then.
abbrev pub StopsAt : {K W : Type 0} → (K → Store) → (W → Option (List ℕ)) → Settling K W → Settling K W → AnswerFault → Type 0
StopsAt {K} {W} store contents old new fault =
    (one two : Settling K W) × Settles store contents old one × WaitsSame one.own two.own × (two.store ≡ one.store) × (two.out ≡ one.out) × EndsWaiting store contents two new fault
