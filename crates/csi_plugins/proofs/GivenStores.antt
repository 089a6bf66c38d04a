-- What is read of one store of a recovery, and why nothing is.
use Rattle.std.proofs.Common.{◌≡◌, ◌∙◌, ◌≤◌, refl, sym, ap, subst, ℕ, List, [], ◌∷◌, length, map, arith}
use Rattle.csi_stores.specs.declared.keep.KeepFault.{KeepFault}
use Rattle.csi_stores.specs.declared.keep.KeepFault.TheVariants.{Device, NoMemory, BadRecord, Full}
use Rattle.csi_stores.specs.declared.part.Part.{Part}
use Rattle.csi_stores.specs.Public.Part.{StoredPart, StoredChange, all_stored_in, part_change, put_all}
use Rattle.csi_stores.specs.Public.Stores.{Store, Parts, IsOnly, IsLoadFault}
use Rattle.csi_records.specs.declared.fault.RecordStop.{RecordStop}
use Rattle.csi_records.specs.declared.fault.RecordStop.TheVariants as stops
use Rattle.csi_records.specs.Public.Refusing.{fault_of_stop}
use Rattle.csi_service.specs.Public.Opening.{Records}
use Rattle.csi_service.specs.Public.Renewed.{IsReadAs, IsUnread}
use Rattle.csi_service.proofs.LoadedParts.{all-put}
use Rattle.csi_plugins.specs.Public.Recovering.{IsUnchanged}
use Rattle.csi_plugins.specs.Private.Recovering.{ending_at, ending_of_new, HasRead, IsNotRead, IsNew, IsNotNew}

-- a store stays as it is
pub unchanged-same : (now : Store) → IsUnchanged now now
unchanged-same now = record { honest = λ h. h; left = λ h found l. l; some = λ h found only. ∣ (found, only.left) ∣₁ }

-- a store that was loaded: what it gave
module _ (before after : Store) (parts : List Part) (given : after.honest → (content : List StoredPart) → before.holds content → map part_change parts ≡ put_all content) where
  -- the record that was read of its parts
  pub has-read : {X : Type 0} (records : Records X) (kept : X) (renewal : List StoredChange) → IsUnchanged before after → (after.honest → (content : List StoredPart) → before.holds content → IsOnly after (Parts content))
      → IsReadAs records (all_stored_in parts) kept renewal → HasRead records before after kept renewal
  has-read records kept renewal unchanged stays read = record {
    unchanged = unchanged;
    each = λ honest content holds. (subst (λ (ps : List StoredPart). IsReadAs records ps kept renewal) (all-put parts content (given honest content holds)) read, stays honest content holds);
  }

  -- or why none was
  pub not-read : {X : Type 0} (records : Records X) (at : ℕ) (stop : RecordStop) → IsUnread records (all_stored_in parts) stop → IsNotRead records before after at (ending_at (fault_of_stop stop) at)
  not-read records at (stops.BadRecord place) why = (refl, λ honest content holds. subst (λ (ps : List StoredPart). IsUnread records ps (stops.BadRecord place)) (all-put parts content (given honest content holds)) why)
  not-read records at stops.NoMemory why = tt

  -- it is new, where there is no part
  pub is-new : parts ≡ [] → (after.honest → (content : List StoredPart) → before.holds content → IsOnly after (Parts content)) → IsNew before after
  is-new none stays = λ honest content holds.
      let empty : content ≡ [] = sym (all-put parts content (given honest content holds)) ∙ ap all_stored_in none in (
        empty,
        subst (λ (ps : List StoredPart). IsOnly after (Parts ps)) empty (stays honest content holds),
      )

  -- and not, where there is one
  pub not-new : 1 ≤ length parts → after.honest → before.holds [] → ⊥
  not-new some honest holds = by parts some (given honest [] holds)
    where
      by : (ps : List Part) → 1 ≤ length ps → map part_change ps ≡ [] → ⊥
      by [] le is = omega (arith, le)
      by (p ∷ ps) le is = cc

-- a store that can't be loaded
module _ (before after : Store) where
  pub load-not_read : {X : Type 0} (records : Records X) (at : ℕ) (fault : KeepFault) → IsLoadFault before after fault → IsNotRead records before after at (ending_at fault at)
  load-not_read records at Device cause = cause
  load-not_read records at NoMemory cause = tt
  load-not_read records at (BadRecord place) cause = (refl, λ honest content holds. absurd (cause honest content holds))
  load-not_read records at Full cause = absurd cause

  pub load-not_new : (fault : KeepFault) → IsLoadFault before after fault → IsNotNew before after (ending_of_new fault)
  load-not_new Device cause = cause
  load-not_new NoMemory cause = tt
  load-not_new (BadRecord place) cause = λ honest holds. cause honest [] holds
  load-not_new Full cause = absurd cause
