-- What opening gives and leaves, by what is made of the parts that were there.
use Rattle.std.proofs.Common.{◌≡◌, ◌≤◌, ◌∙◌, ◌⊎◌, ℕ, List, [], ◌∷◌, length, map, sym, ap, subst, inl, inr, arith}
use Rattle.csi_stores.specs.declared.keep.KeepFault.{KeepFault}
use Rattle.csi_stores.specs.declared.keep.KeepFault.TheVariants.{Device, NoMemory, BadRecord, Full}
use Rattle.csi_stores.specs.declared.part.Part.{Part}
use Rattle.csi_stores.specs.Public.Part.{StoredPart, StoredChange, all_stored_in, put_all, part_change}
use Rattle.csi_stores.specs.Public.Content.{all_changed}
use Rattle.csi_stores.specs.Public.Stores.{Store, Found, Parts, Foreign, Unlisted, IsOnly, FindsSome, IsLoadFault, IsCommitFault}
use Rattle.csi_records.specs.declared.fault.RecordStop.{RecordStop}
use Rattle.csi_records.specs.declared.fault.RecordStop.TheVariants as stops
use Rattle.csi_records.specs.Public.Refusing.{fault_of_stop}
use Rattle.csi_service.specs.Public.StoreOpening.{OpeningRules, Opening, HasOpened, IsUnopened, LeavesOpening}
use Rattle.csi_service.specs.Private.Opening.{IsMade, IsUnmade}
use Rattle.csi_service.proofs.LoadedParts.{all-put}

-- ---- of the parts alone

module _ {C : Type 0} (opening : Opening C) (found : List StoredPart) (core : C) (changes : List StoredChange) (made : IsMade opening found core changes) where
  -- without changes, all stays
  pub stays-as : changes ≡ [] → opening.leaves found core ≡ found
  stays-as none = sym made.leads ∙ ap (λ (cs : List StoredChange). all_changed cs found) none

  -- some changes are those of the commit, which makes a record
  pub becomes-by : (changes ≡ [] → ⊥) → (other : List StoredPart) → other ≡ all_changed changes found → opening.rules.becomes found other × opening.rules.is_record other
  becomes-by some other is =
      subst (λ (ps : List StoredPart). opening.rules.becomes found ps × opening.rules.is_record ps) (sym (is ∙ made.leads))
      (elim made.becomes [ inl none ↦ absurd (some none) | inr becomes ↦ becomes ])

-- ---- a store that was loaded

-- the store before and after it gave its parts
pub record HasLoaded (before after : Store) (parts : List Part) : Type 0 where
  pub honest : after.honest → before.honest
  pub given : after.honest → (content : List StoredPart) → before.holds content → map part_change parts ≡ put_all content
  pub stays : after.honest → (content : List StoredPart) → before.holds content → IsOnly after (Parts content)
  pub listed : after.honest → (place : ℕ) → before.foreign place → ⊥
  pub left : after.honest → (found : Found) → after.leaves found → before.leaves found
  pub some : after.honest → (found : Found) → IsOnly before found → FindsSome after
  pub room : (content : List StoredPart) → before.fits content → after.fits content
  pub faults : before.faults ≤ after.faults

-- a store that isn't loaded isn't opened
pub load-cause : (rules : OpeningRules) (before after : Store) (fault : KeepFault) → IsLoadFault before after fault → IsUnopened rules before after fault
load-cause rules before after Device cause = cause
load-cause rules before after NoMemory cause = tt
load-cause rules before after (BadRecord place) cause = λ honest content holds. absurd (cause honest content holds)
load-cause rules before after Full cause = absurd cause

-- a call that leaves what was there leaves what opening may
pub load-left : (rules : OpeningRules) (before after : Store) → (after.honest → (found : Found) → after.leaves found → before.leaves found)
    → (after.honest → (found : Found) → IsOnly before found → FindsSome after) → LeavesOpening rules before after
load-left rules before after left some = record {
  parts = λ honest content holds other leaves. inl (left honest other leaves);
  foreign = λ honest place foreign other leaves. left honest other leaves;
  some = some;
}

module _ {C : Type 0} (opening : Opening C) (before loaded : Store) (parts : List Part) (load : HasLoaded before loaded parts) where
  -- the parts are what the store has
  parts-are : loaded.honest → (content : List StoredPart) → before.holds content → all_stored_in parts ≡ content
  parts-are honest content holds = all-put parts content (load.given honest content holds)

  -- parts that are no record
  pub unmade-cause : (stop : RecordStop) → IsUnmade opening.rules (all_stored_in parts) stop → IsUnopened opening.rules before loaded (fault_of_stop stop)
  unmade-cause (stops.BadRecord place) unmade = λ honest content holds. subst (λ (ps : List StoredPart). opening.rules.refused ps place) (parts-are honest content holds) unmade
  unmade-cause stops.NoMemory unmade = tt

  module _ (core : C) (changes : List StoredChange) (made : IsMade opening (all_stored_in parts) core changes) where
    -- nothing is to be committed
    pub opened-same : changes ≡ [] → HasOpened opening before loaded core
    opened-same none = λ honest content holds.
        let are = parts-are honest content holds in
        let same : opening.leaves content core ≡ content = subst (λ (ps : List StoredPart). opening.leaves ps core ≡ ps) are (stays-as opening (all_stored_in parts) core changes made none) in (
          subst (λ (ps : List StoredPart). opening.makes ps core) are made.makes,
          made.is,
          subst (λ (ps : List StoredPart). IsOnly loaded (Parts ps)) (sym same) (load.stays honest content holds),
        )

    module _ (after : Store) where
      -- what was to be committed leads to what opening leaves
      leads-to : (content : List StoredPart) → all_stored_in parts ≡ content → all_changed changes content ≡ opening.leaves content core
      leads-to content are = subst (λ (ps : List StoredPart). all_changed changes ps ≡ opening.leaves ps core) are made.leads

      -- and is what its commit makes of what was there
      commits : (changes ≡ [] → ⊥) → (content : List StoredPart) → all_stored_in parts ≡ content
          → opening.rules.becomes content (all_changed changes content) × opening.rules.is_record (all_changed changes content)
      commits some content are =
          subst (λ (ps : List StoredPart). opening.rules.becomes ps (all_changed changes content) × opening.rules.is_record (all_changed changes content)) are
          (becomes-by opening (all_stored_in parts) core changes made some (all_changed changes content) (ap (all_changed changes) (sym are)))

      -- it was committed
      pub opened-changed : (after.honest → loaded.honest)
          → (after.honest → (content : List StoredPart) → loaded.holds content → IsOnly after (Parts (all_changed changes content)))
          → HasOpened opening before after core
      opened-changed was done = λ honest content holds.
          let is = was honest in
          let are = parts-are is content holds in (
            subst (λ (ps : List StoredPart). opening.makes ps core) are made.makes,
            made.is,
            subst (λ (ps : List StoredPart). IsOnly after (Parts ps)) (leads-to content are) (done honest content (load.stays is content holds).there),
          )

      -- opening again finds what it would have found before, or what was to be committed
      pub commit-left : (changes ≡ [] → ⊥) → (after.honest → loaded.honest)
          → (after.honest → (content : List StoredPart) → loaded.holds content → (other : Found) → after.leaves other → loaded.leaves other ⊎ (other ≡ Parts (all_changed changes content)))
          → (after.honest → (content : List StoredPart) → IsOnly loaded (Parts content) → FindsSome after) → LeavesOpening opening.rules before after
      commit-left some was left finds = record {
        parts = λ honest content holds other leaves.
            let is = was honest in
            let commit = commits some content (parts-are is content holds) in
            elim (left honest content (load.stays is content holds).there other leaves) [
              | inl old ↦ inl (load.left is other old)
              | inr new ↦ inr (record { new = all_changed changes content; is = new; becomes = commit.0; is_record = commit.1 })
            ];
        foreign = λ honest place foreign other leaves. absurd (load.listed (was honest) place foreign);
        some = by;
      }
        where
          by : after.honest → (found : Found) → IsOnly before found → FindsSome after
          by honest (Parts content) only = finds honest content (load.stays (was honest) content only.there)
          by honest (Foreign place) only = absurd (load.listed (was honest) place only.there)
          by honest Unlisted only = absurd only.there

      -- a commit that is refused
      pub commit-cause : (changes ≡ [] → ⊥) → (after.honest → loaded.honest) → loaded.faults ≤ after.faults → (fault : KeepFault) → IsCommitFault loaded after (all_changed changes) fault → IsUnopened opening.rules before after fault
      commit-cause some was faults Device cause = elim cause [ inl risen ↦ inl (omega (arith, load.faults, risen)) | inr full ↦ inr full ]
      commit-cause some was faults NoMemory cause = tt
      commit-cause some was faults (BadRecord place) cause = absurd cause
      commit-cause some was faults Full cause = λ honest content holds.
          let is = was honest in (
            all_changed changes content,
            (commits some content (parts-are is content holds)).0,
            λ fits. cause honest content (load.stays is content holds).there (load.room (all_changed changes content) fits),
          )

-- some parts are some changes
pub some-changes : (parts : List Part) → 1 ≤ length parts → map part_change parts ≡ [] → ⊥
some-changes [] some none = omega arith
some-changes (part ∷ parts) some none = cc
