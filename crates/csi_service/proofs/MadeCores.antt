-- What is made of the parts of a store: a core with their record, and what has to be committed.
use Rattle.std.proofs.Common.{◌≡◌, ◌∙◌, ◌⊎◌, ◌<◌, ◌^◌, ℕ, true, List, [], ◌∷◌, map, None, Some, sym, ap, subst, refl, inl, inr, arith}
use Rattle.std.specs.Prelude.{Option}
use Rattle.csi_controller.specs.declared.row.ControllerRow.{ControllerRow}
use Rattle.csi_controller.specs.Public.Views.{RecordParts}
use Rattle.csi_node.specs.declared.row.NodeRow.{NodeRow}
use Rattle.csi_node.specs.Model.OneRow.{node_row_shown}
use Rattle.csi_node.specs.Model.Record.{NodeParts}
use Rattle.csi_stores.specs.Public.Part.{StoredPart, StoredChange, put_all}
use Rattle.csi_stores.specs.Public.Content.{all_changed, AreRisingParts}
use Rattle.csi_types.specs.Public.Text.{IsNodeId}
use Rattle.csi_records.specs.declared.fault.RecordStop.{RecordStop}
use Rattle.csi_records.specs.declared.fault.RecordStop.TheVariants as stops
use Rattle.csi_records.specs.declared.version.RecordVersion.{RecordVersion}
use Rattle.csi_records.specs.Public.Spelling.{present, controller_head, controller_parts, node_head, node_parts, volume_row}
use Rattle.csi_records.specs.Public.Records.{controller_layout, node_layout, controller_record_of, node_record_of, IsSessionIf, IsRecordOf, IsControllerOf, IsNodeOf}
use Rattle.csi_service.specs.Public.StoreOpening.{OpeningRules}
use Rattle.csi_service.specs.Public.Opening.{Records, controller_records, node_records, IsOpeningCommit, plugin_opening}
use Rattle.csi_service.specs.Private.Opening.{IsMade, IsUnmade, IsRenewal}
use Rattle.csi_service.proofs.RecordParts.{controller-rising, node-rising, node-wanted}
use Rattle.csi_service.proofs.RenewedParts.{all-renewed}

-- a core with a record in the present version, and what is to be committed: nothing where the parts are its own, else what makes them so
pub record IsCoreMade {X : Type 0} (records : Records X) (head : StoredPart) (found now : List StoredPart) (changes : List StoredChange) : Type 0 where
  pub is : records.are present now
  pub leads : ((changes ≡ []) × records.are present found × (now ≡ found)) ⊎ (IsOpeningCommit records head found now × (all_changed changes found ≡ now))

module _ {X : Type 0} (records : Records X) (head : StoredPart) where
  -- such a core is what opening a plugin's store is to make
  pub made-so : {C : Type 0} (parts_of : C → List StoredPart) (found : List StoredPart) (core : C) (changes : List StoredChange)
      → IsCoreMade records head found (parts_of core) changes → IsMade (plugin_opening records parts_of head) found core changes
  made-so parts_of found core changes made = record {
    makes = elim made.leads [ inl same ↦ inl (same.1, same.2) | inr other ↦ inr other.0 ];
    is = made.is;
    leads = elim made.leads [ inl same ↦ ap (λ (cs : List StoredChange). all_changed cs found) same.0 ∙ sym same.2 | inr other ↦ other.1 ];
    becomes = elim made.leads [ inl same ↦ inl same.0 | inr other ↦ inr (other.0, made.is) ];
  }

  -- a new one, of no parts
  pub made-new : (found now : List StoredPart) (changes : List StoredChange) → found ≡ [] → now ≡ head ∷ [] → changes ≡ put_all (head ∷ []) → records.are present (head ∷ []) → IsCoreMade records head found now changes
  made-new found now changes none are put is = record {
    is = subst (records.are present) (sym are) is;
    leads = inr (inl (none, are), ap (λ (cs : List StoredChange). all_changed cs found) put ∙ ap (all_changed (put_all (head ∷ []))) none ∙ sym are);
  }

  -- one with the record that was read, whose parts are put in over those that were there, and what they lack is taken out
  pub made-read : (found now : List StoredPart) (changes : List StoredChange) (version : RecordVersion) (kept : X) → AreRisingParts found → (records.are present (records.parts_of kept) → AreRisingParts (records.parts_of kept))
      → (records.are_of present found kept → found ≡ records.parts_of kept) → records.are version found → records.are_of version found kept → now ≡ records.parts_of kept
      → IsRenewal records.are records.parts_of version found kept changes → IsCoreMade records head found now changes
  made-read found now changes version kept rising rising_too own there tell same (inl already) =
      let as_it_was : now ≡ found = same ∙ sym (own (subst (λ (v : RecordVersion). records.are_of v found kept) already.0 tell)) in
      let is : records.are present found = subst (λ (v : RecordVersion). records.are v found) already.0 there in
      record { is = subst (records.are present) (sym as_it_was) is; leads = inl (already.1, is, as_it_was) }
  made-read found now changes version kept rising rising_too own there tell same (inr earlier) =
      record {
        is = subst (records.are present) (sym same) earlier.2;
        leads = inr (
          inr (record { version = version; earlier = earlier.0; stored = there; kept = kept; was = tell; is = same }),
          ap (λ (cs : List StoredChange). all_changed cs found) earlier.1 ∙ all-renewed found (records.parts_of kept) rising (rising_too earlier.2) ∙ sym same,
        );
      }

-- ---- of each plugin

-- parts in the present version are those of the record that they are read as
pub controller-own : (next_id : ℕ) (session : Option ℕ) (rows : List ControllerRow) (kept : RecordParts) (found : List StoredPart) → IsSessionIf true session → kept ≡ controller_record_of next_id session rows
    → found ≡ controller_parts present next_id session (map volume_row rows) → found ≡ controller_parts present kept.next_id (Some kept.session) (map volume_row kept.rows)
controller-own next_id None rows kept found fits is are = absurd fits
controller-own next_id (Some session) rows kept found fits is are = are ∙ sym (ap (λ (k : RecordParts). controller_parts present k.next_id (Some k.session) (map volume_row k.rows)) is)

-- a controller's record that was read
pub controller-made : (found now : List StoredPart) (changes : List StoredChange) (version : RecordVersion) (kept : RecordParts)
    → IsRecordOf (controller_layout version) found × IsControllerOf version found kept → now ≡ controller_parts present kept.next_id (Some kept.session) (map volume_row kept.rows)
    → IsRenewal (λ v. IsRecordOf (controller_layout v)) (λ (k : RecordParts). controller_parts present k.next_id (Some k.session) (map volume_row k.rows)) version found kept changes
    → IsCoreMade controller_records (controller_head present 1 (Some 0)) found now changes
controller-made found now changes version kept read same renewal =
    made-read controller_records (controller_head present 1 (Some 0)) found now changes version kept (controller-rising version found read.0)
    (controller-rising present (controller_parts present kept.next_id (Some kept.session) (map volume_row kept.rows)))
    (λ tell. controller-own tell.head.own tell.head.session tell.rows kept found tell.spelled.head_fits.session tell.is tell.spelled.are)
    read.0 read.1 same renewal

-- a node's parts in the present version are those of the record that they are read as
pub node-own : (id : List ℕ) (session : Option ℕ) (rows : List NodeRow) (kept : NodeParts) (found : List StoredPart) → IsSessionIf true session → kept ≡ node_record_of id session rows
    → found ≡ node_parts present id session (map node_row_shown rows) → found ≡ node_parts present kept.id (Some kept.session) (map node_row_shown kept.rows)
node-own id None rows kept found fits is are = absurd fits
node-own id (Some session) rows kept found fits is are = are ∙ sym (ap (λ (k : NodeParts). node_parts present k.id (Some k.session) (map node_row_shown k.rows)) is)

-- a record that was read is of the node that was asked for
pub of-node : (version : RecordVersion) (id : List ℕ) (found : List StoredPart) (kept : NodeParts) → IsNodeOf version (Some id) found kept → kept.id ≡ id
of-node version id found kept tell = ap (λ (k : NodeParts). k.id) tell.is ∙ by tell.head.session ∙ tell.spelled.head_fits.own.1
  where
    by : (session : Option ℕ) → (node_record_of tell.head.own session tell.rows).id ≡ tell.head.own
    by None = refl
    by (Some session) = refl

-- what is committed of a node's record, as that of the node that was asked for
asked : (id : List ℕ) (version : RecordVersion) (found : List StoredPart) (kept : NodeParts) (changes : List StoredChange) → kept.id ≡ id
    → IsRenewal (λ v. IsRecordOf (node_layout v None)) (λ (k : NodeParts). node_parts present k.id (Some k.session) (map node_row_shown k.rows)) version found kept changes
    → IsRenewal (λ v. IsRecordOf (node_layout v (Some id))) (λ (k : NodeParts). node_parts present k.id (Some k.session) (map node_row_shown k.rows)) version found kept changes
asked id version found kept changes own (inl already) = inl already
asked id version found kept changes own (inr earlier) =
    inr (earlier.0, earlier.1, subst (λ (n : List ℕ). IsRecordOf (node_layout present (Some n)) (node_parts present kept.id (Some kept.session) (map node_row_shown kept.rows))) own (node-wanted kept.id (Some kept.session) (map node_row_shown kept.rows) earlier.2))

-- a node's record that was read
pub node-made : (id : List ℕ) (session : ℕ) (found now : List StoredPart) (changes : List StoredChange) (version : RecordVersion) (kept : NodeParts)
    → IsRecordOf (node_layout version (Some id)) found × IsNodeOf version (Some id) found kept → now ≡ node_parts present kept.id (Some kept.session) (map node_row_shown kept.rows)
    → IsRenewal (λ v. IsRecordOf (node_layout v None)) (λ (k : NodeParts). node_parts present k.id (Some k.session) (map node_row_shown k.rows)) version found kept changes
    → IsCoreMade (node_records id) (node_head present id (Some session)) found now changes
node-made id session found now changes version kept read same renewal =
    made-read (node_records id) (node_head present id (Some session)) found now changes version kept (node-rising version (Some id) found read.0)
    (node-rising present (Some id) (node_parts present kept.id (Some kept.session) (map node_row_shown kept.rows)))
    (λ tell. node-own tell.head.own tell.head.session tell.rows kept found tell.spelled.head_fits.session tell.is tell.spelled.are)
    read.0 read.1 same (asked id version found kept changes (of-node version id found kept read.1) renewal)

-- ---- records without rows

-- a head with the next id 1 and no session alone is a controller's record
pub new-controller : IsRecordOf (controller_layout present) (controller_head present 1 (Some 0) ∷ [])
new-controller = record {
  first = record { own = 1; session = Some 0 };
  rows = [];
  spelled = record {
    head_fits = record { own = omega arith; session = omega arith };
    rows_fit = tt;
    rules = ([], refl, (record { limit = omega arith; each = tt; rising = tt; names = λ name. tt }, tt));
    are = refl;
  };
}

-- a node's head alone is its record
pub new-node : (id : List ℕ) (session : ℕ) → IsNodeId id → session < 2 ^ 64 → IsRecordOf (node_layout present (Some id)) (node_head present id (Some session) ∷ [])
new-node id session fits word = record {
  first = record { own = id; session = Some session };
  rows = [];
  spelled = record {
    head_fits = record { own = (fits, refl); session = word };
    rows_fit = tt;
    rules = (record { rising = λ i j less inside. absurd (omega arith); limit = omega arith; each = λ k d inside. absurd (omega arith) }, λ k d inside. absurd (omega arith));
    are = refl;
  };
}

-- ---- parts that are no record

-- what is told of some parts that are no record
pub unmade : (rules : OpeningRules) (found : List StoredPart) (stop : RecordStop) → (found ≡ [] → ⊥)
    → ((place : ℕ) → stop ≡ stops.BadRecord place → ((found ≡ []) × (place ≡ 0)) ⊎ rules.refused found place) → IsUnmade rules found stop
unmade rules found (stops.BadRecord place) some told = elim (told place refl) [ inl none ↦ absurd (some none.0) | inr at ↦ at ]
unmade rules found stops.NoMemory some told = tt
