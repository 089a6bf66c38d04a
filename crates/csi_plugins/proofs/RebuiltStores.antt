-- What was read, made and given where a controller's store is made of the orchestrator's.
use Rattle.std.proofs.Common.{◌≡◌, ◌∙◌, ◌≤◌, ◌+◌, refl, sym, ap, subst, inl, inr, ℕ, List, [], length, map, min, Err, arith}
use Rattle.csi_types.proofs.Each.{each-map}
use Rattle.csi_types.proofs.Maps.{map-twice}
use Rattle.csi_controller.specs.Public.Views.{RecordParts}
use Rattle.csi_node.specs.Model.Record.{NodeParts}
use Rattle.csi_orchestrator.specs.Public.Record.{RecordParts as OrchestratorRecord}
use Rattle.csi_recovery.specs.Public.Recovered.{GivenNode}
use Rattle.csi_recovery.specs.declared.fault.RecoveryFault.{RecoveryFault}
use Rattle.csi_recovery.specs.declared.fault.RecoveryFault.TheVariants as recovery
use Rattle.csi_recovery.specs.declared.rebuilding_fault.RebuildingFault.{RebuildingFault}
use Rattle.csi_recovery.specs.declared.rebuilding_fault.RebuildingFault.TheVariants.{NumbersSpent, IdTaken, BadRow, NoMemory}
use Rattle.csi_recovery.specs.Public.Judged.{AreGiven}
use Rattle.csi_recovery.specs.Public.Rebuilding.{IsUnlike, IsRebuiltOf, IsRebuildingRefusal}
use Rattle.csi_stores.specs.declared.keep.KeepFault.{KeepFault}
use Rattle.csi_stores.specs.declared.keep.KeepFault.TheVariants as faults
use Rattle.csi_stores.specs.declared.part.Part.{Part}
use Rattle.csi_stores.specs.Public.Content.{all_changed}
use Rattle.csi_stores.specs.Public.Part.{StoredPart, StoredChange, all_stored_in, part_change, put_all}
use Rattle.csi_stores.specs.Public.Stores.{Store}
use Rattle.csi_records.specs.declared.fault.RecordStop.{RecordStop}
use Rattle.csi_records.specs.declared.fault.RecordStop.TheVariants as stops
use Rattle.csi_records.specs.Public.Places.{ReadsStored}
use Rattle.csi_records.specs.Public.Records.{controller_layout, IsRecordOf}
use Rattle.csi_records.specs.Public.Spelling.{present}
use Rattle.csi_service.specs.Public.Opening.{Records, controller_records}
use Rattle.csi_service.specs.Public.Renewed.{any_node_records, IsUnread}
use Rattle.csi_service.proofs.LoadedParts.{all-put}
use Rattle.csi_service.proofs.RecordParts.{controller-rising}
use Rattle.csi_service.proofs.RenewedParts.{all-renewed}
use Rattle.std.proofs.lemmas.List.{append-nil}
use Rattle.csi_streams.specs.declared.ending.Ending.{Ending}
use Rattle.csi_streams.specs.declared.ending.Ending.TheVariants as endings
use Rattle.csi_plugins.specs.Public.Ending.{ending_of_store}
use Rattle.csi_plugins.specs.Public.Recording.{Writer}
use Rattle.csi_plugins.specs.Public.Recovering.{Fate, IsUnchanged, IsRecordIn, NodeStore}
use Rattle.csi_plugins.specs.Public.Recovering.Fate.{Stays, MayChange}
use Rattle.csi_plugins.specs.Public.Rebuilding.{orchestrator_records, Sources, AreSourcesRead, AreSourcesNotRead, AreUnlike, IsNoRebuilding, IsRebuildingEnd, IsRebuildingBegun}
use Rattle.csi_plugins.specs.Private.Recovering.{HasRead, ReadStore, HaveRead, IsNotRead, IsOneNotRead, IsNotNew, IsGiven, IsCommitEnd}
use Rattle.csi_plugins.specs.Private.Rebuilding.{HasReadRecord, EndsRebuilding, EndsUnlike, IsRebuildingText, IsRebuildingReady}
use Rattle.csi_plugins.proofs.RecoveredStores.{new-given}
use Rattle.csi_plugins.proofs.Refusing.{as-many}

-- ---- one store

-- the record that was read of the parts that a store gave
pub record-read : (before after : Store) (parts : List Part) → (after.honest → (content : List StoredPart) → before.holds content → map part_change parts ≡ put_all content) → {X : Type 0} (records : Records X) (kept : X) → IsUnchanged before after
    → IsRecordIn records (all_stored_in parts) kept → HasReadRecord records before after kept
record-read before after parts given records kept unchanged read = record {
  unchanged = unchanged;
  each = λ honest content holds. subst (λ (ps : List StoredPart). IsRecordIn records ps kept) (all-put parts content (given honest content holds)) read;
}

-- why no record was read of parts
pub unread : {X : Type 0} (records : Records X) (parts : List StoredPart) (stop : RecordStop) → ReadsStored records.are records.are_of parts (Err stop) → IsUnread records parts stop
unread records parts (stops.BadRecord place) why = why
unread records parts stops.NoMemory why = tt

-- put into an empty store, the parts of a controller's record are there
pub put-controller : (made : RecordParts) → IsRecordOf (controller_layout present) (controller_records.parts_of made) → all_changed (put_all (controller_records.parts_of made)) [] ≡ controller_records.parts_of made
put-controller made is =
    let parts = controller_records.parts_of made in
    ap (λ (cs : List StoredChange). all_changed cs []) (sym (append-nil (put_all parts))) ∙ all-renewed [] parts tt (controller-rising present parts is)

-- ---- nothing is made

module _ {K : Type 0} (seen : K → Store) where
  -- why the new store isn't new
  pub new-not_made : (before after : Sources K) (ending : Ending) → IsNotNew (seen before.new) (seen after.new) ending → AreSourcesNotRead seen before after ending
  new-not_made before after endings.StoreNotNew why = why
  new-not_made before after endings.Device why = inl why
  new-not_made before after endings.Memory why = tt
  new-not_made before after ending why = absurd why

  -- why no orchestrator's record was read
  pub orchestrator-not_read : (before after : Sources K) (ending : Ending) → IsNotRead orchestrator_records (seen before.orchestrator) (seen after.orchestrator) 1 ending → AreSourcesNotRead seen before after ending
  orchestrator-not_read before after (endings.StoreFault place store) why = inl why
  orchestrator-not_read before after endings.Device why = inr (inl why)
  orchestrator-not_read before after endings.Memory why = tt
  orchestrator-not_read before after ending why = absurd why

  -- why no record of a node was
  pub source-not_read : (before after : Sources K) (ending : Ending) → IsOneNotRead seen before.nodes after.nodes ending → AreSourcesNotRead seen before after ending
  source-not_read before after ending one = by ending one.why
    where
      by : (e : Ending) → IsNotRead any_node_records (seen one.old) (seen one.now) (one.index + 2) e → AreSourcesNotRead seen before after e
      by (endings.StoreFault place store) why = inr (one.index, one.old, one.now, why.0, one.there, one.now_there, why.1)
      by endings.Device why = inr (inr (one.index, one.old, one.now, one.there, one.now_there, why))
      by endings.Memory why = tt
      by e why = absurd why

  -- all were read
  pub sources-read : (before after : Sources K) (kept : OrchestratorRecord) (kepts : List NodeParts) (renewals : List (List StoredChange)) → HasReadRecord orchestrator_records (seen before.orchestrator) (seen after.orchestrator) kept
      → HaveRead seen before.nodes after.nodes kepts renewals → AreSourcesRead seen before after kept kepts
  sources-read before after kept kepts renewals orchestrator nodes =
      let node : ReadStore K → NodeStore K = λ s. record { before = s.before; after = s.after; kept = s.kept; fate = Stays } in
      record {
        orchestrator = orchestrator.each;
        nodes = map node nodes.stores;
        before_are = map-twice (λ (n : NodeStore K). n.before) node (λ (s : ReadStore K). s.before) nodes.stores (λ s. refl) ∙ nodes.olds_are;
        after_are = map-twice (λ (n : NodeStore K). n.after) node (λ (s : ReadStore K). s.after) nodes.stores (λ s. refl) ∙ nodes.news_are;
        kept_are = map-twice (λ (n : NodeStore K). n.kept) node (λ (s : ReadStore K). s.kept) nodes.stores (λ s. refl) ∙ nodes.kepts_are;
        each = each-map (λ (s : ReadStore K). HasRead any_node_records (seen s.before) (seen s.after) s.kept s.renewal) _ node nodes.stores
            (λ s was honest content holds. let read = (was.each honest content holds).0 in record { version = read.version; is = read.was }) nodes.each;
      }

  -- what was read and made, and what the new store was given
  pub rebuilding-begun : (next_id : ℕ) (before mid : Sources K) (new : K) (changes : List StoredChange) (text : List ℕ) → IsRebuildingReady seen next_id before mid changes text → (fate : Fate) → IsGiven fate (seen mid.new) (seen new) changes → (had has : Writer) (ending : Ending)
      → ((kept : OrchestratorRecord) (made : RecordParts) → IsRebuildingText kept made text → IsRebuildingEnd ending fate had has kept made)
      → IsRebuildingBegun seen next_id before (record { new = new; orchestrator = mid.orchestrator; nodes = mid.nodes }) had has ending
  rebuilding-begun next_id before mid new changes text ready fate given had has ending ends =
      let plan = ready.planned in
      record {
        orchestrators = ready.orchestrators;
        given = ready.given;
        made = plan.made;
        is_made = plan.is_made;
        read = record { orchestrator = ready.read.orchestrator; nodes = ready.read.nodes; before_are = ready.read.before_are; after_are = ready.read.after_are; kept_are = ready.read.kept_are; each = ready.read.each };
        kept = record { orchestrator = ready.kept.orchestrator; nodes = ready.kept.nodes };
        fate = fate;
        new_honest = λ h. ready.new_unchanged.honest (given.honest h);
        new_store = new-given (seen before.new) (seen mid.new) (seen new) (controller_records.parts_of plan.made) changes fate ready.new plan.of_new plan.makes given;
        ends = ends ready.orchestrators plan.made plan.told;
      }

-- ---- refusals

-- where nothing is made of the orchestrator's record
pub not-rebuilt : (next_id : ℕ) (kept : OrchestratorRecord) (given : List NodeParts) (fault : RebuildingFault) → IsRebuildingRefusal next_id kept fault → (ending : Ending) → EndsRebuilding fault ending → IsNoRebuilding next_id kept given ending
not-rebuilt next_id kept given NumbersSpent why ending ends = subst (IsNoRebuilding next_id kept given) (sym ends) why
not-rebuilt next_id kept given (IdTaken place) why ending ends = subst (IsNoRebuilding next_id kept given) (sym ends) (place, why)
not-rebuilt next_id kept given (BadRow place) why ending ends = subst (IsNoRebuilding next_id kept given) (sym ends.1) (refl, (place, why))
not-rebuilt next_id kept given NoMemory why ending ends = subst (IsNoRebuilding next_id kept given) (sym ends) tt

-- a place among the nodes
placed : (given : List NodeParts) (gs : List GivenNode) → AreGiven given gs → (place : ℕ) → place ≤ length gs → min place (length given) + 1 ≡ place + 1
placed given gs are place to = let many = as-many given gs are in omega (arith, to, many)

-- where the nodes don't go with it
pub not-like : (next_id : ℕ) (kept : OrchestratorRecord) (given : List NodeParts) (made : RecordParts) → IsRebuiltOf (kept.session + 1) next_id kept.rows made → (fault : RecoveryFault) → AreUnlike made given (λ state gs. IsUnlike state gs fault)
    → (ending : Ending) → EndsUnlike (length given) fault ending → IsNoRebuilding next_id kept given ending
not-like next_id kept given made is (recovery.SameNode place) why ending ends =
    subst (IsNoRebuilding next_id kept given) (sym ends) (made, is, λ state gs own are. (place, placed given gs are place (why state gs own are).to, inl (why state gs own are)))
not-like next_id kept given made is recovery.NotLater why ending ends = subst (IsNoRebuilding next_id kept given) (sym ends) (made, is, why)
not-like next_id kept given made is (recovery.Disagrees place) why ending ends =
    subst (IsNoRebuilding next_id kept given) (sym ends) (made, is, λ state gs own are. (place, placed given gs are place (why state gs own are).2.to, inr (why state gs own are)))
not-like next_id kept given made is recovery.BadNodes why ending ends = subst (IsNoRebuilding next_id kept given) (sym ends) tt
not-like next_id kept given made is (recovery.BadRow place) why ending ends = subst (IsNoRebuilding next_id kept given) (sym ends) tt
not-like next_id kept given made is recovery.NoMemory why ending ends = subst (IsNoRebuilding next_id kept given) (sym ends) tt

-- ---- how it ends

-- where the new store refused
pub rebuilding-refused : (fault : KeepFault) → IsCommitEnd fault → (had : Writer) (kept : OrchestratorRecord) (made : RecordParts) → IsRebuildingEnd (ending_of_store fault) MayChange had had kept made
rebuilding-refused faults.Device end had kept made = inl (tt, refl)
rebuilding-refused faults.NoMemory end had kept made = (tt, refl)
rebuilding-refused (faults.BadRecord place) end had kept made = absurd end
rebuilding-refused faults.Full end had kept made = inl (tt, refl)
