-- What was read, what was made of it, and what the stores were given, together.
use Rattle.std.proofs.Common.{◌≡◌, ◌∙◌, ◌<◌, ◌+◌, refl, sym, ap, subst, inl, inr, ℕ, suc, List, [], ◌∷◌, ◌++◌, length, map, arith}
use Rattle.std.specs.List.{AllByRecursion, AllZip}
use Rattle.std.proofs.lemmas.List.{append-nil, length-map}
use Rattle.csi_types.proofs.Each.{each-map}
use Rattle.csi_types.proofs.Maps.{map-twice}
use Rattle.csi_controller.specs.Public.Views.{RecordParts}
use Rattle.csi_node.specs.Model.Record.{NodeParts}
use Rattle.csi_orchestrator.specs.Model.Shown.{RowShown}
use Rattle.csi_orchestrator.specs.Public.Record.{RecordParts as OrchestratorRecord}
use Rattle.csi_stores.specs.declared.keep.KeepFault.{KeepFault}
use Rattle.csi_stores.specs.declared.keep.KeepFault.TheVariants as faults
use Rattle.csi_stores.specs.Public.Content.{all_changed, AreRisingParts}
use Rattle.csi_stores.specs.Public.Part.{StoredPart, StoredChange, put_all}
use Rattle.csi_stores.specs.Public.Stores.{Store}
use Rattle.csi_records.specs.Public.OrchestratorRecords.{kept_parts, keyed_from}
use Rattle.csi_records.specs.Public.OrchestratorSpelling.{orchestrator_part}
use Rattle.csi_records.specs.Public.Spelling.{present}
use Rattle.csi_service.specs.Public.Opening.{Records, controller_records}
use Rattle.csi_service.specs.Public.Renewed.{any_node_records}
use Rattle.csi_service.proofs.RenewedParts.{all-renewed}
use Rattle.csi_streams.specs.declared.ending.Ending.{Ending}
use Rattle.csi_streams.specs.declared.ending.Ending.TheVariants as endings
use Rattle.csi_plugins.specs.Public.Ending.{ending_of_store}
use Rattle.csi_plugins.specs.Public.Recording.{Writer}
use Rattle.csi_plugins.specs.Public.Recovering.{Fate, IsLeft, IsUnchanged, IsRaisedBy, IsRaisedNode, IsRaisedController, NodeStore, Stores, IsRecovered, AreRead, AreNotRead, AreInTurn, IsRecoveryEnd, IsBegun}
use Rattle.csi_plugins.specs.Public.Recovering.Fate.{Stays}
use Rattle.csi_plugins.specs.Private.Recovering.{HasRead, ReadStore, HaveRead, IsNotRead, IsOneNotRead, LeadsOn, MadeChanges, GivenStore, IsGiven, IsNew, IsNotNew, IsToldSo, AreAllGiven, IsReady, IsCommitEnd}
use Rattle.csi_plugins.proofs.GivenStores.{unchanged-same}

-- ---- one store

-- read, and given what leads on
pub raised-by : {X : Type 0} (records : Records X) (Raised : X → List StoredPart → Type 0) (before read after : Store) (kept : X) (renewal changes : List StoredChange) (fate : Fate) → HasRead records before read kept renewal → LeadsOn records Raised kept renewal changes
    → IsGiven fate read after changes → IsRaisedBy records Raised fate before after kept
raised-by records Raised before read after kept renewal changes fate was leads given = record {
  honest = λ h. was.unchanged.honest (given.honest h);
  each = λ h old holds.
      let found = was.each (given.honest h) old holds in (
        record { version = found.0.version; is = found.0.was },
        (all_changed changes old, leads old found.0.leads, given.left h old found.1),
      );
}

-- a new store that is given parts
pub new-given : (before read after : Store) (parts : List StoredPart) (changes : List StoredChange) (fate : Fate) → IsNew before read → changes ≡ put_all parts → all_changed (put_all parts) [] ≡ parts → IsGiven fate read after changes
    → after.honest → (content : List StoredPart) → before.holds content → (content ≡ []) × IsLeft fate after [] parts
new-given before read after parts changes fate new is makes given h content holds =
    let found = new (given.honest h) content holds in (
      found.0,
      subst (IsLeft fate after []) (ap (λ (cs : List StoredChange). all_changed cs []) is ∙ makes) (given.left h [] found.1),
    )

-- the parts of an orchestrator's record stand by rising key
keyed-above : (low key : ℕ) (rows : List RowShown) → low < key → AllByRecursion (λ (part : StoredPart). low < part.key) (map (orchestrator_part present) (keyed_from key rows))
keyed-above low key [] less = tt
keyed-above low key (row ∷ rows) less = (less, keyed-above low (suc key) rows (omega (arith, less)))

keyed-rising : (key : ℕ) (rows : List RowShown) → AreRisingParts (map (orchestrator_part present) (keyed_from key rows))
keyed-rising key [] = tt
keyed-rising key (row ∷ rows) = (keyed-above key (suc key) rows (omega arith), keyed-rising (suc key) rows)

-- put into an empty store, they are there
pub put-parts : (made : OrchestratorRecord) → all_changed (put_all (kept_parts made)) [] ≡ kept_parts made
put-parts made =
    ap (λ (cs : List StoredChange). all_changed cs []) (sym (append-nil (put_all (kept_parts made))))
    ∙ all-renewed [] (kept_parts made) tt (keyed-above 0 1 made.rows (omega arith), keyed-rising 1 made.rows)

-- ---- the nodes' stores

-- the same lists begin alike and go on alike
head-same : {A : Type 0} (a b : A) (xs ys : List A) → a ∷ xs ≡ b ∷ ys → a ≡ b
head-same {A} a b xs ys is = ap first is
  where
    first : List A → A
    first [] = a
    first (z ∷ zs) = z

tail-same : {A : Type 0} (a b : A) (xs ys : List A) → a ∷ xs ≡ b ∷ ys → xs ≡ ys
tail-same {A} a b xs ys is = ap rest is
  where
    rest : List A → List A
    rest [] = []
    rest (z ∷ zs) = zs

module _ {K : Type 0} (seen : K → Store) (session : ℕ) where
  -- what is said of the nodes' stores
  pub record AreJoined (reads : List (ReadStore K)) (givens : List (GivenStore K)) : Type 0 where
    pub stores : List (NodeStore K)
    pub before_are : map (λ (s : NodeStore K). s.before) stores ≡ map (λ (s : ReadStore K). s.before) reads
    pub after_are : map (λ (s : NodeStore K). s.after) stores ≡ map (λ (s : GivenStore K). s.after) givens
    pub kept_are : map (λ (s : NodeStore K). s.kept) stores ≡ map (λ (s : ReadStore K). s.kept) reads
    pub fates_are : map (λ (s : NodeStore K). s.fate) stores ≡ map (λ (s : GivenStore K). s.fate) givens
    pub each : AllByRecursion (λ (s : NodeStore K). IsRaisedBy any_node_records (IsRaisedNode session) s.fate (seen s.before) (seen s.after) s.kept) stores

  -- they are joined one by one
  pub joined : (reads : List (ReadStore K)) (made : List MadeChanges) (givens : List (GivenStore K))
      → map (λ (s : ReadStore K). s.after) reads ≡ map (λ (s : GivenStore K). s.before) givens
      → map (λ (s : ReadStore K). s.kept) reads ≡ map (λ (m : MadeChanges). m.kept) made
      → map (λ (s : ReadStore K). s.renewal) reads ≡ map (λ (m : MadeChanges). m.renewal) made
      → map (λ (m : MadeChanges). m.changes) made ≡ map (λ (s : GivenStore K). s.changes) givens
      → AllByRecursion (λ (s : ReadStore K). HasRead any_node_records (seen s.before) (seen s.after) s.kept s.renewal) reads
      → AllByRecursion (λ (m : MadeChanges). LeadsOn any_node_records (IsRaisedNode session) m.kept m.renewal m.changes) made
      → AllByRecursion (λ (s : GivenStore K). IsGiven s.fate (seen s.before) (seen s.after) s.changes) givens
      → AreJoined reads givens
  joined [] [] [] mids kepts renewals changes was leads given = record { stores = []; before_are = refl; after_are = refl; kept_are = refl; fates_are = refl; each = tt }
  joined [] [] (g ∷ gs) mids kepts renewals changes was leads given = cc
  joined [] (m ∷ ms) givens mids kepts renewals changes was leads given = cc
  joined (r ∷ rs) [] givens mids kepts renewals changes was leads given = cc
  joined (r ∷ rs) (m ∷ ms) [] mids kepts renewals changes was leads given = cc
  joined (r ∷ rs) (m ∷ ms) (g ∷ gs) mids kepts renewals changes was leads given =
      let more = joined rs ms gs (tail-same r.after g.before _ _ mids) (tail-same r.kept m.kept _ _ kepts) (tail-same r.renewal m.renewal _ _ renewals) (tail-same m.changes g.changes _ _ changes) was.1 leads.1 given.1 in
      let mid : r.after ≡ g.before = head-same r.after g.before _ _ mids in
      let kept : r.kept ≡ m.kept = head-same r.kept m.kept _ _ kepts in
      let renewal : r.renewal ≡ m.renewal = head-same r.renewal m.renewal _ _ renewals in
      let change : m.changes ≡ g.changes = head-same m.changes g.changes _ _ changes in
      let own : LeadsOn any_node_records (IsRaisedNode session) r.kept r.renewal g.changes = leading m.kept r.kept m.renewal r.renewal m.changes g.changes (sym kept) (sym renewal) change leads.0 in
      let read : HasRead any_node_records (seen r.before) (seen g.before) r.kept r.renewal = subst (λ (k : K). HasRead any_node_records (seen r.before) (seen k) r.kept r.renewal) mid was.0 in
      record {
        stores = record { before = r.before; after = g.after; kept = r.kept; fate = g.fate } ∷ more.stores;
        before_are = ap (λ (ks : List K). r.before ∷ ks) more.before_are;
        after_are = ap (λ (ks : List K). g.after ∷ ks) more.after_are;
        kept_are = ap (λ (ks : List NodeParts). r.kept ∷ ks) more.kept_are;
        fates_are = ap (λ (fs : List Fate). g.fate ∷ fs) more.fates_are;
        each = (raised-by any_node_records (IsRaisedNode session) (seen r.before) (seen g.before) (seen g.after) r.kept r.renewal g.changes g.fate read own given.0, more.each);
      }
    where
      leading : (k l : NodeParts) (x y c d : List StoredChange) → k ≡ l → x ≡ y → c ≡ d → LeadsOn any_node_records (IsRaisedNode session) k x c → LeadsOn any_node_records (IsRaisedNode session) l y d
      leading k l x y c d a b e h =
          subst (λ (z : List StoredChange). LeadsOn any_node_records (IsRaisedNode session) l y z) e (subst (λ (z : List StoredChange). LeadsOn any_node_records (IsRaisedNode session) l z c) b (subst (λ (z : NodeParts). LeadsOn any_node_records (IsRaisedNode session) z x c) a h))

-- ---- nothing is done

module _ {K : Type 0} (seen : K → Store) where
  -- stores that aren't called
  pub all-same : (ks : List K) → AllZip (λ (old now : K). IsUnchanged (seen old) (seen now)) ks ks
  all-same [] = tt
  all-same (k ∷ ks) = (unchanged-same (seen k), all-same ks)

  -- why the new one isn't new
  pub new-not_read : (before after : Stores K) (ending : Ending) → IsNotNew (seen before.new) (seen after.new) ending → AreNotRead seen before after ending
  new-not_read before after endings.StoreNotNew why = why
  new-not_read before after endings.Device why = inl why
  new-not_read before after endings.Memory why = tt
  new-not_read before after ending why = absurd why

  -- why no controller's record was read
  pub controller-not_read : (before after : Stores K) (ending : Ending) → IsNotRead controller_records (seen before.controller) (seen after.controller) 1 ending → AreNotRead seen before after ending
  controller-not_read before after (endings.StoreFault place store) why = inl why
  controller-not_read before after endings.Device why = inr (inl why)
  controller-not_read before after endings.Memory why = tt
  controller-not_read before after ending why = absurd why

  -- why no record of a node was
  pub node-not_read : (before after : Stores K) (ending : Ending) → IsOneNotRead seen before.nodes after.nodes ending → AreNotRead seen before after ending
  node-not_read before after ending one = by ending one.why
    where
      by : (e : Ending) → IsNotRead any_node_records (seen one.old) (seen one.now) (one.index + 2) e → AreNotRead seen before after e
      by (endings.StoreFault place store) why = inr (one.index, one.old, one.now, why.0, one.there, one.now_there, why.1)
      by endings.Device why = inr (inr (one.index, one.old, one.now, one.there, one.now_there, why))
      by endings.Memory why = tt
      by e why = absurd why

  -- all were read
  pub are-read : (before after : Stores K) (kept : RecordParts) (renewal : List StoredChange) (kepts : List NodeParts) (renewals : List (List StoredChange)) → HasRead controller_records (seen before.controller) (seen after.controller) kept renewal
      → HaveRead seen before.nodes after.nodes kepts renewals → AreRead seen before after kept kepts
  are-read before after kept renewal kepts renewals controller nodes =
      let node : ReadStore K → NodeStore K = λ s. record { before = s.before; after = s.after; kept = s.kept; fate = Stays } in
      record {
        controller = λ honest content holds. let read = (controller.each honest content holds).0 in record { version = read.version; is = read.was };
        nodes = map node nodes.stores;
        before_are = map-twice (λ (n : NodeStore K). n.before) node (λ (s : ReadStore K). s.before) nodes.stores (λ s. refl) ∙ nodes.olds_are;
        after_are = map-twice (λ (n : NodeStore K). n.after) node (λ (s : ReadStore K). s.after) nodes.stores (λ s. refl) ∙ nodes.news_are;
        kept_are = map-twice (λ (n : NodeStore K). n.kept) node (λ (s : ReadStore K). s.kept) nodes.stores (λ s. refl) ∙ nodes.kepts_are;
        each = each-map (λ (s : ReadStore K). HasRead any_node_records (seen s.before) (seen s.after) s.kept s.renewal) _ node nodes.stores
            (λ s was honest content holds. let read = (was.each honest content holds).0 in record { version = read.version; is = read.was }) nodes.each;
      }

  -- ---- all of it

  -- what was read, made and given
  pub begun : (nodes : List (List ℕ)) (known : ℕ) (before mid after : Stores K) (node_changes : List (List StoredChange)) (controller_changes new_changes : List StoredChange) (line : List ℕ) (Fates : List Fate → Type 0)
      → IsReady seen nodes known before mid node_changes controller_changes new_changes line → AreAllGiven seen mid after node_changes controller_changes new_changes Fates → (had has : Writer) (ending : Ending)
      → ((fates : List Fate) (ids : List (List ℕ)) (made : OrchestratorRecord) → Fates fates → IsToldSo ids made line → IsRecoveryEnd ending fates had has ids made) → IsBegun seen nodes known before after had has ending
  begun nodes known before mid after node_changes controller_changes new_changes line Fates ready given had has ending ends =
      let plan = ready.planned in
      let read = ready.of_nodes in
      let made = plan.of_nodes in
      let all = joined seen plan.session read.stores made.made given.stores (read.news_are ∙ sym given.olds_are) (read.kepts_are ∙ sym made.kepts_are) (read.renewals_are ∙ sym made.renewals_are) (made.changes_are ∙ sym given.changes_are) read.each made.each given.each in
      let kepts : map (λ (s : NodeStore K). s.kept) all.stores ≡ ready.kepts = all.kept_are ∙ read.kepts_are in
      let ids : map (λ (k : NodeParts). k.id) ready.kepts ≡ map (λ (s : NodeStore K). s.kept.id) all.stores = ap (map (λ (k : NodeParts). k.id)) (sym kepts) ∙ map-twice (λ (k : NodeParts). k.id) (λ (s : NodeStore K). s.kept) (λ (s : NodeStore K). s.kept.id) all.stores (λ s. refl) in
      record {
        session = plan.session;
        kept = ready.kept;
        given = all.stores;
        made = plan.made;
        is_made = subst (λ (ks : List NodeParts). IsRecovered nodes known plan.session ready.kept ks plan.made) (sym kepts) plan.is_made;
        before_are = all.before_are ∙ read.olds_are;
        after_are = all.after_are ∙ given.news_are;
        each = all.each;
        controller_fate = given.controller_fate;
        controller = raised-by controller_records (IsRaisedController plan.session) (seen before.controller) (seen mid.controller) (seen after.controller) ready.kept ready.renewal controller_changes given.controller_fate ready.controller plan.of_controller given.controller;
        new_fate = given.new_fate;
        new_honest = λ h. ready.new_unchanged.honest (given.new.honest h);
        new_store = new-given (seen before.new) (seen mid.new) (seen after.new) (kept_parts plan.made) new_changes given.new_fate ready.new plan.of_new (put-parts plan.made) given.new;
        ends =
            ends (map (λ (s : NodeStore K). s.fate) all.stores ++ given.controller_fate ∷ given.new_fate ∷ []) (map (λ (s : NodeStore K). s.kept.id) all.stores) plan.made
            (subst (λ (fs : List Fate). Fates (fs ++ given.controller_fate ∷ given.new_fate ∷ [])) (sym all.fates_are) given.fates) (subst (λ (is : List (List ℕ)). IsToldSo is plan.made line) ids plan.told);
      }

  -- there are as many renewals as records, and as many changes as stores
  pub read-many : (olds news : List K) (kepts : List NodeParts) (renewals : List (List StoredChange)) → HaveRead seen olds news kepts renewals → length renewals ≡ length kepts
  read-many olds news kepts renewals read =
      let a = length-map read.stores (λ (s : ReadStore K). s.kept) in
      let b = length-map read.stores (λ (s : ReadStore K). s.renewal) in
      let p = ap length read.kepts_are in
      let q = ap length read.renewals_are in
      omega (arith, a, b, p, q)

  pub plan-many : (nodes : List (List ℕ)) (known : ℕ) (before mid : Stores K) (node_changes : List (List StoredChange)) (controller_changes new_changes : List StoredChange) (line : List ℕ) → IsReady seen nodes known before mid node_changes controller_changes new_changes line
      → length node_changes ≡ length mid.nodes
  plan-many nodes known before mid node_changes controller_changes new_changes line ready =
      let read = ready.of_nodes in
      let made = ready.planned.of_nodes in
      let a = length-map read.stores (λ (s : ReadStore K). s.kept) in
      let b = length-map read.stores (λ (s : ReadStore K). s.after) in
      let d = length-map made.made (λ (m : MadeChanges). m.kept) in
      let e = length-map made.made (λ (m : MadeChanges). m.changes) in
      let p = ap length read.kepts_are in
      let q = ap length read.news_are in
      let r = ap length made.kepts_are in
      let t = ap length made.changes_are in
      omega (arith, a, b, d, e, p, q, r, t)

-- ---- how it ends

-- where a store refused
pub ends-refused : (fault : KeepFault) → IsCommitEnd fault → (fates : List Fate) (had : Writer) (ids : List (List ℕ)) (made : OrchestratorRecord) → AreInTurn fates → IsRecoveryEnd (ending_of_store fault) fates had had ids made
ends-refused faults.Device end fates had ids made turn = inl (turn, refl)
ends-refused faults.NoMemory end fates had ids made turn = (turn, refl)
ends-refused (faults.BadRecord place) end fates had ids made turn = absurd end
ends-refused faults.Full end fates had ids made turn = inl (turn, refl)
