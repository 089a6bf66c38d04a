-- What is there after a recovery is told by the orchestrator's history: of each thing that is there a call was sent.
use Rattle.csi_world.proofs.Words.{arith}
use Rattle.std.proofs.Common.{◌≡◌, ℕ, List, [], ◌∷◌, map, find, Bool, true, false, cond, Option, Some, None, option_map, is_some, ◌==◌, ◌&&◌, refl, sym, ◌∙◌, ap, subst, inl}
use Rattle.std.proofs.lemmas.Bool.{and_parts, eqb-true, eq-eqb, false≢true}
use Rattle.std.proofs.lemmas.Option.{none-some}
use Rattle.csi_types.specs.Model.Members.{IsAmong}
use Rattle.csi_types.proofs.Members.{each_of, among-find, in_filter, in-map, some-found}
use Rattle.csi_types.proofs.Options.{some-from_map, none-where}
use Rattle.csi_types.proofs.Searches.{find-of_map, find-one, find-passes, find-same_among}
use Rattle.csi_types.proofs.Tests.{alike}
use Rattle.csi_types.specs.declared.capability.Capability.{Capability}
use Rattle.csi_types.specs.declared.holding.Holding.{Holding}
use Rattle.csi_types.specs.Model.Same.{same_text}
use Rattle.csi_types.specs.Public.PluginThing.{PluginThing, Exists, Attached, Staged, Published, ThingForm, HasId, AttachedAs, StagedAs}
use Rattle.csi_types.proofs.Equality.{same_text-tells}
use Rattle.csi_fence.specs.Public.Delivery.{PluginView}
use Rattle.csi_controller.specs.Model.State.{Volume, live_volume, holdings_of, is_held_at, holding_at}
use Rattle.csi_controller.specs.Model.Fenced as controllers
use Rattle.csi_controller.specs.Public.View.{live_named}
use Rattle.csi_controller.proofs.OrderlyStates.{begun_orderly}
use Rattle.csi_node.specs.Model.State.{NodeState, StagedVolume, PublishedVolume, staged_of, published_of, is_published_at, published_at}
use Rattle.csi_node.specs.Model.Fenced as node_fence
use Rattle.csi_node.specs.Public.Safe.{IsPublishedRight}
use Rattle.csi_node.specs.Public.View as node_views
use Rattle.csi_orchestrator.specs.declared.row.TargetEntry.{TargetEntry}
use Rattle.csi_orchestrator.specs.declared.thing.Thing.{Thing}
use Rattle.csi_orchestrator.specs.declared.thing.Thing.TheVariants as things
use Rattle.csi_orchestrator.specs.declared.thing.Known.TheVariants.{Yes, No}
use Rattle.csi_orchestrator.specs.Model.Thing.{Issued, name_in, touches}
use Rattle.csi_orchestrator.specs.Model.History.{Item}
use Rattle.csi_orchestrator.specs.Model.Readings as readings
use Rattle.csi_orchestrator.specs.Model.Readings.{issued_in, known_by, known}
use Rattle.csi_orchestrator.specs.Model.Shown.{NodeEntryShown, RowShown, row_of, node_entry_of, mark_in, mark_of, publication_known}
use Rattle.csi_orchestrator.specs.Public.Restored.{IsRestorable}
use Rattle.csi_world.specs.Model.World.{node_state}
use Rattle.csi_recovery.specs.Public.Recovered.{given_state, target_of, entry_by, entry_at, entry_of, recovered_row, recovered_rows}
use Rattle.csi_world.proofs.WorldView.{node_view, over_at}
use Rattle.csi_world.proofs.GivenIds.{HasNow, HasName}
use Rattle.csi_world.proofs.CallThings.{IsOwn, IsOne, Existence, Attachment, Staging, Publication, is_of}
use Rattle.csi_world.proofs.Lifetimes.{latest, calls_for, calls_since, calls_before, over_in, ends}
use Rattle.csi_world.proofs.NamedCalls.{for-weaker, of-then-touches, touches-then-of}
use Rattle.csi_world.proofs.KnownThings.{one-named}
use Rattle.csi_world.proofs.PluginSafety.{staged_there}
use Rattle.csi_world.proofs.PluginsReached.{IsNodeOfFrames}
use Rattle.csi_recovery.proofs.CallsTold.{IsPlain, plain-since, plain-from, plain-ends, plain-over}
use Rattle.csi_recovery.proofs.RecoveredRows.{two-same, text-self, entry-is}
use Rattle.csi_recovery.proofs.RecoveredPlugins.{Recovery, laws, old, right, nodes, session, may, controller, gs, live, orderly, plugin, safe, fitted, trail, issued, history, shows, next, ids, are-given, told, node-next, given-there, volume-ids, call-now, at-node, published_as}

-- no such item ends a thing by its name
plain-kept : (thing : Thing) (item : Item) → IsPlain item → readings.ends thing item ≡ false
plain-kept thing item plain = grind arith

-- ---- entries

-- what a node has staged isn't known not to be so
staged-not : (h : Holding) (capability : Capability) (ps : List PublishedVolume) → (entry_by h (Some capability) ps).staged ≡ No → ⊥
staged-not h capability [] e = cc
staged-not h capability (p ∷ ps) e = cc

-- what it has published is known to be so
published-marks : (h : Holding) (capability : Capability) (ps : List PublishedVolume) (p : PublishedVolume) → IsAmong p ps → publication_known p.target (entry_by h (Some capability) ps) ≡ Yes
published-marks h capability [] p among = absurd among
published-marks h capability (q ∷ qs) p among =
    let found = some-found (λ (x : PublishedVolume). same_text x.target p.target) (q ∷ qs) p among (text-self p.target) in
    ap (mark_in (λ (t : TargetEntry). t.published)) (find-of_map (λ (t : TargetEntry). same_text t.target p.target) target_of (q ∷ qs) ∙ ap (option_map target_of) found.1)

module _ (r : Recovery) where
  -- ---- what the history tells

  -- all calls came since any loss, by a name
  pub issued-for : (thing : Thing) → calls_for thing (history r).items ≡ issued r
  issued-for thing = ap issued_in (plain-since (readings.ends thing) (plain-kept thing) ((fitted r).history).items (trail r).plain)

  -- and by an id
  pub issued-since : (k : PluginThing) → calls_since k (history r).items ≡ issued r
  issued-since k = ap issued_in (plain-since (ends k) (plain-ends k) ((fitted r).history).items (trail r).plain)

  -- none came before
  pub issued-before : (k : PluginThing) → calls_before k (history r).items ≡ []
  issued-before k = ap issued_in (plain-from (ends k) (plain-ends k) ((fitted r).history).items (trail r).plain)

  -- nothing ended
  pub never-over : (k : PluginThing) → over_in (history r).began (history r).items k ≡ 0
  never-over k = plain-over ((fitted r).history).began k ((fitted r).history).items (trail r).plain

  -- each call is for its name's volume
  pub own : (call : Issued) → IsAmong call (issued r) → IsOwn (ids r) call.name call.party call.call
  own call among = for-weaker (HasNow (ids r)) (HasName (ids r)) call.name (λ id has. inl has) call.party call.call (call-now r call among)

  -- the calls of a thing by its name are those by its id
  pub thing-alike : (thing : Thing) (k : PluginThing) → IsOne (ids r) thing k → (x : Issued) → IsAmong x (issued r) → touches thing x ≡ is_of k x
  thing-alike thing k one x among =
      alike (touches thing x) (is_of k x) (λ t. touches-then-of (ids r) thing k x (are-given r) one (call-now r x among) t) (λ o. of-then-touches (ids r) thing k x (are-given r) (one-named (ids r) thing k one) (own x among) o)

  -- of a thing that is known to be so, or may be, a call was sent
  pub record HasLatest (thing : Thing) (k : PluginThing) : Type 0 where
    pub call : Issued
    pub by_id : latest (history r).items k ≡ Some call
    pub by_name : find (touches thing) (calls_for thing (history r).items) ≡ Some call

  -- where a thing isn't known not to be so, it has such a call
  pub known-latest : (thing : Thing) (k : PluginThing) → IsOne (ids r) thing k → (known (history r) thing ≡ No → ⊥) → HasLatest thing k
  known-latest thing k one maybe = by (find (touches thing) (calls_for thing (history r).items)) refl
    where
      by : (o : Option Issued) → find (touches thing) (calls_for thing (history r).items) ≡ o → HasLatest thing k
      by None e = absurd (maybe (ap (known_by (history r).items thing) e))
      by (Some call) e =
          record {
            call = call;
            by_id = ap (find (is_of k)) (issued-since k) ∙ sym (find-same_among (touches thing) (is_of k) (issued r) (thing-alike thing k one)) ∙ sym (ap (find (touches thing)) (issued-for thing)) ∙ e;
            by_name = e;
          }

  -- ---- the rows

  -- a live volume has its row
  pub row-found : (v : Volume) → IsAmong v (live r) → row_of (recovered_rows (controller r) (gs r)) v.name ≡ Some (recovered_row (controller r) (gs r) v)
  row-found v there =
      find-of_map (λ (r : RowShown). same_text r.name v.name) (recovered_row (controller r) (gs r)) (live r) ∙ ap (option_map (recovered_row (controller r) (gs r))) (begun_orderly (session r) (controller r) (orderly r) v there).by_name

  -- which tells what the history does
  pub mark-is : (thing : Thing) (v : Volume) → IsAmong v (live r) → name_in thing ≡ v.name → known (history r) thing ≡ mark_of thing (recovered_row (controller r) (gs r) v)
  mark-is thing v there is = sym ((shows r).same_marks thing) ∙ ap (λ n. mark_in (mark_of thing) (row_of (recovered_rows (controller r) (gs r)) n)) is ∙ ap (mark_in (mark_of thing)) (row-found v there)

  -- a holding has its entry
  pub entry-found : (v : Volume) → IsAmong v (live r) → (h : Holding) → IsAmong h (controller r).holdings → h.volume ≡ v.id → node_entry_of (recovered_row (controller r) (gs r) v) h.node ≡ Some (entry_of (gs r) h)
  entry-found v there h among is =
      let entries : List NodeEntryShown = map (entry_of (gs r)) (holdings_of v.id (controller r)) in
      let kept = each_of (IsRestorable (nodes r)) (recovered_rows (controller r) (gs r)) (recovered_row (controller r) (gs r) v) (may r).rows.each (in-map (recovered_row (controller r) (gs r)) (live r) v there) in
      let mine : IsAmong (entry_of (gs r) h) entries = in-map (entry_of (gs r)) (holdings_of v.id (controller r)) h (in_filter (λ (g : Holding). g.volume == v.id) (controller r).holdings h among (eq-eqb h.volume v.id is)) in
      let node = (entry-is (controller r) (gs r) (orderly r) (plugin r).exclusive h).node in
      find-one (λ (e : NodeEntryShown). same_text e.node h.node) entries (entry_of (gs r) h) mine (ap (λ n. same_text n h.node) node ∙ text-self h.node) (λ e here same.
      two-same (λ (a b : NodeEntryShown). same_text a.node b.node ≡ false) entries e (entry_of (gs r) h) kept.sound.nodes here mine (λ f. false≢true (sym f ∙ ap (same_text e.node) node ∙ same))
      (λ f. false≢true (sym f ∙ ap (λ n. same_text n e.node) node ∙ ap (same_text h.node) ((same_text-tells e.node h.node).0 same) ∙ text-self h.node)))

  -- the live volume of a holding
  pub record HasVolume (h : Holding) : Type 0 where
    pub volume : Volume
    pub there : IsAmong volume (live r)
    pub is : h.volume ≡ volume.id

  -- it is of a live volume
  pub volume-of : (h : Holding) → IsAmong h (controller r).holdings → HasVolume h
  volume-of h among = by (live_volume h.volume (controller r)) refl ((plugin r).attached_while_live h among)
    where
      by : (o : Option Volume) → live_volume h.volume (controller r) ≡ o → is_some o ≡ true → HasVolume h
      by None e some = absurd (false≢true some)
      by (Some v) e some =
          let passes = and_parts (v.id == h.volume) v.is_live (find-passes (λ (u : Volume). (u.id == h.volume) && u.is_live) (controller r).volumes v e) in
          record {
            volume = v;
            there = in_filter (λ (u : Volume). u.is_live) (controller r).volumes v (among-find (λ (u : Volume). (u.id == h.volume) && u.is_live) (controller r).volumes v e) passes.1;
            is = sym (eqb-true v.id h.volume passes.0);
          }

  -- whose name has its id
  pub volume-is : (h : Holding) (has : HasVolume h) → HasNow (ids r) (has.volume).name h.volume
  volume-is h has = volume-ids r (has.volume).name h.volume (record { volume = has.volume; there = has.there; same_name = refl; same_id = sym has.is })

  -- what is held is known to be attached
  pub attached-known : (h : Holding) → IsAmong h (controller r).holdings → (has : HasVolume h) → known (history r) (things.Attached (has.volume).name h.node) ≡ Yes
  attached-known h among has =
      mark-is (things.Attached (has.volume).name h.node) has.volume has.there refl ∙ ap (mark_in (λ (e : NodeEntryShown). e.attached)) (entry-found has.volume has.there h among has.is)
      ∙ (entry-is (controller r) (gs r) (orderly r) (plugin r).exclusive h).attached

  -- what is known to be so isn't known not to be so
  pub yes-no : (thing : Thing) → known (history r) thing ≡ Yes → known (history r) thing ≡ No → ⊥
  yes-no thing so gone = clash (sym so ∙ gone)
    where
      clash : Yes ≡ No → ⊥
      clash e = cc

  -- the entry of what is staged at a node
  pub entry-so : (h : Holding) (state : NodeState) (capability : Capability) → given_state (gs r) h.node ≡ Some state → staged_of h.volume state ≡ Some capability
      → entry_of (gs r) h ≡ entry_by h (Some capability) (published_of h.volume state)
  entry-so h state capability is staged = ap (entry_at h) is ∙ ap (λ s. entry_by h s (published_of h.volume state)) staged

  -- what is staged isn't known not to be
  pub staged-known : (h : Holding) → IsAmong h (controller r).holdings → (has : HasVolume h) → (state : NodeState) (capability : Capability) → given_state (gs r) h.node ≡ Some state → staged_of h.volume state ≡ Some capability
      → known (history r) (things.Staged (has.volume).name h.node) ≡ No → ⊥
  staged-known h among has state capability is staged gone =
      staged-not h capability (published_of h.volume state)
      (ap (λ (e : NodeEntryShown). e.staged) (sym (entry-so h state capability is staged)) ∙ sym (ap (mark_in (λ (e : NodeEntryShown). e.staged)) (entry-found has.volume has.there h among has.is))
      ∙ sym (mark-is (things.Staged (has.volume).name h.node) has.volume has.there refl) ∙ gone)

  -- what is published is known to be
  pub published-known : (h : Holding) → IsAmong h (controller r).holdings → (has : HasVolume h) → (state : NodeState) (capability : Capability) → given_state (gs r) h.node ≡ Some state → staged_of h.volume state ≡ Some capability
      → (p : PublishedVolume) → IsAmong p (published_of h.volume state) → known (history r) (things.Published (has.volume).name h.node p.target) ≡ Yes
  published-known h among has state capability is staged p there =
      mark-is (things.Published (has.volume).name h.node p.target) has.volume has.there refl ∙ ap (mark_in (publication_known p.target)) (entry-found has.volume has.there h among has.is)
      ∙ ap (publication_known p.target) (entry-so h state capability is staged) ∙ published-marks h capability (published_of h.volume state) p there

  -- ---- what is staged is attached

  -- the volume is attached at the node so
  pub record IsHeldHere (id : ℕ) (node : List ℕ) (capability : Capability) : Type 0 where
    pub holding : Holding
    pub among : IsAmong holding (controller r).holdings
    pub of_volume : holding.volume ≡ id
    pub at_node : holding.node ≡ node
    pub same_capability : holding.capability ≡ capability

  -- so what is staged there is
  pub attached-staged : (node : List ℕ) (state : NodeState) (id : ℕ) (capability : Capability) → given_state (gs r) node ≡ Some state → staged_of id state ≡ Some capability → IsHeldHere id node capability
  attached-staged node state id capability is staged =
      let was = given-there r node state is in
      let attached = (safe r).staged_where_attached was.at (record { volume = id; capability = capability }) was.among (subst (λ (s : NodeState). IsAmong {X = StagedVolume} (record { volume = id; capability = capability }) s.staged) (sym was.same_state) (staged_there state id capability staged)) in
      record { holding = attached.holding; among = attached.is_held; of_volume = attached.of_volume; at_node = attached.at_node ∙ was.same_id; same_capability = attached.same_capability }

  -- where a node's thing is there, the node was given
  pub node-held : (node : List ℕ) (k : PluginThing) (way : ThingForm) → (node_view node (over_at (next r)) (node_state node (next r))).held k ≡ Some way
      → (state : NodeState) × (given_state (gs r) node ≡ Some state) × (node_views.held_on node state k ≡ Some way)
  node-held node k way h = by (given_state (gs r) node) refl
    where
      by : (o : Option NodeState) → given_state (gs r) node ≡ o → (state : NodeState) × (given_state (gs r) node ≡ Some state) × (node_views.held_on node state k ≡ Some way)
      by None e = absurd (none-some way (sym (ap (λ o. (node_view node (over_at (next r)) o).held k) (node-next r node ∙ ap (option_map (node_fence.begun (session r))) e)) ∙ h))
      by (Some state) e = (state, e, held k (sym (at-node r (λ (v : PluginView). v.held k) node state e) ∙ h))
        where
          held : (k : PluginThing) → node_views.held_on node (node_fence.begun (session r) state) k ≡ Some way → node_views.held_on node state k ≡ Some way
          held (Exists name) h = h
          held (Attached id there) h = h
          held (Staged id there) h = h
          held (Published id there target) h = h

  -- what is staged then was staged
  pub staged-here : (id : ℕ) (node : List ℕ) (way : ThingForm) → (told r).held (Staged id node) ≡ Some way
      → (state : NodeState) × (given_state (gs r) node ≡ Some state) × ((capability : Capability) × (staged_of id state ≡ Some capability) × (StagedAs capability ≡ way))
  staged-here id node way h =
      let there = node-held node (Staged id node) way h in
      let found = some-from_map StagedAs (staged_of id there.0) way (sym (ap (λ b. cond b (option_map StagedAs (staged_of id there.0)) None) (text-self node)) ∙ there.2) in
      (there.0, there.1, (found.0, found.1, found.2))

  -- what is published was
  pub published-here : (id : ℕ) (node target : List ℕ) (way : ThingForm) → (told r).held (Published id node target) ≡ Some way
      → (state : NodeState) × (given_state (gs r) node ≡ Some state) × ((p : PublishedVolume) × (published_at id target state ≡ Some p))
  published-here id node target way h =
      let there = node-held node (Published id node target) way h in
      let found = some-from_map (published_as r) (published_at id target there.0) way (sym (ap (λ b. cond b (option_map (published_as r) (published_at id target there.0)) None) (text-self node)) ∙ there.2) in
      (there.0, there.1, (found.0, found.1))

  -- ---- a thing without a call isn't there

  -- the call of a holding
  pub attached-latest : (h : Holding) → IsAmong h (controller r).holdings → (has : HasVolume h) → HasLatest (things.Attached (has.volume).name h.node) (Attached h.volume h.node)
  attached-latest h among has =
      known-latest (things.Attached (has.volume).name h.node) (Attached h.volume h.node) (Attachment (has.volume).name h.node h.volume (volume-is h has)) (yes-no (things.Attached (has.volume).name h.node) (attached-known h among has))

  -- a thing with such a call has a latest one
  pub no-latest : (thing : Thing) (k : PluginThing) → HasLatest thing k → latest (history r).items k ≡ None → ⊥
  no-latest thing k has none = none-some has.call (sym none ∙ has.by_id)

  -- so a thing without one isn't there
  pub untouched : (k : PluginThing) → latest (history r).items k ≡ None → (told r).held k ≡ None
  untouched k none = none-where ((told r).held k) (λ so h. by k so none h)
    where
      by : (k : PluginThing) (so : ThingForm) → latest (history r).items k ≡ None → (told r).held k ≡ Some so → ⊥
      by (Exists name) so none h =
          let found = some-from_map (λ (v : Volume). HasId v.id) (live_named name (controllers.begun (session r) (controller r))) so h in
          let v : Volume = found.0 in
          let test : Volume → Bool = λ u. same_text u.name name && u.is_live in
          let there : IsAmong v (live r) = among-find test (live r) v found.1 in
          let same : v.name ≡ name = (same_text-tells v.name name).0 (and_parts (same_text v.name name) v.is_live (find-passes test (live r) v found.1)).0 in
          no-latest (things.Exists name) (Exists name) (known-latest (things.Exists name) (Exists name) (Existence name) (yes-no (things.Exists name) (mark-is (things.Exists name) v there (sym same)))) none
      by (Attached id node) so none h =
          let found = some-from_map (λ (g : Holding). AttachedAs g.capability g.readonly) (holding_at id node (controller r)) so h in
          let g : Holding = found.0 in
          let parts = and_parts (g.volume == id) (same_text g.node node) (find-passes (is_held_at id node) (controller r).holdings g found.1) in
          let among = among-find (is_held_at id node) (controller r).holdings g found.1 in
          let latest_one = attached-latest g among (volume-of g among) in
          no-latest (things.Attached ((volume-of g among).volume).name g.node) (Attached g.volume g.node) latest_one
          (subst (λ (x : ℕ × List ℕ). latest (history r).items (Attached x.0 x.1) ≡ None) (λ i. (sym (eqb-true g.volume id parts.0) i, sym ((same_text-tells g.node node).0 parts.1) i)) none)
      by (Staged id node) so none h =
          let there = staged-here id node so h in
          staged-latest id node there.0 there.2.0 there.1 there.2.1 none
        where
          staged-latest : (id : ℕ) (node : List ℕ) (state : NodeState) (capability : Capability) → given_state (gs r) node ≡ Some state → staged_of id state ≡ Some capability → latest (history r).items (Staged id node) ≡ None → ⊥
          staged-latest id node state capability is staged none =
              let held = attached-staged node state id capability is staged in
              let has = volume-of held.holding held.among in
              let name : List ℕ = (has.volume).name in
              let given_here = ap (given_state (gs r)) held.at_node ∙ is in
              let staged_it = ap (λ n. staged_of n state) held.of_volume ∙ staged in
              no-latest (things.Staged name (held.holding).node) (Staged (held.holding).volume (held.holding).node)
              (known-latest (things.Staged name (held.holding).node) (Staged (held.holding).volume (held.holding).node) (Staging name (held.holding).node (held.holding).volume (volume-is held.holding has))
              (staged-known held.holding held.among has state capability given_here staged_it))
              (subst (λ (x : ℕ × List ℕ). latest (history r).items (Staged x.0 x.1) ≡ None) (λ i. (sym held.of_volume i, sym held.at_node i)) none)
      by (Published id node target) so none h =
          let there = published-here id node target so h in
          published-latest id node target there.0 there.2.0 there.1 there.2.1 none
        where
          published-latest : (id : ℕ) (node target : List ℕ) (state : NodeState) (p : PublishedVolume) → given_state (gs r) node ≡ Some state → published_at id target state ≡ Some p → latest (history r).items (Published id node target) ≡ None → ⊥
          published-latest id node target state p is found none =
              let parts = and_parts (p.volume == id) (same_text p.target target) (find-passes (is_published_at id target) state.published p found) in
              let volume : p.volume ≡ id = eqb-true p.volume id parts.0 in
              let goal : p.target ≡ target = (same_text-tells p.target target).0 parts.1 in
              let among = among-find (is_published_at id target) state.published p found in
              let was = given-there r node state is in
              let of = each_of IsNodeOfFrames (old r).nodes was.at (right r).good.reached.nodes was.among in
              let sound : IsPublishedRight state = subst IsPublishedRight (sym of.2 ∙ was.same_state) ((laws r).publishing (was.at).id of.0 of.1) in
              let staged : staged_of id state ≡ Some p.capability = ap (λ n. staged_of n state) (sym volume) ∙ sound.staged p among in
              let held = attached-staged node state id p.capability is staged in
              let has = volume-of held.holding held.among in
              let name : List ℕ = (has.volume).name in
              let given_here = ap (given_state (gs r)) held.at_node ∙ is in
              let staged_it = ap (λ n. staged_of n state) held.of_volume ∙ staged in
              let there = in_filter (λ (x : PublishedVolume). x.volume == (held.holding).volume) state.published p among (eq-eqb p.volume (held.holding).volume (volume ∙ sym held.of_volume)) in
              no-latest (things.Published name (held.holding).node p.target) (Published (held.holding).volume (held.holding).node p.target)
              (known-latest (things.Published name (held.holding).node p.target) (Published (held.holding).volume (held.holding).node p.target) (Publication name (held.holding).node p.target (held.holding).volume (volume-is held.holding has))
              (yes-no (things.Published name (held.holding).node p.target) (published-known held.holding held.among has state p.capability given_here staged_it p there)))
              (subst (λ (x : ℕ × List ℕ × List ℕ). latest (history r).items (Published x.0 x.1 x.2) ≡ None) (λ i. (sym held.of_volume i, sym held.at_node i, sym goal i)) none)
