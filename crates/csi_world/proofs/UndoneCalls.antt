-- A call that undoes something is answered 0, once it was sent under a new number.
use Rattle.csi_world.proofs.Words.{◌≡◌, ℕ, List, [], ◌∷◌, filter, true, false, cond, Option, Some, None, option_map}
use Rattle.csi_world.proofs.Words.{◌==◌, refl, sym, ◌∙◌, ap, subst, inl, codes, Holding, Number, Call, Party}
use Rattle.csi_world.proofs.Words.{Controller, Node, Reply, ResourceExhausted, Exists, Attached, Published, ThingForm}
use Rattle.csi_world.proofs.Words.{AttachedAs, PublishedAs, same_text, IsAmong, Volume, ControllerState, live_volume}
use Rattle.csi_world.proofs.Words.{holdings_of, is_held_at, holding_at, NodeState, PublishedVolume, published_of}
use Rattle.csi_world.proofs.Words.{is_published_at, published_at, Thing, No, Issued, touches, is_doing, Sent, History}
use Rattle.csi_world.proofs.Words.{with_items, known, IsGuarded, World, node_state}
use Rattle.csi_world.proofs.Lemmas.{and_from, false≢true, same_text-tells, among-kept, empty-where, none_passes}
use Rattle.csi_world.proofs.Lemmas.{none-from_map}
use Rattle.csi_types.specs.declared.call.Call.TheVariants as calls
use Rattle.csi_types.specs.declared.status.Status.TheVariants.{Ok}
use Rattle.csi_controller.specs.Model.Table as controller_table
use Rattle.csi_node.specs.Model.Table as node_table
use Rattle.csi_orchestrator.specs.declared.thing.Thing.TheVariants as things
use Rattle.csi_world.proofs.CallThings.{IsOwnNow, Attachment, Publication}
use Rattle.csi_world.proofs.Lifetimes.{calls_since}
use Rattle.csi_world.proofs.GivenIds.{GivenId, HasNow}
use Rattle.csi_world.proofs.Forgotten.{told_by}
use Rattle.csi_world.proofs.KnownThings.{IsSoFar, not-there}
use Rattle.csi_world.proofs.WorldView.{node_view, over_at}
use Rattle.csi_world.proofs.NamesRowed.{sent-other}
use Rattle.csi_world.proofs.RunWorlds.{IsRun}
use Rattle.csi_world.proofs.FreshCalls.{IsTabled, controller_now, controller-now-holdings, node_now, node-now-published}

-- a text is the same as itself
self : (text : List ℕ) → same_text text text ≡ true
self text = (same_text-tells text text).1 refl

-- ---- what isn't there

module _ (world : World) (base : History) (issued : Issued) (run : IsRun world) (is_sent : world.history ≡ with_items base (Sent issued ∷ [])) where
  abbrev given : List GivenId
  given = run.right.good.given

  abbrev so_far : IsSoFar world.history world.frames (told_by given world) given
  so_far = run.right.good.well.so_far

  -- the call is for the volume that has the name now
  pub own-now : IsOwnNow given issued.name issued.party issued.call
  own-now = so_far.named.own_now issued (subst (λ (h : History). IsAmong issued (calls_since (Exists issued.name) h.items)) (sym is_sent) (inl refl))

  -- what was known of another thing is known still
  known-still : (thing : Thing) → touches thing issued ≡ false → known base thing ≡ No → known world.history thing ≡ No
  known-still thing other gone = ap (λ h. known h thing) is_sent ∙ sent-other base issued thing other ∙ gone

  -- a volume that is known to be attached nowhere has no holding
  unattached : (id : ℕ) → HasNow given issued.name id → ((node : List ℕ) → touches (things.Attached issued.name node) issued ≡ false)
      → ((node : List ℕ) → known base (things.Attached issued.name node) ≡ No) → holdings_of id world.controller ≡ []
  unattached id has other gone = empty-where (holdings_of id world.controller) (λ holding among. none holding (among-kept (λ (h : Holding). h.volume == id) world.controller.holdings holding among))
    where
      absent : (node : List ℕ) → holding_at id node world.controller ≡ None
      absent node =
          none-from_map (λ (h : Holding). AttachedAs h.capability h.readonly) (holding_at id node world.controller)
          (not-there world.history world.frames (told_by given world) given so_far (things.Attached issued.name node) (Attached id node) (Attachment issued.name node id has) (known-still (things.Attached issued.name node) (other node) (gone node)))

      none : (holding : Holding) → IsAmong holding world.controller.holdings × ((holding.volume == id) ≡ true) → ⊥
      none holding kept =
          false≢true (sym (none_passes (is_held_at id holding.node) world.controller.holdings holding (absent holding.node) kept.0)
          ∙ and_from (holding.volume == id) (same_text holding.node holding.node) kept.1 (self holding.node))

  -- one that is known to be published nowhere at a node isn't published there
  unpublished : (node : List ℕ) (state : NodeState) (id : ℕ) → node_state node world ≡ Some state → HasNow given issued.name id → ((target : List ℕ) → touches (things.Published issued.name node target) issued ≡ false)
      → ((target : List ℕ) → known base (things.Published issued.name node target) ≡ No) → published_of id state ≡ []
  unpublished node state id there has other gone =
      empty-where (published_of id state) (λ published among. none published (among-kept (λ (p : PublishedVolume). p.volume == id) state.published published among))
    where
      as_form : PublishedVolume → ThingForm
      as_form published = PublishedAs published.capability published.readonly

      absent : (target : List ℕ) → published_at id target state ≡ None
      absent target =
          none-from_map as_form (published_at id target state)
          (ap (λ b. cond b (option_map as_form (published_at id target state)) None) (sym (self node))
          ∙ ap (λ o. (node_view node (over_at world) o).held (Published id node target)) (sym there)
          ∙ not-there world.history world.frames (told_by given world) given so_far (things.Published issued.name node target) (Published id node target) (Publication issued.name node target id has)
          (known-still (things.Published issued.name node target) (other target) (gone target)))

      none : (published : PublishedVolume) → IsAmong published state.published × ((published.volume == id) ≡ true) → ⊥
      none published kept =
          false≢true (sym (none_passes (is_published_at id published.target) state.published published (absent published.target) kept.0)
          ∙ and_from (published.volume == id) (same_text published.target published.target) kept.1 (self published.target))

-- ---- the answers

-- the plugin of a call has room for a row of its volume
abbrev pub HasRoom : World → Number → Party → Call → Type 0
HasRoom world number Controller call = Unit {0}
HasRoom world number (Node node) call = (state : NodeState) → node_state node world ≡ Some state → node_table.has_no_room (node_now node number state) call ≡ false

-- a node with room answers as its table says for the volume
lifecycle-answers : (state : NodeState) (call : Call) → node_table.has_no_room state call ≡ false → node_table.node_row state call ≡ node_table.lifecycle_row state call
lifecycle-answers state call room = ap (λ b. cond b (node_table.refused ResourceExhausted (codes "rows")) (node_table.lifecycle_row state call)) room

-- an undoing call is answered 0
pub undone-ok : (world : World) (base : History) (issued : Issued) → IsRun world → world.history ≡ with_items base (Sent issued ∷ []) → IsGuarded base issued.name issued.party issued.call → is_doing issued.call ≡ false
    → HasRoom world issued.number issued.party issued.call → (reply : Reply) → IsTabled world issued.number issued.party issued.call reply → reply.status ≡ Ok
undone-ok world base issued run is_sent guarded undoes room reply tabled = by issued.party issued.call refl refl guarded undoes room tabled
  where
    by : (party : Party) (call : Call) → issued.party ≡ party → issued.call ≡ call → IsGuarded base issued.name party call → is_doing call ≡ false → HasRoom world issued.number party call → IsTabled world issued.number party call reply → reply.status ≡ Ok
    by Controller (calls.DeleteVolume id) p c guarded undoes room tabled =
        ap (λ (r : Reply). r.status) tabled ∙ at (live_volume id now)
      where
        now : ControllerState
        now = controller_now world.config issued.number world.controller

        has : HasNow (given world base issued run is_sent) issued.name id
        has = subst (λ k. k) (λ i. IsOwnNow (given world base issued run is_sent) issued.name (p i) (c i)) (own-now world base issued run is_sent)

        other : (node : List ℕ) → touches (things.Attached issued.name node) issued ≡ false
        other node = λ i. touches (things.Attached issued.name node) (record issued { party = p i; call = c i })

        none : holdings_of id now ≡ []
        none =
            ap (filter (λ (h : Holding). h.volume == id)) (controller-now-holdings world.config issued.number world.controller)
            ∙ unattached world base issued run is_sent id has other guarded.1.detached

        at : (o : Option Volume) → (controller_table.delete id (holdings_of id now) o).reply.status ≡ Ok
        at None = refl
        at (Some volume) = ap (λ hs. (controller_table.delete_live id hs).reply.status) none
    by Controller (calls.ControllerUnpublishVolume id node) p c guarded undoes room tabled =
        ap (λ (r : Reply). r.status) tabled ∙ at (holding_at id node (controller_now world.config issued.number world.controller))
      where
        at : (o : Option Holding) → (controller_table.unpublish id node o).reply.status ≡ Ok
        at None = refl
        at (Some holding) = refl
    by (Node node) (calls.NodeUnstageVolume id) p c guarded undoes room tabled =
        let state : NodeState = tabled.0 in
        let now : NodeState = node_now node issued.number state in
        let lifecycle = lifecycle-answers now (calls.NodeUnstageVolume id) (room state tabled.1) in
        let has : HasNow (given world base issued run is_sent) issued.name id = subst (λ k. k) (λ i. IsOwnNow (given world base issued run is_sent) issued.name (p i) (c i)) (own-now world base issued run is_sent) in
        let none : published_of id now ≡ []
        = ap (filter (λ (x : PublishedVolume). x.volume == id)) (node-now-published node issued.number state)
        ∙ unpublished world base issued run is_sent node state id tabled.1 has (λ target. λ i. touches (things.Published issued.name node target) (record issued { party = p i; call = c i })) guarded.1.not_published in
        ap (λ (r : Reply). r.status) tabled.2 ∙ ap (λ (o : node_table.Outcome). o.reply.status) lifecycle ∙ ap (λ ps. (node_table.unstage id ps).reply.status) none
    by (Node node) (calls.NodeUnpublishVolume id target) p c guarded undoes room tabled =
        let state : NodeState = tabled.0 in
        let now : NodeState = node_now node issued.number state in
        let lifecycle = lifecycle-answers now (calls.NodeUnpublishVolume id target) (room state tabled.1) in
        ap (λ (r : Reply). r.status) tabled.2 ∙ ap (λ (o : node_table.Outcome). o.reply.status) lifecycle ∙ at (published_at id target now)
      where
        at : (o : Option PublishedVolume) → (node_table.unpublish id target o).reply.status ≡ Ok
        at None = refl
        at (Some there) = refl
    by party (calls.CreateVolume name required limit capabilities) p c guarded undoes room tabled = absurd (false≢true (sym undoes))
    by party (calls.ControllerPublishVolume id node capability readonly) p c guarded undoes room tabled = absurd (false≢true (sym undoes))
    by party (calls.NodeStageVolume id capability) p c guarded undoes room tabled = absurd (false≢true (sym undoes))
    by party (calls.NodePublishVolume id target capability readonly) p c guarded undoes room tabled = absurd (false≢true (sym undoes))
    by party call p c guarded undoes room tabled = absurd guarded
