-- The plugins of a world after a recovery: their sessions were raised; the orchestrator's history has calls that tell what they have, each answered OK
-- by a reply that nobody sent, and numbered after every call that was ever sent.
use Rattle.std.proofs.Common.{◌≡◌, ℕ, ◌<◌, ◌≤◌, ◌-◌, List, [], ◌∷◌, ◌++◌, map, filter, find, true, false, cond, Option, Some, None, option_map, is_some, IsTrue, ◌==◌, refl, sym, ◌∙◌, ap, subst, inl, inr, ⊎_elim, arith}
use Rattle.std.proofs.lemmas.Bool.{or_left, false≢true}
use Rattle.std.proofs.lemmas.Option.{same_Some}
use Rattle.csi_types.specs.Model.Members.{IsAmong}
use Rattle.csi_types.proofs.Members.{among-joined, among-find, among-kept, among-map, in-map}
use Rattle.csi_types.proofs.Options.{some-from_map}
use Rattle.csi_types.proofs.Searches.{find-of_map, find-one, find-passes}
use Rattle.csi_types.specs.declared.call.Call.{Call}
use Rattle.csi_types.specs.declared.call.Call.TheVariants as calls
use Rattle.csi_types.specs.declared.call.Kind.{Kind}
use Rattle.csi_types.specs.declared.call.Party.{Party}
use Rattle.csi_types.specs.declared.call.Party.TheVariants.{Controller, Node}
use Rattle.csi_types.specs.declared.holding.Holding.{Holding}
use Rattle.csi_types.specs.declared.number.Number.{Number}
use Rattle.csi_types.specs.declared.reply.Reply.{Reply}
use Rattle.csi_types.specs.declared.status.Status.TheVariants.{Ok}
use Rattle.csi_types.specs.Model.Call.{kind_of}
use Rattle.csi_types.specs.Model.Frame.{Frame}
use Rattle.csi_types.specs.Model.Replies.{reply_frame}
use Rattle.csi_types.specs.Model.Same.{same_text}
use Rattle.csi_types.specs.Public.PluginThing.{PluginThing, Exists, Attached, Staged, Published, ThingForm, HasId, AttachedAs, StagedAs, PublishedAs, asked}
use Rattle.csi_types.specs.Public.Reply.{has_id_by_rule}
use Rattle.csi_types.proofs.Equality.{same_text-tells}
use Rattle.csi_fence.specs.Model.Fence.{is_over}
use Rattle.csi_fence.specs.Public.Delivery.{PluginView}
use Rattle.csi_controller.specs.Model.State.{Volume, ControllerState, volume_named}
use Rattle.csi_controller.specs.Model.Fenced as controllers
use Rattle.csi_controller.specs.Public.Safe.{IsExclusiveState}
use Rattle.csi_controller.specs.Public.State.{volume_with_id}
use Rattle.csi_controller.specs.Public.View.{live_named}
use Rattle.csi_controller.proofs.Forgotten.{live_named-begun}
use Rattle.csi_controller.proofs.OrderlyStates.{IsOrderly}
use Rattle.csi_node.specs.Model.State.{NodeState, PublishedVolume, staged_of, published_at}
use Rattle.csi_node.specs.Model.Fenced as node_fence
use Rattle.csi_node.specs.Public.View as node_views
use Rattle.csi_orchestrator.specs.Model.Thing.{Issued}
use Rattle.csi_orchestrator.specs.Model.History.{Started, History, with_items}
use Rattle.csi_orchestrator.specs.Model.Readings.{issued_in, last_number}
use Rattle.csi_orchestrator.specs.Model.WellFormed.{IsWellFormed}
use Rattle.csi_orchestrator.specs.Model.Shown.{Shows}
use Rattle.csi_orchestrator.proofs.AllTold.{AreTold, started-told}
use Rattle.csi_world.specs.Model.World.{NodeAt, World, node_state}
use Rattle.csi_world.specs.Model.Safe.{Safe}
use Rattle.csi_recovery.specs.Public.Recovered.{GivenNode, given_state, recovered_rows, recovered, MayRecover}
use Rattle.csi_world.specs.Public.Recovery.{is_given}
use Rattle.csi_recovery.specs.Public.Laws.{given_of}
use Rattle.csi_world.proofs.WorldView.{node_view, over_at, view_of}
use Rattle.csi_world.proofs.GivenIds.{GivenId, HasNow, HasOld, HasName, AreGiven, AreOf}
use Rattle.csi_recovery.proofs.RecoveredNumbers.{session-before, far, earlier-one}
use Rattle.csi_world.proofs.CallThings.{of-thing-at, IsOwnNow, plugin_thing_at, is_of, one-number}
use Rattle.csi_world.proofs.Lifetimes.{is-over}
use Rattle.csi_world.proofs.RepliesTold.{reply-parts}
use Rattle.csi_world.proofs.Forgotten.{told_by}
use Rattle.csi_world.proofs.PluginsReached.{IsRegular, controller-begun, regular-named}
use Rattle.csi_world.proofs.Deliveries.{PluginLaws}
use Rattle.csi_world.proofs.RightWorlds.{IsRight}
use Rattle.csi_world.proofs.HeardNumbers.{IsUpTo, up-session}
use Rattle.csi_world.proofs.WorldSafety.{right-safe}
use Rattle.csi_recovery.proofs.CallsTold.{IsVolume, Tells, id_for, IsTrail}
use Rattle.csi_recovery.proofs.RecoveredRows.{two-same, text-self, found-live, told-rows}

-- what a recovery starts from
pub record Recovery : Type 0 where
  pub laws : PluginLaws
  pub old : World
  pub right : IsRight old
  pub nodes : List (List ℕ)
  pub given : List (List ℕ)
  pub session : ℕ
  pub later : (last_number old.history).session < session
  pub may : MayRecover nodes session old.controller (given_of given old)

module _ (r : Recovery) where
  -- its parts
  abbrev pub laws : PluginLaws
  laws = r.laws

  -- the world before it
  abbrev pub old : World
  old = r.old

  -- all is kept of that
  abbrev pub right : IsRight r.old
  right = r.right

  -- the new list of nodes
  abbrev pub nodes : List (List ℕ)
  nodes = r.nodes

  -- the nodes whose stores are given
  abbrev pub given : List (List ℕ)
  given = r.given

  -- the session that is raised
  abbrev pub session : ℕ
  session = r.session

  -- it is later than that of every call that was sent
  abbrev pub later : (last_number (r.old).history).session < r.session
  later = r.later

  -- nothing is refused
  abbrev pub may : MayRecover r.nodes r.session (r.old).controller (given_of r.given r.old)
  may = r.may

  -- the controller, and the nodes whose stores are given
  abbrev pub controller : ControllerState
  controller = old.controller

  -- what the given nodes know
  abbrev pub gs : List GivenNode
  gs = given_of given old

  -- the nodes that stay
  abbrev pub kept_nodes : List NodeAt
  kept_nodes = filter (is_given given) old.nodes

  -- as what is given
  abbrev pub as_given : NodeAt → GivenNode
  as_given at = record { id = at.id; state = at.state }

  -- the live volumes
  abbrev pub live : List Volume
  live = filter (λ (v : Volume). v.is_live) controller.volumes

  -- each volume has its name and its id alone
  pub orderly : IsOrderly controller
  orderly = right.good.reached.controller.orderly

  -- what the controller keeps by itself
  pub plugin : IsExclusiveState controller
  plugin = right.good.reached.controller.exclusive

  -- the world before it is safe
  pub safe : Safe old
  safe = right-safe laws old right

  -- the calls are numbered after this
  abbrev pub start : Number
  start = record { session = session - 1; call = (last_number old.history).call }

  -- the session before
  pub start-earlier : session - 1 < session
  start-earlier = earlier-one (last_number old.history).session session later

  -- a history of calls that tell what is there tells the rows
  pub fitted : AreTold (IsTrail controller gs start) nodes start (recovered_rows controller gs)
  fitted = told-rows controller gs orderly plugin.exclusive start nodes may.rows

  -- it has no other calls
  pub trail : IsTrail controller gs start fitted.history
  trail = fitted.kept

  -- those calls
  abbrev pub issued : List Issued
  issued = issued_in (fitted.history).items

  -- the history
  abbrev pub history : History
  history = with_items fitted.history (Started session nodes ∷ [])

  -- all before the session that is raised
  pub ends-earlier : (last_number fitted.history).session < session
  ends-earlier = subst (λ s. s < session) trail.session start-earlier

  -- the orchestrator shows the history
  pub shows : Shows (recovered nodes session controller gs) history
  shows = started-told nodes session fitted.last (recovered_rows controller gs) fitted.history may.rows.each fitted.agrees ends-earlier

  -- which is well-formed
  pub form : IsWellFormed history
  form = (ends-earlier, fitted.form)

  -- the reply to a call, and its frame
  abbrev pub reply_to : Call → Reply
  reply_to call = record { status = Ok; id = id_for controller gs call; detail = [] }

  -- and its frame
  abbrev pub answer_of : Issued → Frame
  answer_of call = reply_frame call.number call.party (kind_of call.call) (reply_to call.call)

  -- all frames, and these
  abbrev pub frames : List Frame
  frames = old.frames ++ map answer_of issued

  -- a node in the session
  abbrev pub begun_at : NodeAt → NodeAt
  begun_at at = record at { state = node_fence.begun session at.state }

  -- the world, with a reply to each of these calls under way
  abbrev pub next : World
  next = record { config = old.config; frames = frames; controller = controllers.begun session controller; nodes = map begun_at kept_nodes; history = history }

  -- ---- the nodes

  -- what a node knows then
  pub node-next : (id : List ℕ) → node_state id next ≡ option_map (node_fence.begun session) (given_state gs id)
  node-next id =
      ap (option_map (λ (n : NodeAt). n.state)) (find-of_map (λ (n : NodeAt). same_text n.id id) begun_at kept_nodes) ∙ by (find (λ (n : NodeAt). same_text n.id id) kept_nodes)
      ∙ ap (λ o. option_map (node_fence.begun session) (option_map (λ (g : GivenNode). g.state) o)) (sym (find-of_map (λ (g : GivenNode). same_text g.id id) as_given kept_nodes))
    where
      by : (o : Option NodeAt) → option_map (λ (n : NodeAt). n.state) (option_map begun_at o) ≡ option_map (node_fence.begun session) (option_map (λ (g : GivenNode). g.state) (option_map as_given o))
      by None = refl
      by (Some at) = refl

  -- a node that was given was there
  pub record WasThere (id : List ℕ) (state : NodeState) : Type 0 where
    pub at : NodeAt
    pub among : IsAmong at old.nodes
    pub same_id : at.id ≡ id
    pub same_state : at.state ≡ state

  -- a node that was given was there
  pub given-there : (id : List ℕ) (state : NodeState) → given_state gs id ≡ Some state → WasThere id state
  given-there id state is =
      let found = some-from_map (λ (g : GivenNode). g.state) (find (λ (g : GivenNode). same_text g.id id) gs) state is in
      let from = among-map as_given kept_nodes found.0 (among-find (λ (g : GivenNode). same_text g.id id) gs found.0 found.1) in
      record {
        at = from.0;
        among = (among-kept (is_given given) old.nodes from.0 from.1).0;
        same_id = ap (λ (g : GivenNode). g.id) (sym from.2) ∙ (same_text-tells (found.0).id id).0 (find-passes (λ (g : GivenNode). same_text g.id id) gs found.0 found.1);
        same_state = ap (λ (g : GivenNode). g.state) (sym from.2) ∙ found.2;
      }

  -- a given node then
  pub node-there : (id : List ℕ) (state : NodeState) → given_state gs id ≡ Some state → node_state id next ≡ Some (node_fence.begun session state)
  node-there id state is = node-next id ∙ ap (option_map (node_fence.begun session)) is

  -- each given node is the one that is found by its id
  pub given-own : (at : NodeAt) → IsAmong at kept_nodes → given_state gs at.id ≡ Some at.state
  given-own at among =
      ap (option_map (λ (g : GivenNode). g.state))
      (find-one (λ (g : GivenNode). same_text g.id at.id) gs (as_given at) (in-map as_given kept_nodes at among) (text-self at.id) (λ g here same.
      two-same (λ (a b : GivenNode). same_text a.id b.id ≡ false) gs g (as_given at) may.apart here (in-map as_given kept_nodes at among) (λ f. false≢true (sym f ∙ same))
      (λ f. false≢true (sym f ∙ ap (same_text at.id) ((same_text-tells g.id at.id).0 same) ∙ text-self at.id))))

  -- ---- the ids

  -- a volume's id, which its name has now
  abbrev pub id_of_volume : Volume → GivenId
  id_of_volume v = record { name = v.name; id = v.id; now = true }

  -- each live volume's name has its id now
  abbrev pub ids : List GivenId
  ids = map id_of_volume live

  -- an id that a name has now is of a live volume
  pub ids-volume : (name : List ℕ) (id : ℕ) → HasNow ids name id → IsVolume controller gs name id
  ids-volume name id has =
      let from = among-map id_of_volume live _ has in
      record { volume = from.0; there = from.1; same_name = sym (ap (λ (g : GivenId). g.name) from.2); same_id = sym (ap (λ (g : GivenId). g.id) from.2) }

  -- and the other way round
  pub volume-ids : (name : List ℕ) (id : ℕ) → IsVolume controller gs name id → HasNow ids name id
  volume-ids name id is = subst (λ (g : GivenId). IsAmong g ids) (λ i. record { name = is.same_name i; id = is.same_id i; now = true }) (in-map id_of_volume live is.volume is.there)

  -- no name was forgotten
  pub never-old : (name : List ℕ) (id : ℕ) → HasOld ids name id → ⊥
  never-old name id had = let from = among-map id_of_volume live _ had in false≢true (ap (λ (g : GivenId). g.now) from.2)

  -- so each id is of a live volume
  pub has-volume : (name : List ℕ) (id : ℕ) → HasName ids name id → IsVolume controller gs name id
  has-volume name id has = ⊎_elim (ids-volume name id) (λ had. absurd (never-old name id had)) has

  -- a live volume is among all
  pub among-volumes : (v : Volume) → IsAmong v live → IsAmong v controller.volumes
  among-volumes v there = (among-kept (λ (u : Volume). u.is_live) controller.volumes v there).0

  -- of a name there is one
  pub same-named : (v w : Volume) → IsAmong v live → IsAmong w live → v.name ≡ w.name → v ≡ w
  same-named v w a b e = same_Some v w (sym (orderly v (among-volumes v a)).by_name ∙ ap (λ n. volume_named n controller) e ∙ (orderly w (among-volumes w b)).by_name)

  -- and of an id
  pub same-id : (v w : Volume) → IsAmong v live → IsAmong w live → v.id ≡ w.id → v ≡ w
  same-id v w a b e = same_Some v w (sym (orderly v (among-volumes v a)).by_id ∙ ap (λ n. volume_with_id n controller) e ∙ (orderly w (among-volumes w b)).by_id)

  -- so the ids are given as they have to be
  pub are-given : AreGiven ids
  are-given =
      record {
        one_id = λ name i j has had.
            let v = ids-volume name i has in
            let w = ids-volume name j had in
            sym v.same_id ∙ ap (λ (x : Volume). x.id) (same-named v.volume w.volume v.there w.there (v.same_name ∙ sym w.same_name)) ∙ w.same_id;
        one_name = λ a b id has had.
            let v = has-volume a id has in
            let w = has-volume b id had in
            sym v.same_name ∙ ap (λ (x : Volume). x.name) (same-id v.volume w.volume v.there w.there (v.same_id ∙ sym w.same_id)) ∙ w.same_name;
        apart = λ name id now had. never-old name id had;
      }

  -- ---- the controller

  -- the controller's state is as it was in this
  pub came : IsRegular (controllers.begun session controller)
  came = controller-begun session controller may.after_controller right.good.reached.controller

  -- whose ids these are
  pub of-controller : AreOf (controllers.begun session controller) ids
  of-controller =
      record {
        names = regular-named (controllers.begun session controller) came;
        below = λ name id has. let v = has-volume name id has in subst (λ n. n < controller.next_id) v.same_id (orderly v.volume (among-volumes v.volume v.there)).given;
        listed = λ id volume is. inl (in-map id_of_volume live volume (among-find (λ (u : Volume). u.id == id) live volume is));
        ended = λ name id had. absurd (never-old name id had);
      }

  -- ---- the calls

  -- a call that tells what is there is for its name's volume
  pub own-now : (name : List ℕ) (party : Party) (call : Call) → Tells controller gs name party call → IsOwnNow ids name party call
  own-now name Controller (calls.CreateVolume create required limit capabilities) t = t.0
  own-now name Controller (calls.ControllerPublishVolume id node capability readonly) t = volume-ids name id t.0
  own-now name (Node node) (calls.NodeStageVolume id capability) t = volume-ids name id t.0
  own-now name (Node node) (calls.NodePublishVolume id target capability readonly) t = volume-ids name id t.0
  own-now name party call t = absurd t

  -- so is each of the history
  pub call-now : (call : Issued) → IsAmong call issued → IsOwnNow ids call.name call.party call.call
  call-now call among = own-now call.name call.party call.call (trail.told call among)

  -- such a call's name has a live volume
  pub id-rule : (name : List ℕ) (party : Party) (call : Call) → Tells controller gs name party call → IsTrue (has_id_by_rule (kind_of call) (reply_to call))
  id-rule name Controller (calls.CreateVolume create required limit capabilities) t =
      let v = t.1.1 in
      ap (λ n. is_some (option_map (λ (u : Volume). u.id) (live_named n controller))) (t.0 ∙ sym v.same_name)
      ∙ ap (λ o. is_some (option_map (λ (u : Volume). u.id) o)) (found-live controller gs orderly plugin.exclusive v.volume v.there)
  id-rule name Controller (calls.ControllerPublishVolume id node capability readonly) t = refl
  id-rule name (Node node) (calls.NodeStageVolume id capability) t = refl
  id-rule name (Node node) (calls.NodePublishVolume id target capability readonly) t = refl
  id-rule name party call t = absurd t

  -- what was sent has no later number than the last one, and so an earlier session
  pub old-reply : (number : Number) (party : Party) (kind : Kind) (reply : Reply) → IsAmong (reply_frame number party kind reply) old.frames → IsUpTo (last_number old.history) number
  old-reply number party kind reply among =
      ⊎_elim (λ sent. subst (IsUpTo (last_number old.history)) sent.has_number (right.last sent.call sent.among))
      (λ low. inr (session-before number (last_number old.history) (up number.session (right.good.well.so_far).floor (last_number old.history).session low right.good.floor.last)))
      (right.good.well.so_far.truth.replies number party kind reply among)
    where
      up : (a b c : ℕ) → a < b → b ≤ c → a < c
      up a b c less more = omega (arith, less, more)

  -- what was sent before is of an earlier session
  pub below : (number : Number) → IsUpTo (last_number old.history) number → number.session < session
  below number up = let low = up-session (last_number old.history) number up in omega (arith, low, later)

  -- so it isn't that of one of these calls
  pub not-old : (call : Issued) → IsAmong call issued → IsUpTo (last_number old.history) call.number → ⊥
  not-old call among up =
      let after = trail.after call among in
      far (last_number old.history) start call.number (low (last_number old.history).session session later) refl after.0 after.1 up
    where
      low : (a b : ℕ) → a < b → a ≤ b - 1
      low a b less = omega (arith, less)

  -- and so is each call of the history
  pub call-below : (call : Issued) → IsAmong call issued → call.number.session < session
  call-below call among = subst (λ s. s < session) (trail.after call among).1 start-earlier

  -- the only reply to such a call
  pub own-reply : (call : Issued) → IsAmong call issued → (reply : Reply) → IsAmong (reply_frame call.number call.party (kind_of call.call) reply) frames → reply ≡ reply_to call.call
  own-reply call among reply there =
      ⊎_elim (λ before. absurd (not-old call among (old-reply call.number call.party (kind_of call.call) reply before)))
      (λ now.
      let from = among-map answer_of issued (reply_frame call.number call.party (kind_of call.call) reply) now in
      let other : Issued = from.0 in
      let one : other ≡ call = one-number issued trail.numbers other call from.1 among (sym (ap (λ (f : Frame). f.number) from.2)) in
      (reply-parts call.number other.number call.party other.party (kind_of call.call) (kind_of other.call) reply (reply_to other.call) from.2).1 ∙ ap (λ (x : Issued). reply_to x.call) one)
      (among-joined old.frames (map answer_of issued) (reply_frame call.number call.party (kind_of call.call) reply) there)

  -- ---- what the plugins have

  -- the world by its things
  abbrev pub told : PluginView
  told = told_by ids next

  -- a node's view
  pub at-node : {R : Type 0} (read : PluginView → R) (node : List ℕ) (state : NodeState) → given_state gs node ≡ Some state
      → read (node_view node (over_at next) (node_state node next)) ≡ read (node_views.view_of node (node_fence.begun session state))
  at-node read node state is = ap (λ o. read (node_view node (over_at next) o)) (node-there node state is)

  -- no number of an earlier session will be carried out for the thing of such a call
  pub spent-by : (name : List ℕ) (party : Party) (call : Call) → Tells controller gs name party call → (k : PluginThing) → plugin_thing_at name party call ≡ Some k → (number : Number) → number.session < session → IsTrue (told.is_spent k number)
  spent-by name Controller (calls.CreateVolume create required limit capabilities) t k e number low =
      subst (λ k. IsTrue (told.is_spent k number)) (same_Some (Exists name) k e) (or_left ((view_of next).is_spent (Exists name) number) _ (or_left (is_over session number) _ (is-over session number low)))
  spent-by name Controller (calls.ControllerPublishVolume id node capability readonly) t k e number low =
      subst (λ k. IsTrue (told.is_spent k number)) (same_Some (Attached id node) k e) (or_left ((view_of next).is_spent (Attached id node) number) _ (or_left (is_over session number) _ (is-over session number low)))
  spent-by name (Node node) (calls.NodeStageVolume id capability) t k e number low =
      subst (λ k. IsTrue (told.is_spent k number)) (same_Some (Staged id node) k e)
      (or_left ((view_of next).is_spent (Staged id node) number) _
      (at-node (λ (v : PluginView). v.is_spent (Staged id node) number) node t.1.0 t.1.1 ∙ or_left (is_over session number) _ (is-over session number low)))
  spent-by name (Node node) (calls.NodePublishVolume id target capability readonly) t k e number low =
      subst (λ k. IsTrue (told.is_spent k number)) (same_Some (Published id node target) k e)
      (or_left ((view_of next).is_spent (Published id node target) number) _
      (at-node (λ (v : PluginView). v.is_spent (Published id node target) number) node t.1.0 t.1.1 ∙ or_left (is_over session number) _ (is-over session number low)))
  spent-by name party call t k e number low = absurd t

  -- so each call of the history is spent
  pub spent-of : (call : Issued) (thing : PluginThing) → IsAmong call issued → is_of thing call ≡ true → IsTrue (told.is_spent thing call.number)
  spent-of call thing among of = spent-by call.name call.party call.call (trail.told call among) thing (of-thing-at thing call of) call.number (call-below call among)

  -- how a thing is published
  abbrev pub published_as : PublishedVolume → ThingForm
  published_as published = PublishedAs published.capability published.readonly

  -- the thing of such a call is as it asks
  pub held-by : (name : List ℕ) (party : Party) (call : Call) → Tells controller gs name party call → (k : PluginThing) → plugin_thing_at name party call ≡ Some k → told.held k ≡ asked call (reply_to call)
  held-by name Controller (calls.CreateVolume create required limit capabilities) t k e =
      subst (λ k. told.held k ≡ option_map HasId (id_for controller gs (calls.CreateVolume create required limit capabilities))) (same_Some (Exists name) k e)
      (ap (option_map (λ (v : Volume). HasId v.id)) (live_named-begun session controller name) ∙ by (live_named name controller)
      ∙ ap (λ n. option_map HasId (option_map (λ (v : Volume). v.id) (live_named n controller))) (sym t.0))
    where
      by : (o : Option Volume) → option_map (λ (v : Volume). HasId v.id) o ≡ option_map HasId (option_map (λ (v : Volume). v.id) o)
      by None = refl
      by (Some v) = refl
  held-by name Controller (calls.ControllerPublishVolume id node capability readonly) t k e =
      subst (λ k. told.held k ≡ Some (AttachedAs capability readonly)) (same_Some (Attached id node) k e) (ap (option_map (λ (h : Holding). AttachedAs h.capability h.readonly)) t.1)
  held-by name (Node node) (calls.NodeStageVolume id capability) t k e =
      subst (λ k. told.held k ≡ Some (StagedAs capability)) (same_Some (Staged id node) k e)
      (at-node (λ (v : PluginView). v.held (Staged id node)) node t.1.0 t.1.1 ∙ ap (λ b. cond b (option_map StagedAs (staged_of id t.1.0)) None) (text-self node) ∙ ap (option_map StagedAs) t.1.2)
  held-by name (Node node) (calls.NodePublishVolume id target capability readonly) t k e =
      subst (λ k. told.held k ≡ Some (PublishedAs capability readonly)) (same_Some (Published id node target) k e)
      (at-node (λ (v : PluginView). v.held (Published id node target)) node t.1.0 t.1.1 ∙ ap (λ b. cond b (option_map published_as (published_at id target t.1.0)) None) (text-self node)
      ∙ ap (option_map published_as) t.1.2)
  held-by name party call t k e = absurd t
