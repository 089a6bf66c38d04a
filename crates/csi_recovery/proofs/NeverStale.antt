-- No open call is stale, in any world: what is kept of each row, and of each frame that is on its way.
use Rattle.csi_world.proofs.Words.{◌≡◌, ◌⊎◌, ℕ, ◌≤◌, ◌<◌, List, [], ◌∷◌, map, not, Bool, true, false, cond, Option}
use Rattle.csi_world.proofs.Words.{Some, None, is_some, refl, sym, ◌∙◌, ap, subst, inl, inr, ⊎_elim, arith, ◌&&◌, codes}
use Rattle.csi_world.proofs.Words.{Number, Call, Kind, Party, Controller, Node, Body, Reply, kind_of, Config, Frame}
use Rattle.csi_world.proofs.Words.{IsBefore, reply_frame, same_text, same_number, same_party, same_kind, IsAmong}
use Rattle.csi_world.proofs.Words.{Fenced, answered_only, unanswered, Volume, ControllerState, NodeState, Issued, Item}
use Rattle.csi_world.proofs.Words.{Started, Forgotten, Sent, Accepted, Closed, Noted, with_items, is_number_open}
use Rattle.csi_world.proofs.Words.{issued_in, last_number, open_in, open_call, is_aborted, is_stale_reply}
use Rattle.csi_world.proofs.Words.{is_stale_body, call_answered, frame_of, NodeAt, World, empty_world, node_id}
use Rattle.csi_world.proofs.Words.{new_node, node_state, with_state, with_frame, answered_by, answered_by_node}
use Rattle.csi_world.proofs.Words.{answered_by_plugin, Choice, Sends, Closes, Takes, Notes, Starts, Forgets, Answers}
use Rattle.csi_world.proofs.Words.{Joins, Loses, Configures, MayChoose, MayChooseAll, chosen, chosen_all, with_node}
use Rattle.csi_world.proofs.Words.{call_frame, stale_reply}
use Rattle.csi_world.proofs.Lemmas.{and_parts, false≢true, true≢false, none-some, same_Some, same_text-tells}
use Rattle.csi_world.proofs.Lemmas.{same_number-tells, among-either, among-filter, among-map, find-passes, IsOrderly}
use Rattle.csi_world.proofs.Lemmas.{open-sent, unless-some}
use Rattle.csi_types.specs.declared.frame.Body.TheVariants as bodies
use Rattle.csi_controller.specs.Model.Fenced as controllers
use Rattle.csi_node.specs.Model.Fenced as nodes
use Rattle.csi_world.specs.Public.Laws.{HoldsInEveryWorld}
use Rattle.csi_recovery.specs.Public.Stale.{TellsNoneStale}
use Rattle.csi_world.proofs.PluginsReached.{found-at, knows-nothing}
use Rattle.csi_world.proofs.CallThings.{IsOwn, one-number, before-irreflexive}
use Rattle.csi_world.proofs.Deliveries.{PluginLaws}
use Rattle.csi_world.proofs.GivenIds.{GivenId}
use Rattle.csi_world.proofs.NamedCalls.{own}
use Rattle.csi_world.proofs.RightWorlds.{IsRight, after-all}
use Rattle.csi_world.proofs.ChoicesRight.{chosen-right, empty-right}
use Rattle.csi_world.proofs.HeardNumbers.{HasHeard, all-heard, empty-heard}
use Rattle.csi_world.proofs.JudgedCalls.{call-so, low-call}
use Rattle.csi_world.proofs.Floors.{under}
use Rattle.csi_world.proofs.RepliesTold.{IsSent}
use Rattle.csi_recovery.proofs.KeptCalls.{IsCalled, ControllerKeeps, NodeKeeps, controller-keeps, node-keeps}
use Rattle.csi_recovery.proofs.OpenCalls.{open-latest, is_late, IsPlainReply, parts-plain, IsNewest, controller-answers, node-answers, IsNumbered, answer-numbered, node-numbered}

-- ---- worlds

-- what rows keep, and that no open call has an answer of a late one
record IsFenced (world : World) : Type 0 where
  controller : ControllerKeeps (issued_in world.history.items) world.controller
  nodes : (at : NodeAt) → IsAmong at world.nodes → NodeKeeps (issued_in world.history.items) at.state
  sessions : (name : List ℕ) (call : Issued) → open_call world.history name ≡ Some call → call.number.session ≡ (last_number world.history).session
  timely : (frame : Frame) → IsAmong frame world.frames → is_late frame.body ≡ true → (name : List ℕ) (call : Issued) → open_call world.history name ≡ Some call → call.number ≡ frame.number → ⊥

-- one call more
called-more : (issued more : List Issued) → ((call : Issued) → IsAmong call issued → IsAmong call more) → (Such : Call → Type 0) (number : Number) → IsCalled issued Such number → IsCalled more Such number
called-more issued more wider Such number is = record { call = is.call; among = wider is.call is.among; has_number = is.has_number; such = is.such }

controller-more : (issued more : List Issued) → ((call : Issued) → IsAmong call issued → IsAmong call more) → (state : ControllerState) → ControllerKeeps issued state → ControllerKeeps more state
controller-more issued more wider state keeps = record { of = λ volume among. called-more issued more wider _ volume.kept.number (keeps.of volume among); plain = keeps.plain }

node-more : (issued more : List Issued) → ((call : Issued) → IsAmong call issued → IsAmong call more) → (state : NodeState) → NodeKeeps issued state → NodeKeeps more state
node-more issued more wider state keeps = record { of = λ row among. called-more issued more wider _ row.kept.number (keeps.of row among); plain = keeps.plain }

-- what is late is a reply
late-reply : (body : Body) → is_late body ≡ true → (kind : Kind) × (reply : Reply) × (body ≡ bodies.Reply kind reply)
late-reply (bodies.Call call) late = absurd (false≢true late)
late-reply (bodies.Reply kind reply) late = (kind, reply, refl)

-- a frame of a body
of-body : (frame : Frame) (body : Body) → frame.body ≡ body → frame ≡ record { number = frame.number; party = frame.party; body = body }
of-body frame body is = λ i. record { number = frame.number; party = frame.party; body = is i }

-- after an item by which no call opens, and none is sent
quiet-fenced : (world : World) (item : Item) → issued_in (item ∷ world.history.items) ≡ issued_in world.history.items
    → ((name : List ℕ) (call : Issued) → open_in name (item ∷ world.history.items) ≡ Some call
    → (open_in name world.history.items ≡ Some call) × ((last_number (with_items world.history (item ∷ []))).session ≡ (last_number world.history).session))
    → IsFenced world → IsFenced (record world { history = with_items world.history (item ∷ []) })
quiet-fenced world item same was fenced = record {
  controller = subst (λ (issued : List Issued). ControllerKeeps issued world.controller) (sym same) fenced.controller;
  nodes = λ at among. subst (λ (issued : List Issued). NodeKeeps issued at.state) (sym same) (fenced.nodes at among);
  sessions = λ name call is. let old = was name call is in fenced.sessions name call old.0 ∙ sym old.1;
  timely = λ frame among late name call is. fenced.timely frame among late name call (was name call is).0;
}

-- ---- a plugin answers a call

module _ (world : World) (right : IsRight world) (heard : HasHeard world) (fenced : IsFenced world) where
  abbrev issued : List Issued
  issued = issued_in world.history.items

  abbrev given : List GivenId
  given = right.good.given

  owned : (call : Issued) → IsAmong call issued → IsOwn given call.name call.party call.call
  owned call among = own world.history.items world.frames given right.good.well.so_far.named call among

  orderly : IsOrderly world.controller
  orderly = right.good.reached.controller.orderly

  -- an answer that no open call gets is one more frame
  more : (number : Number) (reply : Option Frame) (controller : ControllerState) (ns : List NodeAt) → ControllerKeeps issued controller → ((at : NodeAt) → IsAmong at ns → NodeKeeps issued at.state)
      → IsNumbered number reply → ((name : List ℕ) (call : Issued) → open_call world.history name ≡ Some call → call.number ≡ number → IsPlainReply reply)
      → IsFenced (with_frame reply (record world { controller = controller; nodes = ns }))
  more number None controller ns keeps all numbered plain = record { controller = keeps; nodes = all; sessions = fenced.sessions; timely = fenced.timely }
  more number (Some last) controller ns keeps all numbered plain = record {
    controller = keeps;
    nodes = all;
    sessions = fenced.sessions;
    timely = λ other among late name call is same.
        ⊎_elim (λ there. fenced.timely other there late name call is same)
        (λ e. true≢false (sym late ∙ ap (λ (f : Frame). is_late f.body) e ∙ plain name call is (same ∙ ap (λ (f : Frame). f.number) e ∙ numbered)))
        (among-either world.frames last other among);
  }

  -- what a node keeps that is there
  kept-at : (id : List ℕ) (state : NodeState) → node_state id world ≡ Some state → NodeKeeps issued state
  kept-at id state is = let found = found-at id world state is in subst (NodeKeeps issued) found.3 (fenced.nodes found.0 found.1)

  -- and what all do, where it has another state
  with-one : (id : List ℕ) (state : NodeState) → NodeKeeps issued state → (at : NodeAt) → IsAmong at (map (with_state id state) world.nodes) → NodeKeeps issued at.state
  with-one id state keeps at among =
      let from = among-map (with_state id state) world.nodes at among in
      subst (λ (n : NodeAt). NodeKeeps issued n.state) (sym from.2) (by from.0 (fenced.nodes from.0 from.1) (same_text (from.0).id id))
    where
      by : (old : NodeAt) → NodeKeeps issued old.state → (b : Bool) → NodeKeeps issued (cond b (let n : NodeAt = record old { state = state } in n) old).state
      by old so true = keeps
      by old so false = so

  -- a call of a session below the floor is stale, and no open call has its number
  module _ (number : Number) (low : number.session < (right.good.well.so_far).floor) where
    not-open : (name : List ℕ) (call : Issued) → open_call world.history name ≡ Some call → call.number ≡ number → ⊥
    not-open name call is same =
        let session : call.number.session ≡ (last_number world.history).session = fenced.sessions name call is in
        let own : call.number.session ≡ number.session = ap (λ (n : Number). n.session) same in
        let last = right.good.floor.last in
        omega (arith, low, last, session, own)

    low-fenced : (party : Party) (c : Call) → IsFenced (answered_by_plugin world (call_frame number party c))
    low-fenced Controller c =
        let below = under number.session (right.good.well.so_far).floor world.controller.session low right.good.floor.controller in
        subst (λ (f : Fenced ControllerState). IsFenced (with_frame f.reply (record world { controller = f.state })))
        (sym (low-call (controllers.controller_with world.config) world.controller number Controller c below))
        (more number (Some (reply_frame number Controller (kind_of c) stale_reply)) world.controller world.nodes fenced.controller fenced.nodes refl
        (λ name call is same. absurd (not-open name call is same)))
    low-fenced (Node id) c = by (node_state id world) refl
      where
        by : (o : Option NodeState) → node_state id world ≡ o → IsFenced (answered_by_node id world (call_frame number (Node id) c) o)
        by None is = fenced
        by (Some state) is =
            let found = found-at id world state is in
            let own = subst (λ (s : NodeState). (right.good.well.so_far).floor ≤ s.session) found.3 (right.good.floor.nodes found.0 found.1) in
            let below = under number.session (right.good.well.so_far).floor state.session low own in
            subst (λ (f : Fenced NodeState). IsFenced (with_frame f.reply (with_node id f.state world))) (sym (low-call (nodes.node_at id) state number (Node id) c below))
            (at (same_party (Node id) (Node id)))
          where
            at : (b : Bool)
                → IsFenced (let f : Fenced NodeState = cond b (answered_only (nodes.node_at id) state number (kind_of c) stale_reply) (unanswered state) in with_frame f.reply (with_node id f.state world))
            at true =
                more number (Some (reply_frame number (Node id) (kind_of c) stale_reply)) world.controller (map (with_state id state) world.nodes) fenced.controller (with-one id state (kept-at id state is)) refl
                (λ name call same-name same. absurd (not-open name call same-name same))
            at false = more number None world.controller (map (with_state id state) world.nodes) fenced.controller (with-one id state (kept-at id state is)) tt (λ name call same-name same. tt)

  -- the frame of a call that was sent
  module _ (one : Issued) (sent : IsAmong one issued) where
    abbrev frame : Frame
    frame = frame_of one

    -- where it is open
    record IsOpenNow : Type 0 where
      newest : IsNewest issued one
      session : one.number.session ≡ (last_number world.history).session

    open-now : (name : List ℕ) (call : Issued) → open_call world.history name ≡ Some call → call.number ≡ one.number → IsOpenNow
    open-now name call is same =
        let there = open-sent name world.history.items call is in
        let it : call ≡ one = one-number issued right.good.well.so_far.truth.numbers call one there.0 sent same in
        let named : one.name ≡ name = (same_text-tells one.name name).0 (subst (λ (i : Issued). same_text i.name name ≡ true) it there.1) in
        let opened : open_in name world.history.items ≡ Some one = is ∙ ap Some it in
        record {
          newest = record {
            among = sent;
            last = λ other among own_name. open-latest name world.history.items one other opened among (own_name ∙ named) right.good.well.so_far.truth.numbers;
          };
          session = ap (λ (i : Issued). i.number.session) (sym it) ∙ fenced.sessions name call is;
        }

    at-node : (id : List ℕ) (o : Option NodeState) → node_state id world ≡ o → IsFenced (answered_by_node id world frame o)
    at-node id None is = fenced
    at-node id (Some state) is =
        let found = found-at id world state is in
        let keeps = kept-at id state is in
        let up : state.session ≤ (last_number world.history).session = subst (λ (s : NodeState). s.session ≤ (last_number world.history).session) found.3 (heard.nodes found.0 found.1).session in
        let next : NodeState = (nodes.fenced id state frame).state in
        more one.number (nodes.fenced id state frame).reply world.controller (map (with_state id next) world.nodes) fenced.controller
        (with-one id next
        (call-so (nodes.node_at id) (NodeKeeps issued) one.number one.call
        (λ s so. record { of = λ row among. so.of row (among-filter _ s.rows row among); plain = λ row among. so.plain row (among-filter _ s.rows row among) })
        (λ s so. node-keeps id issued one sent s so) state one.party keeps))
        (answer-numbered (nodes.node_at id) state one.number one.party one.call (node-numbered id one.number one.call))
        (λ name call is same.
        let opened = open-now name call is same in
        parts-plain (nodes.node_at id) state one.number one.party one.call
        (node-answers id given issued state one right.good.well.so_far.are_given keeps opened.newest owned (let now = opened.session in omega (arith, up, now))))

    at-party : (party : Party) → IsFenced (answered_by world frame party)
    at-party Controller =
        more one.number (controllers.fenced world.config world.controller frame).reply (controllers.fenced world.config world.controller frame).state world.nodes
        (call-so (controllers.controller_with world.config) (ControllerKeeps issued) one.number one.call
        (λ s so. record { of = λ volume among. so.of volume (among-filter (λ (v : Volume). v.is_live) s.volumes volume among); plain = λ volume among. so.plain volume (among-filter (λ (v : Volume). v.is_live) s.volumes volume among) })
        (λ s so. controller-keeps world.config issued one sent s so) world.controller one.party fenced.controller)
        fenced.nodes
        (answer-numbered (controllers.controller_with world.config) world.controller one.number one.party one.call (λ now. refl))
        (λ name call is same.
        let opened = open-now name call is same in
        parts-plain (controllers.controller_with world.config) world.controller one.number one.party one.call
        (controller-answers world.config given issued world.controller one right.good.well.so_far.are_given right.good.well.of_controller orderly fenced.controller opened.newest owned
        (let now = opened.session in let up = heard.controller.session in omega (arith, up, now))))
    at-party (Node id) = at-node id (node_state id world) refl

  -- a reply is no call, and nothing answers it
  reply-fenced : (number : Number) (party : Party) (kind : Kind) (reply : Reply) → IsFenced (answered_by_plugin world (reply_frame number party kind reply))
  reply-fenced number Controller kind reply = record { controller = fenced.controller; nodes = fenced.nodes; sessions = fenced.sessions; timely = fenced.timely }
  reply-fenced number (Node id) kind reply = by (node_state id world) refl
    where
      by : (o : Option NodeState) → node_state id world ≡ o → IsFenced (answered_by_node id world (reply_frame number (Node id) kind reply) o)
      by None is = fenced
      by (Some state) is = more number None world.controller (map (with_state id state) world.nodes) fenced.controller (with-one id state (kept-at id state is)) tt (λ name call opened same. tt)

  -- any frame that was sent
  frame-fenced : (came : Frame) → IsAmong came world.frames → IsFenced (answered_by_plugin world came)
  frame-fenced came among = by came.body refl
    where
      by : (body : Body) → came.body ≡ body → IsFenced (answered_by_plugin world came)
      by (bodies.Call call) is =
          ⊎_elim (λ of. subst (λ (f : Frame). IsFenced (answered_by_plugin world f)) (sym of.is) (at-party of.call of.among (of.call).party))
          (λ low. subst (λ (f : Frame). IsFenced (answered_by_plugin world f)) (sym (of-body came (bodies.Call call) is)) (low-fenced came.number low came.party call))
          (right.good.well.so_far.truth.calls came call among is)
      by (bodies.Reply kind reply) is = subst (λ (f : Frame). IsFenced (answered_by_plugin world f)) (sym (of-body came (bodies.Reply kind reply) is)) (reply-fenced came.number came.party kind reply)

  -- a call that is sent
  sent-fenced : (call : Issued) → MayChoose world (Sends call) → IsFenced (chosen world (Sends call))
  sent-fenced call may = record {
    controller = controller-more issued (call ∷ issued) (λ other among. inr among) world.controller fenced.controller;
    nodes = λ at among. node-more issued (call ∷ issued) (λ other there. inr there) at.state (fenced.nodes at among);
    sessions = λ name other is. session-of name other (opened name other is);
    timely = λ came among late name other is same.
        ⊎_elim (λ there. late-one came there late name other (opened name other is) same)
        (λ e. false≢true (sym (ap (λ (f : Frame). is_late f.body) e) ∙ late))
        (among-either world.frames (frame_of call) came among);
  }
    where
      opened : (name : List ℕ) (other : Issued) → open_in name (Sent call ∷ world.history.items) ≡ Some other → (other ≡ call) ⊎ (open_in name world.history.items ≡ Some other)
      opened name other = by (same_text call.name name)
        where
          by : (b : Bool) → cond b (Some call) (open_in name world.history.items) ≡ Some other → (other ≡ call) ⊎ (open_in name world.history.items ≡ Some other)
          by true is = inl (sym (same_Some call other is))
          by false is = inr is

      session-of : (name : List ℕ) (other : Issued) → (other ≡ call) ⊎ (open_in name world.history.items ≡ Some other) → other.number.session ≡ call.number.session
      session-of name other (inl e) = ap (λ (i : Issued). i.number.session) e
      session-of name other (inr is) = fenced.sessions name other is ∙ may.numbered.same_session

      late-one : (came : Frame) → IsAmong came world.frames → is_late came.body ≡ true → (name : List ℕ) (other : Issued) → (other ≡ call) ⊎ (open_in name world.history.items ≡ Some other)
          → other.number ≡ came.number → ⊥
      late-one came there late name other (inr is) same = fenced.timely came there late name other is same
      late-one came there late name other (inl e) same =
          let replied = late-reply came.body late in
          ⊎_elim
          (λ (was : IsSent issued came.number).
          let before = after-all world.history call.number right.last may.numbered.later was.call was.among in
          before-irreflexive call.number (subst (λ n. IsBefore n call.number) (was.has_number ∙ sym same ∙ ap (λ (i : Issued). i.number) e) before))
          (λ (low : came.number.session < (right.good.well.so_far).floor).
          let own : call.number.session ≡ came.number.session = sym (ap (λ (i : Issued). i.number.session) e) ∙ ap (λ (n : Number). n.session) same in
          let last = right.good.floor.last in
          let session = may.numbered.same_session in
          omega (arith, low, last, session, own))
          (right.good.well.so_far.truth.replies came.number came.party replied.0 replied.1
          (subst (λ (f : Frame). IsAmong f world.frames) (of-body came (bodies.Reply replied.0 replied.1) replied.2) there))

-- ---- each choice

chosen-fenced : (world : World) (choice : Choice) → IsRight world → HasHeard world → MayChoose world choice → IsFenced world → IsFenced (chosen world choice)
chosen-fenced world (Sends issued) right heard may fenced = sent-fenced world right heard fenced issued may
chosen-fenced world (Closes number) right heard may fenced = quiet-fenced world (Closed number) refl (λ name call is. ((unless-some number (open_in name world.history.items) call is).0, refl)) fenced
chosen-fenced world (Takes issued reply) right heard may fenced =
    quiet-fenced world (Accepted issued.number reply.status reply.id) refl (λ name call is. ((unless-some issued.number (open_in name world.history.items) call is).0, refl)) fenced
chosen-fenced world (Notes name goal) right heard may fenced = quiet-fenced world (Noted name goal) refl (λ other call is. (is, refl)) fenced
chosen-fenced world (Starts session ns) right heard may fenced = quiet-fenced world (Started session ns) refl (λ name call is. absurd (none-some call is)) fenced
chosen-fenced world (Forgets name) right heard may fenced = quiet-fenced world (Forgotten name) refl (λ other call is. (is, refl)) fenced
chosen-fenced world (Answers frame) right heard may fenced = frame-fenced world right heard fenced frame may
chosen-fenced world (Joins node) right heard may fenced = record {
  controller = fenced.controller;
  nodes = λ at among.
      ⊎_elim (λ there. fenced.nodes at there)
      (λ e. subst (λ (n : NodeAt). NodeKeeps (issued_in world.history.items) n.state) (sym e) (record { of = λ row here. absurd here; plain = λ row here. absurd here }))
      (among-either world.nodes (new_node (last_number world.history).session node) at among);
  sessions = fenced.sessions;
  timely = fenced.timely;
}
chosen-fenced world (Loses node session ns) right heard may fenced = record {
  controller = fenced.controller;
  nodes = λ at among. fenced.nodes at (among-filter (λ (n : NodeAt). not (same_text n.id node)) world.nodes at among);
  sessions = λ name call is. absurd (none-some call is);
  timely = λ frame among late name call is. absurd (none-some call is);
}
chosen-fenced world (Configures config) right heard may fenced = record { controller = fenced.controller; nodes = fenced.nodes; sessions = fenced.sessions; timely = fenced.timely }

-- and many
all-fenced : PluginLaws → (world : World) (choices : List Choice) → IsRight world → MayChooseAll world choices → HasHeard world → IsFenced world → IsFenced (chosen_all world choices)
all-fenced laws world [] right may heard fenced = fenced
all-fenced laws world (choice ∷ choices) right may heard fenced =
    all-fenced laws (chosen world choice) choices (chosen-right laws world choice right may.0) may.1 (all-heard laws world (choice ∷ []) right (may.0, tt) heard)
    (chosen-fenced world choice right heard may.0 fenced)

-- in the empty world nothing is kept
empty-fenced : (config : Config) → IsFenced (empty_world config)
empty-fenced config = record {
  controller = record { of = λ volume among. absurd among; plain = λ volume among. absurd among };
  nodes = λ at among.
      subst (NodeKeeps []) (sym (knows-nothing (map node_id config.nodes) at among)) (record { of = λ row here. absurd here; plain = λ row here. absurd here });
  sessions = λ name call is. absurd (none-some call is);
  timely = λ frame among. absurd among;
}

-- nothing and something is nothing
and-false : (b : Bool) → (b && false) ≡ false
and-false true = refl
and-false false = refl

-- so no frame says of an open call that it was stale
fenced-timely : (world : World) → IsFenced world → TellsNoneStale world
fenced-timely world fenced frame among = by frame.body refl (call_answered world.history frame.number frame.party frame.body) refl
  where
    late : (reply : Reply) → is_stale_reply reply ≡ true → is_aborted reply.status ≡ true
    late reply e = (and_parts (is_aborted reply.status) (same_text reply.detail (codes "stale")) e).0

    by : (body : Body) → frame.body ≡ body → (o : Option Issued) → call_answered world.history frame.number frame.party body ≡ o → (is_stale_body body && is_some o) ≡ false
    by (bodies.Call call) is o e = refl
    by (bodies.Reply kind reply) is None e = and-false (is_stale_reply reply)
    by (bodies.Reply kind reply) is (Some issued) e = at (is_stale_reply reply) refl
      where
        test : Issued → Bool
        test one = same_number one.number frame.number && same_party one.party frame.party && same_kind (kind_of one.call) kind && is_number_open frame.number (open_call world.history one.name)

        opened : (o : Option Issued) → open_call world.history issued.name ≡ o → is_number_open frame.number o ≡ true → is_aborted reply.status ≡ true → ⊥
        opened None now f aborted = false≢true f
        opened (Some other) at-once f aborted =
            fenced.timely frame among (ap is_late is ∙ aborted) issued.name other at-once ((same_number-tells other.number frame.number).0 f)

        at : (b : Bool) → is_stale_reply reply ≡ b → (b && true) ≡ false
        at false s = refl
        at true s =
            let passes = find-passes test (issued_in world.history.items) issued e in
            let last = and_parts (same_number issued.number frame.number && same_party issued.party frame.party && same_kind (kind_of issued.call) kind) (is_number_open frame.number (open_call world.history issued.name)) passes in
            absurd (opened (open_call world.history issued.name) refl last.1 (late reply s))

-- in every world
pub never-stale : PluginLaws → HoldsInEveryWorld TellsNoneStale
never-stale laws config choices may =
    fenced-timely (chosen_all (empty_world config) choices)
    (all-fenced laws (empty_world config) choices (empty-right laws config) may (empty-heard config) (empty-fenced config))
