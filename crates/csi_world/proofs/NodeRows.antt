-- The rows of nodes: each is of another volume, and of a call that was sent to the node for it.
use Rattle.csi_world.proofs.Words.{◌≡◌, ◌⊎◌, ℕ, ◌<◌, ◌≤◌, List, [], ◌∷◌, map, not, Bool, true, false, cond, Option}
use Rattle.csi_world.proofs.Words.{Some, None, ◌==◌, refl, sym, ◌∙◌, ap, subst, inl, inr, ⊎_elim, is_some, Number}
use Rattle.csi_world.proofs.Words.{Call, Party, Controller, Node, Body, kind_of, Config, Frame, stale_reply, same_text}
use Rattle.csi_world.proofs.Words.{same_party, IsAmong, EachTwo, Kept, Fenced, answered_only, unanswered, fenced_parts}
use Rattle.csi_world.proofs.Words.{NodeState, AnsweredVolume, joined_node, staged_of, volume_of, after_frames, Issued}
use Rattle.csi_world.proofs.Words.{issued_in, NodeAt, World, empty_world, node_id, new_node, node_state, with_state}
use Rattle.csi_world.proofs.Words.{with_node, with_frame, answered_by, answered_by_node, Choice, Sends, Answers, Joins}
use Rattle.csi_world.proofs.Words.{Loses, MayChoose, MayChooseAll, chosen, chosen_all, arith}
use Rattle.csi_world.proofs.Lemmas.{eqb-true, same_text-tells, among-either, among-filter, among-map, none_passes}
use Rattle.csi_world.proofs.Lemmas.{two-append, two-filter, two-map, two-more, Carried, no_room, has_room, was_carried}
use Rattle.csi_world.proofs.Lemmas.{kept_of, changed-rows, kept_in-id}
use Rattle.csi_types.specs.declared.frame.Body.TheVariants as bodies
use Rattle.csi_fence.proofs.FramesKeep.{frames_keep}
use Rattle.csi_node.specs.Model.Table as table
use Rattle.csi_node.specs.Model.Fenced as nodes
use Rattle.csi_world.proofs.PluginsReached.{found-at, knows-nothing}
use Rattle.csi_world.proofs.Deliveries.{PluginLaws}
use Rattle.csi_world.proofs.RightWorlds.{IsRight}
use Rattle.csi_world.proofs.ChoicesRight.{chosen-right}
use Rattle.csi_world.proofs.JudgedCalls.{call-so, low-call}
use Rattle.csi_world.proofs.Floors.{under}

-- ---- each is of another volume

-- the rows are of different volumes
abbrev pub HaveDistinctVolumes : List AnsweredVolume → Type 0
HaveDistinctVolumes rows = EachTwo (λ (a b : AnsweredVolume). (a.id == b.id) ≡ false) rows

-- so they are once a call is kept
keep-distinct : (volume : Option ℕ) (kept : Kept) (state : NodeState) → HaveDistinctVolumes state.rows → HaveDistinctVolumes (nodes.keep volume kept state).rows
keep-distinct volume kept state apart = grind (arith, two-map, two-more, kept_in-id, two-append, none_passes)

-- and once a call is carried out
carried-distinct : (node : List ℕ) (state : NodeState) (number : Number) (call : Call) → HaveDistinctVolumes state.rows → HaveDistinctVolumes (nodes.carried_out node state number call (table.node_row state call)).state.rows
carried-distinct node state number call apart = grind (arith, was_carried, Carried, no_room, has_room, keep-distinct, kept_of, changed-rows)

-- whatever frames came
pub distinct-rows : (node : List ℕ) (session : ℕ) (frames : List Frame) → HaveDistinctVolumes (after_frames node (joined_node session) frames).rows
distinct-rows node session frames =
    frames_keep (nodes.node_at node) (λ (s : NodeState). HaveDistinctVolumes s.rows)
    (record {
      sets_session = λ session state. refl;
      begins = λ session state later apart. two-filter (λ (a b : AnsweredVolume). (a.id == b.id) ≡ false) (λ (r : AnsweredVolume). is_some (staged_of r.id state)) state.rows apart;
      carries = λ state number call carried apart. carried-distinct node state number call apart;
    }) (joined_node session) frames tt

-- ---- each is of a call that was sent

-- a call that was sent to the node for the row's volume, under the number that is kept
pub record IsCalled (issued : List Issued) (node : List ℕ) (row : AnsweredVolume) : Type 0 where
  pub call : Issued
  pub among : IsAmong call issued
  pub to_node : call.party ≡ Node node
  pub for_volume : volume_of call.call ≡ Some row.id
  pub has_number : call.number ≡ row.kept.number

-- each row of a node is so
abbrev pub AreCalled : List Issued → List ℕ → NodeState → Type 0
AreCalled issued node state = (row : AnsweredVolume) → IsAmong row state.rows → IsCalled issued node row

-- of each node that is there
abbrev pub AllCalled : World → Type 0
AllCalled world = (node : NodeAt) → IsAmong node world.nodes → AreCalled (issued_in world.history.items) node.id node.state

-- where more was sent
more-called : (call : Issued) (issued : List Issued) (node : List ℕ) (row : AnsweredVolume) → IsCalled issued node row → IsCalled (call ∷ issued) node row
more-called call issued node row called = record { call = called.call; among = inr called.among; to_node = called.to_node; for_volume = called.for_volume; has_number = called.has_number }

-- a row once a call is kept is one from before, or the call's
keep-either : (volume : Option ℕ) (kept : Kept) (state : NodeState) (row : AnsweredVolume) → IsAmong row (nodes.keep volume kept state).rows → IsAmong row state.rows ⊎ ((row.kept ≡ kept) × (volume ≡ Some row.id))
keep-either volume kept state row among = grind (arith, eqb-true, among-map, among-either)

-- a sent call that is carried out
carried-called : (issued : List Issued) (node : List ℕ) (state : NodeState) (one : Issued) → IsAmong one issued → one.party ≡ Node node → AreCalled issued node state
    → AreCalled issued node (nodes.carried_out node state one.number one.call (table.node_row state one.call)).state
carried-called issued node state one sent to called = grind (arith, was_carried, Carried, no_room, has_room, changed-rows, keep-either, kept_of)

-- a node got a frame that was sent to it
node-called : (issued : List Issued) (node : List ℕ) (state : NodeState) (number : Number) (body : Body) → ((call : Call) → body ≡ bodies.Call call → ((one : Issued) × IsAmong one issued × (one.party ≡ Node node) × (one.number ≡ number) × (one.call ≡ call)) ⊎ (number.session < state.session))
    → AreCalled issued node state → AreCalled issued node (fenced_parts (nodes.node_at node) state number (Node node) body).state
node-called issued node state number (bodies.Call call) of called = ⊎_elim own stale (of call refl)
  where
    own : (one : Issued) × IsAmong one issued × (one.party ≡ Node node) × (one.number ≡ number) × (one.call ≡ call) → AreCalled issued node (fenced_parts (nodes.node_at node) state number (Node node) (bodies.Call call)).state
    own one =
        call-so (nodes.node_at node) (AreCalled issued node) number call
        (λ s so row among. so row (among-filter (λ (r : AnsweredVolume). is_some (staged_of r.id s)) s.rows row among))
        (λ s so. subst (λ (x : Number × Call). AreCalled issued node (nodes.carried_out node s x.0 x.1 (table.node_row s x.1)).state) (λ i. (one.3 i, one.4 i)) (carried-called issued node s one.0 one.1 one.2 so))
        state (Node node) called

    stale : number.session < state.session → AreCalled issued node (fenced_parts (nodes.node_at node) state number (Node node) (bodies.Call call)).state
    stale low = subst (λ (f : Fenced NodeState). AreCalled issued node f.state) (sym (low-call (nodes.node_at node) state number (Node node) call low)) (at (same_party (Node node) (Node node)))
      where
        at : (b : Bool) → AreCalled issued node (let f : Fenced NodeState = cond b (answered_only (nodes.node_at node) state number (kind_of call) stale_reply) (unanswered state) in f.state)
        at true = called
        at false = called
node-called issued node state number (bodies.Reply kind reply) of called = called

-- so it is by each choice that may be made
chosen-called : (world : World) (choice : Choice) → IsRight world → MayChoose world choice → AllCalled world → AllCalled (chosen world choice)
chosen-called world (Sends issued) right may called = λ at among row here. more-called issued (issued_in world.history.items) at.id row (called at among row here)
chosen-called world (Answers frame) right may called = by frame.party refl
  where
    issued : List Issued
    issued = issued_in world.history.items

    more : (reply : Option Frame) (next : World) → AllCalled next → AllCalled (with_frame reply next)
    more None next so = so
    more (Some one) next so = so

    floor : ℕ
    floor = (right.good.well.so_far).floor

    sent : (node : List ℕ) → frame.party ≡ Node node → (call : Call) → frame.body ≡ bodies.Call call
        → ((one : Issued) × IsAmong one issued × (one.party ≡ Node node) × (one.number ≡ frame.number) × (one.call ≡ call)) ⊎ (frame.number.session < floor)
    sent node to call is =
        ⊎_elim (λ of. inl (of.call, of.among, ap (λ (f : Frame). f.party) (sym of.is) ∙ to, ap (λ (f : Frame). f.number) (sym of.is), same (of.call).call call (ap (λ (f : Frame). f.body) (sym of.is) ∙ is)))
        (λ low. inr low) (right.good.well.so_far.truth.calls frame call may is)
      where
        same : (a b : Call) → bodies.Call a ≡ bodies.Call b → a ≡ b
        same a b h = cc

    with_one : (id : List ℕ) (state : NodeState) → AreCalled issued id state → (at : NodeAt) → IsAmong at (map (with_state id state) world.nodes) → AreCalled issued at.id at.state
    with_one id state own at among =
        let from = among-map (with_state id state) world.nodes at among in
        subst (λ (n : NodeAt). AreCalled issued n.id n.state) (sym from.2) (one from.0 (called from.0 from.1) (same_text (from.0).id id) refl)
      where
        one : (old : NodeAt) → AreCalled issued old.id old.state → (b : Bool) → same_text old.id id ≡ b → AreCalled issued (cond b (let n : NodeAt = record old { state = state } in n) old).id (cond b (let n : NodeAt = record old { state = state } in n) old).state
        one old so true e = subst (λ n. AreCalled issued n state) (sym ((same_text-tells old.id id).0 e)) own
        one old so false e = so

    at_node : (id : List ℕ) → frame.party ≡ Node id → (o : Option NodeState) → node_state id world ≡ o → AllCalled (answered_by_node id world frame o)
    at_node id to None e = called
    at_node id to (Some state) e =
        let found = found-at id world state e in
        let own : AreCalled issued id state = subst (λ (n : List ℕ × NodeState). AreCalled issued n.0 n.1) (λ i. (found.2 i, found.3 i)) (called found.0 found.1) in
        let there = subst (λ (s : NodeState). floor ≤ s.session) found.3 (right.good.floor.nodes found.0 found.1) in
        let next : NodeState = (nodes.fenced id state frame).state in
        more (nodes.fenced id state frame).reply (with_node id next world)
        (with_one id next (subst (λ p. AreCalled issued id (fenced_parts (nodes.node_at id) state frame.number p frame.body).state) (sym to) (node-called issued id state frame.number frame.body (λ call is. ⊎_elim (λ of. inl of) (λ low. inr (under frame.number.session floor state.session low there)) (sent id to call is)) own)))

    by : (party : Party) → frame.party ≡ party → AllCalled (answered_by world frame party)
    by Controller to = more _ (record world { controller = _ }) called
    by (Node id) to = at_node id to (node_state id world) refl
chosen-called world (Joins node) right may called = λ at among.
    ⊎_elim (λ there. called at there) (λ e row here. absurd (subst (λ (n : NodeAt). IsAmong row n.state.rows) e here))
    (among-either world.nodes (new_node _ node) at among)
chosen-called world (Loses node session ns) right may called = λ at among. called at (among-filter (λ (n : NodeAt). not (same_text n.id node)) world.nodes at among)
chosen-called world other right may called = called

-- and by many
pub all-called : PluginLaws → (world : World) (choices : List Choice) → IsRight world → MayChooseAll world choices → AllCalled world → AllCalled (chosen_all world choices)
all-called laws world [] right may called = called
all-called laws world (choice ∷ choices) right may called =
    all-called laws (chosen world choice) choices (chosen-right laws world choice right may.0) may.1 (chosen-called world choice right may.0 called)

-- at first there are no rows
pub empty-called : (config : Config) → AllCalled (empty_world config)
empty-called config = λ at among row here. absurd (subst (λ (s : NodeState). IsAmong row s.rows) (knows-nothing (map node_id config.nodes) at among) here)
