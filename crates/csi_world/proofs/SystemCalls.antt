-- The world after a call came to its plugin, and after a plugin restarted.
use Rattle.csi_world.proofs.Words.{◌≡◌, ◌+◌, ℕ, List, [], ◌++◌, length, get_or, set, find, false, Option, Some, None}
use Rattle.csi_world.proofs.Words.{option_map, position, refl, sym, ◌∙◌, ap, subst, option_to_list, FirstAt, NodeState}
use Rattle.csi_world.proofs.Words.{Node, Frame, NodeParts, Fenced, Outcome, NodeAt, World, node_state, with_frame}
use Rattle.csi_world.proofs.Words.{with_node, answered_by_plugin, answered_by, answered_by_node, Occurred, next_frame}
use Rattle.csi_world.proofs.Words.{called_at, called, restarted_at, WorldParts, AreNodesShown, ShowsWorld, IsReplySent}
use Rattle.csi_world.proofs.Words.{NodeDoes, IsSameNode, IsWorldAfter, IsSoundWorld, has_same_id, ShowsNode}
use Rattle.csi_world.proofs.Words.{AreDistinctTexts}
use Rattle.csi_world.proofs.Lemmas.{append-nil, FirstAt-position, FirstAt-passes, find-no_place, same_text-tells}
use Rattle.csi_node.specs.Model.Record.{Shows as NodeShows}
use Rattle.csi_node.specs.Model.Fenced as node
use Rattle.csi_world.specs.declared.outcomes.Outcome.TheVariants as outcomes
use Rattle.csi_world.proofs.SystemNodes.{is_shown_node, is_node, node-shown, state-shown, same-put, ids-put, state-put, apart-texts, texts-apart}

-- a frame that is sent, if there is one, is appended
with_frame-is : (reply : Option Frame) (world : World) → with_frame reply world ≡ record world { frames = world.frames ++ option_to_list reply }
with_frame-is None world = let none : world.frames ++ [] ≡ world.frames = append-nil world.frames in λ i. record world { frames = sym none i }
with_frame-is (Some frame) world = refl

-- the same world, by what it shows
pub at-world : (old new : WorldParts) (outcome : Outcome) (occurred : Occurred) (world : World) → new.outcomes ≡ old.outcomes → IsSoundWorld new → ShowsWorld new world → occurred ≡ record { world = world; outcome = outcome }
    → IsWorldAfter old new outcome occurred
at-world old new outcome occurred world outcomes own shows is =
    record { outcomes = outcomes; own = own; world = subst (λ (o : Occurred). ShowsWorld new o.world) (sym is) shows; came = ap (λ (o : Occurred). o.outcome) (sym is) }

-- a node that isn't shown isn't there
pub none-shown : (id : List ℕ) (shown : List NodeParts) (nodes : List NodeAt) → AreNodesShown shown nodes → find (is_shown_node id) shown ≡ None → option_map (λ (n : NodeAt). n.state) (find (is_node id) nodes) ≡ None
none-shown id shown nodes are none =
    let known : Option NodeState = option_map (λ (n : NodeAt). n.state) (find (is_node id) nodes) in
    by known (subst (λ (o : Option NodeParts). ShowsNode o known) none (node-shown id shown nodes are))
  where
    by : (o : Option NodeState) → ShowsNode None o → o ≡ None
    by None shows = refl
    by (Some state) shows = absurd shows

-- so it is in a world
pub isnt-there : (shown : WorldParts) (id : List ℕ) (world : World) → ShowsWorld shown world → position (is_shown_node id) shown.nodes ≡ None → node_state id world ≡ None
isnt-there shown id world shows none = none-shown id shown.nodes world.nodes shows.nodes (find-no_place (is_shown_node id) shown.nodes none)

-- the ids stay apart where a node is put that has the id of the one that stood there
put-apart : (id : List ℕ) (shown : List NodeParts) (place : ℕ) (old new : NodeParts) → FirstAt (is_shown_node id) shown place old → new.id ≡ old.id → has_same_id shown ≡ false → has_same_id (set shown place new) ≡ false
put-apart id shown place old new first same apart =
    texts-apart (set shown place new) (subst AreDistinctTexts (sym (ids-put (is_shown_node id) shown place old new first same)) (apart-texts shown apart))

-- a call to a node
pub node-becomes : (shown : WorldParts) (id : List ℕ) (place : ℕ) (old new : NodeParts) (posted : List Frame) (frame : Frame) (reply : Option Frame) (outcome : Outcome) (world : World)
    → IsSoundWorld shown → ShowsWorld shown world → frame.party ≡ Node id → position (is_shown_node id) shown.nodes ≡ Some place → old ≡ get_or shown.nodes place old
    → NodeDoes old new frame reply → IsReplySent shown.frames posted reply outcome
    → IsWorldAfter shown (record shown { nodes = set shown.nodes place new; frames = posted }) outcome (called world frame frame.party)
node-becomes shown id place old new posted frame reply outcome world own shows party at is does sent =
    let first = FirstAt-position (is_shown_node id) shown.nodes place old at is in
    let found = state-shown id shown.nodes world.nodes place old shows.nodes first in
    let state : NodeState = found.0 in
    let own_id : old.id ≡ id = (same_text-tells old.id id).0 (FirstAt-passes (is_shown_node id) shown.nodes place old first) in
    let fenced : Fenced NodeState = node.fenced id state frame in
    let changed : World = with_node id fenced.state world in
    let after : World = record changed { frames = world.frames ++ option_to_list fenced.reply } in
    let replied : reply ≡ fenced.reply = subst (λ n. reply ≡ (node.fenced n state frame).reply) own_id (does.replies state found.2) in
    let now : NodeShows new fenced.state = subst (λ n. NodeShows new (node.fenced n state frame).state) own_id (does.state state found.2) in
    let frames : posted ≡ world.frames ++ option_to_list fenced.reply = sent.frames ∙ (λ i. shows.frames i ++ option_to_list (replied i)) in
    let world_is : answered_by_plugin world frame ≡ after = ap (answered_by world frame) party ∙ ap (answered_by_node id world frame) found.1 ∙ with_frame-is fenced.reply changed in
    let outcome_is : outcomes.Answered (next_frame world) ≡ outcome = ap (λ (fs : List Frame). outcomes.Answered (length fs + 1)) (sym shows.frames) ∙ sym sent.came in
    at-world shown (record shown { nodes = set shown.nodes place new; frames = posted }) outcome (called world frame frame.party) after refl
    (record { apart = put-apart id shown.nodes place old new first does.id own.apart; fit = own.fit })
    (record {
      config = shows.config;
      frames = frames;
      controller = shows.controller;
      nodes = state-put id fenced.state shown.nodes world.nodes place old new shows.nodes (apart-texts shown.nodes own.apart) first does.id now;
      orchestrator = shows.orchestrator;
      form = shows.form;
      own_config = shows.own_config;
    })
    (ap (called world frame) party ∙ ap (called_at world frame) found.1 ∙ (λ i. let o : Occurred = record { world = world_is i; outcome = outcome_is i } in o))

-- a call to a node that isn't there
pub nowhere-becomes : (shown : WorldParts) (id : List ℕ) (frame : Frame) (world : World) → IsSoundWorld shown → ShowsWorld shown world → frame.party ≡ Node id → position (is_shown_node id) shown.nodes ≡ None
    → IsWorldAfter shown shown outcomes.NoSuchNode (called world frame frame.party)
nowhere-becomes shown id frame world own shows party none =
    at-world shown shown outcomes.NoSuchNode (called world frame frame.party) world refl own shows (ap (called world frame) party ∙ ap (called_at world frame) (isnt-there shown id world shows none))

-- a node restarts
pub node-restarts : (shown : WorldParts) (id : List ℕ) (place : ℕ) (old new : NodeParts) (world : World) → IsSoundWorld shown → ShowsWorld shown world
    → position (is_shown_node id) shown.nodes ≡ Some place → old ≡ get_or shown.nodes place old → IsSameNode old new
    → IsWorldAfter shown (record shown { nodes = set shown.nodes place new }) outcomes.Restarted (restarted_at world (node_state id world))
node-restarts shown id place old new world own shows at is same =
    let first = FirstAt-position (is_shown_node id) shown.nodes place old at is in
    let found = state-shown id shown.nodes world.nodes place old shows.nodes first in
    at-world shown (record shown { nodes = set shown.nodes place new }) outcomes.Restarted (restarted_at world (node_state id world)) world refl
    (record { apart = put-apart id shown.nodes place old new first same.id own.apart; fit = own.fit })
    (record {
      config = shows.config;
      frames = shows.frames;
      controller = shows.controller;
      nodes = same-put (is_shown_node id) shown.nodes world.nodes place old new shows.nodes first same;
      orchestrator = shows.orchestrator;
      form = shows.form;
      own_config = shows.own_config;
    })
    (ap (restarted_at world) found.1)

-- the same, where it isn't there
pub nowhere-restarts : (shown : WorldParts) (id : List ℕ) (world : World) → IsSoundWorld shown → ShowsWorld shown world → position (is_shown_node id) shown.nodes ≡ None
    → IsWorldAfter shown shown outcomes.NoSuchNode (restarted_at world (node_state id world))
nowhere-restarts shown id world own shows none =
    at-world shown shown outcomes.NoSuchNode (restarted_at world (node_state id world)) world refl own shows (ap (restarted_at world) (isnt-there shown id world shows none))
