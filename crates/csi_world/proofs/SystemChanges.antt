-- The world after the controller got a configuration, after a node joined, and after one was lost.
use Rattle.csi_world.proofs.Words.{◌≡◌, ℕ, zero, suc, List, [], ◌∷◌, ◌++◌, get_or, filter, not, true, false, cond}
use Rattle.csi_world.proofs.Words.{is_some, Option, Some, None, position, ◌||◌, Result, Ok, Err, refl, sym, ap, subst}
use Rattle.csi_world.proofs.Words.{list_any, remove, FirstAt, Config, config_fault, same_text, NodeParts}
use Rattle.csi_world.proofs.Words.{ControllerParts, OrchFault, last_number, IsWellFormed, Moved, GivenUp, moves}
use Rattle.csi_world.proofs.Words.{MovesKeepForm, moved_to, FollowsUnrefused, OrchestratorParts, NodeAt, World}
use Rattle.csi_world.proofs.Words.{node_state, Occurred, joined_at, lost_by, is_node_of, lost, WorldParts}
use Rattle.csi_world.proofs.Words.{AreNodesShown, ShowsWorld, IsSameController, new_node_parts, IsWorldAfter}
use Rattle.csi_world.proofs.Words.{IsSoundWorld, has_same_id, arith}
use Rattle.csi_world.proofs.Lemmas.{FirstAt-position, find-no_place}
use Rattle.csi_orchestrator.specs.Model.Moves.{Loses}
use Rattle.csi_world.specs.declared.outcomes.Outcome.TheVariants as outcomes
use Rattle.csi_world.proofs.SystemCalls.{at-world, isnt-there}
use Rattle.csi_world.proofs.SystemNodes.{is_shown_node, state-shown, joined-shown, joined-apart, lost-shown, lost-apart, none-taken_of, apart-texts}

-- what stands at a place stands there whatever else is asked for
own-place : (xs : List NodeParts) (i : ℕ) (d : NodeParts) → get_or xs i d ≡ get_or xs i (get_or xs i d)
own-place [] i d = refl
own-place (x ∷ xs) zero d = refl
own-place (x ∷ xs) (suc i) d = own-place xs i d

-- the node at the place of an id
node-at : List NodeParts → ℕ → NodeParts
node-at shown place = get_or shown place (record { id = []; session = 0; rows = [] })

-- it is the first of the id
first-of : (id : List ℕ) (shown : List NodeParts) (place : ℕ) → position (is_shown_node id) shown ≡ Some place → FirstAt (is_shown_node id) shown place (node-at shown place)
unfolding node-at
first-of id shown place at = FirstAt-position (is_shown_node id) shown place (node-at shown place) at (own-place shown place (record { id = []; session = 0; rows = [] }))

-- the controller restarts with this configuration
pub configured : (shown : WorldParts) (config : Config) (new : ControllerParts) (world : World) → IsSoundWorld shown → ShowsWorld shown world → config_fault config.greatest config.nodes ≡ None → IsSameController config shown.controller new
    → IsWorldAfter shown (record shown { config = config; controller = new }) outcomes.Restarted (record { world = record world { config = config }; outcome = outcomes.Restarted })
configured shown config new world own shows fit same = grind arith

-- a node joins
pub node-joins : (shown : WorldParts) (id : List ℕ) (session : ℕ) (world : World) → IsSoundWorld shown → ShowsWorld shown world → position (is_shown_node id) shown.nodes ≡ None → session ≡ (last_number world.history).session
    → IsWorldAfter shown (record shown { nodes = shown.nodes ++ new_node_parts session id ∷ [] }) outcomes.Joined (joined_at world id (node_state id world))
node-joins shown id session world own shows none is = grind (arith, at-world, joined-apart, find-no_place, is_shown_node, joined-shown, isnt-there)

-- one that is there doesn't
pub there-joins : (shown : WorldParts) (id : List ℕ) (place : ℕ) (world : World) → IsSoundWorld shown → ShowsWorld shown world → position (is_shown_node id) shown.nodes ≡ Some place
    → IsWorldAfter shown shown outcomes.NodeThere (joined_at world id (node_state id world))
there-joins shown id place world own shows at =
    let found = state-shown id shown.nodes world.nodes place (node-at shown.nodes place) shows.nodes (first-of id shown.nodes place at) in
    at-world shown shown outcomes.NodeThere (joined_at world id (node_state id world)) world refl own shows (ap (joined_at world id) found.1)

-- the nodes that are shown are those that are left once the node of an id is no more
abbrev pub AreLeft : List ℕ → List NodeParts → List NodeParts → Type 0
AreLeft id old new = (has_same_id new ≡ false) × ((nodes : List NodeAt) → AreNodesShown old nodes → AreNodesShown new (filter (λ (n : NodeAt). not (same_text n.id id)) nodes))

-- so they are where it is taken out
pub taken-left : (id : List ℕ) (shown : List NodeParts) (place : ℕ) → has_same_id shown ≡ false → position (is_shown_node id) shown ≡ Some place → AreLeft id shown (remove shown place)
taken-left id shown place apart at = (
  lost-apart shown place apart,
  λ nodes are. lost-shown id shown nodes place (node-at shown place) are (apart-texts shown apart) (first-of id shown place at),
)

-- and where it wasn't there
pub none-left : (id : List ℕ) (shown : List NodeParts) → has_same_id shown ≡ false → position (is_shown_node id) shown ≡ None → AreLeft id shown shown
none-left id shown apart none =
    (apart, λ nodes are. subst (AreNodesShown shown) (sym (none-taken_of id shown nodes are (find-no_place (is_shown_node id) shown none))) are)

-- the orchestrator gives a node up, which is no more then
pub gives-up : MovesKeepForm → (shown : WorldParts) (id : List ℕ) (new : OrchestratorParts) (nodes : List NodeParts) (world : World) → IsSoundWorld shown → ShowsWorld shown world → AreLeft id shown.nodes nodes
    → FollowsUnrefused world.history (moves world.history (Loses id)) GivenUp new
    → IsWorldAfter shown (record shown { orchestrator = new; nodes = nodes }) outcomes.Lost (lost_by world id (moves world.history (Loses id)))
gives-up law shown id new nodes world own shows left done = by (moves world.history (Loses id)) (law.then world.history (Loses id) shows.form) done
  where
    by : (result : Result Moved OrchFault) → IsWellFormed (moved_to world.history result) → FollowsUnrefused world.history result GivenUp new
        → IsWorldAfter shown (record shown { orchestrator = new; nodes = nodes }) outcomes.Lost (lost_by world id result)
    by (Err fault) form done = absurd done
    by (Ok moved) form done =
        record {
          outcomes = refl;
          own = record { apart = left.0; fit = own.fit };
          world = record {
            config = shows.config;
            frames = shows.frames;
            controller = shows.controller;
            nodes = left.1 world.nodes shows.nodes;
            orchestrator = done.agrees;
            form = form;
            own_config = shows.own_config;
          };
          came = refl;
        }

-- a node is there where one of its id is shown
there-shown : (shown : WorldParts) (id : List ℕ) (world : World) → ShowsWorld shown world → (o : Option ℕ) → position (is_shown_node id) shown.nodes ≡ o → is_some (node_state id world) ≡ is_some o
there-shown shown id world shows None e = ap is_some (isnt-there shown id world shows e)
there-shown shown id world shows (Some place) e =
    ap is_some (state-shown id shown.nodes world.nodes place (node-at shown.nodes place) shows.nodes (first-of id shown.nodes place e)).1

-- a node may be lost where one of its id is shown, or it is listed
pub node-known : (shown : WorldParts) (id : List ℕ) (world : World) → ShowsWorld shown world → is_node_of world id ≡ (is_some (position (is_shown_node id) shown.nodes) || list_any (same_text id) (shown.orchestrator).nodes)
node-known shown id world shows = λ i. there-shown shown id world shows (position (is_shown_node id) shown.nodes) refl i || list_any (same_text id) (sym (shows.orchestrator).same_nodes i)

-- what comes of the loss of a node that is there or listed
pub lost-known : (world : World) (id : List ℕ) → is_node_of world id ≡ true → lost world id ≡ lost_by world id (moves world.history (Loses id))
lost-known world id is = ap (λ b. cond b (lost_by world id (moves world.history (Loses id))) (let o : Occurred = record { world = world; outcome = outcomes.NoSuchNode } in o)) is

-- and of one that is neither
pub lost-nowhere : (shown : WorldParts) (id : List ℕ) (world : World) → IsSoundWorld shown → ShowsWorld shown world → is_node_of world id ≡ false → IsWorldAfter shown shown outcomes.NoSuchNode (lost world id)
lost-nowhere shown id world own shows none =
    at-world shown shown outcomes.NoSuchNode (lost world id) world refl own shows
    (ap (λ b. cond b (lost_by world id (moves world.history (Loses id))) (let o : Occurred = record { world = world; outcome = outcomes.NoSuchNode } in o)) none)
