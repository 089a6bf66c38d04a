-- What is so of a world after each choice.
use Rattle.csi_world.proofs.Words.{◌≡◌, ℕ, ◌<◌, ◌≤◌, List, [], ◌∷◌, ◌++◌, map, Option, Some, None, refl, sym, ◌∙◌, ap}
use Rattle.csi_world.proofs.Words.{subst, inl, inr, ⊎_elim, arith, Number, Reply, Status, kind_of, Config, Frame}
use Rattle.csi_world.proofs.Words.{IsAmong, IsBefore, IsEmpty, StagedAs, Attached, Staged, NodeState, Issued, Started}
use Rattle.csi_world.proofs.Words.{Sent, Accepted, Closed, Noted, History, with_items, issued_in, last_number, World}
use Rattle.csi_world.proofs.Words.{node_id, empty_world, node_state, with_history, Choice, Sends, Closes, Takes, Notes}
use Rattle.csi_world.proofs.Words.{Starts, Forgets, Answers, Joins, Loses, Configures, MaySend, MayTake, MayChoose}
use Rattle.csi_world.proofs.Words.{MayChooseAll, chosen, chosen_all, frame_of}
use Rattle.csi_world.proofs.Lemmas.{nat_tests, none-some, open-sent}
use Rattle.csi_node.specs.Public.View.{empty_node}
use Rattle.csi_world.proofs.WorldView.{party_of, node_view, over_at, plugin_view, view_of}
use Rattle.csi_world.proofs.GivenIds.{GivenId, HasOld}
use Rattle.csi_world.proofs.CallThings.{IsOwnNow, IsAnsweredOk}
use Rattle.csi_world.proofs.Lifetimes.{latest, not-over, timed-sent}
use Rattle.csi_world.proofs.CreatesFirst.{first-sent}
use Rattle.csi_world.proofs.NotLive.{ended-sent, ended-seen}
use Rattle.csi_world.proofs.Forgotten.{told_by, closed-told, ended-detached}
use Rattle.csi_world.proofs.HeardReplies.{WasSent, sent-more}
use Rattle.csi_world.proofs.RepliesTold.{unanswered, before_call, truth-sent}
use Rattle.csi_world.proofs.StagedAttached.{stands-sent}
use Rattle.csi_world.proofs.KnownThings.{IsSoFar}
use Rattle.csi_world.proofs.GuardedCalls.{own-guarded, leaves-guarded, stages-guarded}
use Rattle.csi_world.proofs.RecordedRight.{IsWell}
use Rattle.csi_world.proofs.PluginsReached.{regular-named, found-at, knows-nothing, empty-reached, still-reached, answered-history}
use Rattle.csi_world.proofs.Deliveries.{PluginLaws, all-closed, frame-got}
use Rattle.csi_world.proofs.RightWorlds.{IsLast, IsRight, after-all, noted-right}
use Rattle.csi_world.proofs.NamesForgotten.{forgets-right}
use Rattle.csi_world.proofs.NodesLost.{loses-right}
use Rattle.csi_world.proofs.NodesJoined.{joins-right}

-- a world of which all is so that is kept of every world
module _ (laws : PluginLaws) (world : World) (right : IsRight world) where
  -- the ids that were given so far
  abbrev given : List GivenId
  given = right.good.given

  -- the world is as it has to be
  abbrev well : IsWell world given
  well = right.good.well

  -- what is told of the world so far
  abbrev so_far : IsSoFar world.history world.frames (told_by given world) given
  so_far = well.so_far

  -- the calls that were sent
  abbrev issued : List Issued
  issued = issued_in world.history.items

  -- no volume is attached that was deleted before its name was forgotten
  detached : (name : List ℕ) (id : ℕ) (node : List ℕ) → HasOld given name id → (told_by given world).held (Attached id node) ≡ None
  detached name id node had = ended-detached world id node right.good.reached.controller.exclusive.attached_while_live (well.of_controller.ended name id had)

  -- a call is sent
  sent-right : (call : Issued) → MaySend world call → IsRight (chosen world (Sends call))
  sent-right call may =
      let guarded = may.allowed.guarded in
      let frames : List Frame = world.frames ++ frame_of call ∷ [] in
      let later = after-all world.history call.number right.last may.numbered.later in
      let above = subst (λ s. so_far.floor ≤ s) may.numbered.same_session right.good.floor.last in
      let mine = own-guarded world.history world.frames (told_by given world) given so_far detached call.name call.party call.call guarded in
      record {
        good = record {
          reached = still-reached world world.config frames (with_items world.history (Sent call ∷ [])) right.good.reached;
          given = given;
          floor = record { controller = right.good.floor.controller; nodes = right.good.floor.nodes; last = above };
          well = record {
            so_far = record {
              floor = so_far.floor;
              truth = truth-sent so_far.floor issued (latest world.history.items) world.frames (told_by given world) call so_far.truth above later;
              closed = closed-told given world (all-closed laws world);
              named = record {
                own_now = λ other among. ⊎_elim (λ e. subst (λ (x : Issued). IsOwnNow given x.name x.party x.call) (sym e) mine) (so_far.named.own_now other) among;
                own_old = so_far.named.own_old;
                made = λ other reply id create required limit capabilities among is ok has_id.
                    ⊎_elim (λ e. absurd (unanswered so_far.floor issued (latest world.history.items) world.frames (told_by given world) call reply so_far.truth above later (subst (λ (x : Issued). IsAnsweredOk frames x reply) e ok)))
                    (λ there.
                    let before = before_call world.frames call other.number other.party (kind_of other.call) reply ok.0 in
                    so_far.named.made other reply id create required limit capabilities there is (before, ok.1) has_id) among;
              };
              are_given = so_far.are_given;
              heard = λ number status id among.
                  ⊎_elim (λ e. absurd (clash number status id call e))
                  (λ there. sent-more issued (call ∷ issued) world.frames (frame_of call) number status id (λ c among. inr among) (so_far.heard number status id there)) among;
              stands = stands-sent world.history.items call (told_by given world) so_far.stands
                  (leaves-guarded world.history world.frames (told_by given world) given so_far detached call guarded)
                  (stages-guarded world.history world.frames (told_by given world) given so_far detached call guarded);
              timed = timed-sent world.history.began world.history.items call so_far.timed may.numbered.later may.numbered.same_session;
              undone = so_far.undone;
            };
            of_controller = well.of_controller;
            creates = first-sent world.history call well.creates guarded later;
            ended = ended-seen given (Sent call ∷ world.history.items) (view_of world) (view_of (chosen world (Sends call))) (λ name. refl) (λ name number spent. spent) (ended-sent given world.history (view_of world) call guarded well.ended);
            old_spent = well.old_spent;
          };
        };
        last = λ other among. ⊎_elim (λ e. inl (ap (λ (x : Issued). x.number) e)) (λ there. inr (later other there)) among;
      }
    where
      clash : (number : Number) (status : Status) (id : Option ℕ) (call : Issued) → Accepted number status id ≡ Sent call → ⊥
      clash number status id call h = cc

-- the last number of a new session
started-last : (history : History) (session : ℕ) → IsLast history → (last_number history).session < session
    → (call : Issued) → IsAmong call (issued_in history.items) → IsBefore call.number (let n : Number = record { session = session; call = 0 } in n)
started-last history session last rises = after-all history (record { session = session; call = 0 }) last (later (last_number history) rises)
  where
    later : (a : Number) → a.session < session → IsBefore a (let n : Number = record { session = session; call = 0 } in n)
    later a less = grind (arith, nat_tests)

-- a session starts
pub starts-right : PluginLaws → (world : World) (session : ℕ) (nodes : List (List ℕ)) → IsRight world → (last_number world.history).session < session → IsRight (with_history (Started session nodes ∷ []) world)
starts-right laws world session nodes right later =
    noted-right laws world (Started session nodes) right
    (record { silent = refl; same = refl; stays = λ thing. refl; since = λ thing. refl; before = λ thing. refl; over = λ thing. refl; grows = omega (arith, later) }) tt
    (λ call among. inr (started-last world.history session right.last later call among))

-- a reply is taken
taken-sent : (world : World) (call : Issued) (reply : Reply) → MayTake world call reply → WasSent (issued_in world.history.items) world.frames call.number reply.status reply.id
taken-sent world call reply may =
    record { call = call; among = (open-sent call.name world.history.items call may.is_open).0; has_number = refl; reply = reply; sent = may.was_sent; has_status = refl; has_id = refl }

-- a node is lost in a session that starts
lost-right : PluginLaws → (world : World) (node : List ℕ) (session : ℕ) (nodes : List (List ℕ)) → IsRight world → (last_number world.history).session < session → IsRight (chosen world (Loses node session nodes))
lost-right laws world node session nodes right later =
    loses-right laws (with_history (Started session nodes ∷ []) world) (starts-right laws world session nodes right later) node (λ call among. under call.number (started-last world.history session right.last later call among))
  where
    under : (a : Number) → IsBefore a (let n : Number = record { session = session; call = 0 } in n) → a.session < session
    under a before = grind (arith, nat_tests)

-- the controller has another configuration
configured-right : (world : World) (config : Config) → IsRight world → IsRight (record world { config = config })
configured-right world config right =
    let well = right.good.well in
    record {
      good = record {
        reached = still-reached world config world.frames world.history right.good.reached;
        given = right.good.given;
        floor = record { controller = right.good.floor.controller; nodes = right.good.floor.nodes; last = right.good.floor.last };
        well = record { so_far = well.so_far; of_controller = well.of_controller; creates = well.creates; ended = well.ended; old_spent = well.old_spent };
      };
      last = right.last;
    }

-- what is kept of every world is kept by each choice that may be made
pub chosen-right : PluginLaws → (world : World) (choice : Choice) → IsRight world → MayChoose world choice → IsRight (chosen world choice)
chosen-right laws world (Sends call) right may = sent-right laws world right call may
chosen-right laws world (Closes number) right may =
    noted-right laws world (Closed number) right (record { silent = refl; same = refl; stays = λ thing. refl; since = λ thing. refl; before = λ thing. refl; over = λ thing. refl; grows = omega arith }) tt right.last
chosen-right laws world (Takes call reply) right may =
    noted-right laws world (Accepted call.number reply.status reply.id) right
    (record { silent = refl; same = refl; stays = λ thing. refl; since = λ thing. refl; before = λ thing. refl; over = λ thing. refl; grows = omega arith }) (taken-sent world call reply may) right.last
chosen-right laws world (Notes name goal) right may =
    noted-right laws world (Noted name goal) right (record { silent = refl; same = refl; stays = λ thing. refl; since = λ thing. refl; before = λ thing. refl; over = λ thing. refl; grows = omega arith }) tt right.last
chosen-right laws world (Starts session nodes) right may = starts-right laws world session nodes right may
chosen-right laws world (Forgets name) right may = forgets-right laws world right name may
chosen-right laws world (Answers frame) right may =
    record { good = frame-got laws world frame right.good may; last = subst IsLast (sym (answered-history world frame)) right.last }
chosen-right laws world (Joins node) right may = joins-right laws world right node may
chosen-right laws world (Loses node session nodes) right may = lost-right laws world node session nodes right may
chosen-right laws world (Configures config) right may = configured-right world config right

-- the first world
empty-node : (config : Config) (id : List ℕ) (state : NodeState) → node_state id (empty_world config) ≡ Some state → state ≡ empty_node
empty-node config id state h = let found = found-at id (empty_world config) state h in sym found.3 ∙ knows-nothing (map node_id config.nodes) found.0 found.1

-- in the empty world nothing is there, spent or kept
empty-view : PluginLaws → (config : Config) → IsEmpty (view_of (empty_world config))
empty-view laws config = grind (arith, party_of, over_at, node_view, not-over, empty-node, plugin_view)

-- what is kept of every world is so of the empty one
pub empty-right : PluginLaws → (config : Config) → IsRight (empty_world config)
empty-right laws config =
    let empty = empty-view laws config in
    record {
      good = record {
        reached = empty-reached config;
        given = [];
        floor = record { controller = omega arith; nodes = λ at among. omega arith; last = omega arith };
        well = record {
          so_far = record {
            floor = 0;
            truth = record {
              calls = λ frame c among is. absurd among;
              replies = λ number party kind reply among. absurd among;
              ids = λ number party kind reply among ok. absurd among;
              kept = λ thing k is. absurd (none-some k (sym (empty.kept thing) ∙ is));
              numbers = tt;
              found = λ thing call is. absurd (none-some call is);
              order = λ call thing among of. absurd among;
              spent = λ call thing reply among of ok. absurd among;
              told = λ call thing reply found ok. absurd (none-some call found);
              untouched = λ thing none. empty.held thing;
            };
            closed = closed-told [] (empty_world config) (all-closed laws (empty_world config));
            named = record { own_now = λ call among. absurd among; own_old = λ call among. absurd among; made = λ call reply id create required limit capabilities among is ok has_id. absurd among };
            are_given = record { one_id = λ name i j has had. absurd has; one_name = λ a b id has had. absurd (⊎_elim (λ here. here) (λ here. here) has); apart = λ name id has had. absurd has };
            heard = λ number status id among. absurd among;
            stands = λ id node capability standing. absurd (⊎_elim (λ held. none-some (StagedAs capability) (sym (empty.held (Staged id node)) ∙ held)) (λ may. may.among) standing);
            timed = record { before = λ thing call among. absurd among; since = λ thing call among. absurd among; counted = λ call among. absurd among; begun = λ thing. omega arith };
            undone = λ name call found. absurd (none-some call found);
          };
          of_controller = record {
            names = regular-named (empty_world config).controller (empty-reached config).controller;
            below = λ name id has. absurd (⊎_elim (λ here. here) (λ here. here) has);
            listed = λ id volume is. absurd (none-some volume is);
            ended = λ name id had. absurd had;
          };
          creates = record { known = λ call among not_making. absurd among; first = λ create other there too. absurd there };
          ended = λ name id has none. absurd has;
          old_spent = λ call among is. absurd among;
        };
      };
      last = λ call among. absurd among;
    }

-- every world to which choices lead
pub all-right : PluginLaws → (world : World) (choices : List Choice) → IsRight world → MayChooseAll world choices → IsRight (chosen_all world choices)
all-right laws world [] right may = right
all-right laws world (choice ∷ choices) right may = all-right laws (chosen world choice) choices (chosen-right laws world choice right may.0) may.1
