-- A world with more frames under way, and without replies that nobody takes any more: whatever may be chosen leads to the same but for the frames. So
-- where each world to which choices lead with those frames is safe, each one with its own is.
use Rattle.csi_world.proofs.Words.{◌≡◌, ◌⊎◌, ℕ, ◌<◌, ◌≤◌, List, [], ◌∷◌, Option, Some, None, refl, ◌∙◌, ap, inl, inr}
use Rattle.csi_world.proofs.Words.{⊎_elim, arith, Number, Kind, Party, Controller, Node, Body, Reply, Frame, IsAmong}
use Rattle.csi_world.proofs.Words.{NodeState, Thing, Issued, Sent, History, open_call, last_number, frame_of, World}
use Rattle.csi_world.proofs.Words.{node_state, with_node, with_frame, with_history, answered_by_node, answered_by}
use Rattle.csi_world.proofs.Words.{answered_by_plugin, is_true_in, Safe, Choice, Sends, Answers, MayChoose, chosen}
use Rattle.csi_world.proofs.Lemmas.{none-some, same_Some, among-append, among-either, among-last, unless-some}
use Rattle.csi_types.specs.declared.frame.Body.TheVariants as bodies
use Rattle.csi_controller.specs.Model.Fenced as controller
use Rattle.csi_node.specs.Model.Fenced as node
use Rattle.csi_orchestrator.specs.declared.thing.Thing.TheVariants as things
use Rattle.csi_world.proofs.PluginsReached.{IsReached, with_node-same, answered-history}

-- the world with these frames
abbrev pub with_frames : List Frame → World → World
with_frames frames world = record world { frames = frames }

-- each frame of the one list is in the other, or is so
abbrev pub AreMore : (Frame → Type 0) → List Frame → List Frame → Type 0
AreMore Dead few more = (frame : Frame) → IsAmong frame few → IsAmong frame more ⊎ Dead frame

-- what is chosen with more frames leads to the same with more frames
pub record LeadsOn (Dead : Frame → Type 0) (with_more without : World) : Type 0 where
  pub frames : List Frame
  pub same : with_more ≡ with_frames frames without
  pub more : AreMore Dead without.frames frames

-- a frame is sent, if there is one
frame-more : (Dead : Frame → Type 0) (reply : Option Frame) (world : World) (frames : List Frame) → AreMore Dead world.frames frames → LeadsOn Dead (with_frame reply (with_frames frames world)) (with_frame reply world)
frame-more Dead None world frames more = record { frames = frames; same = refl; more = more }
frame-more Dead (Some one) world frames more = grind (arith, among-append, among-last, among-either)

-- a plugin answers
answer-more : (Dead : Frame → Type 0) (world : World) (frame : Frame) (frames : List Frame) (party : Party) → AreMore Dead world.frames frames → LeadsOn Dead (answered_by (with_frames frames world) frame party) (answered_by world frame party)
answer-more Dead world frame frames Controller more =
    frame-more Dead (controller.fenced world.config world.controller frame).reply (record world { controller = (controller.fenced world.config world.controller frame).state }) frames more
answer-more Dead world frame frames (Node id) more = by (node_state id world)
  where
    by : (o : Option NodeState) → LeadsOn Dead (answered_by_node id (with_frames frames world) frame o) (answered_by_node id world frame o)
    by None = record { frames = frames; same = refl; more = more }
    by (Some state) = frame-more Dead (node.fenced id state frame).reply (with_node id (node.fenced id state frame).state world) frames more

-- one choice
pub chosen-more : (Dead : Frame → Type 0) (world : World) (frames : List Frame) (choice : Choice) → AreMore Dead world.frames frames → LeadsOn Dead (chosen (with_frames frames world) choice) (chosen world choice)
chosen-more Dead world frames (Sends issued) more = frame-more Dead (Some (frame_of issued)) (with_history (Sent issued ∷ []) world) frames more
chosen-more Dead world frames (Answers frame) more = answer-more Dead world frame frames frame.party more
chosen-more Dead world frames other more = record { frames = frames; same = refl; more = more }

-- ---- replies that are dead

-- a reply to a call of an earlier session than this: nobody takes it any more
pub record IsDead (session : ℕ) (frame : Frame) : Type 0 where
  pub kind : Kind
  pub reply : Reply
  pub is : frame.body ≡ bodies.Reply kind reply
  pub earlier : frame.number.session < session

-- it is dead still in a later one
pub more-later : (session later : ℕ) (few more : List Frame) → session ≤ later → AreMore (IsDead session) few more → AreMore (IsDead later) few more
more-later session later few more grows are frame among = ⊎_elim inl (λ dead. inr (record { kind = dead.kind; reply = dead.reply; is = dead.is; earlier = let low = dead.earlier in omega (arith, low, grows) })) (are frame among)

-- a plugin does nothing with a reply
reply-nothing : (world : World) (number : Number) (party : Party) (kind : Kind) (reply : Reply) → IsReached world → answered_by world (record { number = number; party = party; body = bodies.Reply kind reply }) party ≡ world
reply-nothing world number party kind reply reached = grind (arith, with_node-same)

-- so is it with one that is dead
pub dead-nothing : (session : ℕ) (world : World) (frame : Frame) → IsReached world → IsDead session frame → answered_by_plugin world frame ≡ world
dead-nothing session world frame reached dead =
    ap (λ (b : Body). answered_by world (record { number = frame.number; party = frame.party; body = b }) frame.party) dead.is ∙ reply-nothing world frame.number frame.party dead.kind dead.reply reached

-- each open call is of the last session
abbrev pub IsOpenNow : History → Type 0
IsOpenNow history = (name : List ℕ) (call : Issued) → open_call history name ≡ Some call → call.number.session ≡ (last_number history).session

-- so it is after each choice
pub chosen-open : (world : World) (choice : Choice) → IsOpenNow world.history → MayChoose world choice → IsOpenNow (chosen world choice).history
chosen-open world choice now may = grind (arith, same_Some, unless-some, none-some, answered-history)

-- no choice leads to an earlier session
pub chosen-grows : (world : World) (choice : Choice) → MayChoose world choice → (last_number world.history).session ≤ (last_number (chosen world choice).history).session
chosen-grows world choice may = grind (arith, answered-history)

-- which frames are under way doesn't matter for safety
pub safe-fewer : (world : World) (frames : List Frame) → Safe (with_frames frames world) → Safe world
safe-fewer world frames safe =
    record {
      exclusive = safe.exclusive;
      staged_where_attached = λ at staged there among.
          let attached = safe.staged_where_attached at staged there among in
          record { holding = attached.holding; is_held = attached.is_held; of_volume = attached.of_volume; at_node = attached.at_node; same_capability = attached.same_capability };
      published_where_staged = safe.published_where_staged;
      attached_while_live = safe.attached_while_live;
      recorded_right = λ thing. record { yes = λ known. holds-fewer thing ∙ (safe.recorded_right thing).yes known; no = λ known. holds-fewer thing ∙ (safe.recorded_right thing).no known };
    }
  where
    holds-fewer : (thing : Thing) → is_true_in world thing ≡ is_true_in (with_frames frames world) thing
    holds-fewer (things.Exists name) = refl
    holds-fewer thing = refl
