-- Every world to which guarded choices, raises of plugins, recoveries and controllers that take a lost one's place lead is safe.
use Rattle.std.proofs.Common.{◌≡◌, ℕ, zero, suc, ◌<◌, List, [], ◌∷◌, Option, Some, None, sym, ◌∙◌, subst, inl, inr, ⊎_elim, arith}
use Rattle.std.proofs.lemmas.Option.{none-some}
use Rattle.csi_types.specs.declared.call.Party.{Party}
use Rattle.csi_types.specs.declared.call.Party.TheVariants.{Controller, Node}
use Rattle.csi_types.specs.declared.reply.Reply.{Reply}
use Rattle.csi_types.specs.Model.Call.{kind_of}
use Rattle.csi_types.specs.Model.Frame.{Frame}
use Rattle.csi_types.specs.Model.Replies.{reply_frame}
use Rattle.csi_controller.specs.Model.State.{ControllerState}
use Rattle.csi_node.specs.Model.State.{NodeState}
use Rattle.csi_orchestrator.specs.Model.Thing.{Issued}
use Rattle.csi_orchestrator.specs.Model.Readings.{last_number, open_call}
use Rattle.csi_world.specs.Model.World.{World, empty_world, node_state}
use Rattle.csi_world.specs.Model.Safe.{Safe}
use Rattle.csi_recovery.specs.Public.Recovered.{MayRecover}
use Rattle.csi_world.specs.Public.Recovery.{recovered_world}
use Rattle.csi_recovery.specs.Public.Laws.{given_of, node_raised, plugin_raised, rebuilt_world, MayReplace, Recovers, StaysSafe, RecoveryLaw}
use Rattle.csi_world.specs.Public.Step.{Choice, Sends, Takes, Answers, MayChoose, MayChooseAll, chosen, chosen_all}
use Rattle.csi_world.proofs.PluginsReached.{still-reached}
use Rattle.csi_world.proofs.Deliveries.{PluginLaws}
use Rattle.csi_world.proofs.RightWorlds.{IsRight}
use Rattle.csi_world.proofs.ChoicesRight.{starts-right, empty-right, chosen-right}
use Rattle.csi_world.proofs.WorldSafety.{right-safe}
use Rattle.csi_recovery.proofs.MoreFrames.{with_frames, AreMore, LeadsOn, chosen-more, IsDead, more-later, dead-nothing, IsOpenNow, chosen-open, chosen-grows, safe-fewer}
use Rattle.csi_recovery.proofs.RaisedWorlds.{raised-right}
use Rattle.csi_recovery.proofs.RebuiltRows.{Rebuilding}
use Rattle.csi_recovery.proofs.RebuiltThings.{frames, next, begins-later, fewer}
use Rattle.csi_recovery.proofs.RebuiltWorlds.{next-right}
use Rattle.csi_recovery.proofs.RecoveredWorlds.{IsMade, is-made}

-- all is kept of a world, if more frames are under way, and without replies that are dead
pub record IsKept (world : World) : Type 0 where
  pub frames : List Frame
  pub more : AreMore (IsDead (last_number world.history).session) world.frames frames
  pub right : IsRight (with_frames frames world)
  pub open_now : IsOpenNow world.history

-- so it is after a choice that may be made with those frames
goes-on : PluginLaws → (world : World) (choice : Choice) (kept : IsKept world) → MayChoose world choice → MayChoose (with_frames kept.frames world) choice → IsKept (chosen world choice)
goes-on laws world choice kept may also =
    let leads : LeadsOn (IsDead (last_number world.history).session) (chosen (with_frames kept.frames world) choice) (chosen world choice)
    = chosen-more (IsDead (last_number world.history).session) world kept.frames choice kept.more in
    record {
      frames = leads.frames;
      more = more-later (last_number world.history).session (last_number (chosen world choice).history).session (chosen world choice).frames leads.frames (chosen-grows world choice may) leads.more;
      right = subst IsRight leads.same (chosen-right laws (with_frames kept.frames world) choice kept.right also);
      open_now = chosen-open world choice kept.open_now may;
    }

-- a reply to an open call isn't dead
not-dead : (world : World) (issued : Issued) (reply : Reply) → IsOpenNow world.history → open_call world.history issued.name ≡ Some issued
    → IsDead (last_number world.history).session (reply_frame issued.number issued.party (kind_of issued.call) reply) → ⊥
not-dead world issued reply now is dead =
    let low : issued.number.session < (last_number world.history).session = dead.earlier in
    let same : issued.number.session ≡ (last_number world.history).session = now issued.name issued is in
    omega (arith, low, same)

-- so each choice leaves it
one-kept : PluginLaws → (world : World) (choice : Choice) → IsKept world → MayChoose world choice → IsKept (chosen world choice)
one-kept laws world (Sends issued) kept may = goes-on laws world (Sends issued) kept may (record { numbered = may.numbered; allowed = may.allowed })
one-kept laws world (Takes issued reply) kept may =
    goes-on laws world (Takes issued reply) kept may
    (record { is_open = may.is_open; was_sent = ⊎_elim (λ there. there) (λ dead. absurd (not-dead world issued reply kept.open_now may.is_open dead)) (kept.more (reply_frame issued.number issued.party (kind_of issued.call) reply) may.was_sent) })
one-kept laws world (Answers frame) kept may =
    ⊎_elim (λ there. goes-on laws world (Answers frame) kept may there)
    (λ dead. subst IsKept (sym (dead-nothing (last_number world.history).session world frame (still-reached (with_frames kept.frames world) world.config world.frames world.history kept.right.good.reached) dead)) kept)
    (kept.more frame may)
one-kept laws world choice kept may = goes-on laws world choice kept may may

-- and many
chosen-kept : PluginLaws → (world : World) (choices : List Choice) → IsKept world → MayChooseAll world choices → IsKept (chosen_all world choices)
chosen-kept laws world [] kept may = kept
chosen-kept laws world (choice ∷ choices) kept may = chosen-kept laws (chosen world choice) choices (one-kept laws world choice kept may.0) may.1

-- once a plugin's session was raised
raised-kept : PluginLaws → (world : World) (party : Party) (session : ℕ) → IsKept world → IsKept (plugin_raised party session world)
raised-kept laws world Controller session kept = record { frames = kept.frames; more = kept.more; right = raised-right laws (with_frames kept.frames world) kept.right Controller session; open_now = kept.open_now }
raised-kept laws world (Node id) session kept = by (node_state id world) (raised-right laws (with_frames kept.frames world) kept.right (Node id) session)
  where
    by : (o : Option NodeState) → IsRight (node_raised id session (with_frames kept.frames world) o) → IsKept (node_raised id session world o)
    by None right = record { frames = kept.frames; more = kept.more; right = right; open_now = kept.open_now }
    by (Some state) right = record { frames = kept.frames; more = kept.more; right = right; open_now = kept.open_now }

-- it is safe
kept-safe : PluginLaws → (world : World) → IsKept world → Safe world
kept-safe laws world kept = safe-fewer world kept.frames (right-safe laws (with_frames kept.frames world) kept.right)

-- and after a recovery
recovered-kept : PluginLaws → (Holds : World → Type 0) → ((world : World) → IsKept world → Holds world) → (world : World) (nodes given : List (List ℕ)) (session : ℕ) → IsKept world → (last_number world.history).session < session
    → MayRecover nodes session world.controller (given_of given world) → Recovers Holds nodes session given world
recovered-kept laws Holds then world nodes given session kept later may =
    let made : IsMade nodes session given (with_frames kept.frames world) = is-made (record { laws = laws; old = with_frames kept.frames world; right = kept.right; nodes = nodes; given = given; session = session; later = later; may = may }) in
    record {
      history = made.history;
      reached = made.reached;
      form = made.form;
      shows = made.shows;
      holds = then (recovered_world session given made.history world) (record {
        frames = made.frames;
        more = λ frame among. ⊎_elim (λ there. inl (made.more frame there)) (λ dead. inr (record { kind = dead.kind; reply = dead.reply; is = dead.is; earlier = still dead.earlier made.begins })) (kept.more frame among);
        right = made.right;
        open_now = λ name call is. absurd (none-some call (sym (made.closed name) ∙ is));
      });
    }
  where
    still : {number now : ℕ} → number < (last_number world.history).session → now ≡ session → number < now
    still {number} {now} low same = omega (arith, low, same, later)

-- and once another controller took the place of a lost one
rebuilt-kept : PluginLaws → (world : World) (controller : ControllerState) (session : ℕ) (nodes : List (List ℕ)) → IsKept world → MayReplace controller session world → IsKept (rebuilt_world controller session nodes world)
rebuilt-kept laws world controller session nodes kept may =
    let r : Rebuilding = record { laws = laws; old = with_frames kept.frames world; right = kept.right; controller = controller; session = session; may = record { kept = may.kept; of_orchestrator = may.of_orchestrator; made = may.made; later = may.later; word = may.word; begins = may.begins } } in
    let later : (last_number world.history).session < session = begins-later r in
    record {
      frames = frames r;
      more = λ frame among.
          ⊎_elim (λ there. fewer r frame there)
          (λ dead. inr (record { kind = dead.kind; reply = dead.reply; is = dead.is; earlier = let low = dead.earlier in omega (arith, low, later) })) (kept.more frame among);
      right = starts-right laws (next r) session nodes (next-right r) later;
      open_now = λ name call is. absurd (none-some call is);
    }

-- so it stays safe, however many recoveries come
stays-safe : PluginLaws → (count : ℕ) (world : World) → IsKept world → StaysSafe count world
stays-safe laws zero world kept = λ choices may. kept-safe laws (chosen_all world choices) (chosen-kept laws world choices kept may)
stays-safe laws (suc count) world kept = λ choices may.
    let now : IsKept (chosen_all world choices) = chosen-kept laws world choices kept may in
    record {
      safe = kept-safe laws (chosen_all world choices) now;
      raised = λ party session. stays-safe laws count (plugin_raised party session (chosen_all world choices)) (raised-kept laws (chosen_all world choices) party session now);
      rebuilt = λ controller session nodes may. stays-safe laws count (rebuilt_world controller session nodes (chosen_all world choices)) (rebuilt-kept laws (chosen_all world choices) controller session nodes now may);
      recovered = λ nodes given session later agrees. recovered-kept laws (StaysSafe count) (stays-safe laws count) (chosen_all world choices) nodes given session now later agrees;
    }

-- from the first world on
pub recovery-safe : PluginLaws → RecoveryLaw
recovery-safe laws config count = stays-safe laws count (empty_world config) (record { frames = []; more = λ frame among. inl among; right = empty-right laws config; open_now = λ name call is. absurd (none-some call is) })
