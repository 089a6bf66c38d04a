-- A call that was just sent is delivered and answered, its reply is delivered, and fewer calls are left.
use Rattle.csi_world.proofs.Words.{◌≡◌, ◌⊎◌, ℕ, zero, suc, ◌+◌, ◌^◌, ◌≤◌, List, [], ◌∷◌, ◌++◌, length, slice_get, Bool}
use Rattle.csi_world.proofs.Words.{true, false, cond, find, Some, None, Ok, refl, sym, ◌∙◌, ap, subst, inl, inr, ⊎_elim}
use Rattle.csi_world.proofs.Words.{arith, length-append, is_none, Call, Capability, Node, Deliver, Reply, kind_of}
use Rattle.csi_world.proofs.Words.{Frame, is_ok_status, reply_frame, same_text, same_number, same_party, same_kind}
use Rattle.csi_world.proofs.Words.{Arguments, Usage, Issued, is_doing, touches, Thing, No, Goal, Create, Use, Stop}
use Rattle.csi_world.proofs.Words.{Item, Sent, Accepted, Noted, History, with_items, goal_of, id_of, known, last_number}
use Rattle.csi_world.proofs.Words.{open_call, Due, due_kind, due_for, Comes, moves, send_due, is_forward, undoing_goal}
use Rattle.csi_world.proofs.Words.{call_replied, hears, heard, heard_refusal, frame_of, World, by_result, orchestrated}
use Rattle.csi_world.proofs.Words.{called, delivered, occurs, is_at_rest, node_in, WasRefused}
use Rattle.csi_world.proofs.Lemmas.{false≢true, same_number-tells, same_party-tells, same_kind-tells}
use Rattle.csi_types.specs.declared.call.Call.TheVariants as calls
use Rattle.csi_types.specs.declared.call.Kind.TheVariants as kinds
use Rattle.csi_world.proofs.Lifetimes.{calls_for}
use Rattle.csi_world.proofs.NamesRowed.{known-aside, still-gone}
use Rattle.csi_world.proofs.CallThings.{is_making}
use Rattle.csi_world.proofs.GoalsMet.{HasId, noted-id, accepted-id, goal-id}
use Rattle.csi_world.proofs.RowsShown.{IsListed}
use Rattle.csi_world.proofs.DueRanks.{rank_of, rank_due, issued_for, use-create, stop-rank, goal-fewer}
use Rattle.csi_world.proofs.FreshCalls.{IsThere, IsAnsweredBy, call-answered}
use Rattle.csi_world.proofs.RunWorlds.{IsRun, RunLaws, next-run}
use Rattle.csi_world.proofs.UndoneCalls.{HasRoom, undone-ok}
use Rattle.csi_world.proofs.SettledFrames.{self, final, at-end, goes-on, get-last, Extends, extends-same, extends-then, still-refused, RefusesNoMore, refuses-added, IsUnrefused, stop-unrefused}
use Rattle.csi_world.proofs.GoalCalls.{goal-noted, due-party, due-forward, due-create, Ends, met-ends, Finishes}
use Rattle.csi_world.proofs.WaitingWorlds.{IsWaiting, IsNext, AddsCalls, rank-one, hears-so, sent-next}

module _ (laws : RunLaws) (name : List ℕ) where
  -- ---- a call that is waited for

  module _ (room : (world : World) (base : History) (issued : Issued) → IsRun world → world.history ≡ with_items base (Sent issued ∷ []) → HasRoom world issued.number issued.party issued.call) where
    -- the reply to the call that was sent last is one to it
    pub replied-own : (base : History) (issued : Issued) → call_replied (with_items base (Sent issued ∷ [])) issued.number issued.party (kind_of issued.call) ≡ Some issued
    replied-own base issued =
        let n : same_number issued.number issued.number ≡ true = (same_number-tells issued.number issued.number).1 refl in
        let p : same_party issued.party issued.party ≡ true = (same_party-tells issued.party issued.party).1 refl in
        let k : same_kind (kind_of issued.call) (kind_of issued.call) ≡ true = (same_kind-tells (kind_of issued.call) (kind_of issued.call)).1 refl in
        let t : same_text issued.name issued.name ≡ true = self issued.name in
        rw (t, n, p, k) refl

    -- the call was delivered, and its reply is there
    pub record IsAnswered (world : World) (place rank : ℕ) (waiting : IsWaiting world name place (suc rank)) : Type 0 where
      pub next : World
      pub is : next ≡ (occurs world (Deliver (suc place))).world
      pub run : IsRun next
      pub answer : IsAnsweredBy world next (issued_for name waiting.number waiting.due)
      pub same_history : next.history ≡ with_items waiting.base (Sent (issued_for name waiting.number waiting.due) ∷ [])
      pub framed : slice_get next.frames (suc place) ≡ Some (reply_frame waiting.number (waiting.due).party (kind_of (waiting.due).call) answer.reply)
      pub only : length next.frames ≡ suc (suc place)

    -- the plugin of the call is there
    pub is-there : (world : World) (place rank : ℕ) (waiting : IsWaiting world name place (suc rank)) → IsThere world (waiting.due).party
    is-there world place rank waiting =
        ⊎_elim (λ e. subst (IsThere world) (sym e) tt) (λ of. subst (IsThere world) (sym of.1) (waiting.there of.0 of.2 (waiting.listed of.0 of.1)))
        (due-party name waiting.goal (id_of waiting.base name) (due_kind waiting.base name waiting.goal) waiting.due waiting.is_due)

    -- the call is delivered
    pub answers : (world : World) (place rank : ℕ) (waiting : IsWaiting world name place (suc rank)) → IsAnswered world place rank waiting
    answers world place rank waiting =
        record {
          next = next;
          is = refl;
          run = next-run laws world (Deliver (suc place)) waiting.run;
          answer = answer;
          same_history = answer.history ∙ waiting.is_sent;
          framed = ap (λ fs. slice_get fs (suc place)) answer.frames ∙ ap (slice_get (world.frames ++ frame ∷ [])) (sym waiting.only) ∙ get-last world.frames frame;
          only = ap length answer.frames ∙ length-append world.frames (frame ∷ []) ∙ ap (λ n. n + 1) waiting.only ∙ omega arith;
        }
      where
        issued : Issued
        issued = issued_for name waiting.number waiting.due

        next : World
        next = (occurs world (Deliver (suc place))).world

        is : next ≡ (called world (frame_of issued) issued.party).world
        is = ap (λ o. (delivered world o).world) waiting.framed

        answer : IsAnsweredBy world next issued
        answer = subst (λ w. IsAnsweredBy world w issued) (sym is) (call-answered world waiting.last issued waiting.heard waiting.later (is-there world place rank waiting))

        frame : Frame
        frame = reply_frame issued.number issued.party (kind_of issued.call) answer.reply

    -- what comes of its reply: the goal goes on; or the call was refused, and a use is stopped, or a creation dropped
    abbrev pub Replied : World → World → ℕ → ℕ → ℕ → Goal → Type 0
    Replied before world sent place rank goal =
        (IsNext world name place rank goal × RefusesNoMore before world)
        ⊎ ((was : WasRefused world sent)
        × (((usage : Usage) × (goal ≡ Use usage) × IsNext world name place rank (Stop usage.node usage.target)) ⊎ ((arguments : Arguments) × (goal ≡ Create arguments) × (was.kind ≡ kinds.CreateVolume) × (is_at_rest world name ≡ true))))

    -- its reply is delivered
    pub replies : (sent : ℕ) (world : World) (place rank : ℕ) (waiting : IsWaiting world name place (suc rank)) (answered : IsAnswered world place rank waiting) → sent ≤ place
        → Replied world (occurs answered.next (Deliver (suc (suc place)))).world sent (suc (suc place)) rank waiting.goal × Extends answered.next (occurs answered.next (Deliver (suc (suc place)))).world
    replies sent world place rank waiting answered since =
        subst (λ w. Replied world w sent (suc (suc place)) rank waiting.goal × Extends answered.next w) (sym is)
        (subst (λ n. Replied world last_world sent n rank waiting.goal × Extends answered.next last_world) answered.only (by (is_ok_status reply.status) refl))
      where
        base : History
        base = waiting.base

        goal : Goal
        goal = waiting.goal

        due : Due
        due = waiting.due

        issued : Issued
        issued = issued_for name waiting.number due

        old : World
        old = answered.next

        reply : Reply
        reply = (answered.answer).reply

        frame : Frame
        frame = reply_frame issued.number issued.party (kind_of issued.call) reply

        accepted : Item
        accepted = Accepted issued.number reply.status reply.id

        last_world : World
        last_world = (orchestrated old (Comes frame)).world

        is : (occurs old (Deliver (suc (suc place)))).world ≡ last_world
        is = ap (λ o. (delivered old o).world) answered.framed

        next : IsRun last_world
        next = subst IsRun is (next-run laws old (Deliver (suc (suc place))) answered.run)

        moved : moves old.history (Comes frame) ≡ heard old.history reply (Some issued)
        moved = ap (heard old.history reply) (ap (λ h. call_replied h issued.number issued.party (kind_of issued.call)) answered.same_history ∙ replied-own base issued)

        wanted : goal_of old.history name ≡ Some goal
        wanted = ap (λ h. goal_of h name) answered.same_history ∙ waiting.wanted

        left : (last_number old.history).call + suc rank ≤ 2 ^ 64
        left = subst (λ h. (last_number h).call + suc rank ≤ 2 ^ 64) (sym answered.same_history) waiting.left

        there : (node : List ℕ) → node_in (Some goal) ≡ Some node → IsListed old.history node → IsThere old (Node node)
        there node of here = (answered.answer).stays node (waiting.there node of (subst (λ h. IsListed h node) (answered.answer).history here))

        -- what is known not to be so stays so
        keeps : (thing : Thing) → known old.history thing ≡ No → known (with_items old.history (accepted ∷ [])) thing ≡ No
        keeps thing gone = still-gone old.history.items accepted thing (find (touches thing) (calls_for thing old.history.items)) gone

        -- the call is open
        is_open : open_call old.history issued.name ≡ Some issued
        is_open = ap (λ h. open_call h issued.name) answered.same_history ∙ ap (λ b. cond b (Some issued) (open_call base issued.name)) (self name)

        -- the volume has its id still
        has_id : (other : Goal) → ((arguments : Arguments) → goal ≡ Create arguments → ⊥) → HasId (with_items old.history (accepted ∷ [])) name
        has_id other differs = accepted-id old.history name issued reply.status reply.id (answered.run).form is_open (goal-id old.history (answered.run).rows name goal wanted differs)

        -- a refusal of the call is there
        was-refused : Extends old last_world → is_ok_status reply.status ≡ false → (was : WasRefused last_world sent) × (was.kind ≡ kind_of due.call)
        was-refused extends bad =
            still-refused old last_world sent extends
            (record { place = suc place; number = issued.number; party = issued.party; kind = kind_of issued.call; reply = reply; is_there = answered.framed; since = omega (arith, since); refused = bad })

        -- a success
        succeeds : is_ok_status reply.status ≡ true → Replied world last_world sent (length old.frames) rank goal × Extends old last_world
        succeeds ok =
            let went
            = sent-next laws name old (Comes frame) hears (accepted ∷ []) goal rank hears-so
            (moved ∙ ap (λ b. cond b (send_due old.history name hears (accepted ∷ [])) (heard_refusal old.history issued accepted issued.call)) ok) answered.run next wanted few left there refl keeps (λ differs. has_id goal differs)
            in
            (inl (went.0, λ n was. refuses-added world old frame (answered.answer).frames ok n (went.1.refuses n was)), went.1.extends)
          where
            few : rank_due (due_for (with_items old.history (accepted ∷ [])) name (Some goal)) ≤ rank
            few =
                let fewer = goal-fewer base name waiting.number reply.status reply.id ok goal due waiting.is_due in
                let here = subst (λ h. suc (rank_due (due_for (with_items h (accepted ∷ [])) name (Some goal))) ≤ rank_of (kind_of due.call)) (sym answered.same_history) fewer in
                let ranked = waiting.ranked in
                omega (arith, here, ranked)

        -- a refusal
        refusal : is_ok_status reply.status ≡ false → moves old.history (Comes frame) ≡ heard_refusal old.history issued accepted issued.call
        refusal bad = moved ∙ ap (λ b. cond b (send_due old.history name hears (accepted ∷ [])) (heard_refusal old.history issued accepted issued.call)) bad

        -- a creation is dropped
        dropped : (create : List ℕ) (required limit : ℕ) (capabilities : List Capability) → due.call ≡ calls.CreateVolume create required limit capabilities → is_ok_status reply.status ≡ false
            → moves old.history (Comes frame) ≡ Ok (record { answer = hears None; items = Noted name None ∷ accepted ∷ [] }) → Replied world last_world sent (length old.frames) rank goal × Extends old last_world
        dropped create required limit capabilities c bad e =
            let extends = extends-same old last_world (ap (λ r. (by_result old r).world.frames) e) in
            let made = due-create name goal (id_of base name) (due_kind base name goal) due waiting.is_due (ap is_making c) in
            let was = was-refused extends bad in
            (inr (was.0, inr (made.0, made.1, was.1 ∙ ap kind_of c, ap (λ r. is_at_rest (by_result old r).world name) e ∙ ap is_none (goal-noted old.history name None (accepted ∷ [])))), extends)

        -- a use is stopped
        stopped : is_forward due.call ≡ true → 4 ≤ rank_of (kind_of due.call) → is_ok_status reply.status ≡ false → moves old.history (Comes frame) ≡ send_due old.history name hears (Noted name (undoing_goal (goal_of old.history name)) ∷ accepted ∷ [])
            → Replied world last_world sent (length old.frames) rank goal × Extends old last_world
        stopped forward most bad e = (inr ((was-refused went.1.extends bad).0, inl (usage, used.1, went.0)), went.1.extends)
          where
            used : (usage : Usage) × (goal ≡ Use usage)
            used = due-forward name goal (id_of base name) (due_kind base name goal) due waiting.is_due forward

            usage : Usage
            usage = used.0

            items : List Item
            items = Noted name (undoing_goal (goal_of old.history name)) ∷ accepted ∷ []

            few : rank_due (due_for (with_items old.history items) name (Some (Stop usage.node usage.target))) ≤ rank
            few = let own = stop-rank (with_items old.history items) name usage.node usage.target in let ranked = waiting.ranked in omega (arith, own, most, ranked)

            went : IsNext last_world name (length old.frames) rank (Stop usage.node usage.target) × AddsCalls old last_world
            went =
                sent-next laws name old (Comes frame) hears items (Stop usage.node usage.target) rank hears-so e answered.run next
                (goal-noted old.history name (undoing_goal (goal_of old.history name)) (accepted ∷ []) ∙ ap undoing_goal (wanted ∙ ap Some used.1)) few left
                (λ node of. there node (ap (λ g. node_in (Some g)) used.1 ∙ of)) refl
                (λ thing gone. known-aside (accepted ∷ old.history.items) (Noted name (undoing_goal (goal_of old.history name))) thing (find (touches thing) (calls_for thing old.history.items)) (λ n. refl) ∙ keeps thing gone)
                (λ differs. noted-id (with_items old.history (accepted ∷ [])) name name (undoing_goal (goal_of old.history name)) (has_id goal (λ arguments e. use-create usage arguments (sym used.1 ∙ e))))

        -- what is undone isn't refused
        undone : is_doing due.call ≡ false → is_ok_status reply.status ≡ false → Replied world last_world sent (length old.frames) rank goal × Extends old last_world
        undone undoes bad =
            let ok = undone-ok world base issued waiting.run waiting.is_sent waiting.guarded undoes (room world base issued waiting.run waiting.is_sent) reply (answered.answer).tabled in
            absurd (false≢true (sym bad ∙ ap is_ok_status ok))

        refused : (call : Call) → due.call ≡ call → is_ok_status reply.status ≡ false → Replied world last_world sent (length old.frames) rank goal × Extends old last_world
        refused (calls.CreateVolume create required limit capabilities) c bad = dropped create required limit capabilities c bad (refusal bad ∙ ap (heard_refusal old.history issued accepted) c)
        refused (calls.ControllerPublishVolume id node capability readonly) c bad =
            stopped (ap is_forward c) (subst (λ k. 4 ≤ rank_of (kind_of k)) (sym c) (omega arith)) bad (refusal bad ∙ ap (heard_refusal old.history issued accepted) c)
        refused (calls.NodeStageVolume id capability) c bad =
            stopped (ap is_forward c) (subst (λ k. 4 ≤ rank_of (kind_of k)) (sym c) (omega arith)) bad (refusal bad ∙ ap (heard_refusal old.history issued accepted) c)
        refused (calls.NodePublishVolume id target capability readonly) c bad =
            stopped (ap is_forward c) (subst (λ k. 4 ≤ rank_of (kind_of k)) (sym c) (omega arith)) bad (refusal bad ∙ ap (heard_refusal old.history issued accepted) c)
        refused call c bad = undone (ap is_doing c) bad

        by : (b : Bool) → is_ok_status reply.status ≡ b → Replied world last_world sent (length old.frames) rank goal × Extends old last_world
        by true ok = succeeds ok
        by false bad = refused due.call refl bad

    -- a world that waits comes to rest by two deliveries for each call that is left
    pub waits : (sent rank more : ℕ) (world : World) (place : ℕ) → sent ≤ place → rank + rank ≤ more → (waiting : IsWaiting world name place rank) → IsUnrefused sent world waiting.goal
        → Finishes sent world name waiting.goal (final more world name place)
    unfolding answers
    waits sent zero more world place since enough waiting clean =
        let one = rank-one (kind_of (waiting.due).call) in let ranked = waiting.ranked in absurd (none one ranked)
      where
        none : {n : ℕ} → 1 ≤ n → n ≤ 0 → ⊥
        none {n} one ranked = omega (arith, one, ranked)
    waits sent (suc rank) zero world place since enough waiting clean = absurd (none enough)
      where
        none : suc rank + suc rank ≤ 0 → ⊥
        none enough = omega (arith, enough)
    waits sent (suc rank) (suc zero) world place since enough waiting clean = absurd (none enough)
      where
        none : suc rank + suc rank ≤ 1 → ⊥
        none enough = omega (arith, enough)
    waits sent (suc rank) (suc (suc more)) world place since enough waiting clean =
        let answered = answers world place rank waiting in
        let replied = replies sent world place rank waiting answered since in
        let next : World = (occurs (occurs world (Deliver (suc place))).world (Deliver (suc (suc place)))).world in
        let run : IsRun next = next-run laws (occurs world (Deliver (suc place))).world (Deliver (suc (suc place))) answered.run in
        let there : Extends world next = extends-then world (occurs world (Deliver (suc place))).world next (record { more = reply_frame waiting.number (waiting.due).party (kind_of (waiting.due).call) (answered.answer).reply ∷ []; frames = (answered.answer).frames }) replied.1 in
        let same : final (suc (suc more)) world name place ≡ final more next name (suc (suc place))
        = goes-on (suc more) world name place (frame_of (issued_for name waiting.number waiting.due)) (ap is_none (ap (λ h. goal_of h name) waiting.is_sent ∙ waiting.wanted)) waiting.framed
        ∙ goes-on more (occurs world (Deliver (suc place))).world name (suc place) _ (ap is_none (ap (λ h. goal_of h name) answered.same_history ∙ waiting.wanted)) answered.framed in
        subst (Finishes sent world name waiting.goal) (sym same)
        (finish sent rank more world next place waiting.goal run there clean (λ goal unrefused then. ended sent rank more next place goal run unrefused (λ w. waits sent rank more next (suc (suc place)) (omega (arith, since)) (omega (arith, enough)) w) then) replied.0)
      where
        -- by what comes next
        ended : (sent rank more : ℕ) (next : World) (place : ℕ) (goal : Goal) → IsRun next → IsUnrefused sent next goal
            → ((w : IsWaiting next name (suc (suc place)) rank) → IsUnrefused sent next w.goal → Finishes sent next name w.goal (final more next name (suc (suc place))))
            → IsNext next name (suc (suc place)) rank goal → Finishes sent next name goal (final more next name (suc (suc place)))
        ended sent rank more next place goal run clean waits (inl rest) =
            subst (Finishes sent next name goal) (sym (at-end more next name (suc (suc place)) rest.0))
            (record { rest = rest.0; ends = met-ends sent next name goal run clean rest.1; extends = extends-same next next refl })
        ended sent rank more next place goal run clean waits (inr then) =
            subst (λ g. Finishes sent next name g (final more next name (suc (suc place)))) then.1 (waits then.0 (subst (IsUnrefused sent next) (sym then.1) clean))

        finish : (sent rank more : ℕ) (world next : World) (place : ℕ) (goal : Goal) → IsRun next → Extends world next → IsUnrefused sent world goal
            → ((other : Goal) → IsUnrefused sent next other → IsNext next name (suc (suc place)) rank other → Finishes sent next name other (final more next name (suc (suc place))))
            → Replied world next sent (suc (suc place)) rank goal → Finishes sent world name goal (final more next name (suc (suc place)))
        finish sent rank more world next place goal run there clean on (inl (then, refuses)) =
            let finished = on goal (λ usage is was. clean usage is (refuses sent was)) then in
            record { rest = finished.rest; ends = finished.ends; extends = extends-then world next (final more next name (suc (suc place))) there finished.extends }
        finish sent rank more world next place goal run there clean on (inr (was, inl (usage, is, then))) =
            let finished = on (Stop usage.node usage.target) (stop-unrefused sent next usage.node usage.target) then in
            record {
              rest = finished.rest;
              ends = subst (Ends sent (final more next name (suc (suc place))) name) (sym is) (inr (finished.ends, (still-refused next (final more next name (suc (suc place))) sent finished.extends was).0));
              extends = extends-then world next (final more next name (suc (suc place))) there finished.extends;
            }
        finish sent rank more world next place goal run there clean on (inr (was, inr (arguments, is, of, rest))) =
            subst (Finishes sent world name goal) (sym (at-end more next name (suc (suc place)) rest))
            (record { rest = rest; ends = subst (Ends sent next name) (sym is) (inr (was, of)); extends = there })
