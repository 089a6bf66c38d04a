-- A volume comes to rest by one timeout and at most twelve deliveries: each call that is due is answered, and fewer are left then.
use Rattle.csi_world.proofs.Words.{◌≡◌, ◌⊎◌, ℕ, suc, ◌+◌, ◌^◌, ◌≤◌, ◌<◌, List, [], ◌∷◌, length, Bool, true, false, cond}
use Rattle.csi_world.proofs.Words.{not, find, Option, Some, None, ◌&&◌, ◌||◌, ◌==◌, refl, sym, ◌∙◌, ap, subst, inl, inr}
use Rattle.csi_world.proofs.Words.{⊎_elim, arith, is_none, IsSome, Node, Event, Timeout, NodeState, Usage, Issued}
use Rattle.csi_world.proofs.Words.{touches, Thing, IsWellFormed, Goal, Use, Stop, Item, Sent, Closed, Noted, History}
use Rattle.csi_world.proofs.Words.{with_items, goal_of, has_row, id_of, known, last_number, nodes_of, open_call, tries}
use Rattle.csi_world.proofs.Words.{calls_since, Due, due_kind, due_for, due_call, TimesOut, moves, send_due}
use Rattle.csi_world.proofs.Words.{is_forward_due, undoing_goal, closing, timeout, World, node_state, occurs}
use Rattle.csi_world.proofs.Words.{after_from, is_at_rest, deliveries, settling, settled, node_in, MaySettle, Settles}
use Rattle.csi_world.proofs.Words.{EndsSo}
use Rattle.csi_world.proofs.Lemmas.{and_parts, eqb-true, eqb-false, false≢true, same_text-tells, open-sent}
use Rattle.std.proofs.Math.Nat.{min-le_left}
use Rattle.csi_orchestrator.specs.declared.fault.OrchFault.TheVariants as faults
use Rattle.csi_orchestrator.specs.Model.Moves.{Sends}
use Rattle.csi_world.proofs.Lifetimes.{calls_for}
use Rattle.csi_world.proofs.NamesRowed.{known-aside}
use Rattle.csi_world.proofs.GoalsMet.{HasId, noted-id, closed-id, goal-id}
use Rattle.csi_world.proofs.RowsShown.{IsListed}
use Rattle.csi_world.proofs.DueRanks.{use-create, goal-rank, stop-rank}
use Rattle.csi_world.proofs.FreshCalls.{IsThere}
use Rattle.csi_world.proofs.RunWorlds.{IsRun, RunLaws, next-run}
use Rattle.csi_world.proofs.UndoneCalls.{HasRoom}
use Rattle.csi_world.proofs.SettledFrames.{final, at-end, few-deliveries, extends-same, RefusesNoMore, refused-none, IsUnrefused, stop-unrefused}
use Rattle.csi_world.proofs.GoalCalls.{goal-noted, due-forward, use-due, Ends, met-ends, Finishes}
use Rattle.csi_world.proofs.WaitingWorlds.{IsNext, rank-most, sends-so, sent-next}
use Rattle.csi_world.proofs.AnsweredWaits.{waits}
use Rattle.csi_world.proofs.SettledWorlds.{rest-told}

-- by at most thirteen events
pub few-events : (world : World) (name : List ℕ) → length (settling world name) ≤ 13
few-events world name = by (is_at_rest world name || not (has_row world.history name))
  where
    others : List Event
    others = deliveries 12 (occurs world (Timeout name)).world name (length world.frames)

    by : (b : Bool) → length (cond b [] (Timeout name ∷ others)) ≤ 13
    by true = omega arith
    by false = let few = few-deliveries 12 (occurs world (Timeout name)).world name (length world.frames) in omega (arith, few)

module _ (laws : RunLaws) (name : List ℕ) where
  module _ (room : (world : World) (base : History) (issued : Issued) → IsRun world → world.history ≡ with_items base (Sent issued ∷ []) → HasRoom world issued.number issued.party issued.call) where
    -- ---- the timeout

    -- giving up an open call leaves what is wanted
    closing-goal : (history : History) (call : Option Issued) → goal_of (with_items history (closing call)) name ≡ goal_of history name
    closing-goal history None = refl
    closing-goal history (Some issued) = refl

    closing-nodes : (history : History) (call : Option Issued) → nodes_of (with_items history (closing call)) ≡ nodes_of history
    closing-nodes history None = refl
    closing-nodes history (Some issued) = refl

    closing-known : (history : History) (call : Option Issued) (thing : Thing) → known (with_items history (closing call)) thing ≡ known history thing
    closing-known history None thing = refl
    closing-known history (Some issued) thing = known-aside history.items (Closed issued.number) thing (find (touches thing) (calls_for thing history.items)) (λ n. refl)

    closing-id : (history : History) (call : Option Issued) → IsWellFormed history → open_call history name ≡ call → HasId history name → HasId (with_items history (closing call)) name
    closing-id history None form e has = has
    closing-id history (Some issued) form e has =
        let same : issued.name ≡ name = (same_text-tells issued.name name).0 (open-sent name history.items issued e).1 in
        closed-id history name issued form (ap (open_call history) same ∙ e) has

    timeout-next : (world : World) (goal : Goal) → IsRun world → has_row world.history name ≡ true → goal_of world.history name ≡ Some goal → (last_number world.history).call + 6 < 2 ^ 64
        → ((node : List ℕ) → node_in (Some goal) ≡ Some node → IsListed world.history node → IsThere world (Node node))
        → (IsNext (occurs world (Timeout name)).world name (length world.frames) 6 goal × ((usage : Usage) → goal ≡ Use usage → tries world.history name < 3) × RefusesNoMore world (occurs world (Timeout name)).world)
        ⊎ ((usage : Usage) × (goal ≡ Use usage) × (tries world.history name ≡ 3) × IsNext (occurs world (Timeout name)).world name (length world.frames) 6 (Stop usage.node usage.target))
    timeout-next world goal run row wanted numbers there = by (is_forward_due (due_call history name) && (tries history name == 3)) refl
      where
        history : History
        history = world.history

        left : (last_number history).call + suc 6 ≤ 2 ^ 64
        left = omega (arith, numbers)

        next : IsRun (occurs world (Timeout name)).world
        next = next-run laws world (Timeout name) run

        ended : List Item
        ended = closing (open_call history name)

        stops : Item
        stops = Noted name (undoing_goal (goal_of history name))

        moved : (b : Bool) → (is_forward_due (due_call history name) && (tries history name == 3)) ≡ b
            → moves history (TimesOut name) ≡ cond b (send_due history name Sends (stops ∷ ended)) (send_due history name Sends ended)
        moved b e =
            ap (timeout history name)
            (ap (λ r. cond (not r) (Some faults.NoSuchVolume) (cond (is_none (goal_of history name)) (Some faults.Idle) None)) row ∙ ap (λ g. cond (is_none g) (Some faults.Idle) None) wanted)
            ∙ ap (λ r. cond r (send_due history name Sends (stops ∷ ended)) (send_due history name Sends ended)) e

        used : is_forward_due (due_for history name (Some goal)) ≡ true → (usage : Usage) × (goal ≡ Use usage)
        used forward = at (due_for history name (Some goal)) refl forward
          where
            at : (o : Option Due) → due_for history name (Some goal) ≡ o → is_forward_due o ≡ true → (usage : Usage) × (goal ≡ Use usage)
            at None e forward = absurd (false≢true forward)
            at (Some due) e forward = due-forward name goal (id_of history name) (due_kind history name goal) due e forward

        stopped : (usage : Usage) → goal ≡ Use usage → moves history (TimesOut name) ≡ send_due history name Sends (stops ∷ ended) → IsNext (occurs world (Timeout name)).world name (length world.frames) 6 (Stop usage.node usage.target)
        stopped usage is e =
            (sent-next laws name world (TimesOut name) Sends (stops ∷ ended) (Stop usage.node usage.target) 6 sends-so e run next
            (goal-noted history name (undoing_goal (goal_of history name)) ended ∙ ap undoing_goal (wanted ∙ ap Some is))
            (let own = stop-rank (with_items history (stops ∷ ended)) name usage.node usage.target in omega (arith, own)) left
            (λ node of. there node (ap (λ g. node_in (Some g)) is ∙ of)) (closing-nodes history (open_call history name))
            (λ thing gone. known-aside (with_items history ended).items stops thing (find (touches thing) (calls_for thing (with_items history ended).items)) (λ n. refl) ∙ closing-known history (open_call history name) thing ∙ gone)
            (λ differs. noted-id (with_items history ended) name name (undoing_goal (goal_of history name)) (closing-id history (open_call history name) run.form refl (goal-id history run.rows name goal wanted (λ arguments f. use-create usage arguments (sym is ∙ f)))))).0

        -- a use that isn't stopped was tried fewer than three times
        fewer : (is_forward_due (due_call history name) && (tries history name == 3)) ≡ false → (usage : Usage) → goal ≡ Use usage → tries history name < 3
        fewer e usage is =
            let other = eqb-false (tries history name) 3 (ap (λ b. b && (tries history name == 3)) (sym (use-due history run.rows name usage (wanted ∙ ap Some is))) ∙ e) in
            let most = min-le_left 3 (calls_since name history.items) in
            below (tries history name) most other
          where
            below : (n : ℕ) → n ≤ 3 → (n ≡ 3 → ⊥) → n < 3
            below n most other = omega (arith, most, other)

        by : (b : Bool) → (is_forward_due (due_call history name) && (tries history name == 3)) ≡ b
            → (IsNext (occurs world (Timeout name)).world name (length world.frames) 6 goal × ((usage : Usage) → goal ≡ Use usage → tries history name < 3) × RefusesNoMore world (occurs world (Timeout name)).world)
            ⊎ ((usage : Usage) × (goal ≡ Use usage) × (tries history name ≡ 3) × IsNext (occurs world (Timeout name)).world name (length world.frames) 6 (Stop usage.node usage.target))
        by true e =
            let parts = and_parts (is_forward_due (due_call history name)) (tries history name == 3) e in
            let usage = used (ap (λ g. is_forward_due (due_for history name g)) (sym wanted) ∙ parts.0) in
            inr (usage.0, usage.1, eqb-true (tries history name) 3 parts.1, stopped usage.0 usage.1 (moved true e))
        by false e =
            let sent
            = sent-next laws name world (TimesOut name) Sends ended goal 6 sends-so (moved false e) run next (closing-goal history (open_call history name) ∙ wanted)
            (goal-rank (with_items history ended) name goal 6 (rank-most (due_kind (with_items history ended) name goal))) left there (closing-nodes history (open_call history name))
            (λ thing gone. closing-known history (open_call history name) thing ∙ gone)
            (λ differs. closing-id history (open_call history name) run.form refl (goal-id history run.rows name goal wanted differs))
            in
            inl (sent.0, fewer e, sent.1.refuses)

    -- ---- all together

    -- what has to be there is
    has-state : (world : World) (node : List ℕ) → IsSome (node_state node world) → IsThere world (Node node)
    has-state world node some = by (node_state node world) refl some
      where
        by : (o : Option NodeState) → node_state node world ≡ o → IsSome o → IsThere world (Node node)
        by None e some = absurd (false≢true some)
        by (Some state) e some = (state, e)

    -- what came of a goal, once the volume is at rest
    ends-so : (world last : World) (goal : Goal) → ((usage : Usage) → goal ≡ Use usage → tries world.history name < 3) → Ends (length world.frames) last name goal → EndsSo world last name (Some goal)
    ends-so world last (Use usage) few ends = ⊎_elim (λ made. inl (made.0, made.1, few usage refl)) (λ stopped. inr (stopped.0, inl stopped.1)) ends
    ends-so world last goal few ends = ends

    -- a volume of which this is wanted comes to rest
    wanted-settles : (world : World) → IsRun world → MaySettle world name → (goal : Goal) → goal_of world.history name ≡ Some goal
        → (is_at_rest (final 12 (occurs world (Timeout name)).world name (length world.frames)) name ≡ true) × EndsSo world (final 12 (occurs world (Timeout name)).world name (length world.frames)) name (Some goal)
    wanted-settles world run may goal e = by (timeout-next world goal run ((run.rowed).wanted name goal e) e may.numbers (λ node of here. has-state world node (may.there node (ap node_in e ∙ of) here)))
      where
        then : World
        then = (occurs world (Timeout name)).world

        last : World
        last = final 12 then name (length world.frames)

        finishes : (other : Goal) → IsUnrefused (length world.frames) then other → IsNext then name (length world.frames) 6 other → Finishes (length world.frames) then name other last
        finishes other clean (inl rest) =
            subst (Finishes (length world.frames) then name other) (sym (at-end 12 then name (length world.frames) rest.0))
            (record { rest = rest.0; ends = met-ends (length world.frames) then name other (next-run laws world (Timeout name) run) clean rest.1; extends = extends-same then then refl })
        finishes other clean (inr waiting) =
            subst (λ g. Finishes (length world.frames) then name g last) waiting.1
            (waits laws name room (length world.frames) 6 12 then (length world.frames) (omega arith) (omega arith) waiting.0 (subst (IsUnrefused (length world.frames) then) (sym waiting.1) clean))

        by : (IsNext then name (length world.frames) 6 goal × ((usage : Usage) → goal ≡ Use usage → tries world.history name < 3) × RefusesNoMore world then)
            ⊎ ((usage : Usage) × (goal ≡ Use usage) × (tries world.history name ≡ 3) × IsNext then name (length world.frames) 6 (Stop usage.node usage.target))
            → (is_at_rest last name ≡ true) × EndsSo world last name (Some goal)
        by (inl (next, few, refuses)) =
            let finished = finishes goal (λ usage is was. refused-none world (refuses (length world.frames) was)) next in
            (finished.rest, ends-so world last goal few finished.ends)
        by (inr (usage, is, tried, next)) =
            let finished = finishes (Stop usage.node usage.target) (stop-unrefused (length world.frames) then usage.node usage.target) next in
            (finished.rest, subst (λ g. EndsSo world last name (Some g)) (sym is) (inr (finished.ends, inr tried)))

    pub settles : (world : World) → IsRun world → MaySettle world name → Settles world name
    settles world run may = by (goal_of world.history name) refl
      where
        then : World
        then = (occurs world (Timeout name)).world

        others : List Event
        others = deliveries 12 then name (length world.frames)

        -- by whether anything happens
        after : (b : Bool) → (is_at_rest world name || not (has_row world.history name)) ≡ b → settled world name ≡ (after_from world (cond b [] (Timeout name ∷ others))).world
        after b e = ap (λ c. (after_from world (cond c [] (Timeout name ∷ others))).world) e

        by : (o : Option Goal) → goal_of world.history name ≡ o → Settles world name
        by None e =
            let same = after true (ap (λ g. is_none g || not (has_row world.history name)) e) in
            let rest = ap (λ w. is_at_rest w name) same ∙ ap is_none e in
            record { rest = rest; ends = subst (EndsSo world (settled world name) name) (sym e) tt; event = rest-told world name rest }
        by (Some goal) e =
            let row = (run.rowed).wanted name goal e in
            let same = after false (ap (λ g. is_none g || not (has_row world.history name)) e ∙ ap not row) in
            let so = wanted-settles world run may goal e in
            let rest = ap (λ w. is_at_rest w name) same ∙ so.0 in
            record {
              rest = rest;
              ends = subst (EndsSo world (settled world name) name) (sym e) (subst (λ w. EndsSo world w name (Some goal)) (sym same) so.1);
              event = rest-told world name rest;
            }
