-- After a timeout or a reply a volume is at rest, or the call that is due for it was just sent.
use Rattle.csi_world.proofs.Words.{◌≡◌, ◌⊎◌, ℕ, suc, ◌+◌, ◌^◌, ◌≤◌, List, [], ◌∷◌, length, slice_get, true, Option}
use Rattle.csi_world.proofs.Words.{Some, None, Ok, refl, sym, ◌∙◌, ap, subst, inl, inr, arith, length-append, list_any}
use Rattle.csi_world.proofs.Words.{is_none, nat_lt, Number, Kind, Node, kind_of, Frame, IsBefore, same_text, Issued}
use Rattle.csi_world.proofs.Words.{Thing, No, Goal, Item, Sent, Noted, History, with_items, goal_of, known, last_number}
use Rattle.csi_world.proofs.Words.{nodes_of, next_number, Due, due_for, Input, Answer, moves, send_due, sent_as, hears}
use Rattle.csi_world.proofs.Words.{IsGuarded, AreStepwise, IsStepwise, frame_of, World, with_frame, with_history}
use Rattle.csi_world.proofs.Words.{by_answer, by_result, orchestrated, is_at_rest, node_in}
use Rattle.csi_world.proofs.Lemmas.{nat_tests}
use Rattle.csi_types.specs.declared.call.Kind.TheVariants as kinds
use Rattle.csi_orchestrator.specs.Model.Moves.{Sends}
use Rattle.csi_world.proofs.DueListed.{due-listed}
use Rattle.csi_world.proofs.GoalsMet.{IsMet, HasIdIf, met-where-none, noted-met}
use Rattle.csi_world.proofs.RowsShown.{IsListed}
use Rattle.csi_world.proofs.DueRanks.{rank_of, rank_if, rank_due, issued_for}
use Rattle.csi_world.proofs.FreshCalls.{IsThere}
use Rattle.csi_world.proofs.HeardNumbers.{HaveHeard}
use Rattle.csi_world.proofs.RunWorlds.{IsRun, RunLaws}
use Rattle.csi_world.proofs.SettledFrames.{get-last, Extends, extends-same, RefusesNoMore, refuses-same, refuses-added}
use Rattle.csi_world.proofs.GoalCalls.{goal-noted}

-- ---- worlds that wait

-- a world in which the call that is due for a name was just sent, as the frame behind this place, and nothing came since
pub record IsWaiting (world : World) (name : List ℕ) (place rank : ℕ) : Type 0 where
  pub run : IsRun world
  pub base : History
  pub goal : Goal
  pub due : Due
  pub number : Number
  pub last : Number
  pub is_sent : world.history ≡ with_items base (Sent (issued_for name number due) ∷ [])
  pub wanted : goal_of base name ≡ Some goal
  pub is_due : due_for base name (Some goal) ≡ Some due
  pub ranked : rank_of (kind_of due.call) ≤ rank
  pub left : number.call + rank ≤ 2 ^ 64
  pub heard : HaveHeard last world.controller world.nodes
  pub later : IsBefore last number
  pub guarded : IsGuarded base name due.party due.call
  pub framed : slice_get world.frames place ≡ Some (frame_of (issued_for name number due))
  pub only : length world.frames ≡ suc place
  pub listed : (node : List ℕ) → due.party ≡ Node node → IsListed world.history node
  pub there : (node : List ℕ) → node_in (Some goal) ≡ Some node → IsListed world.history node → IsThere world (Node node)

-- the volume is at rest and the goal is met, or the world waits for it
abbrev pub IsNext : World → List ℕ → ℕ → ℕ → Goal → Type 0
IsNext world name place rank goal = ((is_at_rest world name ≡ true) × IsMet world.history name goal) ⊎ ((waiting : IsWaiting world name place rank) × (waiting.goal ≡ goal))

-- each call is one at least
pub rank-one : (kind : Kind) → 1 ≤ rank_of kind
rank-one kinds.CreateVolume = omega arith
rank-one kind = omega arith

-- and at most six
pub rank-most : (kind : Option Kind) → rank_if kind ≤ 6
rank-most (Some kinds.CreateVolume) = omega arith
rank-most kind = omega arith

-- no frame is taken out, and no refusal comes
pub record AddsCalls (old new : World) : Type 0 where
  pub extends : Extends old new
  pub refuses : RefusesNoMore old new

-- an answer by which a frame is sent, or none
pub record IsSending (answer : Option Frame → Answer) : Type 0 where
  pub none : (world : World) → (by_answer world (answer None)).world ≡ world
  pub some : (world : World) (frame : Frame) → (by_answer world (answer (Some frame))).world ≡ with_frame (Some frame) world

-- a command's, and that to a reply
pub sends-so : IsSending Sends
sends-so = record { none = λ world. refl; some = λ world frame. refl }

pub hears-so : IsSending hears
hears-so = record { none = λ world. refl; some = λ world frame. refl }

-- the next number
pub next-is : (last : Number) → last.call + 2 ≤ 2 ^ 64 → next_number last ≡ Some (record { session = last.session; call = last.call + 1 })
next-is last few = let below : nat_lt (last.call + 1) (2 ^ 64) ≡ true = grind (arith, nat_tests, few) in rw below refl

-- it comes after the last one
pub next-after : (last : Number) → IsBefore last (let n : Number = record { session = last.session; call = last.call + 1 } in n)
next-after last = grind (arith, nat_tests)

module _ (laws : RunLaws) (name : List ℕ) where
  -- after what the orchestrator does and the sending of the due call, the volume is at rest, or the call is waited for
  pub sent-next : (old : World) (input : Input) (answer : Option Frame → Answer) (items : List Item) (goal : Goal) (rank : ℕ) → IsSending answer
      → moves old.history input ≡ send_due old.history name answer items → IsRun old → IsRun (orchestrated old input).world
      → goal_of (with_items old.history items) name ≡ Some goal → rank_due (due_for (with_items old.history items) name (Some goal)) ≤ rank
      → (last_number old.history).call + suc rank ≤ 2 ^ 64 → ((node : List ℕ) → node_in (Some goal) ≡ Some node → IsListed old.history node → IsThere old (Node node))
      → nodes_of (with_items old.history items) ≡ nodes_of old.history → ((thing : Thing) → known old.history thing ≡ No → known (with_items old.history items) thing ≡ No) → HasIdIf (with_items old.history items) name goal
      → IsNext (orchestrated old input).world name (length old.frames) rank goal × AddsCalls old (orchestrated old input).world
  sent-next old input answer items goal rank sending is run next wanted ranked left there same_nodes keeps has_id =
      by (due_for base name (Some goal)) refl ranked
    where
      base : History
      base = with_items old.history items

      last : Number
      last = last_number old.history

      number : Number
      number = record { session = last.session; call = last.call + 1 }

      now : World
      now = (orchestrated old input).world

      by : (o : Option Due) → due_for base name (Some goal) ≡ o → rank_due o ≤ rank → IsNext now name (length old.frames) rank goal × AddsCalls old now
      by None e few =
          let moved : moves old.history input ≡ Ok (record { answer = answer None; items = Noted name None ∷ items })
          = is ∙ ap (λ g. sent_as name answer items (due_for base name g) (next_number last)) wanted ∙ ap (λ d. sent_as name answer items d (next_number last)) e in
          let world : now ≡ with_history (Noted name None ∷ items) old = ap (λ r. (by_result old r).world) moved ∙ sending.none (with_history (Noted name None ∷ items) old) in (
            inl (
              ap (λ w. is_at_rest w name) world ∙ ap is_none (goal-noted old.history name None items),
              subst (λ h. IsMet h name goal) (sym (ap (λ (w : World). w.history) world)) (noted-met base name name goal None (met-where-none base name goal has_id e)),
            ),
            record { extends = extends-same old now (ap (λ (w : World). w.frames) world); refuses = refuses-same old now (ap (λ (w : World). w.frames) world) },
          )
      by (Some due) e few = (
        inr (
          record {
            run = next;
            base = base;
            goal = goal;
            due = due;
            number = number;
            last = last;
            is_sent = ap (λ (w : World). w.history) world;
            wanted = wanted;
            is_due = e;
            ranked = few;
            left = omega (arith, left);
            heard = subst (λ (w : World). HaveHeard last w.controller w.nodes) (sym world) run.heard;
            later = next-after last;
            guarded = (steps.may.0).1.guarded;
            framed = ap (λ (w : World). slice_get w.frames (length old.frames)) world ∙ get-last old.frames (frame_of issued);
            only = ap (λ (w : World). length w.frames) world ∙ length-append old.frames (frame_of issued ∷ []) ∙ omega arith;
            listed = due-listed old.history base now.history name number goal due run.rows next.rows (ap (λ (w : World). w.history) world) keeps (λ node here. ap (list_any (same_text node)) nodes_now ∙ here) e;
            there = λ node of here. subst (λ w. IsThere w (Node node)) (sym world) (there node of (ap (list_any (same_text node)) (sym nodes_now) ∙ here));
          },
          refl,
        ),
        record { extends = record { more = frame_of issued ∷ []; frames = ap (λ (w : World). w.frames) world }; refuses = refuses-added old now (frame_of issued) (ap (λ (w : World). w.frames) world) refl },
      )
        where
          issued : Issued
          issued = issued_for name number due

          more : last.call + 2 ≤ 2 ^ 64
          more = let one = rank-one (kind_of due.call) in omega (arith, one, few, left)

          moved : moves old.history input ≡ Ok (record { answer = answer (Some (frame_of issued)); items = Sent issued ∷ items })
          moved =
              is ∙ ap (λ g. sent_as name answer items (due_for base name g) (next_number last)) wanted ∙ ap (λ d. sent_as name answer items d (next_number last)) e
              ∙ ap (λ n. sent_as name answer items (Some due) n) (next-is last more)

          world : now ≡ with_frame (Some (frame_of issued)) (with_history (Sent issued ∷ items) old)
          world = ap (λ r. (by_result old r).world) moved ∙ sending.some (with_history (Sent issued ∷ items) old) (frame_of issued)

          nodes_now : nodes_of now.history ≡ nodes_of old.history
          nodes_now = ap (λ (w : World). nodes_of w.history) world ∙ same_nodes

          steps : IsStepwise old.history input (record { answer = answer (Some (frame_of issued)); items = Sent issued ∷ items })
          steps = subst (AreStepwise old.history input) moved (laws.moves old.history input run.reached)
