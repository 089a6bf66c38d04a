-- What is so of each outcome of the controller's table.
use Rattle.std.proofs.Common.{◌≡◌, ◌≢◌, ◌⊎◌, ℕ, ◌≤◌, List, [], ◌∷◌, Bool, true, false, cond, not, refl, sym, ap, subst, inl, inr, arith}
use Rattle.std.specs.Prelude.{Some, None, ◌==◌, ◌&&◌, ◌||◌, nat_le, codes, IsTrue}
use Rattle.std.specs.List.{list_all, AllByRecursion}
use Rattle.std.proofs.lemmas.Bool.{and_parts, and_from, or_cases, eqb-true, eq-eqb, leb-true, not-true, or_left, or_right, and_left, not_from_false, not_from_true}
use Rattle.std.proofs.lemmas.Bool.Decides.{nat_tests}
use Rattle.csi_types.proofs.Filters.{filter-append_one, filter-filter, filter-map}
use Rattle.csi_types.proofs.Searches.{find-and, find-append_one, find-filtered, find-map_none, find-passes}
use Rattle.csi_types.proofs.Members.{all_of}
use Rattle.csi_types.proofs.Tests.{all-then, then-all}
use Rattle.csi_types.proofs.Equality.{same_text-tells, same_capability-tells, same_holding-tells}
use Rattle.csi_types.specs.declared.capability.Capability.{Capability}
use Rattle.csi_types.specs.declared.holding.Holding.{Holding}
use Rattle.csi_types.specs.declared.call.Call.{Call}
use Rattle.csi_types.specs.declared.call.Call.TheVariants as calls
use Rattle.csi_types.specs.declared.status.Status.{Status}
use Rattle.csi_types.specs.declared.status.Status.TheVariants.{Ok, InvalidArgument, NotFound, AlreadyExists, OutOfRange}
use Rattle.csi_types.specs.declared.reply.Reply.{Reply}
use Rattle.csi_types.specs.Model.Capacity.{is_bad_range, is_empty_range, capacity_wanted}
use Rattle.csi_types.specs.Model.Config.{Config, has_node}
use Rattle.csi_fence.specs.Model.Fence.{Kept}
use Rattle.csi_types.specs.Model.Holding.{same_holding}
use Rattle.csi_types.specs.Model.Replies.{ok_reply, ok_reply_with}
use Rattle.csi_types.specs.Model.Same.{same_text, same_capability, has_capability}
use Rattle.csi_controller.specs.Model.State.{Volume, ControllerState, volume_named, live_volume, holdings_of, is_held_at, holding_at}
use Rattle.csi_controller.specs.Model.Table.{Outcome, Stays, Makes, Ends, Attaches, Detaches, refused, met, done, serves, unless, create_named, create, delete, is_full, publish_held, publish, unpublish, controller_row, ended_volume, changed}
use Rattle.csi_controller.specs.Public.Laws.{IsDone, LeavesOthers}
use Rattle.csi_controller.proofs.TableOutcomes.{IsOutcome, CanAttach, publish_call, was_refused, was_found, was_made, was_ended, was_ended_before, was_attached, was_attached_before, was_detached, was_detached_before, is_outcome}
use Rattle.csi_controller.proofs.OrderlyStates.{IsOrderly, named_by_id, made_orderly, end_leaves}

-- what the call asks is so, and the table answers it so again and changes nothing
pub record IsReady (config : Config) (state : ControllerState) (call : Call) (reply : Reply) : Type 0 where
  pub is_done : IsDone state reply call
  pub again : controller_row config state call ≡ record { reply = reply; change = Stays }

-- what is asked of an outcome: a refusal changes nothing, an OK can be answered so again, and the rest is left
pub record Facts (config : Config) (state : ControllerState) (call : Call) (outcome : Outcome) : Type 0 where
  pub stays : outcome.reply.status ≢ Ok → outcome.change ≡ Stays
  pub ready : outcome.reply.status ≡ Ok → (kept : Kept) → IsReady config (changed state kept outcome.change) call outcome.reply
  pub others : (kept : Kept) → LeavesOthers state (changed state kept outcome.change) call

-- what is so of a refusal
refused_facts : (config : Config) (state : ControllerState) (call : Call) (status : Status) (detail : List ℕ) → (status ≡ Ok → ⊥) → Facts config state call (refused status detail)
refused_facts config state call status detail not_ok =
    record { stays = λ h. refl; ready = λ h. absurd (not_ok h); others = λ kept. record { volumes = refl; holdings = refl } }

-- what is so of an answer that changes nothing, where the call is ready to be answered so
same_facts : (config : Config) (state : ControllerState) (call : Call) (reply : Reply) → IsReady config state call reply → Facts config state call (record { reply = reply; change = Stays })
same_facts config state call reply ready =
    record { stays = λ h. refl; ready = λ h kept. ready; others = λ kept. record { volumes = refl; holdings = refl } }

-- CreateVolume
create_found : (config : Config) (state : ControllerState) (name : List ℕ) (required limit : ℕ) (first : Capability) (others : List Capability) (volume : Volume)
    → is_bad_range required limit ≡ false → is_empty_range required limit ≡ false → volume_named name state ≡ Some volume → volume.is_live ≡ true
    → serves volume required limit (first ∷ others) ≡ true
    → create config state name required limit (first ∷ others) ≡ record { reply = ok_reply_with volume.id; change = Stays }
create_found config state name required limit first others volume bad none named live serving =
    subst (λ b. unless (cond b (Some (refused InvalidArgument (codes "capacity"))) (cond (is_empty_range required limit) (Some (refused OutOfRange (codes "range"))) None)) (create_named config state name required limit (first ∷ others) (volume_named name state)) ≡ record { reply = ok_reply_with volume.id; change = Stays }) (sym bad)
    (subst (λ b. unless (cond b (Some (refused OutOfRange (codes "range"))) None) (create_named config state name required limit (first ∷ others) (volume_named name state)) ≡ record { reply = ok_reply_with volume.id; change = Stays }) (sym none)
    (subst (λ o. create_named config state name required limit (first ∷ others) o ≡ record { reply = ok_reply_with volume.id; change = Stays }) (sym named)
    (subst (λ b. cond (not b) (refused AlreadyExists (codes "name")) (cond (serves volume required limit (first ∷ others)) (record { reply = ok_reply_with volume.id; change = Stays }) (refused AlreadyExists (codes "name"))) ≡ record { reply = ok_reply_with volume.id; change = Stays }) (sym live)
    (subst (λ b. cond b (record { reply = ok_reply_with volume.id; change = Stays }) (refused AlreadyExists (codes "name")) ≡ record { reply = ok_reply_with volume.id; change = Stays }) (sym serving) refl))))

-- where the test says that a list has each capability that is asked for, each is in it
all_from : (list : List Capability) (asked : List Capability) → list_all (has_capability list) asked ≡ true → AllByRecursion (λ capability. IsTrue (has_capability list capability)) asked
all_from list asked h = all_of (λ capability. IsTrue (has_capability list capability)) asked (all-then (has_capability list) asked h)

-- where the test of a limit passes, there is no limit, or the capacity is at most the limit
limit_from : (limit capacity : ℕ) → ((limit == 0) || nat_le capacity limit) ≡ true → (limit ≡ 0) ⊎ (capacity ≤ limit)
limit_from limit capacity h = by (or_cases (limit == 0) (nat_le capacity limit) h)
  where
    by : ((limit == 0) ≡ true) ⊎ (nat_le capacity limit ≡ true) → (limit ≡ 0) ⊎ (capacity ≤ limit)
    by (inl e) = inl (eqb-true limit 0 e)
    by (inr e) = inr (leb-true capacity limit e)

-- CreateVolume is ready where a live volume of its name serves it, and is answered that volume's id
create_ready : (config : Config) (state : ControllerState) (name : List ℕ) (required limit : ℕ) (first : Capability) (others : List Capability) (volume : Volume)
    → is_bad_range required limit ≡ false → is_empty_range required limit ≡ false → volume_named name state ≡ Some volume → volume.is_live ≡ true
    → serves volume required limit (first ∷ others) ≡ true → IsOrderly state
    → IsReady config state (calls.CreateVolume name required limit (first ∷ others)) (ok_reply_with volume.id)
create_ready config state name required limit first others volume bad none named live serving orderly =
    let list = and_parts (nat_le required volume.capacity && ((limit == 0) || nat_le volume.capacity limit)) (list_all (has_capability volume.capabilities) (first ∷ others)) serving in
    let range = and_parts (nat_le required volume.capacity) ((limit == 0) || nat_le volume.capacity limit) list.0 in
    let passes = find-passes (λ (v : Volume). same_text v.name name) state.volumes volume named in
    record {
      is_done = record {
        volume = volume;
        is_live = find-and (λ (v : Volume). v.id == volume.id) (λ (v : Volume). v.is_live) state.volumes volume (named_by_id state name volume orderly named) live;
        has_id = refl;
        has_name = (same_text-tells volume.name name).0 passes;
        not_below = leb-true required volume.capacity range.0;
        not_above = limit_from limit volume.capacity range.1;
        has_each = all_from volume.capabilities (first ∷ others) list.1;
      };
      again = create_found config state name required limit first others volume bad none named live serving;
    }

-- the wanted capacity isn't below the required one
not_below : (required limit : ℕ) → nat_le required (capacity_wanted required limit) ≡ true
not_below required limit = grind (arith, nat_tests)

-- nor is it above the limit, unless the range is empty
not_above : (required limit : ℕ) → is_empty_range required limit ≡ false → ((limit == 0) || nat_le (capacity_wanted required limit) limit) ≡ true
not_above required limit h = grind (arith, nat_tests)

-- each of a list is in it
has_own : (xs : List Capability) → list_all (has_capability xs) xs ≡ true
has_own [] = refl
has_own (x ∷ xs) =
    and_from (has_capability (x ∷ xs) x) (list_all (has_capability (x ∷ xs)) xs) (or_left (same_capability x x) (has_capability xs x) ((same_capability-tells x x).1 refl))
    (then-all (has_capability (x ∷ xs)) xs (λ y among. or_right (same_capability y x) (has_capability xs y) (all-then (has_capability xs) xs (has_own xs) y among)))

-- what is so where CreateVolume of a new name makes a volume
create_made : (config : Config) (state : ControllerState) (name : List ℕ) (required limit : ℕ) (first : Capability) (others : List Capability)
    → is_bad_range required limit ≡ false → is_empty_range required limit ≡ false → volume_named name state ≡ None → IsOrderly state
    → Facts config state (calls.CreateVolume name required limit (first ∷ others)) (record { reply = ok_reply_with state.next_id; change = Makes name (capacity_wanted required limit) (first ∷ others) })
create_made config state name required limit first others bad none unnamed orderly =
    let self : same_text name name ≡ true = (same_text-tells name name).1 refl in
    let volume = λ (kept : Kept). let v : Volume = record { id = state.next_id; name = name; capacity = capacity_wanted required limit; capabilities = first ∷ others; is_live = true; kept = kept } in v in
    let serving : (kept : Kept) → serves (volume kept) required limit (first ∷ others) ≡ true = λ kept.
    and_from _ _ (and_from _ _ (not_below required limit) (not_above required limit none)) (has_own (first ∷ others)) in
    record {
      stays = λ h. absurd (h refl);
      ready = λ h kept. create_ready config (changed state kept (Makes name (capacity_wanted required limit) (first ∷ others))) name required limit first others (volume kept) bad none
          (find-append_one (λ (v : Volume). same_text v.name name) state.volumes (volume kept) self unnamed) refl (serving kept)
          (made_orderly state (volume kept) refl unnamed orderly);
      others = λ kept. record { volumes = filter-append_one (λ (v : Volume). not (same_text v.name name)) state.volumes (volume kept) (rw self refl); holdings = refl };
    }

-- DeleteVolume
ended_not_live : (id : ℕ) (volume : Volume) → ((ended_volume id volume).id == id) && (ended_volume id volume).is_live ≡ false
ended_not_live id volume = by (volume.id == id) refl
  where
    by : (b : Bool) → (volume.id == id) ≡ b → ((cond b (record volume { is_live = false }) volume).id == id) && (cond b (record volume { is_live = false }) volume).is_live ≡ false
    by true h = rw h refl
    by false h = rw h refl

-- a deletion leaves a volume of another id as it was
pub ended_other : (id : ℕ) (volume : Volume) → (volume.id == id) ≡ false → ended_volume id volume ≡ volume
ended_other id volume h = rw h refl

-- DeleteVolume is ready where no live volume has its id
delete_ready : (config : Config) (state : ControllerState) (id : ℕ) → live_volume id state ≡ None → IsReady config state (calls.DeleteVolume id) ok_reply
delete_ready config state id none = record { is_done = none; again = ap (delete id (holdings_of id state)) none }

-- what is so where DeleteVolume ends a volume
ended_facts : (config : Config) (state : ControllerState) (id : ℕ) → Facts config state (calls.DeleteVolume id) (done (Ends id))
ended_facts config state id =
    record {
      stays = λ h. absurd (h refl);
      ready = λ h kept. delete_ready config (changed state kept (Ends id)) id (find-map_none (λ (v : Volume). (v.id == id) && v.is_live) (ended_volume id) state.volumes (ended_not_live id));
      others = λ kept. record { volumes = filter-map (λ (v : Volume). not (v.id == id)) (ended_volume id) state.volumes (λ v. ap (λ n. not (n == id)) ((end_leaves id).ids v)) (λ v h. ended_other id v (not-true (v.id == id) h)); holdings = refl };
    }

-- ControllerPublishVolume
publish_ready : (config : Config) (state : ControllerState) (holding : Holding) (volume : Volume) → live_volume holding.volume state ≡ Some volume → has_node holding.node config.nodes ≡ true
    → has_capability volume.capabilities holding.capability ≡ true → holding_at holding.volume holding.node state ≡ Some holding → IsReady config state (publish_call holding) ok_reply
publish_ready config state holding volume live node capable held =
    let self : same_holding holding holding ≡ true = (same_holding-tells holding holding).1 refl in
    record {
      is_done = held;
      again =
          subst (λ o. publish config (is_full config state holding.node) state holding o ≡ met) (sym live)
          (subst (λ b. cond (not b) (refused NotFound (codes "node")) (cond (not (has_capability volume.capabilities holding.capability)) (refused InvalidArgument (codes "capability")) (publish_held (is_full config state holding.node) (holdings_of holding.volume state) holding (holding_at holding.volume holding.node state))) ≡ met) (sym node)
          (subst (λ b. cond (not b) (refused InvalidArgument (codes "capability")) (publish_held (is_full config state holding.node) (holdings_of holding.volume state) holding (holding_at holding.volume holding.node state)) ≡ met) (sym capable)
          (subst (λ o. publish_held (is_full config state holding.node) (holdings_of holding.volume state) holding o ≡ met) (sym held)
          (subst (λ b. cond b met (refused AlreadyExists (codes "held otherwise")) ≡ met) (sym self) refl))));
    }

-- a holding is its own volume's, at its own node
pub itself_at : (holding : Holding) → is_held_at holding.volume holding.node holding ≡ true
itself_at holding = and_from _ _ (eq-eqb holding.volume holding.volume refl) ((same_text-tells holding.node holding.node).1 refl)

-- what is so where ControllerPublishVolume attaches a volume
attached_facts : (config : Config) (state : ControllerState) (holding : Holding) (volume : Volume) → CanAttach config state holding volume → holding_at holding.volume holding.node state ≡ None
    → Facts config state (publish_call holding) (done (Attaches holding))
attached_facts config state holding volume can none =
    record {
      stays = λ h. absurd (h refl);
      ready = λ h kept. publish_ready config (changed state kept (Attaches holding)) holding volume can.live can.node can.capable (find-append_one (is_held_at holding.volume holding.node) state.holdings holding (itself_at holding) none);
      others = λ kept. record { volumes = refl; holdings = filter-append_one (λ (h : Holding). not (h.volume == holding.volume)) state.holdings holding (not_from_true (holding.volume == holding.volume) (eq-eqb holding.volume holding.volume refl)) };
    }

-- ControllerUnpublishVolume
unpublish_ready : (config : Config) (state : ControllerState) (id : ℕ) (node : List ℕ) → holding_at id node state ≡ None → IsReady config state (calls.ControllerUnpublishVolume id node) ok_reply
unpublish_ready config state id node none = record { is_done = none; again = ap (unpublish id node) none }

-- what is so where ControllerUnpublishVolume detaches one
detached_facts : (config : Config) (state : ControllerState) (id : ℕ) (node : List ℕ) → Facts config state (calls.ControllerUnpublishVolume id node) (done (Detaches id node))
detached_facts config state id node =
    record {
      stays = λ h. absurd (h refl);
      ready = λ h kept. unpublish_ready config (changed state kept (Detaches id node)) id node (find-filtered (is_held_at id node) (λ (h : Holding). not (is_held_at id node h)) state.holdings (λ h k. not-true (is_held_at id node h) k));
      others = λ kept. record {
        volumes = refl;
        holdings = filter-filter (λ (h : Holding). not (h.volume == id)) (λ (h : Holding). not (is_held_at id node h)) state.holdings (λ h k. not_from_false (is_held_at id node h) (and_left (h.volume == id) (same_text h.node node) (not-true (h.volume == id) k)));
      };
    }

-- of each outcome
outcome_facts : (config : Config) (state : ControllerState) (call : Call) (outcome : Outcome) → IsOrderly state → IsOutcome config state call outcome → Facts config state call outcome
outcome_facts config state call outcome orderly (was_refused _ status detail not_ok) = refused_facts config state call status detail not_ok
outcome_facts config state call outcome orderly (was_found name required limit first others volume range is live serving) =
    same_facts config state call outcome.reply (create_ready config state name required limit first others volume range.ordered range.not_empty is live serving orderly)
outcome_facts config state call outcome orderly (was_made name required limit first others range unnamed) =
    create_made config state name required limit first others range.ordered range.not_empty unnamed orderly
outcome_facts config state call outcome orderly (was_ended id volume live free) = ended_facts config state id
outcome_facts config state call outcome orderly (was_ended_before id none) = same_facts config state call ok_reply (delete_ready config state id none)
outcome_facts config state call outcome orderly (was_attached holding volume can free fits) = attached_facts config state holding volume can free
outcome_facts config state call outcome orderly (was_attached_before holding volume can held) =
    same_facts config state call ok_reply (publish_ready config state holding volume can.live can.node can.capable held)
outcome_facts config state call outcome orderly (was_detached id node held is) = detached_facts config state id node
outcome_facts config state call outcome orderly (was_detached_before id node none) = same_facts config state call ok_reply (unpublish_ready config state id node none)

-- what is so of the table's outcome for any call, in an orderly state
pub row_facts : (config : Config) (state : ControllerState) (call : Call) → IsOrderly state → Facts config state call (controller_row config state call)
row_facts config state call orderly = outcome_facts config state call (controller_row config state call) orderly (is_outcome config state call)
