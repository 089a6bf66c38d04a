-- What a row is told is what the table has for its volume: a change that is made is the call's, and can be made.
use Rattle.std.proofs.Common.{◌≡◌, ℕ, ◌<◌, List, [], ◌∷◌, map, length, Bool, true, false, cond, not, refl, sym, ◌∙◌, ap, subst, arith}
use Rattle.std.specs.Prelude.{Option, Some, None, find, is_some, ◌||◌, nat_le, codes}
use Rattle.std.proofs.lemmas.Bool.{eqb-true}
use Rattle.std.proofs.lemmas.Bool.Decides.{nat_tests}
use Rattle.std.proofs.lemmas.List.{length-map}
use Rattle.csi_types.proofs.Options.{none-from_map, some_is_not_none, is_some-map}
use Rattle.csi_types.proofs.Searches.{find-of_map}
use Rattle.csi_types.specs.declared.call.Call.{Call}
use Rattle.csi_types.specs.declared.call.Call.TheVariants as calls
use Rattle.csi_types.specs.declared.capability.Capability.{Capability}
use Rattle.csi_types.specs.declared.holding.Holding.{Holding}
use Rattle.csi_types.specs.declared.status.Status.TheVariants.{InvalidArgument, NotFound, AlreadyExists, OutOfRange, ResourceExhausted}
use Rattle.csi_types.specs.Model.Capacity.{is_bad_range, is_empty_range}
use Rattle.csi_types.specs.Model.Config.{Config, has_node}
use Rattle.csi_types.specs.Model.Holding.{is_compatible, same_holding}
use Rattle.csi_types.specs.Model.Same.{has_capability}
use Rattle.csi_controller.specs.declared.row.NodeHolding.{NodeHolding}
use Rattle.csi_controller.specs.Model.State.{Volume, ControllerState, holding_at, holdings_of, is_row_for, live_volume, volume_named}
use Rattle.csi_types.specs.Model.Replies.{ok_reply, ok_reply_with}
use Rattle.csi_fence.specs.declared.line.Line.{Line}
use Rattle.csi_fence.specs.declared.line.Line.TheVariants.{Refused, Met, Done}
use Rattle.csi_fence.specs.Public.Line.{told_by}
use Rattle.csi_fence.specs.Public.Rows.{Told}
use Rattle.csi_controller.specs.Model.Table.{Change, Stays, Outcome, Attaches, argument_fault, attach, create_named, delete, done, lifecycle_row, met, publish, publish_held, refused, serves, unless, unpublish}
use Rattle.csi_controller.specs.Public.Core.{volume_holding}
use Rattle.csi_controller.specs.Public.OneRow.{RowShown, call_change, row_changed, state_shown}
use Rattle.csi_controller.specs.Private.OneRow.{CanChange, HasRoomFor, held_of_row, outcome_shown}
use Rattle.csi_controller.specs.Public.Plan.{is_change, told_in}
use Rattle.csi_controller.proofs.RowTable.{alone, held_at-seen}
use Rattle.csi_controller.proofs.TableOutcomes.{IsOutcome, was_refused, was_found, was_made, was_ended, was_ended_before, was_attached, was_attached_before, was_detached, was_detached_before, lifecycle-outcome}

-- a test that fails doesn't hold: anything follows
never : {A : Type 0} → false ≡ true → A
never h = cc

-- a change that is made of a volume that is there is the call's
pub is-call_change : (config : Config) (state : ControllerState) (call : Call) (outcome : Outcome) → IsOutcome config state call outcome → ((name : List ℕ) (required limit : ℕ) (capabilities : List Capability) → call ≡ calls.CreateVolume name required limit capabilities → volume_named name state ≡ None → ⊥)
    → is_change outcome.change ≡ true → outcome.change ≡ call_change call
is-call_change config state _ _ (was_refused call status detail not_ok) named h = never h
is-call_change config state _ _ (was_found name required limit first others volume range is live serving) named h = never h
is-call_change config state _ _ (was_made name required limit first others range unnamed) named h = absurd (named name required limit (first ∷ others) refl unnamed)
is-call_change config state _ _ (was_ended id volume live none) named h = refl
is-call_change config state _ _ (was_ended_before id none) named h = never h
is-call_change config state _ _ (was_attached holding volume can free fits) named h = refl
is-call_change config state _ _ (was_attached_before holding volume can held) named h = never h
is-call_change config state _ _ (was_detached id node held is) named h = refl
is-call_change config state _ _ (was_detached_before id node none) named h = never h

-- fewer than 64 holdings, where neither is full
room : (full : Bool) (n : ℕ) → (full || nat_le 64 n) ≡ false → n < 64
room full n h = grind (arith, nat_tests)

-- a volume that comes to be held can be so
pub record IsAttached (held : List Holding) (o : Option Holding) : Type 0 where
  pub beside : o ≡ None
  pub limit : length held < 64

-- by the first holding that can't be beside it
attached-beside : (full : Bool) (held : List Holding) (holding : Holding) (o : Option Holding) → is_change (attach full held holding o).change ≡ true → IsAttached held o
attached-beside full held holding (Some other) h = never h
attached-beside full held holding None h = by (full || nat_le 64 (length held)) refl h
  where
    by : (b : Bool) → (full || nat_le 64 (length held)) ≡ b → is_change (cond b (refused ResourceExhausted (codes "slots")) (done (Attaches holding))).change ≡ true → IsAttached held None
    by true e h = never h
    by false e h = record { beside = refl; limit = room full (length held) e }

-- and by how it is held at the node
pub record IsNew (held : List Holding) (holding : Holding) (at : Option Holding) : Type 0 where
  pub free : at ≡ None
  pub beside : IsAttached held (find (λ (other : Holding). not (is_compatible holding other)) held)

attached-new : (full : Bool) (held : List Holding) (holding : Holding) (at : Option Holding) → is_change (publish_held full held holding at).change ≡ true → IsNew held holding at
attached-new full held holding None h = record { free = refl; beside = attached-beside full held holding (find (λ (other : Holding). not (is_compatible holding other)) held) h }
attached-new full held holding (Some there) h = by (same_holding there holding) h
  where
    by : (b : Bool) → is_change (cond b met (refused AlreadyExists (codes "held otherwise"))).change ≡ true → IsNew held holding (Some there)
    by true h = never h
    by false h = never h

-- and by the live volume
pub record IsAble (config : Config) (state : ControllerState) (holding : Holding) (o : Option Volume) : Type 0 where
  pub volume : Volume
  pub live : o ≡ Some volume
  pub capable : has_capability volume.capabilities holding.capability ≡ true
  pub new : IsNew (holdings_of holding.volume state) holding (holding_at holding.volume holding.node state)

attached-able : (config : Config) (full : Bool) (state : ControllerState) (holding : Holding) (o : Option Volume) → is_change (publish config full state holding o).change ≡ true → IsAble config state holding o
attached-able config full state holding None h = never h
attached-able config full state holding (Some volume) h = by (has_node holding.node config.nodes) (has_capability volume.capabilities holding.capability) refl h
  where
    by : (a b : Bool) → has_capability volume.capabilities holding.capability ≡ b
        → is_change (cond (not a) (refused NotFound (codes "node")) (cond (not b) (refused InvalidArgument (codes "capability")) (publish_held full (holdings_of holding.volume state) holding (holding_at holding.volume holding.node state)))).change ≡ true
        → IsAble config state holding (Some volume)
    by false b e h = never h
    by true false e h = never h
    by true true e h = record { volume = volume; live = refl; capable = e; new = attached-new full (holdings_of holding.volume state) holding (holding_at holding.volume holding.node state) h }

-- a live volume that is found where it is looked for by whether it is live
live-then : (b : Bool) (v w : Volume) → cond b (Some v) None ≡ Some w → (b ≡ true) × (v ≡ w)
live-then true v w h = (refl, own h)
  where
    own : Some v ≡ Some w → v ≡ w
    own h = cc
live-then false v w h = cc

-- the row's volume has room for it
attached-room : (config : Config) (full : Bool) (row : RowShown) (wanted : NodeHolding) → is_change (publish config full (state_shown row) (volume_holding row.volume.id wanted) (live_volume row.volume.id (state_shown row))).change ≡ true
    → HasRoomFor row (volume_holding row.volume.id wanted)
attached-room config full row wanted h =
    let able = attached-able config full (state_shown row) (volume_holding row.volume.id wanted) (live_volume row.volume.id (state_shown row)) h in
    let there = live-then row.volume.is_live row.volume able.volume (sym (alone row).live ∙ able.live) in
    let held = (alone row).held in
    let limit = able.new.beside.limit in
    let long : length (holdings_of row.volume.id (state_shown row)) ≡ length row.items = ap length held ∙ length-map row.items (volume_holding row.volume.id) in
    record {
      own = refl;
      live = there.0;
      free = none-from_map (volume_holding row.volume.id) (held_of_row row wanted.node) (sym (held_at-seen (state_shown row) row wanted.node (alone row)) ∙ able.new.free);
      beside = none-from_map (volume_holding row.volume.id) (find (λ (other : NodeHolding). not (is_compatible (volume_holding row.volume.id wanted) (volume_holding row.volume.id other))) row.items)
          (sym (find-of_map (λ (other : Holding). not (is_compatible (volume_holding row.volume.id wanted) other)) (volume_holding row.volume.id) row.items)
          ∙ ap (find (λ (other : Holding). not (is_compatible (volume_holding row.volume.id wanted) other))) (sym held) ∙ able.new.beside.beside);
      listed = ap (λ (v : Volume). has_capability v.capabilities wanted.capability) there.1 ∙ able.capable;
      limit = omega (arith, limit, long);
    }

-- a volume that is deleted is held nowhere
ended-free : (id : ℕ) (held : List Holding) (o : Option Volume) → is_change (delete id held o).change ≡ true → held ≡ []
ended-free id held None h = never h
ended-free id [] (Some volume) h = refl
ended-free id (holding ∷ others) (Some volume) h = never h

-- one that ceases to be held at a node is held there
detached-there : (id : ℕ) (node : List ℕ) (o : Option Holding) → is_change (unpublish id node o).change ≡ true → is_some o ≡ true
detached-there id node None h = never h
detached-there id node (Some held) h = refl

-- what is empty where it is seen otherwise is empty
none-mapped : {X Y : Type 0} (f : X → Y) (xs : List X) → map f xs ≡ [] → xs ≡ []
none-mapped f [] h = refl
none-mapped f (x ∷ xs) h = cc

-- a CreateVolume of a name that is there makes nothing
created-none : (config : Config) (row : RowShown) (name : List ℕ) (required limit : ℕ) (capabilities : List Capability) → is_row_for (calls.CreateVolume name required limit capabilities) row.volume ≡ true
    → is_change (unless (argument_fault required limit capabilities) (create_named config (state_shown row) name required limit capabilities (volume_named name (state_shown row)))).change ≡ false
created-none config row name required limit [] own = refl
created-none config row name required limit (first ∷ others) own =
    ap (λ (o : Option Volume). is_change (unless (argument_fault required limit (first ∷ others)) (create_named config (state_shown row) name required limit (first ∷ others) o)).change) ((alone row).named name own)
    ∙ by (is_bad_range required limit) (is_empty_range required limit) (not row.volume.is_live) (serves row.volume required limit (first ∷ others))
  where
    by : (bad none dead fits : Bool)
        → is_change (unless (cond bad (Some (refused InvalidArgument (codes "capacity"))) (cond none (Some (refused OutOfRange (codes "range"))) None))
        (cond dead (refused AlreadyExists (codes "name")) (cond fits (record { reply = ok_reply_with row.volume.id; change = Stays }) (refused AlreadyExists (codes "name"))))).change ≡ false
    by true none dead fits = refl
    by false true dead fits = refl
    by false false true fits = refl
    by false false false true = refl
    by false false false false = refl

-- what a row is told to change can be changed
pub can-told : (config : Config) (full : List ℕ → Bool) (row : RowShown) (call : Call) → is_row_for call row.volume ≡ true → (told_in (lifecycle_row config full (state_shown row) call)).is_done ≡ true → CanChange row (call_change call)
can-told config full row (calls.CreateVolume name required limit capabilities) own h = never (sym (created-none config row name required limit capabilities own) ∙ h)
can-told config full row (calls.DeleteVolume id) own h =
    let is : id ≡ row.volume.id = sym (eqb-true row.volume.id id own) in
    (is, none-mapped (volume_holding row.volume.id) row.items (sym (alone row).held ∙ ap (λ k. holdings_of k (state_shown row)) (sym is) ∙ ended-free id (holdings_of id (state_shown row)) (live_volume id (state_shown row)) h))
can-told config full row (calls.ControllerPublishVolume id node capability readonly) own h =
    let is : id ≡ row.volume.id = sym (eqb-true row.volume.id id own) in
    let wanted : NodeHolding = record { node = node; capability = capability; readonly = readonly } in
    subst (λ (k : ℕ). HasRoomFor row (volume_holding k wanted)) (sym is)
    (attached-room config (full node) row wanted
    (subst (λ (k : ℕ). is_change (publish config (full node) (state_shown row) (volume_holding k wanted) (live_volume k (state_shown row))).change ≡ true) is h))
can-told config full row (calls.ControllerUnpublishVolume id node) own h =
    let is : id ≡ row.volume.id = sym (eqb-true row.volume.id id own) in (
      is,
      sym (is_some-map (volume_holding row.volume.id) (held_of_row row node))
          ∙ ap is_some (sym (held_at-seen (state_shown row) row node (alone row)))
          ∙ subst (λ (k : ℕ). is_some (holding_at k node (state_shown row)) ≡ true) is (detached-there id node (holding_at id node (state_shown row)) h),
    )
can-told config full row call own h = never h

-- a change that isn't one
stays : (change : Change) → is_change change ≡ false → change ≡ Stays
stays Stays h = refl
stays change h = never (sym h)

-- a row that is told so is changed as the table has it, and can be
pub record IsToldChange (row : RowShown) (call : Call) (outcome : Outcome) : Type 0 where
  pub can : CanChange row outcome.change
  pub changed : cond (is_change outcome.change) (row_changed row (call_change call)) row ≡ row_changed row outcome.change
  pub own : is_change outcome.change ≡ true → outcome.change ≡ call_change call

pub told-changed : (config : Config) (full : List ℕ → Bool) (row : RowShown) (call : Call) → is_row_for call row.volume ≡ true → IsToldChange row call (lifecycle_row config full (state_shown row) call)
told-changed config full row call own = by (is_change outcome.change) refl
  where
    outcome : Outcome
    outcome = lifecycle_row config full (state_shown row) call

    named : (name : List ℕ) (required limit : ℕ) (capabilities : List Capability) → call ≡ calls.CreateVolume name required limit capabilities → volume_named name (state_shown row) ≡ None → ⊥
    named name required limit capabilities is none =
        some_is_not_none row.volume (sym ((alone row).named name (subst (λ (k : Call). is_row_for k row.volume ≡ true) is own)) ∙ none)

    by : (b : Bool) → is_change outcome.change ≡ b → IsToldChange row call outcome
    by true e =
        let is = is-call_change config (state_shown row) call outcome (lifecycle-outcome config full (state_shown row) call) named e in
        record {
          can = subst (CanChange row) (sym is) (can-told config full row call own e);
          changed = ap (λ (b : Bool). cond b (row_changed row (call_change call)) row) e ∙ ap (row_changed row) (sym is);
          own = λ again. is;
        }
    by false e =
        let is = stays outcome.change e in
        record {
          can = subst (CanChange row) (sym is) tt;
          changed = ap (λ (b : Bool). cond b (row_changed row (call_change call)) row) e ∙ ap (row_changed row) (sym is);
          own = λ h. never (sym e ∙ h);
        }

-- ---- lines

-- what a line tells is what its outcome tells, where the call's change is one
pub told-line : (change : Change) (line : Line) → is_change change ≡ true → told_by line ≡ told_in (outcome_shown change line)
told-line change (Refused status detail) h = refl
told-line change (Met id) h = refl
told-line change Done h = ap (λ (b : Bool). let t : Told = record { reply = ok_reply; is_done = b } in t) (sym h)
