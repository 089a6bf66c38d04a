-- The controller's table, opened once: each answer that it gives, and what is so where it gives it.
use Rattle.std.proofs.Common.{◌≡◌, ℕ, ◌^◌, List, [], ◌∷◌, Bool, true, false, cond, not, refl, ◌∙◌, ap, sym}
use Rattle.std.specs.Prelude.{Option, Some, None, find, ◌||◌, nat_le, nat_lt, length, codes}
use Rattle.std.proofs.lemmas.Bool.{not-false, true≢false}
use Rattle.csi_types.proofs.Equality.{same_holding-tells}
use Rattle.csi_types.specs.declared.capability.Capability.{Capability}
use Rattle.csi_types.specs.declared.holding.Holding.{Holding}
use Rattle.csi_types.specs.declared.call.Call.{Call}
use Rattle.csi_types.specs.declared.call.Call.TheVariants as calls
use Rattle.csi_types.specs.declared.status.Status.{Status}
use Rattle.csi_types.specs.declared.status.Status.TheVariants.{Ok, InvalidArgument, NotFound, AlreadyExists, ResourceExhausted, FailedPrecondition, OutOfRange, Unimplemented}
use Rattle.csi_types.specs.Model.Capacity.{is_bad_range, is_empty_range, capacity_wanted}
use Rattle.csi_types.specs.Model.Config.{Config, has_node}
use Rattle.csi_types.specs.Model.Holding.{same_holding, is_compatible}
use Rattle.csi_types.specs.Model.Replies.{ok_reply_with}
use Rattle.csi_types.specs.Model.Same.{has_capability}
use Rattle.csi_controller.specs.Model.State.{Volume, ControllerState, volume_named, live_volume, holdings_of, holding_at}
use Rattle.csi_controller.specs.Model.Table.{Outcome, Stays, Makes, Ends, Attaches, Detaches, refused, met, done, serves, unless, create_named, create, delete_live, delete, attach, publish_held, publish, unpublish, lifecycle_row, is_full, controller_row}

-- a range that can be met
pub record IsRange (required limit : ℕ) : Type 0 where
  pub ordered : is_bad_range required limit ≡ false
  pub not_empty : is_empty_range required limit ≡ false

-- a live volume, a node that is configured, and a capability that the volume has
pub record CanAttach (config : Config) (state : ControllerState) (holding : Holding) (volume : Volume) : Type 0 where
  pub live : live_volume holding.volume state ≡ Some volume
  pub node : has_node holding.node config.nodes ≡ true
  pub capable : has_capability volume.capabilities holding.capability ≡ true

-- the call that asks for this holding
abbrev pub publish_call : Holding → Call
publish_call holding = calls.ControllerPublishVolume holding.volume holding.node holding.capability holding.readonly

-- what the table answers to a call
pub data IsOutcome (config : Config) (state : ControllerState) : Call → Outcome → Type 0 where
  was_refused : (call : Call) (status : Status) (detail : List ℕ) → (status ≡ Ok → ⊥) → IsOutcome config state call (refused status detail)
  was_found : (name : List ℕ) (required limit : ℕ) (first : Capability) (others : List Capability) (volume : Volume)
      → IsRange required limit → volume_named name state ≡ Some volume → volume.is_live ≡ true → serves volume required limit (first ∷ others) ≡ true
      → IsOutcome config state (calls.CreateVolume name required limit (first ∷ others)) (record { reply = ok_reply_with volume.id; change = Stays })
  was_made : (name : List ℕ) (required limit : ℕ) (first : Capability) (others : List Capability)
      → IsRange required limit → volume_named name state ≡ None
      → IsOutcome config state (calls.CreateVolume name required limit (first ∷ others)) (record { reply = ok_reply_with state.next_id; change = Makes name (capacity_wanted required limit) (first ∷ others) })
  was_ended : (id : ℕ) (volume : Volume) → live_volume id state ≡ Some volume → holdings_of id state ≡ [] → IsOutcome config state (calls.DeleteVolume id) (done (Ends id))
  was_ended_before : (id : ℕ) → live_volume id state ≡ None → IsOutcome config state (calls.DeleteVolume id) met
  was_attached : (holding : Holding) (volume : Volume) → CanAttach config state holding volume → holding_at holding.volume holding.node state ≡ None
      → find (λ other. not (is_compatible holding other)) (holdings_of holding.volume state) ≡ None → IsOutcome config state (publish_call holding) (done (Attaches holding))
  was_attached_before : (holding : Holding) (volume : Volume) → CanAttach config state holding volume → holding_at holding.volume holding.node state ≡ Some holding
      → IsOutcome config state (publish_call holding) met
  was_detached : (id : ℕ) (node : List ℕ) (held : Holding) → holding_at id node state ≡ Some held → IsOutcome config state (calls.ControllerUnpublishVolume id node) (done (Detaches id node))
  was_detached_before : (id : ℕ) (node : List ℕ) → holding_at id node state ≡ None → IsOutcome config state (calls.ControllerUnpublishVolume id node) met

-- an `if` gives one of these answers where each of its two ways does
by_if : (config : Config) (state : ControllerState) (call : Call) (b : Bool) (x y : Outcome) → (b ≡ true → IsOutcome config state call x) → (b ≡ false → IsOutcome config state call y) → IsOutcome config state call (cond b x y)
by_if config state call true x y f g = f refl
by_if config state call false x y f g = g refl

-- the status is OK
abbrev is_ok : Status → Bool
is_ok Ok = true
is_ok status = false

-- no refusal's is
not_ok : (status : Status) → is_ok status ≡ false → status ≡ Ok → ⊥
not_ok status fails same = true≢false (sym (ap is_ok same) ∙ fails)

-- each part of the table gives one of these answers, call by call
create_named_outcomes : (config : Config) (state : ControllerState) (name : List ℕ) (required limit : ℕ) (first : Capability) (others : List Capability) (o : Option Volume)
    → IsRange required limit → volume_named name state ≡ o
    → IsOutcome config state (calls.CreateVolume name required limit (first ∷ others)) (create_named config state name required limit (first ∷ others) o)
create_named_outcomes config state name required limit first others None range is =
    let call = calls.CreateVolume name required limit (first ∷ others) in
    by_if config state call (nat_lt config.greatest (capacity_wanted required limit)) (refused OutOfRange (codes "range")) _ (λ _. was_refused call OutOfRange (codes "range") (not_ok OutOfRange refl))
    (λ _. by_if config state call (nat_le 4096 (length state.volumes) || nat_le (2 ^ 64) state.next_id) (refused ResourceExhausted (codes "volumes")) _
    (λ _. was_refused call ResourceExhausted (codes "volumes") (not_ok ResourceExhausted refl))
    (λ _. was_made name required limit first others range is))
create_named_outcomes config state name required limit first others (Some volume) range is =
    let call = calls.CreateVolume name required limit (first ∷ others) in
    by_if config state call (not volume.is_live) (refused AlreadyExists (codes "name")) _ (λ _. was_refused call AlreadyExists (codes "name") (not_ok AlreadyExists refl))
    (λ live. by_if config state call (serves volume required limit (first ∷ others)) (record { reply = ok_reply_with volume.id; change = Stays }) (refused AlreadyExists (codes "name"))
    (λ serving. was_found name required limit first others volume range is (not-false volume.is_live live) serving)
    (λ _. was_refused call AlreadyExists (codes "name") (not_ok AlreadyExists refl)))

-- CreateVolume gets one of these answers
create_outcomes : (config : Config) (state : ControllerState) (name : List ℕ) (required limit : ℕ) (capabilities : List Capability)
    → IsOutcome config state (calls.CreateVolume name required limit capabilities) (create config state name required limit capabilities)
create_outcomes config state name required limit [] = was_refused (calls.CreateVolume name required limit []) InvalidArgument (codes "capabilities") (not_ok InvalidArgument refl)
create_outcomes config state name required limit (first ∷ others) = by (is_bad_range required limit) (is_empty_range required limit) refl refl
  where
    by : (bad none : Bool) → is_bad_range required limit ≡ bad → is_empty_range required limit ≡ none
        → IsOutcome config state (calls.CreateVolume name required limit (first ∷ others))
        (unless (cond bad (Some (refused InvalidArgument (codes "capacity"))) (cond none (Some (refused OutOfRange (codes "range"))) None)) (create_named config state name required limit (first ∷ others) (volume_named name state)))
    by true none e f = was_refused (calls.CreateVolume name required limit (first ∷ others)) InvalidArgument (codes "capacity") (not_ok InvalidArgument refl)
    by false true e f = was_refused (calls.CreateVolume name required limit (first ∷ others)) OutOfRange (codes "range") (not_ok OutOfRange refl)
    by false false e f = create_named_outcomes config state name required limit first others (volume_named name state) (record { ordered = e; not_empty = f }) refl

-- so does DeleteVolume of a live volume, by what is held of it
delete_live_outcomes : (config : Config) (state : ControllerState) (id : ℕ) (volume : Volume) (held : List Holding) → live_volume id state ≡ Some volume → holdings_of id state ≡ held
    → IsOutcome config state (calls.DeleteVolume id) (delete_live id held)
delete_live_outcomes config state id volume [] live is = was_ended id volume live is
delete_live_outcomes config state id volume (holding ∷ others) live is = was_refused (calls.DeleteVolume id) FailedPrecondition holding.node (not_ok FailedPrecondition refl)

-- so does DeleteVolume
delete_outcomes : (config : Config) (state : ControllerState) (id : ℕ) (o : Option Volume) → live_volume id state ≡ o → IsOutcome config state (calls.DeleteVolume id) (delete id (holdings_of id state) o)
delete_outcomes config state id None is = was_ended_before id is
delete_outcomes config state id (Some volume) is = delete_live_outcomes config state id volume (holdings_of id state) is refl

-- so does ControllerPublishVolume where the node doesn't hold the volume, by the first holding that can't be beside it
attach_outcomes : (config : Config) (full : Bool) (state : ControllerState) (holding : Holding) (volume : Volume) (o : Option Holding) → CanAttach config state holding volume
    → holding_at holding.volume holding.node state ≡ None → find (λ other. not (is_compatible holding other)) (holdings_of holding.volume state) ≡ o
    → IsOutcome config state (publish_call holding) (attach full (holdings_of holding.volume state) holding o)
attach_outcomes config full state holding volume (Some other) can free is = was_refused (publish_call holding) FailedPrecondition other.node (not_ok FailedPrecondition refl)
attach_outcomes config full state holding volume None can free is =
    by_if config state (publish_call holding) (full || nat_le 64 (length (holdings_of holding.volume state))) (refused ResourceExhausted (codes "slots")) (done (Attaches holding))
    (λ _. was_refused (publish_call holding) ResourceExhausted (codes "slots") (not_ok ResourceExhausted refl))
    (λ _. was_attached holding volume can free is)

-- so does ControllerPublishVolume of a volume that can be attached, by what the node holds of it
publish_held_outcomes : (config : Config) (full : Bool) (state : ControllerState) (holding : Holding) (volume : Volume) (o : Option Holding) → CanAttach config state holding volume
    → holding_at holding.volume holding.node state ≡ o → IsOutcome config state (publish_call holding) (publish_held full (holdings_of holding.volume state) holding o)
publish_held_outcomes config full state holding volume None can is =
    attach_outcomes config full state holding volume (find (λ other. not (is_compatible holding other)) (holdings_of holding.volume state)) can is refl
publish_held_outcomes config full state holding volume (Some held) can is =
    by_if config state (publish_call holding) (same_holding held holding) met (refused AlreadyExists (codes "held otherwise"))
    (λ same. was_attached_before holding volume can (is ∙ ap Some ((same_holding-tells held holding).0 same)))
    (λ _. was_refused (publish_call holding) AlreadyExists (codes "held otherwise") (not_ok AlreadyExists refl))

-- so does ControllerPublishVolume
publish_outcomes : (config : Config) (full : Bool) (state : ControllerState) (holding : Holding) (o : Option Volume) → live_volume holding.volume state ≡ o
    → IsOutcome config state (publish_call holding) (publish config full state holding o)
publish_outcomes config full state holding None is = was_refused (publish_call holding) NotFound (codes "volume") (not_ok NotFound refl)
publish_outcomes config full state holding (Some volume) is =
    let call = publish_call holding in
    by_if config state call (not (has_node holding.node config.nodes)) (refused NotFound (codes "node")) _ (λ _. was_refused call NotFound (codes "node") (not_ok NotFound refl))
    (λ node. by_if config state call (not (has_capability volume.capabilities holding.capability)) (refused InvalidArgument (codes "capability")) (publish_held full (holdings_of holding.volume state) holding (holding_at holding.volume holding.node state))
    (λ _. was_refused call InvalidArgument (codes "capability") (not_ok InvalidArgument refl))
    (λ capable. publish_held_outcomes config full state holding volume (holding_at holding.volume holding.node state)
    (record { live = is; node = not-false (has_node holding.node config.nodes) node; capable = not-false (has_capability volume.capabilities holding.capability) capable }) refl))

-- so does ControllerUnpublishVolume
unpublish_outcomes : (config : Config) (state : ControllerState) (id : ℕ) (node : List ℕ) (o : Option Holding) → holding_at id node state ≡ o
    → IsOutcome config state (calls.ControllerUnpublishVolume id node) (unpublish id node o)
unpublish_outcomes config state id node None is = was_detached_before id node is
unpublish_outcomes config state id node (Some held) is = was_detached id node held is

-- every answer of the table is one of these, whichever nodes are full
pub lifecycle-outcome : (config : Config) (full : List ℕ → Bool) (state : ControllerState) (call : Call) → IsOutcome config state call (lifecycle_row config full state call)
lifecycle-outcome config full state (calls.CreateVolume name required limit capabilities) = create_outcomes config state name required limit capabilities
lifecycle-outcome config full state (calls.DeleteVolume id) = delete_outcomes config state id (live_volume id state) refl
lifecycle-outcome config full state (calls.ControllerPublishVolume id node capability readonly) =
    publish_outcomes config (full node) state (record { volume = id; node = node; capability = capability; readonly = readonly }) (live_volume id state) refl
lifecycle-outcome config full state (calls.ControllerUnpublishVolume id node) = unpublish_outcomes config state id node (holding_at id node state) refl
lifecycle-outcome config full state call = was_refused call Unimplemented [] (not_ok Unimplemented refl)

-- also of the whole table
pub is_outcome : (config : Config) (state : ControllerState) (call : Call) → IsOutcome config state call (controller_row config state call)
is_outcome config state call = lifecycle-outcome config (is_full config state) state call
