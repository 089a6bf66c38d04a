-- What a new controller answers, frame after frame.
use Rattle.std.proofs.Common.{◌≡◌, ◌∙◌, sym, ap, subst, refl, ℕ, List, [], ◌∷◌, ◌++◌, Option, None, append_assoc}
use Rattle.std.specs.List.{flat_map}
use Rattle.std.specs.Option.{option_to_list}
use Rattle.std.proofs.lemmas.List.{append-nil}
use Rattle.std.proofs.lemmas.List.Concat.{flat_map-append}
use Rattle.csi_types.specs.Model.Config.{Config}
use Rattle.csi_types.specs.declared.number.Number.{Number}
use Rattle.csi_types.specs.declared.call.Party.{Party}
use Rattle.csi_types.specs.declared.frame.Body.{Body}
use Rattle.csi_types.specs.declared.frame.Body.TheVariants as bodies
use Rattle.csi_types.specs.Model.Frame.{Frame}
use Rattle.csi_frames.specs.Public.Lent.{call_in, call_of}
use Rattle.csi_frames.specs.Public.Spelling.{spelling}
use Rattle.csi_controller.specs.Model.State.{ControllerState, empty_controller}
use Rattle.csi_fence.specs.Model.Fenced.{Fenced, fenced_parts}
use Rattle.csi_controller.specs.Model.Fenced.{controller_with, fenced}
use Rattle.csi_controller.specs.Public.Fenced.{after_frames}
use Rattle.csi_controller.specs.Model.Core.{ControllerParts, Shows}
use Rattle.csi_streams.specs.Private.Answering.{HasAnswered}
use Rattle.csi_streams.specs.Public.Streaming.{AreReplies}
use Rattle.csi_streams.specs.Private.Handling.{Handles}
use Rattle.csi_streams.specs.Public.Replay.{replay_config, replies_from, spelled_replies}

-- the replies to no frames have no bytes
pub answered-none : spelled_replies [] ≡ []
unfolding spelled_replies
answered-none = refl

-- the state after frames and one more is what that one leaves of the state after the frames
pub after_frames-push : (state : ControllerState) (frames : List Frame) (frame : Frame) → after_frames replay_config state (frames ++ frame ∷ []) ≡ (fenced replay_config (after_frames replay_config state frames) frame).state
after_frames-push state [] frame = refl
after_frames-push state (f ∷ frames) frame = after_frames-push (fenced replay_config state f).state frames frame

-- the replies to frames and one more are those to the frames, and then the one to that frame if it has any
replies_from-push : (state : ControllerState) (frames : List Frame) (frame : Frame) → replies_from state (frames ++ frame ∷ []) ≡ replies_from state frames ++ option_to_list (fenced replay_config (after_frames replay_config state frames) frame).reply
replies_from-push state [] frame = append-nil (option_to_list (fenced replay_config state frame).reply)
replies_from-push state (f ∷ frames) frame =
    ap (λ more. option_to_list (fenced replay_config state f).reply ++ more) (replies_from-push (fenced replay_config state f).state frames frame)
    ∙ sym (append_assoc (option_to_list (fenced replay_config state f).reply) (replies_from (fenced replay_config state f).state frames) _)

-- the bytes of the replies to frames and one more are those of the replies to the frames, and then of the one to that frame
pub answered-push : (frames : List Frame) (frame : Frame) → spelled_replies (frames ++ frame ∷ []) ≡ spelled_replies frames ++ flat_map spelling (option_to_list (fenced replay_config (after_frames replay_config empty_controller frames) frame).reply)
unfolding spelled_replies
answered-push frames frame = ap (flat_map spelling) (replies_from-push empty_controller frames frame) ∙ flat_map-append spelling (replies_from empty_controller frames) _

-- one frame more was answered
pub answered_more : (frames : List Frame) (frame : Frame) (old new : ControllerParts) (reply : Option Frame) (before after : List ℕ) → HasAnswered old frames
    → reply ≡ (fenced old.config (after_frames replay_config empty_controller frames) frame).reply → Shows new (fenced old.config (after_frames replay_config empty_controller frames) frame).state → new.config ≡ old.config
    → after ≡ before ++ flat_map spelling (option_to_list reply) → Handles HasAnswered AreReplies frames frame new before after
answered_more frames frame old new reply before after has replied shown same appended =
    let state : ControllerState = after_frames replay_config empty_controller frames in
    record {
      handled = record {
        shown = subst (Shows new) (sym (after_frames-push empty_controller frames frame)) (subst (λ (config : Config). Shows new (fenced config state frame).state) has.config shown);
        config = same ∙ has.config;
      };
      more = flat_map spelling (option_to_list reply);
      appended = appended;
      given = λ bytes is.
          ap (λ (front : List ℕ). front ++ flat_map spelling (option_to_list reply)) is
          ∙ ap (λ (r : Option Frame). spelled_replies frames ++ flat_map spelling (option_to_list r)) (replied ∙ ap (λ (config : Config). (fenced config state frame).reply) has.config)
          ∙ sym (answered-push frames frame);
    }

-- a frame without a call gets no answer, and changes nothing
silent : (config : Config) (state : ControllerState) (number : Number) (party : Party) (body : Body) → None ≡ call_in body → fenced_parts (controller_with config) state number party body ≡ record { reply = None; state = state }
silent config state number party (bodies.Call call) e = absurd cc
silent config state number party (bodies.Reply kind reply) e = refl

-- a reply gets no answer, and changes nothing
pub answered_none : (frames : List Frame) (frame : Frame) (parts : ControllerParts) (bytes : List ℕ) → HasAnswered parts frames → None ≡ call_of frame → Handles HasAnswered AreReplies frames frame parts bytes bytes
answered_none frames frame parts bytes has is =
    let state : ControllerState = after_frames replay_config empty_controller frames in
    let same = sym (silent parts.config state frame.number frame.party frame.body is) in
    answered_more frames frame parts parts None bytes bytes has (ap (λ (f : Fenced ControllerState). f.reply) same) (subst (λ (f : Fenced ControllerState). Shows parts f.state) same has.shown) refl (sym (append-nil bytes))
