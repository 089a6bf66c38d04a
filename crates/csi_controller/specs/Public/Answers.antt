-- What a controller answers to a call, and what that changes. This profile's own.
use Rattle.std.specs.Prelude.{◌≡◌, Option, None, option_map, Result, Ok, IfOk, IfSome, OnOk, OnErr, IsOk, IsTrue, not}
use Rattle.csi_types.specs.declared.number.Number.{Number}
use Rattle.csi_types.specs.declared.call.Call.{Call}
use Rattle.csi_types.specs.declared.call.Party.{Party}
use Rattle.csi_types.specs.declared.call.Party.TheVariants.{Controller}
use Rattle.csi_types.specs.declared.frame.Body.TheVariants as bodies
use Rattle.csi_types.specs.Model.Call.{kind_of}
use Rattle.csi_types.specs.Model.Replies.{call_frame}
use Rattle.csi_types.specs.Public.Call.{is_party_of}
use Rattle.csi_types.specs.Public.Frame.{IsAllowed}
use Rattle.csi_fence.specs.declared.answer.Answer.{Answer}
use Rattle.csi_fence.specs.declared.fault.CoreFault.{CoreFault}
use Rattle.csi_fence.specs.Public.Repeats.{IsPlainRepeat}
use Rattle.csi_controller.specs.Model.State.{ControllerState}
use Rattle.csi_controller.specs.Model.Fenced.{fenced, kept_for}
use Rattle.csi_controller.specs.Model.Core.{ControllerParts, Shows}
use Rattle.csi_controller.specs.Public.Core.{IsAnsweredOk, IsCurrent, IsUndoing}
use Rattle.csi_controller.specs.Public.RowsLaw.{ChangesAt}
use Rattle.csi_controller.specs.Public.Step.{answer_frame}

-- to a call, whose texts fit where that is so, a controller answered this, and is this afterwards
pub record AnswersCall (is_fit : Type 0) (old new : ControllerParts) (number : Number) (call : Call) (result : Result (Option Answer) CoreFault) : Type 0 where
  -- what a frame of the call gets, for any plugin that it is for
  pub reply : (state : ControllerState) (party : Party) → Shows old state → IsAllowed party (bodies.Call call) → is_fit
      → IfOk result (λ answer. option_map (answer_frame number) answer ≡ (fenced old.config state (call_frame number party call)).reply)
  pub state : (state : ControllerState) (party : Party) → Shows old state → IsAllowed party (bodies.Call call) → is_fit
      → OnOk result (Shows new (fenced old.config state (call_frame number party call)).state)
  -- which row was changed or made, and what stays as it was
  pub changes : IfOk result (λ answer. IfSome answer (λ own. ChangesAt own.row number old new))
  pub current : IsCurrent new.session new.rows
  pub unanswered : result ≡ Ok None → new ≡ old
  pub allowed : IfOk result (λ answer. IfSome answer (λ own. IsAllowed Controller (bodies.Reply own.kind own.reply)))
  pub config : new.config ≡ old.config
  pub err : (state : ControllerState) → Shows old state → OnErr result (Shows new state)
  -- no frame has a call with a text that doesn't fit
  pub unfit : (is_fit → ⊥) → (result ≡ Ok None) × (new ≡ old)
  -- what takes no memory succeeds
  pub others : IsTrue (not (is_party_of (kind_of call) Controller)) → result ≡ Ok None
  pub undone : (state : ControllerState) → Shows old state → IsUndoing call → IsAnsweredOk old.config state number call → IsOk result
  pub repeated : (state : ControllerState) → Shows old state → IsPlainRepeat state.session (kept_for call state) number → IsOk result
