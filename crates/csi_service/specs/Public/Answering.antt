-- How a frame is answered, and where that stops. This profile's own.
use Rattle.std.specs.Prelude.{◌≡◌, ℕ, List, ◌++◌, Bool, Option, is_some}
use Rattle.csi_types.specs.Model.Frame.{Frame}
use Rattle.csi_stores.specs.Public.Part.{StoredPart}
use Rattle.csi_service.specs.Public.Serving.{reply_bytes}

-- these parts are a record's
abbrev pub AreRecord : {R : Type 0} → (R → List StoredPart → Type 0) → List StoredPart → Type 0
AreRecord {R} spells parts = (kept : R) × spells kept parts

-- a core answers so; and where all in it was within its limits, all is, and its parts are those of a record
abbrev pub AnswersInRecord : {R C : Type 0} → (C → Type 0) → (R → List StoredPart → Type 0) → (C → List StoredPart) → (C → Frame → Option Frame → C → Type 0) → C → Frame → Option Frame → C → Type 0
AnswersInRecord IsFit spells parts_of answers old frame reply new = answers old frame reply new × (IsFit old → IsFit new × AreRecord spells (parts_of new))

-- the frame was answered, and its reply's bytes were put behind those that were there; the flag tells whether it has one
pub record AppendsReply {C : Type 0} (answers : C → Frame → Option Frame → C → Type 0) (old : C) (frame : Frame) (new : C) (before after : List ℕ) (replied : Bool) : Type 0 where
  pub reply : Option Frame
  pub answered : answers old frame reply new
  pub appended : after ≡ before ++ reply_bytes reply
  pub told : replied ≡ is_some reply

-- as the new core answers, so the old one would have: a core that was refused memory answers on as if nothing had been asked
abbrev pub AnswersAsBefore : {C : Type 0} → (C → Frame → Option Frame → C → Type 0) → C → C → Type 0
AnswersAsBefore {C} answers old new = (frame : Frame) (reply : Option Frame) (next : C) → answers new frame reply next → answers old frame reply next
