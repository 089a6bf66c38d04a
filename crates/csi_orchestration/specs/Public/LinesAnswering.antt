-- How a line is answered. This profile's own.
use Rattle.std.specs.Prelude.{◌≡◌, ℕ, List, ◌++◌}
use Rattle.csi_streams.specs.Public.LinesOf.{with_newline}
use Rattle.csi_stores.specs.Public.Part.{StoredPart}
use Rattle.csi_service.specs.Public.Answering.{AreRecord}

-- a responder answers so; and where all in it was within its limits, all is, and its parts are those of a record
abbrev pub AnswersInRecord : {R C : Type 0} → (C → Type 0) → (R → List StoredPart → Type 0) → (C → List StoredPart) → (C → List ℕ → List ℕ → C → Type 0) → C → List ℕ → List ℕ → C → Type 0
AnswersInRecord IsFit spells parts_of answers old line answer new = answers old line answer new × (IsFit old → IsFit new × AreRecord spells (parts_of new))

-- the line was answered, and the answer's bytes and a newline were put behind those that were there
pub record AppendsAnswer {C : Type 0} (answers : C → List ℕ → List ℕ → C → Type 0) (old : C) (line : List ℕ) (new : C) (before after : List ℕ) : Type 0 where
  pub answer : List ℕ
  pub answered : answers old line answer new
  pub appended : after ≡ before ++ with_newline answer
