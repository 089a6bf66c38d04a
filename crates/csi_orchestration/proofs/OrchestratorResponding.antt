-- What an orchestrator answers to a line, by what the line is.
use Rattle.std.proofs.Common.{◌≡◌, inl, inr, sym, ap, subst, refl, ℕ, ◌<◌, List, length, IfOk, Result, Ok, Err, arith}
use Rattle.std.proofs.lemmas.List.{take_all}
use Rattle.csi_types.specs.Model.Frame.{Frame}
use Rattle.csi_frames.specs.declared.fault.FaultKind.TheVariants as frame_faults
use Rattle.csi_frames.specs.declared.fault.FrameFault.{FrameFault}
use Rattle.csi_frames.specs.Public.Decoding.{GivesUnlessMemory, no_memory}
use Rattle.csi_frames.specs.Public.Spelling.{Spells, BeginsWith}
use Rattle.csi_json.specs.declared.request_fault.RequestFault.{RequestFault}
use Rattle.csi_json.specs.declared.request_fault.RequestFault.TheVariants as no_requests
use Rattle.csi_json.specs.Public.Requests.{RequestShown, IsRequestFault}
use Rattle.csi_orchestration.specs.declared.orchestrator_responder.OrchestratorResponder.{OrchestratorResponder}
use Rattle.csi_orchestration.specs.Public.OrchestratorLines.{AnswersFault, AnswersReply}
use Rattle.csi_orchestration.specs.Private.OrchestratorResponding.{IsTold}

-- bytes that are a frame begin with it
pub whole : (bytes : List ℕ) (frame : Frame) → Spells frame bytes → BeginsWith bytes frame (length bytes)
whole bytes frame spells = record { within = omega arith; spelled = subst (λ (bs : List ℕ). Spells frame bs) (sym (take_all (length bytes) bytes (omega arith))) spells }

-- how many bytes a frame took
abbrev size_in : Result (Frame × ℕ) FrameFault → ℕ
size_in (Ok read) = read.1
size_in (Err fault) = 0

-- where a shorter frame begins the bytes, they are none
pub none-longer : (bytes : List ℕ) (read : Frame) (size : ℕ) → ((frame : Frame) (n : ℕ) → BeginsWith bytes frame n → GivesUnlessMemory {X = Frame × ℕ} (Ok (read, size)) (frame, n)) → size < length bytes
    → (frame : Frame) → Spells frame bytes → ⊥
none-longer bytes read size every short frame spells = elim (every frame (length bytes) (whole bytes frame spells)) [
  | inl same ↦ let e : size ≡ length bytes = ap size_in same in omega (arith, e, short)
  | inr other ↦ absurd (cc)
]

-- where they have a fault, which isn't out of memory
pub none-faulty : (bytes : List ℕ) (fault : FrameFault) → ((frame : Frame) (n : ℕ) → BeginsWith bytes frame n → GivesUnlessMemory {X = Frame × ℕ} (Err fault) (frame, n)) → (fault.kind ≡ frame_faults.NoMemory → ⊥)
    → (frame : Frame) → Spells frame bytes → ⊥
none-faulty bytes fault every other frame spells = elim (every frame (length bytes) (whole bytes frame spells)) [
  | inl same ↦ absurd (cc)
  | inr same ↦ let e : fault ≡ no_memory = cc in other (ap (λ (f : FrameFault). f.kind) e)
]

-- bytes that are no frame get a fault
pub refused-reply : {T E : Type 0} (text_of : T → List ℕ) (bytes : List ℕ) (old new : OrchestratorResponder) (result : Result T E) → ((frame : Frame) → Spells frame bytes → ⊥)
    → IfOk result (λ text. IsTold (AnswersFault no_requests.BadFrame) old (text_of text) new) → IfOk result (λ text. IsTold (AnswersReply bytes) old (text_of text) new)
refused-reply text_of bytes old new (Ok text) none told = (inr (none, told.0), told.1)
refused-reply text_of bytes old new (Err stop) none told = tt

-- a fault that isn't out of memory is the line's
pub of-fault : (answer : Result RequestShown RequestFault) (fault : RequestFault) → (fault ≡ no_requests.NoMemory → ⊥) → IsRequestFault answer fault → answer ≡ Err fault
of-fault answer no_requests.NotJson other is = is
of-fault answer no_requests.BadLine other is = is
of-fault answer no_requests.BadFrame other is = is
of-fault answer no_requests.NoMemory other is = absurd (other refl)
