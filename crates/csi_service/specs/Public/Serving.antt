-- What serving does to a record and to the output, at each end. This profile's own.
use Rattle.std.specs.Prelude.{◌≡◌, ◌≢◌, ◌⊎◌, ℕ, ◌≤◌, List, [], ◌∷◌, ◌++◌, length, take, count_by, Option, Some, None, is_some, Result, Ok, Err}
use Rattle.std.specs.List.{flat_map}
use Rattle.std.specs.Io.KnownBytes.{Appends}
use Rattle.csi_types.specs.Model.Frame.{Frame}
use Rattle.csi_frames.specs.declared.fault.FaultKind.TheVariants.{Short}
use Rattle.csi_frames.specs.Public.Spelling.{spelling}
use Rattle.csi_frames.specs.Public.Fault.{IsFaulty}
use Rattle.csi_frames.specs.Public.Stream.{FramesOf}
use Rattle.csi_streams.specs.Public.Frames.{IsFaultOf}
pub use Rattle.csi_streams.specs.Public.Answering.{AnswersEach}
use Rattle.csi_service.specs.declared.serving.fault.Served.{Served}
use Rattle.csi_service.specs.declared.serving.fault.ServeFault.{ServeFault}
use Rattle.csi_service.specs.declared.serving.fault.ServeFaultKind.{ServeFaultKind}
use Rattle.csi_service.specs.declared.serving.fault.ServeFaultKind.TheVariants as kinds
use Rattle.csi_stores.specs.declared.keep.KeepFault.{KeepFault}
use Rattle.csi_stores.specs.Public.Part.{StoredPart}
use Rattle.csi_stores.specs.Public.Stores.{Store, LeavesOnly, LeavesEither, IsContentRefusal}

-- a reply, as it is written
abbrev pub reply_bytes : Option Frame → List ℕ
reply_bytes None = []
reply_bytes (Some reply) = spelling reply

-- replies, as they are written one after another
abbrev pub output_of : List (Option Frame) → List ℕ
output_of replies = flat_map reply_bytes replies

-- how many there are
abbrev pub reply_count : List (Option Frame) → ℕ
reply_count replies = count_by is_some replies

-- What serving is judged by: the core at first, how it answers and which parts it has; the store, and what the writer has, before
-- and after; and whether the reader has ended or failed, the writer failed, and the input was endless.
pub record Setting (C : Type 0) : Type 1 where
  pub answers : C → Frame → Option Frame → C → Type 0
  pub parts_of : C → List StoredPart
  pub core : C
  pub before : Store
  pub after : Store
  pub written_before : Option (List ℕ)
  pub written_after : Option (List ℕ)
  pub at_end : Type 0
  pub reader_failed : Type 0
  pub writer_failed : Type 0
  pub endless : Type 0

-- the store has the core's parts, and all replies are written
pub record AllDone {C : Type 0} (setting : Setting C) (replies : List (Option Frame)) (now : C) : Type 0 where
  pub kept : LeavesOnly setting.before setting.after (setting.parts_of setting.core) (setting.parts_of now)
  pub written : Appends setting.written_before setting.written_after (output_of replies)

-- the store has the core's parts; of the last frames, which were committed together, a front of the replies is written, and all replies before
pub record GroupUnwritten {C : Type 0} (setting : Setting C) (replies : List (Option Frame)) (now : C) : Type 0 where
  pub kept : LeavesOnly setting.before setting.after (setting.parts_of setting.core) (setting.parts_of now)
  pub earlier : List (Option Frame)
  pub group : List (Option Frame)
  pub some : group ≢ []
  pub are : replies ≡ earlier ++ group
  pub front : List ℕ
  pub more : List ℕ
  pub parts : output_of group ≡ front ++ more
  pub written : Appends setting.written_before setting.written_after (output_of earlier ++ front)

-- the next frames were answered, and all that they changed was refused: opening the store again finds the parts before them or after them, and nothing between
pub record GroupRefused {C : Type 0} (setting : Setting C) (group : List Frame) (replies : List (Option Frame)) (now : C) (fault : KeepFault) : Type 0 where
  pub given : List (Option Frame)
  pub next : C
  pub answered : AnswersEach setting.answers now group given next
  pub left : LeavesEither setting.before setting.after (setting.parts_of setting.core) (setting.parts_of now) (setting.parts_of next)
  pub cause : IsContentRefusal setting.before setting.after (setting.parts_of setting.core) (setting.parts_of next) fault
  pub written : Appends setting.written_before setting.written_after (output_of replies)

-- behind the first k frames stand these, one at least
pub record IsGroup (frames : List Frame) (k : ℕ) (group : List Frame) : Type 0 where
  pub some : group ≢ []
  pub behind : List Frame
  pub here : frames ≡ take k frames ++ group ++ behind

-- nothing is left over, or what may be the beginning of a frame
abbrev pub Waits : List ℕ → Type 0
Waits rest = (rest ≡ []) ⊎ ((place : ℕ) × IsFaulty rest Short place)

-- Why serving ended, after k of the frames were committed. These are those that were answered behind them: there are none, but where their
-- commit, which was one, was refused.
abbrev pub StopsBy : {C : Type 0} → Setting C → List Frame → List ℕ → ℕ → List (Option Frame) → C → List Frame → ServeFaultKind → Type 0
StopsBy setting frames rest k replies now group kinds.Input = (group ≡ []) × (k ≡ length frames) × setting.reader_failed × Waits rest × AllDone setting replies now
StopsBy setting frames rest k replies now group kinds.Output = (group ≡ []) × setting.writer_failed × GroupUnwritten setting replies now
StopsBy setting frames rest k replies now group (kinds.Frame kind place) = (group ≡ []) × (k ≡ length frames) × IsFaultOf frames rest kind place × (kind ≡ Short → setting.at_end) × AllDone setting replies now
StopsBy setting frames rest k replies now group (kinds.Keep fault) = IsGroup frames k group × GroupRefused setting group replies now fault
StopsBy setting frames rest k replies now group kinds.NoMemory = (group ≡ []) × AllDone setting replies now
StopsBy setting frames rest k replies now group kinds.Endless = (group ≡ []) × (k ≡ length frames) × setting.endless × Waits rest × AllDone setting replies now

-- how many frames were committed
abbrev pub frames_counted : Result Served ServeFault → ℕ
frames_counted (Ok served) = served.frames
frames_counted (Err fault) = fault.frames

-- all was served: no byte is left over, nor unread; or serving stopped
abbrev pub EndsBy : {C : Type 0} → Setting C → List Frame → List ℕ → List (Option Frame) → C → List Frame → Result Served ServeFault → Type 0
EndsBy setting frames rest replies now group (Ok served) = (group ≡ []) × (served.frames ≡ length frames) × (rest ≡ []) × (served.replies ≡ reply_count replies) × setting.at_end × AllDone setting replies now
EndsBy setting frames rest replies now group (Err fault) = StopsBy setting frames rest fault.frames replies now group fault.kind

-- These bytes are frames and a rest; the first of the frames, as many as are counted, were answered one after another, and so it
-- ended, with these answered and refused behind them.
pub record Serves {C : Type 0} (setting : Setting C) (bytes : List ℕ) (result : Result Served ServeFault) : Type 0 where
  pub frames : List Frame
  pub rest : List ℕ
  pub stream : FramesOf bytes frames rest
  pub within : frames_counted result ≤ length frames
  pub replies : List (Option Frame)
  pub now : C
  pub runs : AnswersEach setting.answers setting.core (take (frames_counted result) frames) replies now
  pub group : List Frame
  pub ends : EndsBy setting frames rest replies now group result

-- All that was read is answered: its frames one after another, the store has the core's parts then, and all replies are written.
pub record IsAllAnswered {C : Type 0} (answers : C → Frame → Option Frame → C → Type 0) (parts_of : C → List StoredPart) (core : C) (before after : Store) (written_before written_after : Option (List ℕ)) (read : List ℕ) : Type 0 where
  pub frames : List Frame
  pub rest : List ℕ
  pub stream : FramesOf read frames rest
  pub replies : List (Option Frame)
  pub now : C
  pub runs : AnswersEach answers core frames replies now
  pub kept : LeavesOnly before after (parts_of core) (parts_of now)
  pub written : Appends written_before written_after (output_of replies)
