-- What is made of the frames of a reader, and what a writer gets of it. This profile's own.
use Rattle.std.specs.Prelude.{◌≡◌, ℕ, ◌^◌, ◌≤◌, List, [], length, take, Option, Result, Ok, Err}
use Rattle.std.specs.Io.KnownBytes.{Appends, Consumes, IsAtEnd}
use Rattle.csi_types.specs.Model.Frame.{Frame}
use Rattle.csi_frames.specs.declared.fault.FaultKind.TheVariants.{Short}
use Rattle.csi_frames.specs.Public.Stream.{FramesOf}
use Rattle.csi_streams.specs.Public.Frames.{IsFaultOf, Waits}
use Rattle.csi_streams.specs.declared.streaming.StreamFault.{StreamFault}
use Rattle.csi_streams.specs.declared.streaming.StreamFault.TheVariants.{Frame as Faulty, NoMemory, Input, Output, Endless}
use Rattle.csi_streams.specs.Public.Replay.{spelled_replies, Grows}
use Rattle.csi_streams.specs.Public.FrameLines.{lines}

-- these are the spellings of a new controller's replies to these frames
abbrev pub AreReplies : List Frame → List ℕ → Type 0
AreReplies frames bytes = bytes ≡ spelled_replies frames

-- these are the lines of these frames
abbrev pub AreLines : List Frame → List ℕ → Type 0
AreLines frames bytes = bytes ≡ lines frames

-- these bytes are given for the first k frames, for some k
pub record GivesFront (gives : List Frame → List ℕ → Type 0) (frames : List Frame) (bytes : List ℕ) : Type 0 where
  pub count : ℕ
  pub within : count ≤ length frames
  pub given : gives (take count frames) bytes

-- How a stream of these frames and this rest ends, of which `out` was written. All frames are counted, and no byte is left over nor
-- unread; or the rest is at fault; or memory ran out; or the reader failed, or gave 2^63 bytes, where no fault was read; or the writer
-- failed, and has a front of what is given.
abbrev pub StreamEnds : (List Frame → List ℕ → Type 0) → List ℕ → List Frame → List ℕ → Type 0 → List ℕ → Result ℕ StreamFault → Type 0
StreamEnds gives read frames rest at_end out (Ok count) = at_end × (rest ≡ []) × (count ≡ length frames) × gives frames out
StreamEnds gives read frames rest at_end out (Err (Faulty kind place)) = (kind ≡ Short → at_end) × IsFaultOf frames rest kind place × gives frames out
StreamEnds gives read frames rest at_end out (Err NoMemory) = GivesFront gives frames out
StreamEnds gives read frames rest at_end out (Err Input) = Waits rest × gives frames out
StreamEnds gives read frames rest at_end out (Err Output) = (all : List ℕ) × Grows out all × GivesFront gives frames all
StreamEnds gives read frames rest at_end out (Err Endless) = (2 ^ 63 ≤ length read) × Waits rest × gives frames out

-- Some bytes were read, which are frames and a rest, and some were written, and so it ended; `gives` says what is given for frames.
pub record IsStreamed (gives : List Frame → List ℕ → Type 0) (left_before left_after written_before written_after : Option (List ℕ)) (result : Result ℕ StreamFault) : Type 0 where
  pub read : List ℕ
  pub consumed : Consumes left_before left_after read
  pub frames : List Frame
  pub rest : List ℕ
  pub stream : FramesOf read frames rest
  pub out : List ℕ
  pub written : Appends written_before written_after out
  pub ends : StreamEnds gives read frames rest (IsAtEnd left_after) out result
