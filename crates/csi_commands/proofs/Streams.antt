-- A command on a stream ends as on the bytes of it.
use Rattle.std.proofs.Common.{◌≡◌, ◌∙◌, sym, ap, subst, refl, inl, inr, ℕ, List, [], ◌++◌, length, take_all, OnOk, OnErr, Option, Result, Ok, Err, arith}
use Rattle.std.proofs.lemmas.List.{append-nil}
use Rattle.std.specs.Io.KnownBytes.{Appends, Consumes, IsAtEnd}
use Rattle.std.proofs.KnownBytes.{Appends-nil}
use Rattle.csi_types.specs.Model.Frame.{Frame}
use Rattle.csi_frames.specs.Public.Stream.{FramesOf}
use Rattle.csi_stores.specs.declared.output.WriteFailed.{WriteFailed}
use Rattle.csi_stores.specs.Public.Counting.{HasRisen}
use Rattle.csi_stores.specs.Public.Writing.{WritesFront}
use Rattle.csi_streams.specs.declared.streaming.StreamFault.{StreamFault}
use Rattle.csi_streams.specs.declared.streaming.StreamFault.TheVariants as stops
use Rattle.csi_streams.specs.Public.Replay.{spelled_replies, Grows}
use Rattle.csi_streams.specs.Public.FrameLines.{lines}
use Rattle.csi_streams.specs.Public.Failing.{TellsReader, TellsWriter}
use Rattle.csi_streams.specs.Public.Frames.{Waits}
use Rattle.csi_streams.proofs.Streams.{one_stream}
use Rattle.csi_streams.specs.Public.Streaming.{AreReplies, AreLines, GivesFront, StreamEnds, IsStreamed}
use Rattle.csi_streams.specs.declared.command.FileCommand.TheVariants.{Answer, Show, Schedule}
use Rattle.csi_streams.specs.declared.command.ScheduleCommand.{ScheduleCommand}
use Rattle.csi_streams.specs.declared.ending.Ending.{Ending}
use Rattle.csi_streams.specs.declared.ending.Ending.TheVariants as endings
use Rattle.csi_commands.specs.Public.Ending.{EndsAs}
use Rattle.csi_commands.specs.Public.Running.{Drawing, Plays, IsScheduleRefused}
use Rattle.csi_commands.specs.Public.Streaming.{StreamsAs, StreamEndsAs, TellsDevice}
use Rattle.csi_commands.specs.Private.Streaming.{HasRead, ReadsWhole, ending_of_stream, ending_of_written}

-- all bytes begin with themselves
grows-none : (bytes : List ℕ) → Grows bytes bytes
grows-none bytes = record { more = []; appended = sym (append-nil bytes) }

-- what is said of the frames of some bytes is said of them whoever reads them
module _ (draws : Drawing) (bytes rest : List ℕ) (frames : List Frame) (of : FramesOf bytes frames rest) where
  -- what is so of one splitting of the bytes is so of every one
  for_all : (P : List Frame → List ℕ → Type 0) → P frames rest → (fs : List Frame) (more : List ℕ) → FramesOf bytes fs more → P fs more
  for_all P here fs more of' =
      let same = one_stream bytes frames fs rest more of of' in
      subst (λ (x : List ℕ). P fs x) same.1 (subst (λ (gs : List Frame). P gs rest) same.0 here)

  -- the text of all frames of the bytes is that of some of the first
  all_given : (text : List Frame → List ℕ) (out : List ℕ) → out ≡ text frames → (fs : List Frame) (more : List ℕ) → FramesOf bytes fs more → GivesFront (λ gs given. given ≡ text gs) fs out
  all_given text out given = for_all (λ fs more. GivesFront (λ gs given. given ≡ text gs) fs out) (record {
    count = length frames;
    within = omega arith;
    given = subst (λ (fs : List Frame). out ≡ text fs) (sym (take_all (length frames) frames (omega arith))) given;
  })

  -- however the answering of a stream ended, the command ends so on its bytes
  answer_ends : (at_end : Type 0) (out : List ℕ) (result : Result ℕ StreamFault) → StreamEnds AreReplies bytes frames rest at_end out result → StreamEndsAs draws Answer at_end bytes out (ending_of_stream result)
  answer_ends at_end out (Ok count) ends = (ends.0, (for_all (λ fs more. EndsAs Answer fs more [] out endings.Done) (record { whole = ends.1; appended = ends.3 }), tt))
  answer_ends at_end out (Err (stops.Frame kind place)) ends = (ends.0, (for_all (λ fs more. EndsAs Answer fs more [] out (endings.FrameFault kind place)) (ends.1, ends.2), tt))
  answer_ends at_end out (Err stops.NoMemory) ends = (tt, (for_all (λ fs more. EndsAs Answer fs more [] out endings.Memory) (record { count = ends.count; within = ends.within; appended = ends.given }), tt))
  answer_ends at_end out (Err stops.Input) ends = record { all = out; appended = all_given spelled_replies out ends.1; grows = grows-none out }
  answer_ends at_end out (Err stops.Output) ends = record { all = ends.0; appended = for_all (λ fs more. GivesFront AreReplies fs ends.0) ends.2; grows = ends.1 }
  answer_ends at_end out (Err stops.Endless) ends = (ends.0, for_all (λ fs more. Waits more × AreReplies fs out) (ends.1, ends.2))

  -- and however the showing of one ended
  show_ends : (at_end : Type 0) (out : List ℕ) (result : Result ℕ StreamFault) → StreamEnds AreLines bytes frames rest at_end out result → StreamEndsAs draws Show at_end bytes out (ending_of_stream result)
  show_ends at_end out (Ok count) ends = (ends.0, (for_all (λ fs more. EndsAs Show fs more [] out endings.Done) (record { whole = ends.1; appended = ends.3 }), tt))
  show_ends at_end out (Err (stops.Frame kind place)) ends = (ends.0, (for_all (λ fs more. EndsAs Show fs more [] out (endings.FrameFault kind place)) (ends.1, ends.2), tt))
  show_ends at_end out (Err stops.NoMemory) ends = (tt, (for_all (λ fs more. EndsAs Show fs more [] out endings.Memory) (record { count = ends.count; within = ends.within; appended = ends.given }), tt))
  show_ends at_end out (Err stops.Input) ends = record { all = out; appended = all_given lines out ends.1; grows = grows-none out }
  show_ends at_end out (Err stops.Output) ends = record { all = ends.0; appended = for_all (λ fs more. GivesFront AreLines fs ends.0) ends.2; grows = ends.1 }
  show_ends at_end out (Err stops.Endless) ends = (ends.0, for_all (λ fs more. Waits more × AreLines fs out) (ends.1, ends.2))

-- where the frames of a reader were answered, the command ends as on its bytes; and below where they were shown
pub answers_so : (draws : Drawing) (left now had has : Option (List ℕ)) (result : Result ℕ StreamFault) → IsStreamed AreReplies left now had has result → StreamsAs draws Answer left now had has (ending_of_stream result)
answers_so draws left now had has result s = record { bytes = s.read; consumed = s.consumed; out = s.out; written = s.written; ends = answer_ends draws s.read s.rest s.frames s.stream (IsAtEnd now) s.out result s.ends }

-- the same where they were shown
pub shows_so : (draws : Drawing) (left now had has : Option (List ℕ)) (result : Result ℕ StreamFault) → IsStreamed AreLines left now had has result → StreamsAs draws Show left now had has (ending_of_stream result)
shows_so draws left now had has result s = record { bytes = s.read; consumed = s.consumed; out = s.out; written = s.written; ends = show_ends draws s.read s.rest s.frames s.stream (IsAtEnd now) s.out result s.ends }

-- a schedule that is refused gives nothing
pub refused_so : (draws : Drawing) (command : ScheduleCommand) (at_end : Type 0) (bytes : List ℕ) (ending : Ending) → at_end → IsScheduleRefused bytes ending → StreamEndsAs draws (Schedule command) at_end bytes [] ending
refused_so draws command at_end bytes (endings.ScheduleFault fault) end refused = (end, (λ frames rest of. tt, (refused, refl)))
refused_so draws command at_end bytes endings.NotUtf8 end refused = (end, (λ frames rest of. tt, (refused, refl)))
refused_so draws command at_end bytes endings.Memory end refused = refl
refused_so draws command at_end bytes ending end refused = absurd refused

-- where the reader failed, or memory ran out, nothing is given
pub unread_so : (draws : Drawing) (command : ScheduleCommand) (left now has : Option (List ℕ)) (before after : ℕ) (old new : List ℕ) (ending : Ending) → ReadsWhole left now before after old new (Err ending) → StreamsAs draws (Schedule command) left now has has ending
unread_so draws command left now has before after old new endings.Device unread = record { bytes = unread.0; consumed = unread.1; out = []; written = Appends-nil has; ends = record { all = []; appended = inl refl; grows = grows-none [] } }
unread_so draws command left now has before after old new endings.Memory unread = record { bytes = unread.0; consumed = unread.1; out = []; written = Appends-nil has; ends = refl }
unread_so draws command left now has before after old new ending unread = absurd unread

-- what came into an empty vector was read
pub read_in : (left now : Option (List ℕ)) (before after bytes : List ℕ) → before ≡ [] → bytes ≡ after → HasRead left now before after → Consumes left now bytes
read_in left now before after bytes none is read = subst (Consumes left now) (sym (is ∙ read.appended ∙ ap (λ (front : List ℕ). front ++ read.more) none)) read.consumed

-- what a schedule gives was written, or not
pub plays_so : (draws : Drawing) (command : ScheduleCommand) (left now had has : Option (List ℕ)) (bytes before given text : List ℕ) (result : Result (Unit {0}) WriteFailed) → Consumes left now bytes → IsAtEnd now → before ≡ [] → text ≡ given → Plays draws command bytes before given
    → OnOk result (Appends had has text) → OnErr result (WritesFront had has text) → StreamsAs draws (Schedule command) left now had has (ending_of_written result)
plays_so draws command left now had has bytes before given text (Ok done) consumed end none is plays written cut = record {
  bytes = bytes;
  consumed = consumed;
  out = given;
  written = subst (Appends had has) is written;
  ends = (end, (λ frames rest of. tt, subst (λ (old : List ℕ). Plays draws command bytes old given) none plays));
}
plays_so draws command left now had has bytes before given text (Err failed) consumed end none is plays written cut = record {
  bytes = bytes;
  consumed = consumed;
  out = cut.front;
  written = cut.appended;
  ends = record { all = given; appended = inr (subst (λ (old : List ℕ). Plays draws command bytes old given) none plays); grows = subst (Grows cut.front) is (record { more = cut.more; appended = cut.parts }) };
}

-- ---- which failures are told

-- where a stream of frames ended so
pub told_so : (reader_before reader_after writer_before writer_after : ℕ) (result : Result ℕ StreamFault) → TellsReader reader_before reader_after result → TellsWriter writer_before writer_after result
    → TellsDevice reader_before reader_after writer_before writer_after (ending_of_stream result)
told_so reader_before reader_after writer_before writer_after (Ok count) reader writer = (reader, writer)
told_so reader_before reader_after writer_before writer_after (Err (stops.Frame kind place)) reader writer = (reader, writer)
told_so reader_before reader_after writer_before writer_after (Err stops.NoMemory) reader writer = (reader, writer)
told_so reader_before reader_after writer_before writer_after (Err stops.Input) reader writer = inl reader
told_so reader_before reader_after writer_before writer_after (Err stops.Output) reader writer = inr writer
told_so reader_before reader_after writer_before writer_after (Err stops.Endless) reader writer = (reader, writer)

-- where a schedule wasn't read, or is refused, or what it gives was written or not
pub unread_told : (left now : Option (List ℕ)) (before after writer : ℕ) (old new : List ℕ) (ending : Ending) → ReadsWhole left now before after old new (Err ending) → TellsDevice before after writer writer ending
unread_told left now before after writer old new endings.Device unread = inl unread.2
unread_told left now before after writer old new endings.Memory unread = (unread.2, refl)
unread_told left now before after writer old new ending unread = absurd unread

-- the ending of a schedule that is refused tells no failure of a device
pub refused_told : (bytes : List ℕ) (before after writer : ℕ) (ending : Ending) → IsScheduleRefused bytes ending → after ≡ before → TellsDevice before after writer writer ending
refused_told bytes before after writer endings.Device refused same = absurd refused
refused_told bytes before after writer ending refused same = (same, refl)

-- the ending of what was written, or wasn't, tells whether the writer failed
pub written_told : (reader_before reader_after writer_before writer_after : ℕ) (result : Result (Unit {0}) WriteFailed) → reader_after ≡ reader_before → OnErr result (HasRisen writer_before writer_after) → OnOk result (writer_after ≡ writer_before)
    → TellsDevice reader_before reader_after writer_before writer_after (ending_of_written result)
written_told reader_before reader_after writer_before writer_after (Ok done) same risen quiet = (same, quiet)
written_told reader_before reader_after writer_before writer_after (Err failed) same risen quiet = inr risen
