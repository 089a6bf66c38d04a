-- What was given for the frames that were handled, and what was written of it.
use Rattle.std.proofs.Common.{◌≡◌, ◌∙◌, sym, ap, subst, ℕ, List, [], ◌++◌, take, Option, Result, Ok, Err, append_assoc, refl}
use Rattle.std.specs.Global.{Vec}
use Rattle.std.specs.Io.KnownBytes.{Appends}
use Rattle.std.proofs.KnownBytes.{Appends-nil, Appends-trans}
use Rattle.std.proofs.lemmas.List.{append-nil}
use Rattle.csi_types.specs.Model.Frame.{Frame}
use Rattle.csi_types.specs.declared.memory.NoMemory.{NoMemory}
use Rattle.csi_stores.specs.declared.counted.Counted.{Counted}
use Rattle.csi_stores.specs.Public.Counting.{HasRisen}
use Rattle.csi_stores.specs.Public.Writing.{WritesFront}
use Rattle.csi_streams.specs.declared.driver.DriveStop.{DriveStop}
use Rattle.csi_streams.specs.declared.driver.DriveStop.TheVariants as stop
use Rattle.csi_streams.specs.declared.frames.FramesFault.{FramesFault}
use Rattle.csi_streams.specs.declared.frames.FramesFault.TheVariants as frames_faults
use Rattle.csi_streams.specs.Public.Driving.{TellsReader as ReaderTold}
use Rattle.csi_streams.specs.Public.Framing.{Runs, begins, handled, flushed}
use Rattle.csi_streams.specs.Public.Frames.{EndsFrames, ReadsFrames}
use Rattle.csi_streams.specs.Public.State.{State}
use Rattle.csi_streams.specs.declared.giving.Appending.{Appending}
use Rattle.csi_streams.specs.declared.giving.Writing.{Writing}
use Rattle.csi_streams.specs.declared.giving.GivingFault.{GivingFault}
use Rattle.csi_streams.specs.declared.giving.GivingFault.TheVariants as givings
use Rattle.csi_streams.specs.Public.Failing.{TellsReader, TellsWriter}
use Rattle.csi_streams.specs.Private.Handling.{Gives, WritesGiven, StopsGiving, stream_fault, slice_fault, Adds, HandlesWhole}
use Rattle.csi_streams.specs.Public.Streaming.{IsStreamed}

-- ---- a slice

-- a slice's handler and what was appended
abbrev pub Slice : Type 0 → Type 0
Slice H = State (Appending H) (Unit {0}) (Vec ℕ)

module _ {H : Type 0} (has_handled : H → List Frame → Type 0) (gives : List Frame → List ℕ → Type 0) where
  -- a frame is given for, and nothing is ever written; it stops out of memory
  abbrev pub appends : Slice H → ℕ → Frame → Slice H → Type 0
  appends old place frame new = Gives has_handled gives old.own.handler place frame new.own.handler old.out.items new.out.items

  -- what was given for these frames was appended
  record Appended (first now : Slice H) (frames : List Frame) : Type 0 where
    handled_all : has_handled now.own.handler frames
    adds : Adds gives frames first.out.items now.out.items

  appended_of : (first now : Slice H) (frames : List Frame) → has_handled first.own.handler [] → gives [] [] → Runs appends (λ old new. new ≡ old) first frames now → Appended first now frames
  appended_of first now frames new none begins = record { handled_all = new; adds = record { more = []; appended = sym (append-nil first.out.items); given = none } }
  appended_of first now frames new none (handled fs before frame _ run did) =
      let a = appended_of first before fs new none run in
      let h = did fs a.handled_all refl in
      record {
        handled_all = h.handled;
        adds = record {
          more = a.adds.more ++ h.more;
          appended = h.appended ∙ ap (λ (bytes : List ℕ). bytes ++ h.more) a.adds.appended ∙ append_assoc first.out.items a.adds.more h.more;
          given = h.given a.adds.more a.adds.given;
        };
      }
  appended_of first now frames new none (flushed _ before _ run same) = subst (λ (s : Slice H). Appended first s frames) (sym same) (appended_of first before frames new none run)

  -- the frames of a slice, handled to its end
  abbrev Ended : Slice H → Slice H → ℕ → List Frame → List ℕ → Result (Unit {0}) (FramesFault NoMemory) → Type 0
  Ended first now count frames rest = EndsFrames appends (λ old new. new ≡ old) (λ appending. Unit {0}) (λ old frame new fault. new.out.items ≡ old.out.items) first now count frames rest (Unit {0})

  pub slice_whole : (first now : Slice H) (count : ℕ) (frames : List Frame) (rest : List ℕ) (done : Unit {0}) → has_handled first.own.handler [] → gives [] [] → Ended first now count frames rest (Ok done) → HandlesWhole gives frames rest first.out.items now.out.items (Ok count)
  slice_whole first now count frames rest done new none e = (e.1, e.2.counted, (appended_of first now frames new none e.2.runs).adds)

  pub slice_stopped : (first now : Slice H) (count : ℕ) (frames : List Frame) (rest : List ℕ) (fault : FramesFault NoMemory) → has_handled first.own.handler [] → gives [] [] → Ended first now count frames rest (Err fault)
      → HandlesWhole gives frames rest first.out.items now.out.items (Err (slice_fault fault))
  slice_stopped first now count frames rest (frames_faults.Frame kind place) new none e = (e.1, (appended_of first now frames new none e.2.runs).adds)
  slice_stopped first now count frames rest frames_faults.NoMemory new none e = (count, e.within, (appended_of first now (take count frames) new none e.runs).adds)
  slice_stopped first now count frames rest (frames_faults.Handler refused) new none e =
      let a = (appended_of first e.before (take count frames) new none e.runs).adds in
      (count, e.within, record { more = a.more; appended = e.stopped ∙ a.appended; given = a.given })

-- ---- a reader's stream

-- a stream's handler, and its writer
abbrev pub Stream : Type 0 → Type 0 → Type 0
Stream H W = State (Writing H) (Unit {0}) (Counted W)

-- the fault of a stream tells a failure of the reader where what stopped does
pub reader_told : (before after : ℕ) (s : DriveStop (FramesFault GivingFault)) → ReaderTold {A = Unit {0}} before after (Err s) → TellsReader {A = ℕ} before after (Err (stream_fault s))
reader_told before after stop.Input told = told
reader_told before after stop.Endless told = told
reader_told before after (stop.Consumer (frames_faults.Frame kind place)) told = told
reader_told before after (stop.Consumer frames_faults.NoMemory) told = told
reader_told before after (stop.Consumer (frames_faults.Handler givings.NoMemory)) told = told
reader_told before after (stop.Consumer (frames_faults.Handler givings.Output)) told = told

module _ {H W : Type 0} (contents : W → Option (List ℕ)) (has_handled : H → List Frame → Type 0) (gives : List Frame → List ℕ → Type 0) where
  -- this and the next two: what is given for a frame waits; it is written; or that stops
  abbrev lets_wait : Stream H W → ℕ → Frame → Stream H W → Type 0
  lets_wait old place frame new = Gives has_handled gives old.own.handler place frame new.own.handler old.own.out.items new.own.out.items × (new.out ≡ old.out)

  abbrev writes : Stream H W → Stream H W → Type 0
  writes old new = WritesGiven old.own.handler new.own.handler old.own.out.items new.own.out.items (contents old.out.inner) (contents new.out.inner) old.out.faults new.out.faults

  abbrev cuts : Stream H W → Option Frame → Stream H W → GivingFault → Type 0
  cuts old frame new = StopsGiving old.own.out.items (contents old.out.inner) (contents new.out.inner) old.out.faults new.out.faults

  -- nothing waits
  abbrev is_written : Writing H → Type 0
  is_written writing = writing.out.items ≡ []

  -- these bytes were given for these frames: a front was written, and what is behind that waits
  record Gave (first now : Stream H W) (frames : List Frame) : Type 0 where
    handled_all : has_handled now.own.handler frames
    given : List ℕ
    gave : gives frames given
    front : List ℕ
    written : Appends (contents first.out.inner) (contents now.out.inner) front
    parts : given ≡ front ++ now.own.out.items
    quiet : now.out.faults ≡ first.out.faults

  gave_of : (first now : Stream H W) (frames : List Frame) → has_handled first.own.handler [] → gives [] [] → is_written first.own → Runs lets_wait writes first frames now → Gave first now frames
  gave_of first now frames new none empty begins = record { handled_all = new; given = []; gave = none; front = []; written = Appends-nil (contents first.out.inner); parts = sym empty; quiet = refl }
  gave_of first now frames new none empty (handled fs before frame _ run did) =
      let a = gave_of first before fs new none empty run in
      let h = did.0 fs a.handled_all refl in
      record {
        handled_all = h.handled;
        given = a.given ++ h.more;
        gave = h.given a.given a.gave;
        front = a.front;
        written = subst (λ (writer : Counted W). Appends (contents first.out.inner) (contents writer.inner) a.front) (sym did.1) a.written;
        parts = ap (λ (bytes : List ℕ). bytes ++ h.more) a.parts ∙ append_assoc a.front before.own.out.items h.more ∙ ap (λ (bytes : List ℕ). a.front ++ bytes) (sym h.appended);
        quiet = ap (λ (writer : Counted W). writer.faults) did.1 ∙ a.quiet;
      }
  gave_of first now frames new none empty (flushed _ before _ run wrote) =
      let a = gave_of first before frames new none empty run in
      record {
        handled_all = subst (λ (h : H). has_handled h frames) (sym wrote.same) a.handled_all;
        given = a.given;
        gave = a.gave;
        front = a.front ++ before.own.out.items;
        written = Appends-trans (contents first.out.inner) (contents before.out.inner) (contents now.out.inner) a.front before.own.out.items a.written wrote.written;
        parts = a.parts ∙ sym (append-nil (a.front ++ before.own.out.items)) ∙ ap (λ (bytes : List ℕ). (a.front ++ before.own.out.items) ++ bytes) (sym wrote.none);
        quiet = wrote.quiet ∙ a.quiet;
      }

  -- where nothing waits, all that was given was written
  all_given : (first now : Stream H W) (frames : List Frame) (a : Gave first now frames) → is_written now.own → gives frames a.front
  all_given first now frames a empty = subst (gives frames) (a.parts ∙ ap (λ (bytes : List ℕ). a.front ++ bytes) empty ∙ append-nil a.front) a.gave

  -- the frames of a reader, handled to its end
  abbrev Read : Stream H W → Stream H W → ℕ → Option (List ℕ) → Option (List ℕ) → Result (Unit {0}) (DriveStop (FramesFault GivingFault)) → Type 0
  Read = ReadsFrames lets_wait writes is_written cuts

  module _ (first now : Stream H W) (count : ℕ) (left left' : Option (List ℕ)) (new : has_handled first.own.handler []) (none : gives [] []) (empty : is_written first.own) where
    -- what the writer had, and has
    abbrev had : Option (List ℕ)
    had = contents first.out.inner

    abbrev has : Option (List ℕ)
    has = contents now.out.inner

    -- the reader has ended
    pub stream_ended : (done : Unit {0}) → Read first now count left left' (Ok done) → IsStreamed gives left left' had has (Ok count)
    stream_ended done r =
        let a = gave_of first now r.frames new none empty r.ends.2.runs in
        record { read = r.read; consumed = r.consumed; frames = r.frames; rest = r.rest; stream = r.stream; out = a.front; written = a.written; ends = (r.ends.0, r.ends.1, r.ends.2.counted, all_given first now r.frames a r.ends.2.flushed) }

    -- it stopped before
    pub stream_stopped : (s : DriveStop (FramesFault GivingFault)) → Read first now count left left' (Err s) → IsStreamed gives left left' had has (Err (stream_fault s))
    stream_stopped stop.Input r =
        let a = gave_of first now r.frames new none empty r.ends.1.runs in
        record { read = r.read; consumed = r.consumed; frames = r.frames; rest = r.rest; stream = r.stream; out = a.front; written = a.written; ends = (r.ends.0, all_given first now r.frames a r.ends.1.flushed) }
    stream_stopped stop.Endless r =
        let a = gave_of first now r.frames new none empty r.ends.2.runs in
        record { read = r.read; consumed = r.consumed; frames = r.frames; rest = r.rest; stream = r.stream; out = a.front; written = a.written; ends = (r.ends.0, r.ends.1, all_given first now r.frames a r.ends.2.flushed) }
    stream_stopped (stop.Consumer (frames_faults.Frame kind place)) r =
        let a = gave_of first now r.frames new none empty r.ends.2.runs in
        record { read = r.read; consumed = r.consumed; frames = r.frames; rest = r.rest; stream = r.stream; out = a.front; written = a.written; ends = (r.ends.0, r.ends.1, all_given first now r.frames a r.ends.2.flushed) }
    stream_stopped (stop.Consumer frames_faults.NoMemory) r =
        let front = take count r.frames in
        let a = gave_of first now front new none empty r.ends.runs in
        record { read = r.read; consumed = r.consumed; frames = r.frames; rest = r.rest; stream = r.stream; out = a.front; written = a.written; ends = record { count = count; within = r.ends.within; given = all_given first now front a r.ends.flushed } }
    stream_stopped (stop.Consumer (frames_faults.Handler givings.NoMemory)) r =
        let e = r.ends in
        let a = gave_of first e.before (take count r.frames) new none empty e.runs in
        record {
          read = r.read;
          consumed = r.consumed;
          frames = r.frames;
          rest = r.rest;
          stream = r.stream;
          out = a.front ++ e.before.own.out.items;
          written = Appends-trans had (contents e.before.out.inner) has a.front e.before.own.out.items a.written e.stopped.0;
          ends = record { count = count; within = e.within; given = subst (gives (take count r.frames)) a.parts a.gave };
        }
    stream_stopped (stop.Consumer (frames_faults.Handler givings.Output)) r =
        let e = r.ends in
        let a = gave_of first e.before (take count r.frames) new none empty e.runs in
        let wrote : WritesFront (contents e.before.out.inner) has e.before.own.out.items = e.stopped.0 in
        record {
          read = r.read;
          consumed = r.consumed;
          frames = r.frames;
          rest = r.rest;
          stream = r.stream;
          out = a.front ++ wrote.front;
          written = Appends-trans had (contents e.before.out.inner) has a.front wrote.front a.written wrote.appended;
          ends = (
            a.given,
            record { more = wrote.more; appended = a.parts ∙ ap (λ (bytes : List ℕ). a.front ++ bytes) wrote.parts ∙ sym (append_assoc a.front wrote.front wrote.more) },
            record { count = count; within = e.within; given = a.gave },
          );
        }

    -- the writer failed at Output, and at no other end
    pub writer_ended : (done : Unit {0}) → Read first now count left left' (Ok done) → TellsWriter {A = ℕ} first.out.faults now.out.faults (Ok count)
    writer_ended done r = (gave_of first now r.frames new none empty r.ends.2.runs).quiet

    pub writer_told : (s : DriveStop (FramesFault GivingFault)) → Read first now count left left' (Err s) → TellsWriter {A = ℕ} first.out.faults now.out.faults (Err (stream_fault s))
    writer_told stop.Input r = (gave_of first now r.frames new none empty r.ends.1.runs).quiet
    writer_told stop.Endless r = (gave_of first now r.frames new none empty r.ends.2.runs).quiet
    writer_told (stop.Consumer (frames_faults.Frame kind place)) r = (gave_of first now r.frames new none empty r.ends.2.runs).quiet
    writer_told (stop.Consumer frames_faults.NoMemory) r = (gave_of first now (take count r.frames) new none empty r.ends.runs).quiet
    writer_told (stop.Consumer (frames_faults.Handler givings.NoMemory)) r = r.ends.stopped.1 ∙ (gave_of first r.ends.before (take count r.frames) new none empty r.ends.runs).quiet
    writer_told (stop.Consumer (frames_faults.Handler givings.Output)) r =
        subst (λ (faults : ℕ). HasRisen faults now.out.faults) (gave_of first r.ends.before (take count r.frames) new none empty r.ends.runs).quiet r.ends.stopped.1
