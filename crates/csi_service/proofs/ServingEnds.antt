-- What serving has come to where it ends.
use Rattle.std.proofs.Common.{◌≡◌, ◌∙◌, sym, ap, subst, refl, inr, ℕ, ◌+◌, ◌-◌, ◌<◌, ◌≤◌, ◌^◌, min, List, [], ◌++◌, length, take, drop, arith, length-append, append_assoc}
use Rattle.std.proofs.lemmas.List.{length-take, append-nil}
use Rattle.std.specs.Prelude.{Option, is_some, Result, Ok, Err}
use Rattle.std.specs.List.{flat_map}
use Rattle.std.specs.Io.KnownBytes.{IsAtEnd}
use Rattle.std.proofs.lemmas.List.Sums.{count_by-le-length}
use Rattle.csi_types.specs.Model.Frame.{Frame}
use Rattle.csi_frames.specs.Public.Spelling.{spelling}
use Rattle.csi_frames.specs.Public.Stream.{FramesOf}
use Rattle.csi_stores.specs.Public.Counting.{HasRisen}
use Rattle.csi_stores.specs.declared.counted.Counted.{Counted}
use Rattle.csi_streams.specs.declared.waiting.AnswerFault.{AnswerFault}
use Rattle.csi_streams.specs.declared.waiting.AnswerFault.TheVariants as why
use Rattle.csi_streams.specs.Public.Waiting.{Settling, EndsWaiting}
use Rattle.csi_streams.proofs.StoreCalls.{follows-more}
use Rattle.csi_streams.proofs.GrowingAnswers.{answers-length, answers-some}
use Rattle.csi_streams.proofs.Items.{in-two, something, front-taken}
use Rattle.csi_streams.proofs.Groups.{IsFresh, came-settles, came-stops, finished, refused-left, refused-cause, refused-written, unwritten-kept, unwritten-runs, unwritten-written}
use Rattle.csi_streams.specs.declared.driver.DriveStop.{DriveStop}
use Rattle.csi_streams.specs.declared.driver.DriveStop.TheVariants as stop
use Rattle.csi_streams.specs.declared.frames.FramesFault.{FramesFault}
use Rattle.csi_streams.specs.declared.frames.FramesFault.TheVariants as frames_faults
use Rattle.csi_streams.specs.Public.Driving.{TellsReader}
use Rattle.csi_streams.specs.Public.Framing.{Runs}
use Rattle.csi_streams.specs.Public.Frames.{Halts, ReadsFrames, RestsAtFrames, Waits as RestWaits}
use Rattle.csi_streams.proofs.Streams.{frames_few}
use Rattle.csi_stores.specs.Public.Part.{StoredPart}
use Rattle.csi_stores.specs.Public.Stores.{Store, FollowsStore}
use Rattle.csi_service.specs.declared.serving.fault.Served.{Served}
use Rattle.csi_service.specs.declared.serving.fault.ServeFault.{ServeFault}
use Rattle.csi_service.specs.declared.serving.handling.CoreHandler.{CoreHandler}
use Rattle.csi_service.specs.Public.Failing.{Stays, ReaderStaysAt, WriterStaysAt}
use Rattle.csi_service.specs.Private.Handling.{Serving, waiting_of, stopped_by}
use Rattle.csi_service.specs.Public.Serving.{Setting, AnswersEach, reply_bytes, reply_count, AllDone, Waits, frames_counted, EndsBy, Serves, IsAllAnswered}
use Rattle.csi_service.proofs.Progress.{handles, flushes, stops, CameTo, Done, came_by}

-- a rest that waits may be the beginning of a frame
waits_so : (rest : List ℕ) → RestWaits rest → Waits rest
waits_so rest waits = inr (length rest, waits)

-- ---- counts of failures

-- the reader failed at Input
pub reader_failed : (before after : ℕ) (s : DriveStop (FramesFault AnswerFault)) → TellsReader {A = Unit {0}} before after (Err s) → s ≡ stop.Input → HasRisen before after
reader_failed before after stop.Input told is = told
reader_failed before after stop.Endless told is = absurd cc
reader_failed before after (stop.Consumer fault) told is = absurd cc

-- and at no other end
pub reader_stays : (before after frames : ℕ) (s : DriveStop (FramesFault AnswerFault)) → TellsReader {A = Unit {0}} before after (Err s) → Stays {A = Served} ReaderStaysAt before after (Err (record { kind = stopped_by s; frames = frames }))
reader_stays before after frames stop.Input told = tt
reader_stays before after frames stop.Endless told = told
reader_stays before after frames (stop.Consumer (frames_faults.Frame kind place)) told = told
reader_stays before after frames (stop.Consumer frames_faults.NoMemory) told = told
reader_stays before after frames (stop.Consumer (frames_faults.Handler why.NoMemory)) told = told
reader_stays before after frames (stop.Consumer (frames_faults.Handler (why.Keep fault))) told = told
reader_stays before after frames (stop.Consumer (frames_faults.Handler why.Output)) told = told

-- where nothing waits all that was read is answered
pub all_answered : {C K W : Type 0} (answers : C → Frame → Option Frame → C → Type 0) (parts_of : C → List StoredPart) (store : K → Store) (contents : W → Option (List ℕ)) (first now : Serving C K W) (read : List ℕ) → IsFresh first.own.waiting
    → RestsAtFrames (handles answers parts_of store contents) (flushes answers parts_of store contents) (λ (answering : CoreHandler C). answering.waiting.items ≡ 0) first read now
    → IsAllAnswered answers parts_of first.own.core (store first.store) (store now.store) (contents first.out.inner) (contents now.out.inner) read
all_answered answers parts_of store contents first now read fresh rests =
    let p = finished answers parts_of reply_bytes is_some store contents first.own.core (waiting_of first) rests.0 now.own.core (waiting_of now) (came_by answers parts_of store contents first now rests.0 fresh rests.3) rests.4 in
    record { frames = rests.0; rest = rests.1; stream = rests.2; replies = p.given; now = now.own.core; runs = p.runs; kept = p.kept; written = p.written }

module _ {C K W : Type 0} (answers : C → Frame → Option Frame → C → Type 0) (parts_of : C → List StoredPart) (store : K → Store) (contents : W → Option (List ℕ)) (first now : Serving C K W) (count : ℕ) (left left' : Option (List ℕ)) (fresh : IsFresh first.own.waiting) where
  -- the frames of a reader, handled to its end
  abbrev pub Read : Result (Unit {0}) (DriveStop (FramesFault AnswerFault)) → Type 0
  Read = ReadsFrames (handles answers parts_of store contents) (flushes answers parts_of store contents) (λ (answering : CoreHandler C). answering.waiting.items ≡ 0) (stops answers parts_of store contents) first now count left left'

  -- how many frames were committed
  abbrev pub k : ℕ
  k = now.own.waiting.committed

  -- what serving is judged by
  abbrev Full : Type 0 → Type 0 → Type 0 → Setting C
  Full at_end reader_failed endless = record {
    answers = answers;
    parts_of = parts_of;
    core = first.own.core;
    before = store first.store;
    after = store now.store;
    written_before = contents first.out.inner;
    written_after = contents now.out.inner;
    at_end = at_end;
    reader_failed = reader_failed;
    writer_failed = HasRisen first.out.faults now.out.faults;
    endless = endless;
  }

  -- frames that were handled are done, where nothing waits
  done_by : (frames : List Frame) → Runs (handles answers parts_of store contents) (flushes answers parts_of store contents) first frames now → now.own.waiting.items ≡ 0 → Done answers parts_of store contents first frames now.own.core (waiting_of now)
  done_by frames runs none =
      finished answers parts_of reply_bytes is_some store contents first.own.core (waiting_of first) frames now.own.core (waiting_of now) (came_by answers parts_of store contents first now frames fresh runs) none

  module _ (P Q E : Type 0) where
    -- how it served, what calls never change of the store, and the writer's count
    abbrev pub Ended : List ℕ → Result Served ServeFault → Type 0
    Ended bytes result = Serves (Full P Q E) bytes result × FollowsStore (store first.store) (store now.store) × Stays WriterStaysAt first.out.faults now.out.faults result

    -- frames are no more than bytes
    few : (bytes : List ℕ) (frames : List Frame) (rest : List ℕ) → FramesOf bytes frames rest → length bytes < 2 ^ 64 → length frames < 2 ^ 64
    few bytes frames rest of small = omega (arith, frames_few frames, small, ap length of.whole, length-append (flat_map spelling frames) rest)

    -- all that was handled is done
    all_done : {frames : List Frame} {core : C} (p : Done answers parts_of store contents first frames core (waiting_of now)) → AllDone (Full P Q E) p.given core
    all_done p = record { kept = p.kept; written = p.written }

    -- some frames were committed, as many as are counted, and then it ended so
    serves : (bytes : List ℕ) (frames : List Frame) (rest : List ℕ) → FramesOf bytes frames rest → (committed behind : List Frame) → frames ≡ committed ++ behind → k ≡ length committed → (replies : List (Option Frame)) (to : C)
        → AnswersEach answers first.own.core committed replies to → (group : List Frame) (result : Result Served ServeFault) → frames_counted result ≡ k → EndsBy (Full P Q E) frames rest replies to group result → Serves (Full P Q E) bytes result
    serves bytes frames rest of committed behind are counts replies to runs group result told ends = record {
      frames = frames;
      rest = rest;
      stream = of;
      within = omega (arith, told, counts, ap length are, length-append committed behind);
      replies = replies;
      now = to;
      runs = subst (λ (fs : List Frame). AnswersEach answers first.own.core fs replies to) (sym (front-taken frames committed behind (frames_counted result) are (told ∙ counts))) runs;
      group = group;
      ends = ends;
    }

    -- all frames were
    all : {end : Result (Unit {0}) (DriveStop (FramesFault AnswerFault))} (r : Read end) (p : Done answers parts_of store contents first r.frames now.own.core (waiting_of now)) → k ≡ length r.frames
    all r p = omega (arith, p.committed, few r.read r.frames r.rest r.stream r.few)

    serves_all : {end : Result (Unit {0}) (DriveStop (FramesFault AnswerFault))} (r : Read end) (p : Done answers parts_of store contents first r.frames now.own.core (waiting_of now)) (result : Result Served ServeFault) → frames_counted result ≡ k
        → EndsBy (Full P Q E) r.frames r.rest p.given now.own.core [] result → Serves (Full P Q E) r.read result
    serves_all r p result told ends = serves r.read r.frames r.rest r.stream r.frames [] (sym (append-nil r.frames)) (all r p) p.given now.own.core p.runs [] result told ends

    -- the reader has ended
    pub served : (done : Unit {0}) (r : Read (Ok done)) → (IsAtEnd left' → P) → Ended r.read (Ok (record { frames = k; replies = now.own.waiting.answers }))
    served _ r at_end =
        let p = done_by r.frames r.ends.2.runs r.ends.2.flushed in
        let told : now.own.waiting.answers ≡ reply_count p.given =
        omega (arith, p.counted, count_by-le-length is_some p.given, answers-length answers first.own.core r.frames p.given now.own.core p.runs, few r.read r.frames r.rest r.stream r.few) in
        (serves_all r p (Ok (record { frames = k; replies = now.own.waiting.answers })) refl (refl, all r p, r.ends.1, told, at_end r.ends.0, all_done p), p.follows, p.quiet)

    -- it stopped before
    pub halted : (s : DriveStop (FramesFault AnswerFault)) (r : Read (Err s)) → (IsAtEnd left' → P) → (s ≡ stop.Input → Q) → (2 ^ 63 ≤ length r.read → E) → Ended r.read (Err (record { kind = stopped_by s; frames = k }))
    halted stop.Input r at_end failed endless =
        let p = done_by r.frames r.ends.1.runs r.ends.1.flushed in
        (serves_all r p (Err (record { kind = stopped_by stop.Input; frames = k })) refl (refl, all r p, failed refl, waits_so r.rest r.ends.0, all_done p), p.follows, p.quiet)
    halted stop.Endless r at_end failed endless =
        let p = done_by r.frames r.ends.2.runs r.ends.2.flushed in
        (serves_all r p (Err (record { kind = stopped_by stop.Endless; frames = k })) refl (refl, all r p, endless r.ends.0, waits_so r.rest r.ends.1, all_done p), p.follows, p.quiet)
    halted (stop.Consumer (frames_faults.Frame kind place)) r at_end failed endless =
        let p = done_by r.frames r.ends.2.runs r.ends.2.flushed in
        (serves_all r p (Err (record { kind = stopped_by (stop.Consumer (frames_faults.Frame kind place)); frames = k })) refl (refl, all r p, r.ends.1, λ short. at_end (r.ends.0 short), all_done p), p.follows, p.quiet)
    halted (stop.Consumer frames_faults.NoMemory) r at_end failed endless =
        let p = done_by (take count r.frames) r.ends.runs r.ends.flushed in
        let counts : k ≡ length (take count r.frames) = omega (arith, p.committed, few r.read r.frames r.rest r.stream r.few, length-take count r.frames) in (
          serves r.read r.frames r.rest r.stream (take count r.frames) (drop count r.frames) (in-two r.frames count) counts p.given now.own.core p.runs []
              (Err (record { kind = stopped_by (stop.Consumer frames_faults.NoMemory); frames = k })) refl (refl, all_done p),
          p.follows,
          p.quiet,
        )
    halted (stop.Consumer (frames_faults.Handler fault)) r at_end failed endless = by fault ends
      where
        e : Halts (handles answers parts_of store contents) (flushes answers parts_of store contents) (stops answers parts_of store contents) first now r.frames count fault
        e = r.ends

        before : Serving C K W
        before = e.before

        -- the frames that were handled
        front : List Frame
        front = take count r.frames

        behind : List Frame
        behind = drop count r.frames

        small : length r.frames < 2 ^ 64
        small = few r.read r.frames r.rest r.stream r.few

        came : (two : Settling K W) × CameTo answers parts_of store contents first front before.own.core two × EndsWaiting store contents two (waiting_of now) fault
        came =
            came-stops answers parts_of reply_bytes is_some store contents first.own.core (waiting_of first) front before.own.core (waiting_of before) (waiting_of now) fault
            (came_by answers parts_of store contents first before front fresh e.runs) e.stopped

        two : Settling K W
        two = came.0

        p : CameTo answers parts_of store contents first front before.own.core two
        p = came.1

        ends : EndsWaiting store contents two (waiting_of now) fault
        ends = came.2

        -- the frames of the stream: those that were committed, those that waited, and others
        in-three : r.frames ≡ p.earlier ++ p.group ++ behind
        in-three = in-two r.frames count ∙ ap (λ (fs : List Frame). fs ++ behind) p.are

        in-parts : r.frames ≡ p.earlier ++ (p.group ++ behind)
        in-parts = in-three ∙ append_assoc p.earlier p.group behind

        within : length p.earlier + length p.group ≤ length r.frames
        within = omega (arith, ap length p.are, length-append p.earlier p.group, length-take count r.frames)

        by : (fault : AnswerFault) → EndsWaiting store contents two (waiting_of now) fault → Ended r.read (Err (record { kind = stopped_by (stop.Consumer (frames_faults.Handler fault)); frames = k }))
        by why.NoMemory w =
            let q = finished answers parts_of reply_bytes is_some store contents first.own.core (waiting_of first) front before.own.core (waiting_of now)
            (came-settles answers parts_of reply_bytes is_some store contents first.own.core (waiting_of first) front before.own.core two (waiting_of now) p w.0) w.1 in
            let counts : k ≡ length front = omega (arith, q.committed, small, length-take count r.frames) in (
              serves r.read r.frames r.rest r.stream front behind (in-two r.frames count) counts q.given before.own.core q.runs [] (Err (record { kind = stopped_by (stop.Consumer (frames_faults.Handler why.NoMemory)); frames = k })) refl
                  (refl, record { kept = q.kept; written = q.written }),
              q.follows,
              q.quiet,
            )
        by (why.Keep fault) w =
            let counts : k ≡ length p.earlier = omega (arith, w.committed, p.committed, small, within) in (
              serves r.read r.frames r.rest r.stream p.earlier (p.group ++ behind) in-parts counts p.given p.mid p.runs p.group (Err (record { kind = stopped_by (stop.Consumer (frames_faults.Handler (why.Keep fault))); frames = k })) refl (
                record {
                  some = something p.group (omega (arith, w.some, p.waiting));
                  behind = behind;
                  here = in-three ∙ ap (λ (fs : List Frame). fs ++ p.group ++ behind) (sym (front-taken r.frames p.earlier (p.group ++ behind) k in-parts counts));
                },
                record {
                  given = p.more;
                  next = before.own.core;
                  answered = p.waits;
                  left = refused-left answers parts_of reply_bytes is_some store contents first.own.core (waiting_of first) front before.own.core two (waiting_of now) fault p w;
                  cause = refused-cause answers parts_of reply_bytes is_some store contents first.own.core (waiting_of first) front before.own.core two (waiting_of now) fault p w;
                  written = refused-written answers parts_of reply_bytes is_some store contents first.own.core (waiting_of first) front before.own.core two (waiting_of now) fault p w;
                },
              ),
              follows-more (store first.store) (store two.store) (store now.store) p.follows w.follows,
              ap (λ (o : Counted W). o.faults) w.unwritten ∙ p.quiet,
            )
        by why.Output w =
            let counts : k ≡ length front = omega (arith, w.committed, p.committed, p.waiting, small, within, ap length p.are, length-append p.earlier p.group) in (
              serves r.read r.frames r.rest r.stream front behind (in-two r.frames count) counts (p.given ++ p.more) before.own.core
                  (unwritten-runs answers parts_of reply_bytes is_some store contents first.own.core (waiting_of first) front before.own.core two p) []
                  (Err (record { kind = stopped_by (stop.Consumer (frames_faults.Handler why.Output)); frames = k })) refl (
                    refl,
                    subst (λ (faults : ℕ). HasRisen faults now.out.faults) p.quiet w.risen,
                    record {
                      kept = unwritten-kept answers parts_of reply_bytes is_some store contents first.own.core (waiting_of first) front before.own.core two (waiting_of now) p w;
                      earlier = p.given;
                      group = p.more;
                      some = answers-some answers p.mid p.group p.more before.own.core p.waits (something p.group (omega (arith, w.some, p.waiting)));
                      are = refl;
                      front = w.written.front;
                      more = w.written.more;
                      parts = sym p.out ∙ w.written.parts;
                      written = unwritten-written answers parts_of reply_bytes is_some store contents first.own.core (waiting_of first) front before.own.core two (waiting_of now) p w;
                    },
                  ),
              follows-more (store first.store) (store two.store) (store now.store) p.follows w.follows,
              tt,
            )
