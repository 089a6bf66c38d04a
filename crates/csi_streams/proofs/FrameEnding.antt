-- Where the frames of a stream end, and what was handled of them.
use Rattle.std.proofs.Common.{◌≡◌, ◌≢◌, ◌∙◌, sym, ap, subst, refl, ℕ, ◌+◌, List, [], ◌∷◌, ◌++◌, length, drop, Option, Some, None, Result, Ok, Err, arith, length-append, append_assoc}
use Rattle.std.specs.Prelude.{slice_get}
use Rattle.std.specs.List.{flat_map}
use Rattle.std.specs.Io.KnownBytes.{IsAtEnd}
use Rattle.std.proofs.lemmas.List.{append-nil}
use Rattle.csi_types.specs.Model.Frame.{Frame}
use Rattle.csi_types.specs.Public.Limits.{IsFrame}
use Rattle.csi_frames.specs.declared.fault.FaultKind.{FaultKind}
use Rattle.csi_frames.specs.declared.fault.FaultKind.TheVariants.{Short}
use Rattle.csi_frames.specs.declared.fault.FrameFault.{FrameFault}
use Rattle.csi_frames.specs.Public.Bytes.{AreBytes}
use Rattle.csi_frames.specs.Public.Cutting.{Splits, feeds, asks, IsRestLeft}
use Rattle.csi_frames.specs.Public.Fault.{IsFaulty, no_length, too_long, short, in_body}
use Rattle.csi_frames.specs.Public.Spelling.{spelling}
use Rattle.csi_frames.specs.Public.Splitting.{Splitting, after_feed, after_next, IsNextFrame}
use Rattle.csi_frames.specs.Public.Stream.{FramesOf}
use Rattle.csi_frames.proofs.Streams.{given_are}
use Rattle.csi_streams.specs.declared.driver.DriveStop.{DriveStop}
use Rattle.csi_streams.specs.declared.driver.DriveStop.TheVariants as stop
use Rattle.csi_streams.specs.declared.frames.Frames.{Frames}
use Rattle.csi_streams.specs.declared.frames.FramesFault.{FramesFault}
use Rattle.csi_streams.specs.declared.frames.FramesFault.TheVariants as faults
use Rattle.csi_streams.specs.Public.Driving.{Drives, DrivesSlice}
use Rattle.csi_streams.specs.Public.State.{State}
use Rattle.csi_streams.specs.Public.Framing.{Runs, flushed as flushes_more, inner, Reaches, Rests, IsThere, StopsIn}
use Rattle.csi_streams.specs.Private.Framing.{EndsIn}
use Rattle.csi_streams.specs.Public.Handled.{AllHandled, IsBehind}
use Rattle.csi_streams.specs.Public.Frames.{Waits, EndsFrames, ReadsFrames, RestsAtFrames}
use Rattle.csi_streams.proofs.FaultPlaces.{place_within}
use Rattle.csi_streams.proofs.Streams.{splits_at, front_of, frames_of}
use Rattle.csi_streams.proofs.Items.{each-push, get-seam, first-within, first-ran, all-handled, first-handled}
use Rattle.csi_streams.proofs.Reaching.{begins_kept, spellings-push}

-- bytes at fault, other than too few, are there
faulty-something : (bytes : List ℕ) (kind : FaultKind) (place : ℕ) → kind ≢ Short → IsFaulty bytes kind place → bytes ≢ []
faulty-something bytes kind place other (no_length few) = absurd (other refl)
faulty-something bytes kind place other (too_long long much) = λ nothing. omega (arith, ap length nothing)
faulty-something bytes kind place other (short long fits few) = absurd (other refl)
faulty-something bytes kind place other (in_body k p whole fits stuck) = λ nothing. omega (arith, ap length nothing)

-- this and the next two: what a splitter answers, and what is left, while it has answered no fault
next-open : (fault : Option FrameFault) (kept : List ℕ) (f : FrameFault) → fault ≡ None → IsNextFrame fault kept (Err f) → (f.kind ≢ Short) × IsFaulty kept f.kind f.place
next-open None kept f e next = next
next-open (Some g) kept f e next = absurd cc

-- where no frame is answered yet, the bytes kept are at fault with Short
waits-open : (fault : Option FrameFault) (kept : List ℕ) → fault ≡ None → IsNextFrame fault kept (Ok None) → IsFaulty kept Short (length kept)
waits-open None kept e next = next
waits-open (Some g) kept e next = absurd cc

-- the bytes kept are what is left
left-open : (fault : Option FrameFault) (kept rest : List ℕ) → fault ≡ None → IsRestLeft fault kept rest → kept ≡ rest
left-open None kept rest e left = left
left-open (Some g) kept rest e left = absurd cc

module _ {H S O F : Type 0} (handles : State H S O → ℕ → Frame → State H S O → Type 0) (flushes : State H S O → State H S O → Type 0) (is_flushed : H → Type 0) (stops : State H S O → Option Frame → State H S O → F → Type 0) (first : State (Frames H) S O) where
  -- the frames that were handled are the first ones, whatever comes behind them
  handled_first : (fed behind : List ℕ) (now : State (Frames H) S O) (p : Reaches handles flushes first fed now) (frames : List Frame) (rest : List ℕ) → FramesOf (fed ++ behind) frames rest → (later : List Frame) × (frames ≡ p.done ++ later)
  handled_first fed behind now p frames rest of =
      let kept = now.own.splitter.kept in
      let whole : fed ++ behind ≡ flat_map spelling p.done ++ (kept ++ behind) = ap (λ (bytes : List ℕ). bytes ++ behind) p.whole ∙ append_assoc (flat_map spelling p.done) kept behind in
      front_of p.done frames (kept ++ behind) rest p.each of.each of.longest (sym whole ∙ of.whole)

  -- so is the next one, if it is there
  next_first : (fed behind : List ℕ) (now : State (Frames H) S O) (p : Reaches handles flushes first fed now) (frame : Frame) → IsNextFrame now.own.splitter.fault now.own.splitter.kept (Ok (Some frame))
      → (frames : List Frame) (rest : List ℕ) → FramesOf (fed ++ behind) frames rest → (later : List Frame) × (frames ≡ p.done ++ frame ∷ later)
  next_first fed behind now p frame next frames rest of =
      let kept = now.own.splitter.kept in
      let n = length (spelling frame) in
      let at_front = begins_kept now.own.splitter.fault kept frame next in
      let back : List ℕ = (drop n kept) ++ behind in
      let whole : fed ++ behind ≡ flat_map spelling (p.done ++ frame ∷ []) ++ back =
      ap (λ (bytes : List ℕ). bytes ++ behind) p.whole
      ∙ append_assoc (flat_map spelling p.done) kept behind
      ∙ ap (λ (bytes : List ℕ). flat_map spelling p.done ++ (bytes ++ behind)) (splits_at kept frame n at_front)
      ∙ ap (λ (bytes : List ℕ). flat_map spelling p.done ++ bytes) (append_assoc (spelling frame) (drop n kept) behind)
      ∙ sym (append_assoc (flat_map spelling p.done) (spelling frame) back)
      ∙ ap (λ (front : List ℕ). front ++ back) (sym (spellings-push p.done frame)) in
      let front = front_of (p.done ++ frame ∷ []) frames back rest (each-push IsFrame p.done frame p.each at_front.spelled.fits) of.each of.longest (sym whole ∙ of.whole) in
      (front.0, front.1 ∙ append_assoc p.done (frame ∷ []) front.0)

  -- what is kept at most isn't more than was fed
  within-fed : (fed : List ℕ) (now : State (Frames H) S O) (p : Reaches handles flushes first fed now) → length fed ≡ length (flat_map spelling p.done) + length now.own.splitter.kept
  within-fed fed now p = ap length p.whole ∙ length-append (flat_map spelling p.done) now.own.splitter.kept

  -- ---- nothing more is there

  -- where the splitter waits, its frames are those of the stream
  all_done : (fed : List ℕ) (now : State (Frames H) S O) (r : Rests handles flushes is_flushed first fed now) (frames : List Frame) (rest : List ℕ) → FramesOf fed frames rest → (r.reached.done ≡ frames) × (now.own.splitter.kept ≡ rest)
  all_done fed now r frames rest of =
      let p = r.reached in
      let same = given_are fed rest p.done frames now.own.splitter p.are p.splits r.waits.1 of in
      (same.0, left-open now.own.splitter.fault now.own.splitter.kept rest p.no_fault same.1)

  -- all of them were handled
  all_handled : (fed : List ℕ) (now : State (Frames H) S O) → Rests handles flushes is_flushed first fed now → (frames : List Frame) (rest : List ℕ) → FramesOf fed frames rest → AllHandled (Runs handles flushes (inner first)) is_flushed (inner now) frames now.own.count
  all_handled fed now r frames rest of =
      let same = all_done fed now r frames rest of in
      all-handled (Runs handles flushes (inner first)) is_flushed (inner now) frames r.reached.done now.own.count same.0 r.reached.counted r.reached.runs r.flushed

  -- the rest may be the beginning of a frame
  rest_waits : (fed : List ℕ) (now : State (Frames H) S O) → Rests handles flushes is_flushed first fed now → (frames : List Frame) (rest : List ℕ) → FramesOf fed frames rest → Waits rest
  rest_waits fed now r frames rest of =
      subst (λ (bytes : List ℕ). IsFaulty bytes Short (length bytes)) (all_done fed now r frames rest of).1 (waits-open now.own.splitter.fault now.own.splitter.kept r.reached.no_fault r.waits.0)

  -- the stream ends here
  pub ended : (fed : List ℕ) (now : State (Frames H) S O) (at_end : Type 0) (result : Result (Unit {0}) (FramesFault F)) → Rests handles flushes is_flushed first fed now → at_end → EndsIn now.own.splitter result
      → (frames : List Frame) (rest : List ℕ) → FramesOf fed frames rest → EndsFrames handles flushes is_flushed stops (inner first) (inner now) now.own.count frames rest at_end result
  ended fed now at_end (Ok done) r there ends frames rest of = (there, sym (all_done fed now r frames rest of).1 ∙ ends, all_handled fed now r frames rest of)
  ended fed now at_end (Err (faults.Frame kind place)) r there ends frames rest of =
      let same = all_done fed now r frames rest of in (
        λ is. there,
        record {
          at = length rest;
          something = λ nothing. ends.0 (same.1 ∙ nothing);
          faulty = subst (λ (k : FaultKind). IsFaulty rest k (length rest)) (sym ends.1) (rest_waits fed now r frames rest of);
          here = omega (arith, ends.2, r.reached.taken, r.reached.few, within-fed fed now r.reached, ap length same.1, ap (λ (fs : List Frame). length (flat_map spelling fs)) same.0);
        },
        all_handled fed now r frames rest of,
      )
  ended fed now at_end (Err faults.NoMemory) r there ends frames rest of = absurd ends
  ended fed now at_end (Err (faults.Handler fault)) r there ends frames rest of = absurd ends

  -- ---- it stopped

  -- it stopped in the first of these bytes
  pub stopped_in : (bytes behind : List ℕ) (now : State (Frames H) S O) (at_end : Type 0) (fault : FramesFault F) → AreBytes (bytes ++ behind) → StopsIn handles flushes is_flushed stops first bytes now fault
      → (frames : List Frame) (rest : List ℕ) → FramesOf (bytes ++ behind) frames rest → EndsFrames handles flushes is_flushed stops (inner first) (inner now) now.own.count frames rest at_end (Err fault)
  stopped_in bytes behind now at_end (faults.Frame kind place) are s frames rest of =
      let fed = s.fed in
      let p = s.reached in
      let splitter = s.before.own.splitter in
      let at : ℕ = s.behind.0 in
      let fault : FrameFault = record { kind = kind; place = at } in
      let here = next-open splitter.fault splitter.kept fault p.no_fault s.behind.2 in
      let end : Splitting = after_next splitter (Err fault) in
      let run : Splits (fed ++ behind) (p.done ++ []) (after_feed end behind) = feeds fed behind (p.done ++ []) end (asks fed p.done splitter (Err fault) p.splits s.behind.2) in
      let whole : bytes ++ behind ≡ fed ++ behind = ap (λ (front : List ℕ). front ++ behind) s.behind.1 in
      let same : ((p.done ++ []) ≡ frames) × IsFaulty rest kind at =
      given_are (fed ++ behind) rest (p.done ++ []) frames (after_feed end behind) (subst AreBytes whole are) run (λ frame other. absurd cc) (subst (λ (all : List ℕ). FramesOf all frames rest) whole of) in
      let done : p.done ≡ frames = sym (append-nil p.done) ∙ same.0 in (
        λ is. absurd (here.0 is),
        record {
          at = at;
          something = faulty-something rest kind at here.0 same.1;
          faulty = same.1;
          here = omega (arith, s.behind.3, p.taken, p.few, within-fed fed s.before p, place_within splitter.kept kind at here.1, ap (λ (fs : List Frame). length (flat_map spelling fs)) done);
        },
        all-handled (Runs handles flushes (inner first)) is_flushed (inner now) frames p.done now.own.count done (s.counted ∙ p.counted) (flushes_more p.done (inner s.before) (inner now) p.runs s.behind.4) s.behind.5,
      )
  stopped_in bytes behind now at_end faults.NoMemory are s frames rest of =
      let p = s.reached in
      let piece = s.behind.0 in
      let whole : bytes ++ behind ≡ s.fed ++ (piece ++ behind) = ap (λ (front : List ℕ). front ++ behind) s.behind.1 ∙ append_assoc s.fed piece behind in
      let front = handled_first s.fed (piece ++ behind) s.before p frames rest (subst (λ (all : List ℕ). FramesOf all frames rest) whole of) in
      first-handled (Runs handles flushes (inner first)) is_flushed (inner now) frames p.done front.0 now.own.count front.1 (s.counted ∙ p.counted) (subst (Runs handles flushes (inner first) p.done) (sym s.behind.2) p.runs) s.behind.3
  stopped_in bytes behind now at_end (faults.Handler fault) are s frames rest of =
      let p = s.reached in
      let whole : bytes ++ behind ≡ s.fed ++ behind = ap (λ (front : List ℕ). front ++ behind) s.behind.1 in
      let of' : FramesOf (s.fed ++ behind) frames rest = subst (λ (all : List ℕ). FramesOf all frames rest) whole of in
      let front = handled_first s.fed behind s.before p frames rest of' in
      let counted : now.own.count ≡ length p.done = s.counted ∙ p.counted in
      record {
        within = first-within frames p.done front.0 now.own.count front.1 counted;
        before = inner s.before;
        runs = first-ran (λ (fs : List Frame). Runs handles flushes (inner first) fs (inner s.before)) frames p.done front.0 now.own.count front.1 counted p.runs;
        frame = s.behind.0;
        behind = is_behind s.behind.0 s.behind.2;
        stopped = s.behind.3;
      }
    where
      is_behind : (frame : Option Frame) → IsThere s.before.own.splitter frame → IsBehind frames now.own.count frame
      is_behind None there = tt
      is_behind (Some frame) there =
          let p = s.reached in
          let whole : bytes ++ behind ≡ s.fed ++ behind = ap (λ (front : List ℕ). front ++ behind) s.behind.1 in
          let next = next_first s.fed behind s.before p frame there frames rest (subst (λ (all : List ℕ). FramesOf all frames rest) whole of) in
          ap (slice_get frames) (s.counted ∙ p.counted) ∙ ap (λ (fs : List Frame). slice_get fs (length p.done)) next.1 ∙ get-seam p.done (frame ∷ next.0)

  -- ---- a reader's stream

  -- what was driven
  abbrev Driven : State (Frames H) S O → Option (List ℕ) → Option (List ℕ) → Result (Unit {0}) (DriveStop (FramesFault F)) → Type 0
  Driven = Drives (Rests handles flushes is_flushed) (StopsIn handles flushes is_flushed stops) first

  -- what was read
  abbrev Read : State (Frames H) S O → Option (List ℕ) → Option (List ℕ) → Result (Unit {0}) (DriveStop (FramesFault F)) → Type 0
  Read now = ReadsFrames handles flushes is_flushed stops (inner first) (inner now) now.own.count

  -- the reader has ended, and nothing is left over
  pub read_whole : (now : State (Frames H) S O) (left left' : Option (List ℕ)) (done : Unit {0}) → Driven now left left' (Ok done) → EndsIn {F = F} now.own.splitter (Ok done) → Read now left left' (Ok done)
  read_whole now left left' done d ends =
      let of = frames_of d.read d.are in
      record { read = d.read; few = d.few; consumed = d.consumed; frames = of.0; rest = of.1; stream = of.2; ends = ended d.read now (IsAtEnd left') (Ok done) d.ends.1 d.ends.0 ends of.0 of.1 of.2 }

  -- the reader has ended, and some bytes are left over
  pub read_short : (now : State (Frames H) S O) (left left' : Option (List ℕ)) (done : Unit {0}) (fault : FramesFault F) → Driven now left left' (Ok done) → EndsIn now.own.splitter (Err fault) → Read now left left' (Err (stop.Consumer fault))
  read_short now left left' done fault d ends =
      let of = frames_of d.read d.are in
      record { read = d.read; few = d.few; consumed = d.consumed; frames = of.0; rest = of.1; stream = of.2; ends = ended d.read now (IsAtEnd left') (Err fault) d.ends.1 d.ends.0 ends of.0 of.1 of.2 }

  -- it stopped before
  pub read_stopped : (now : State (Frames H) S O) (left left' : Option (List ℕ)) (s : DriveStop (FramesFault F)) → Driven now left left' (Err s) → Read now left left' (Err s)
  read_stopped now left left' stop.Input d =
      let of = frames_of d.read d.are in
      record { read = d.read; few = d.few; consumed = d.consumed; frames = of.0; rest = of.1; stream = of.2; ends = (rest_waits d.read now d.ends of.0 of.1 of.2, all_handled d.read now d.ends of.0 of.1 of.2) }
  read_stopped now left left' stop.Endless d =
      let of = frames_of d.read d.are in
      record { read = d.read; few = d.few; consumed = d.consumed; frames = of.0; rest = of.1; stream = of.2; ends = (d.ends.0, rest_waits d.read now d.ends.1 of.0 of.1 of.2, all_handled d.read now d.ends.1 of.0 of.1 of.2) }
  read_stopped now left left' (stop.Consumer fault) d =
      let of = frames_of d.read d.are in
      record {
        read = d.read;
        few = d.few;
        consumed = d.consumed;
        frames = of.0;
        rest = of.1;
        stream = of.2;
        ends = stopped_in d.read [] now (IsAtEnd left') fault (subst AreBytes (sym (append-nil d.read)) d.are) d.ends of.0 of.1 (subst (λ (bytes : List ℕ). FramesOf bytes of.0 of.1) (sym (append-nil d.read)) of.2);
      }

  -- where it rests, all frames of what was fed were handled
  pub rests_at_frames : (fed : List ℕ) (now : State (Frames H) S O) → Rests handles flushes is_flushed first fed now → RestsAtFrames handles flushes is_flushed (inner first) fed (inner now)
  rests_at_frames fed now r =
      let of = frames_of fed r.reached.are in
      let all = all_handled fed now r of.0 of.1 of.2 in
      (of.0, of.1, of.2, all.runs, all.flushed)

  -- ---- a slice

  -- a slice was taken in part
  pub slice_stopped : (now : State (Frames H) S O) (input : List ℕ) (at_end : Type 0) (fault : FramesFault F) → AreBytes input → DrivesSlice (Rests handles flushes is_flushed) (StopsIn handles flushes is_flushed stops) first now input (Err fault)
      → (frames : List Frame) (rest : List ℕ) → FramesOf input frames rest → EndsFrames handles flushes is_flushed stops (inner first) (inner now) now.own.count frames rest at_end (Err fault)
  slice_stopped now input at_end fault are d frames rest of =
      stopped_in d.0 d.1 now at_end fault (subst AreBytes d.2 are) d.3 frames rest (subst (λ (bytes : List ℕ). FramesOf bytes frames rest) d.2 of)
