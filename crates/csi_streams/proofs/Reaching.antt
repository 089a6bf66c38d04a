-- How far the frames of a stream were handled: from one piece and one frame to the next.
use Rattle.std.proofs.Common.{◌≡◌, ◌∙◌, sym, ap, subst, refl, ℕ, ◌+◌, ◌-◌, ◌^◌, ◌<◌, min, List, [], ◌∷◌, ◌++◌, length, drop, Option, Some, None, Ok, Err, arith, length-append, length-drop, append_assoc}
use Rattle.std.specs.List.{flat_map}
use Rattle.std.proofs.lemmas.List.{append-nil}
use Rattle.std.proofs.lemmas.List.Concat.{flat_map-append}
use Rattle.csi_types.specs.Model.Frame.{Frame}
use Rattle.csi_types.specs.Public.Limits.{IsFrame}
use Rattle.csi_frames.specs.declared.fault.FrameFault.{FrameFault}
use Rattle.csi_frames.specs.Public.Bytes.{AreBytes}
use Rattle.csi_frames.specs.Public.Cutting.{Splits, begins, feeds, asks}
use Rattle.csi_frames.specs.Public.Fault.{no_length}
use Rattle.csi_frames.specs.Public.Spelling.{spelling, BeginsWith}
use Rattle.csi_frames.specs.Public.Splitting.{Splitting, new_splitting, after_feed, after_next, IsNextFrame, kept_after}
use Rattle.csi_streams.specs.declared.frames.Frames.{Frames}
use Rattle.csi_streams.specs.declared.frames.FramesFault.{FramesFault}
use Rattle.csi_streams.specs.declared.frames.FramesFault.TheVariants as faults
use Rattle.csi_streams.specs.Public.State.{State}
use Rattle.csi_streams.specs.Public.Framing.{begins as none_yet, handled, flushed, Reaches, WaitsForMore, Rests, StopsIn}
use Rattle.csi_streams.specs.Private.Framing.{HandlesNext}
use Rattle.csi_streams.proofs.Items.{each-push}
use Rattle.csi_streams.proofs.Streams.{AreBytes-both, spelling-not-empty, frames_few, splits_at, none_in_nothing}

-- the spellings of frames and one more are those of the frames and then that of the one
pub spellings-push : (frames : List Frame) (frame : Frame) → flat_map spelling (frames ++ frame ∷ []) ≡ flat_map spelling frames ++ spelling frame
spellings-push frames frame = flat_map-append spelling frames (frame ∷ []) ∙ ap (λ more. flat_map spelling frames ++ more) (append-nil (spelling frame))

-- a frame that a splitter gives begins what it keeps
pub begins_kept : (fault : Option FrameFault) (kept : List ℕ) (frame : Frame) → IsNextFrame fault kept (Ok (Some frame)) → BeginsWith kept frame (length (spelling frame))
begins_kept None kept frame next = next
begins_kept (Some fault) kept frame next = absurd cc

-- a frame that is given is taken off
pub kept-less : (splitter : Splitting) (frame : Frame) → IsNextFrame splitter.fault splitter.kept (Ok (Some frame)) → length (drop (length (spelling frame)) splitter.kept) < length splitter.kept
kept-less splitter frame next =
    omega (arith, (begins_kept splitter.fault splitter.kept frame next).within, spelling-not-empty frame, length-drop (length (spelling frame)) splitter.kept)

-- a new splitter waits for more, and has no frame to give
pub waits-new : WaitsForMore new_splitting
waits-new = (no_length (omega arith), λ frame next. none_in_nothing [] (omega arith) frame (length (spelling frame)) next)

-- so does one that keeps nothing and answered no fault
pub waits-empty : (fault : Option FrameFault) (kept : List ℕ) → fault ≡ None → 0 ≡ length kept → IsNextFrame fault kept (Ok None) × ((frame : Frame) → IsNextFrame fault kept (Ok (Some frame)) → ⊥)
waits-empty None [] e none = waits-new
waits-empty None (b ∷ bytes) e none = absurd (omega (arith, none))
waits-empty (Some fault) kept e none = absurd cc

-- while no fault was answered, a piece is kept
kept_after-open : (fault : Option FrameFault) (kept piece : List ℕ) → fault ≡ None → kept_after fault kept piece ≡ kept ++ piece
kept_after-open None kept piece e = refl
kept_after-open (Some f) kept piece e = absurd cc

module _ {H S O : Type 0} (handles : State H S O → ℕ → Frame → State H S O → Type 0) (flushes : State H S O → State H S O → Type 0) (first : State (Frames H) S O) (fed : List ℕ) where
  -- a piece more
  pub fed_more : (piece : List ℕ) (splitter : Splitting) (count : ℕ) (handler : H) (store : S) (out : O)
      → Reaches handles flushes first fed (record { own = record { splitter = splitter; count = count; handler = handler }; store = store; out = out }) → AreBytes piece → length fed + length piece < 2 ^ 64
      → Reaches handles flushes first (fed ++ piece) (record { own = record { splitter = after_feed splitter piece; count = count; handler = handler }; store = store; out = out })
  fed_more piece splitter count handler store out p are few = record {
    are = AreBytes-both fed piece p.are are;
    few = omega (arith, length-append fed piece, few);
    done = p.done;
    splits = feeds fed piece p.done splitter p.splits;
    each = p.each;
    whole =
        ap (λ (bytes : List ℕ). bytes ++ piece) p.whole
        ∙ append_assoc (flat_map spelling p.done) splitter.kept piece
        ∙ ap (λ (bytes : List ℕ). flat_map spelling p.done ++ bytes) (sym (kept_after-open splitter.fault splitter.kept piece p.no_fault));
    taken = p.taken;
    no_fault = p.no_fault;
    counted = p.counted;
    runs = p.runs;
  }

  -- a frame more
  pub handled_more : (splitter new : Splitting) (count count' : ℕ) (before now : State H S O) (frame : Frame)
      → Reaches handles flushes first fed (record { own = record { splitter = splitter; count = count; handler = before.own }; store = before.store; out = before.out })
      → IsNextFrame splitter.fault splitter.kept (Ok (Some frame)) → new ≡ after_next splitter (Ok (Some frame)) → handles before splitter.taken frame now → count' ≡ min (count + 1) (2 ^ 64 - 1)
      → Reaches handles flushes first fed (record { own = record { splitter = new; count = count'; handler = now.own }; store = now.store; out = now.out })
  handled_more splitter new count count' before now frame p next is did sum =
      let n = length (spelling frame) in
      let at_front = begins_kept splitter.fault splitter.kept frame next in
      let pushed = spellings-push p.done frame in
      let all : length fed ≡ length (flat_map spelling p.done) + length splitter.kept = ap length p.whole ∙ length-append (flat_map spelling p.done) splitter.kept in
      subst (λ (s : Splitting). Reaches handles flushes first fed (record { own = record { splitter = s; count = count'; handler = now.own }; store = now.store; out = now.out })) (sym is)
      (record {
        are = p.are;
        few = p.few;
        done = p.done ++ frame ∷ [];
        splits = asks fed p.done splitter (Ok (Some frame)) p.splits next;
        each = each-push IsFrame p.done frame p.each at_front.spelled.fits;
        whole =
            p.whole
            ∙ ap (λ (bytes : List ℕ). flat_map spelling p.done ++ bytes) (splits_at splitter.kept frame n at_front)
            ∙ sym (append_assoc (flat_map spelling p.done) (spelling frame) (drop n splitter.kept))
            ∙ ap (λ (front : List ℕ). front ++ drop n splitter.kept) (sym pushed);
        taken = omega (arith, p.taken, p.few, all, at_front.within, ap length pushed, length-append (flat_map spelling p.done) (spelling frame));
        no_fault = p.no_fault;
        counted = omega (arith, sum, p.counted, p.few, all, at_front.within, spelling-not-empty frame, frames_few p.done, length-append p.done (frame ∷ []));
        runs = handled p.done before frame now p.runs (subst (λ (place : ℕ). handles before place frame now) p.taken did);
      })

  -- nothing more is there, and what waited was written
  pub rested : (is_flushed : H → Type 0) (splitter new : Splitting) (count : ℕ) (before now : State H S O)
      → Reaches handles flushes first fed (record { own = record { splitter = splitter; count = count; handler = before.own }; store = before.store; out = before.out })
      → WaitsForMore splitter → new ≡ splitter → flushes before now → is_flushed now.own
      → Rests handles flushes is_flushed first fed (record { own = record { splitter = new; count = count; handler = now.own }; store = now.store; out = now.out })
  rested is_flushed splitter new count before now p waits same wrote none =
      subst (λ (s : Splitting). Rests handles flushes is_flushed first fed (record { own = record { splitter = s; count = count; handler = now.own }; store = now.store; out = now.out })) (sym same)
      (record {
        reached = record {
          are = p.are;
          few = p.few;
          done = p.done;
          splits = p.splits;
          each = p.each;
          whole = p.whole;
          taken = p.taken;
          no_fault = p.no_fault;
          counted = p.counted;
          runs = flushed p.done before now p.runs wrote;
        };
        waits = waits;
        flushed = none;
      })

  -- it stopped at the next frame, or where none is
  pub stopped : {F : Type 0} (is_flushed : H → Type 0) (stops : State H S O → Option Frame → State H S O → F → Type 0) (splitter new : Splitting) (count : ℕ) (before now : State H S O) (fault : FramesFault F)
      → Reaches handles flushes first fed (record { own = record { splitter = splitter; count = count; handler = before.own }; store = before.store; out = before.out })
      → HandlesNext handles flushes is_flushed stops splitter new before now (Err fault)
      → StopsIn handles flushes is_flushed stops first fed (record { own = record { splitter = new; count = count; handler = now.own }; store = now.store; out = now.out }) fault
  stopped is_flushed stops splitter new count before now (faults.Frame kind place) p next = record {
    fed = fed;
    before = record { own = record { splitter = splitter; count = count; handler = before.own }; store = before.store; out = before.out };
    reached = p;
    counted = refl;
    behind = (next.0, refl, next.1, next.2, next.3, next.4);
  }
  stopped is_flushed stops splitter new count before now faults.NoMemory p next = absurd next
  stopped is_flushed stops splitter new count before now (faults.Handler fault) p next = record {
    fed = fed;
    before = record { own = record { splitter = splitter; count = count; handler = before.own }; store = before.store; out = before.out };
    reached = p;
    counted = refl;
    behind = (next.0, refl, next.1, next.2);
  }

-- nothing was read yet
pub begun : {H S O : Type 0} (handles : State H S O → ℕ → Frame → State H S O → Type 0) (flushes : State H S O → State H S O → Type 0) (is_flushed : H → Type 0) (first : State (Frames H) S O)
    → first.own.splitter ≡ new_splitting → first.own.count ≡ 0 → is_flushed first.own.handler → Rests handles flushes is_flushed first [] first
begun handles flushes is_flushed first new none nothing = record {
  reached = record {
    are = λ i. omega arith;
    few = omega arith;
    done = [];
    splits = subst (Splits [] []) (sym new) begins;
    each = tt;
    whole = sym (ap (λ (s : Splitting). s.kept) new);
    taken = ap (λ (s : Splitting). s.taken) new;
    no_fault = ap (λ (s : Splitting). s.fault) new;
    counted = none;
    runs = none_yet;
  };
  waits = subst WaitsForMore (sym new) waits-new;
  flushed = nothing;
}
