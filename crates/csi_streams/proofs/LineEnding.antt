-- Where the lines of a stream end, and what was handled of them.
use Rattle.std.proofs.Common.{◌≡◌, ◌≢◌, ◌∙◌, inl, inr, sym, ap, subst, refl, ℕ, ◌+◌, ◌^◌, ◌-◌, ◌<◌, min, List, [], ◌∷◌, ◌++◌, length, Option, Some, None, Result, Ok, Err, arith, length-append, append_assoc}
use Rattle.std.specs.Prelude.{slice_get, IfSome}
use Rattle.std.specs.List.{flat_map}
use Rattle.std.specs.Io.KnownBytes.{IsAtEnd}
use Rattle.std.proofs.lemmas.List.{append-nil, take_all}
use Rattle.csi_streams.specs.declared.driver.DriveStop.{DriveStop}
use Rattle.csi_streams.specs.declared.driver.DriveStop.TheVariants as stop
use Rattle.csi_streams.specs.declared.lines.Lines.{Lines}
use Rattle.csi_streams.specs.declared.lines.LinesFault.{LinesFault}
use Rattle.csi_streams.specs.declared.lines.LinesFault.TheVariants as faults
use Rattle.csi_streams.specs.Public.Driving.{Drives, DrivesSlice}
use Rattle.csi_streams.specs.Public.State.{State}
use Rattle.csi_streams.specs.Public.LinesOf.{LinesOf, with_newline, IsShort, and_last}
use Rattle.csi_streams.specs.Public.Lining.{RunsLines, line_handled, lines_flushed, inner_of_lines, ReachesLines, RestsLines, IsLineThere, StopsInLines}
use Rattle.csi_streams.specs.Public.Handled.{AllHandled, IsBehind}
use Rattle.csi_streams.specs.Public.Lines.{EndsLines, ReadsLines, RestsAtLines}
use Rattle.csi_streams.specs.Private.Lining.{HandlesLast}
use Rattle.csi_streams.proofs.Items.{get-seam, first-within, first-ran, all-handled, first-handled}
use Rattle.csi_streams.proofs.LineStreams.{lines_of, no_lines, behind_lines, first_is_longer}
use Rattle.csi_streams.proofs.LineReaching.{number_is}

-- a rest that isn't empty is the last line
and_last-some : (lines : List (List ℕ)) (rest : List ℕ) → rest ≢ [] → and_last lines rest ≡ lines ++ rest ∷ []
and_last-some lines [] some = absurd (some refl)
and_last-some lines (b ∷ rest) some = refl

-- bytes that aren't none are some
something : (bytes : List ℕ) → bytes ≢ [] → 0 < length bytes
something [] some = absurd (some refl)
something (b ∷ bytes) some = omega arith

module _ {H S O F : Type 0} (handles : State H S O → ℕ → List ℕ → State H S O → Type 0) (flushes : State H S O → State H S O → Type 0) (is_flushed : H → Type 0) (stops : State H S O → Option (List ℕ) → State H S O → F → Type 0) (first : State (Lines H) S O) where
  -- behind the lines that were handled are those of what is kept and what comes behind it
  kept_lines : (fed behind : List ℕ) (now : State (Lines H) S O) (p : ReachesLines handles flushes first fed now) (lines : List (List ℕ)) (rest : List ℕ) → LinesOf (fed ++ behind) lines rest
      → (later : List (List ℕ)) × (lines ≡ p.done ++ later) × LinesOf (now.own.buffer ++ behind) later rest
  kept_lines fed behind now p lines rest of =
      behind_lines p.done lines (now.own.buffer ++ behind) rest p.each
      (subst (λ (bytes : List ℕ). LinesOf bytes lines rest) (ap (λ (bytes : List ℕ). bytes ++ behind) p.whole ∙ append_assoc (flat_map with_newline p.done) now.own.buffer behind) of)

  -- ---- nothing more is there

  -- where it waits for more, its lines are those of the stream
  all_done : (fed : List ℕ) (now : State (Lines H) S O) (r : RestsLines handles flushes is_flushed first fed now) (lines : List (List ℕ)) (rest : List ℕ) → LinesOf fed lines rest → (r.reached.done ≡ lines) × (now.own.buffer ≡ rest)
  all_done fed now r lines rest of =
      let kept = kept_lines fed [] now r.reached lines rest (subst (λ (bytes : List ℕ). LinesOf bytes lines rest) (sym (append-nil fed)) of) in
      let none = no_lines now.own.buffer kept.0 rest r.waits (subst (λ (bytes : List ℕ). LinesOf bytes kept.0 rest) (append-nil now.own.buffer) kept.2) in
      (sym (append-nil r.reached.done) ∙ ap (λ (later : List (List ℕ)). r.reached.done ++ later) (sym none.0) ∙ sym kept.1, none.1)

  -- all of them were handled
  all_handled : (fed : List ℕ) (now : State (Lines H) S O) → RestsLines handles flushes is_flushed first fed now → (lines : List (List ℕ)) (rest : List ℕ) → LinesOf fed lines rest → AllHandled (RunsLines handles flushes (inner_of_lines first)) is_flushed (inner_of_lines now) lines now.own.count
  all_handled fed now r lines rest of =
      let same = all_done fed now r lines rest of in
      all-handled (RunsLines handles flushes (inner_of_lines first)) is_flushed (inner_of_lines now) lines r.reached.done now.own.count same.0 r.reached.counted r.reached.runs r.flushed

  -- the rest isn't too long
  rest_short : (fed : List ℕ) (now : State (Lines H) S O) → RestsLines handles flushes is_flushed first fed now → (lines : List (List ℕ)) (rest : List ℕ) → LinesOf fed lines rest → IsShort rest
  rest_short fed now r lines rest of = subst IsShort (all_done fed now r lines rest of).1 r.short

  -- the stream ends here
  pub ended : (fed : List ℕ) (before now : State (Lines H) S O) (number : ℕ) (at_end : Type 0) (result : Result (Unit {0}) (LinesFault F)) → RestsLines handles flushes is_flushed first fed before → at_end
      → number ≡ min (before.own.count + 1) (2 ^ 64 - 1) → HandlesLast handles flushes is_flushed stops number before.own.buffer before.own.count (inner_of_lines before) now.own.count (inner_of_lines now) result
      → (lines : List (List ℕ)) (rest : List ℕ) → LinesOf fed lines rest → EndsLines handles flushes is_flushed stops (inner_of_lines first) (inner_of_lines now) now.own.count lines rest at_end result
  ended fed before now number at_end result r there sum ends lines rest of = by result ends
    where
      same : (r.reached.done ≡ lines) × (before.own.buffer ≡ rest)
      same = all_done fed before r lines rest of

      -- the lines that were handled, and the rest behind them
      all_are : before.own.buffer ≢ [] → and_last lines rest ≡ r.reached.done ++ before.own.buffer ∷ []
      all_are some =
          and_last-some lines rest (λ none. some (same.1 ∙ none))
          ∙ ap (λ (front : List (List ℕ)). front ++ rest ∷ []) (sym same.0) ∙ ap (λ (last : List ℕ). r.reached.done ++ last ∷ []) (sym same.1)

      -- so many they are, with the rest
      number_of : before.own.buffer ≢ [] → number ≡ length r.reached.done + 1
      number_of some =
          number_is handles flushes first fed before.own.buffer before.own.count number (inner_of_lines before) r.reached (something before.own.buffer some) sum ∙ ap (λ (n : ℕ). n + 1) r.reached.counted

      -- they were handled, the rest too
      ran : (mid : State H S O) → before.own.buffer ≢ [] → handles (inner_of_lines before) number before.own.buffer mid → RunsLines handles flushes (inner_of_lines first) (and_last lines rest) mid
      ran mid some did =
          subst (λ (all : List (List ℕ)). RunsLines handles flushes (inner_of_lines first) all mid) (sym (all_are some))
          (line_handled r.reached.done (inner_of_lines before) before.own.buffer mid r.reached.runs r.short (subst (λ (n : ℕ). handles (inner_of_lines before) n before.own.buffer mid) (number_of some) did))

      -- that is their count
      count_is : before.own.buffer ≢ [] → now.own.count ≡ number → now.own.count ≡ length (and_last lines rest)
      count_is some is = omega (arith, is, number_of some, ap length (all_are some), length-append r.reached.done (before.own.buffer ∷ []))

      by : (result : Result (Unit {0}) (LinesFault F)) → HandlesLast handles flushes is_flushed stops number before.own.buffer before.own.count (inner_of_lines before) now.own.count (inner_of_lines now) result
          → EndsLines handles flushes is_flushed stops (inner_of_lines first) (inner_of_lines now) now.own.count lines rest at_end result
      by (Ok done) (inl e) =
          let all = all_handled fed before r lines rest of in
          let none : and_last lines rest ≡ lines = ap (and_last lines) (sym same.1 ∙ e.0) in (
            there,
            record {
              runs = subst (λ (some : List (List ℕ)). RunsLines handles flushes (inner_of_lines first) some (inner_of_lines now)) (sym none) (subst (RunsLines handles flushes (inner_of_lines first) lines) (sym e.2) all.runs);
              flushed = subst (λ (state : State H S O). is_flushed state.own) (sym e.2) r.flushed;
              counted = e.1 ∙ all.counted ∙ ap length (sym none);
            },
          )
      by (Ok done) (inr e) = (there, record { runs = lines_flushed (and_last lines rest) e.0 (inner_of_lines now) (ran e.0 e.1 e.3) e.4; flushed = e.5; counted = count_is e.1 e.2 })
      by (Err (faults.Long at)) e = absurd e
      by (Err faults.NoMemory) e = absurd e
      by (Err (faults.Handler fault)) (inl e) = inr (
        there,
        record {
          within = first-within (and_last lines rest) r.reached.done (before.own.buffer ∷ []) now.own.count (all_are e.0) (e.1 ∙ r.reached.counted);
          before = inner_of_lines before;
          runs =
              first-ran (λ (some : List (List ℕ)). RunsLines handles flushes (inner_of_lines first) some (inner_of_lines before)) (and_last lines rest) r.reached.done (before.own.buffer ∷ []) now.own.count (all_are e.0) (e.1 ∙ r.reached.counted)
              r.reached.runs;
          line = Some before.own.buffer;
          behind = ap (slice_get (and_last lines rest)) (e.1 ∙ r.reached.counted) ∙ ap (λ (all : List (List ℕ)). slice_get all (length r.reached.done)) (all_are e.0) ∙ get-seam r.reached.done (before.own.buffer ∷ []);
          short = r.short;
          stopped = e.2;
        },
      )
      by (Err (faults.Handler fault)) (inr e) =
          let is = count_is e.1 e.2 in
          inr (
            there,
            record {
              within = omega (arith, is);
              before = e.0;
              runs = subst (λ (some : List (List ℕ)). RunsLines handles flushes (inner_of_lines first) some e.0) (sym (take_all now.own.count (and_last lines rest) (omega (arith, is)))) (ran e.0 e.1 e.3);
              line = None;
              behind = tt;
              short = tt;
              stopped = e.4;
            },
          )

  -- ---- it stopped

  -- it stopped in the first of these bytes
  pub stopped_in : (bytes behind : List ℕ) (now : State (Lines H) S O) (at_end : Type 0) (fault : LinesFault F) → StopsInLines handles flushes is_flushed stops first bytes now fault
      → (lines : List (List ℕ)) (rest : List ℕ) → LinesOf (bytes ++ behind) lines rest → EndsLines handles flushes is_flushed stops (inner_of_lines first) (inner_of_lines now) now.own.count lines rest at_end (Err fault)
  stopped_in bytes behind now at_end (faults.Long number) s lines rest of =
      let p = s.reached in
      let long = s.behind.1 in
      let line : List ℕ = long.0 in
      let kept = kept_lines s.fed behind s.before p lines rest (subst (λ (all : List ℕ). LinesOf (all ++ behind) lines rest) s.behind.0 of) in
      let there = first_is_longer line (long.1 ++ behind) kept.0 rest long.3
      (subst (λ (all : List ℕ). LinesOf all kept.0 rest) (ap (λ (front : List ℕ). front ++ behind) long.2 ∙ append_assoc line long.1 behind) kept.2) in
      let counted : now.own.count ≡ length p.done = s.counted ∙ p.counted in (
        record {
          numbered = s.behind.2 ∙ ap (λ (n : ℕ). n + 1) (sym s.counted);
          line = there.0;
          here =
              ap (slice_get (lines ++ rest ∷ [])) counted
              ∙ ap (λ (all : List (List ℕ)). slice_get all (length p.done)) (ap (λ (some : List (List ℕ)). some ++ rest ∷ []) kept.1 ∙ append_assoc p.done kept.0 (rest ∷ []))
              ∙ get-seam p.done (kept.0 ++ rest ∷ []) ∙ there.1;
          long = omega (arith, there.2, long.4);
        },
        first-handled (RunsLines handles flushes (inner_of_lines first)) is_flushed (inner_of_lines now) lines p.done kept.0 now.own.count kept.1 counted (lines_flushed p.done (inner_of_lines s.before) (inner_of_lines now) p.runs s.behind.3) s.behind.4,
      )
  stopped_in bytes behind now at_end faults.NoMemory s lines rest of =
      let piece = s.behind.0 in
      let whole : bytes ++ behind ≡ s.fed ++ (piece ++ behind) = ap (λ (front : List ℕ). front ++ behind) s.behind.1 ∙ append_assoc s.fed piece behind in
      let kept = kept_lines s.fed (piece ++ behind) s.before s.reached lines rest (subst (λ (all : List ℕ). LinesOf all lines rest) whole of) in
      first-handled (RunsLines handles flushes (inner_of_lines first)) is_flushed (inner_of_lines now) lines s.reached.done kept.0 now.own.count kept.1 (s.counted ∙ s.reached.counted)
      (subst (RunsLines handles flushes (inner_of_lines first) s.reached.done) (sym s.behind.2) s.reached.runs) s.behind.3
  stopped_in bytes behind now at_end (faults.Handler fault) s lines rest of =
      let p = s.reached in
      let kept = kept_lines s.fed behind s.before p lines rest (subst (λ (all : List ℕ). LinesOf (all ++ behind) lines rest) s.behind.1 of) in
      inl (record {
        within = first-within lines p.done kept.0 now.own.count kept.1 (s.counted ∙ p.counted);
        before = inner_of_lines s.before;
        runs = first-ran (λ (some : List (List ℕ)). RunsLines handles flushes (inner_of_lines first) some (inner_of_lines s.before)) lines p.done kept.0 now.own.count kept.1 (s.counted ∙ p.counted) p.runs;
        line = s.behind.0;
        behind = is_behind kept.0 kept.1 kept.2 s.behind.0 s.behind.2;
        short = is_short s.behind.0 s.behind.2;
        stopped = s.behind.3;
      })
    where
      is_behind : (later : List (List ℕ)) → lines ≡ s.reached.done ++ later → LinesOf (s.before.own.buffer ++ behind) later rest → (line : Option (List ℕ)) → IsLineThere s.before.own.buffer line → IsBehind lines now.own.count line
      is_behind later are of None there = tt
      is_behind later are of (Some line) there =
          let p = s.reached in
          let has = there.1 in
          let whole : s.before.own.buffer ++ behind ≡ flat_map with_newline (line ∷ []) ++ (there.0 ++ behind) =
          ap (λ (bytes : List ℕ). bytes ++ behind) has.0
          ∙ append_assoc (with_newline line) there.0 behind
          ∙ ap (λ (front : List ℕ). front ++ (there.0 ++ behind)) (sym (append-nil (with_newline line))) in
          let next = behind_lines (line ∷ []) later (there.0 ++ behind) rest (has.1, tt) (subst (λ (bytes : List ℕ). LinesOf bytes later rest) whole of) in
          ap (slice_get lines) (s.counted ∙ p.counted)
          ∙ ap (λ (all : List (List ℕ)). slice_get all (length p.done)) are
          ∙ get-seam p.done later ∙ ap (λ (all : List (List ℕ)). slice_get all 0) next.1

      is_short : (line : Option (List ℕ)) → IsLineThere s.before.own.buffer line → IfSome line IsShort
      is_short None there = tt
      is_short (Some line) there = there.1.2

  -- where it rests, all lines of what was fed were handled
  pub rests_at_lines : (fed : List ℕ) (now : State (Lines H) S O) → RestsLines handles flushes is_flushed first fed now → RestsAtLines handles flushes is_flushed (inner_of_lines first) fed (inner_of_lines now)
  rests_at_lines fed now r =
      let of = lines_of fed in
      let all = all_handled fed now r of.0 of.1 of.2 in
      (of.0, of.1, of.2, all.runs, all.flushed)

  -- ---- a reader's stream

  -- what was driven
  abbrev Driven : State (Lines H) S O → Option (List ℕ) → Option (List ℕ) → Result (Unit {0}) (DriveStop (LinesFault F)) → Type 0
  Driven = Drives (RestsLines handles flushes is_flushed) (StopsInLines handles flushes is_flushed stops) first

  -- what was read
  abbrev Read : State (Lines H) S O → Option (List ℕ) → Option (List ℕ) → Result (Unit {0}) (DriveStop (LinesFault F)) → Type 0
  Read now = ReadsLines handles flushes is_flushed stops (inner_of_lines first) (inner_of_lines now) now.own.count

  -- how the end of a stream is told
  abbrev told : Result (Unit {0}) (LinesFault F) → Result (Unit {0}) (DriveStop (LinesFault F))
  told (Ok done) = Ok done
  told (Err fault) = Err (stop.Consumer fault)

  -- the reader has ended, and the last line was handled, if it has one
  pub read_whole : (before now : State (Lines H) S O) (number : ℕ) (left left' : Option (List ℕ)) (done : Unit {0}) (result : Result (Unit {0}) (LinesFault F)) → Driven before left left' (Ok done) → number ≡ min (before.own.count + 1) (2 ^ 64 - 1)
      → HandlesLast handles flushes is_flushed stops number before.own.buffer before.own.count (inner_of_lines before) now.own.count (inner_of_lines now) result → Read now left left' (told result)
  read_whole before now number left left' done (Ok u) d sum ends =
      let of = lines_of d.read in
      record { read = d.read; few = d.few; consumed = d.consumed; lines = of.0; rest = of.1; stream = of.2; ends = ended d.read before now number (IsAtEnd left') (Ok u) d.ends.1 d.ends.0 sum ends of.0 of.1 of.2 }
  read_whole before now number left left' done (Err fault) d sum ends =
      let of = lines_of d.read in
      record { read = d.read; few = d.few; consumed = d.consumed; lines = of.0; rest = of.1; stream = of.2; ends = ended d.read before now number (IsAtEnd left') (Err fault) d.ends.1 d.ends.0 sum ends of.0 of.1 of.2 }

  -- it stopped before
  pub read_stopped : (now : State (Lines H) S O) (left left' : Option (List ℕ)) (s : DriveStop (LinesFault F)) → Driven now left left' (Err s) → Read now left left' (Err s)
  read_stopped now left left' stop.Input d =
      let of = lines_of d.read in
      record { read = d.read; few = d.few; consumed = d.consumed; lines = of.0; rest = of.1; stream = of.2; ends = (rest_short d.read now d.ends of.0 of.1 of.2, all_handled d.read now d.ends of.0 of.1 of.2) }
  read_stopped now left left' stop.Endless d =
      let of = lines_of d.read in
      record { read = d.read; few = d.few; consumed = d.consumed; lines = of.0; rest = of.1; stream = of.2; ends = (d.ends.0, rest_short d.read now d.ends.1 of.0 of.1 of.2, all_handled d.read now d.ends.1 of.0 of.1 of.2) }
  read_stopped now left left' (stop.Consumer fault) d =
      let of = lines_of d.read in
      record {
        read = d.read;
        few = d.few;
        consumed = d.consumed;
        lines = of.0;
        rest = of.1;
        stream = of.2;
        ends = stopped_in d.read [] now (IsAtEnd left') fault d.ends of.0 of.1 (subst (λ (bytes : List ℕ). LinesOf bytes of.0 of.1) (sym (append-nil d.read)) of.2);
      }

  -- ---- a slice

  -- a slice was taken in part
  pub slice_stopped : (now : State (Lines H) S O) (input : List ℕ) (at_end : Type 0) (fault : LinesFault F) → DrivesSlice (RestsLines handles flushes is_flushed) (StopsInLines handles flushes is_flushed stops) first now input (Err fault)
      → (lines : List (List ℕ)) (rest : List ℕ) → LinesOf input lines rest → EndsLines handles flushes is_flushed stops (inner_of_lines first) (inner_of_lines now) now.own.count lines rest at_end (Err fault)
  slice_stopped now input at_end fault d lines rest of =
      stopped_in d.0 d.1 now at_end fault d.3 lines rest (subst (λ (bytes : List ℕ). LinesOf bytes lines rest) d.2 of)
