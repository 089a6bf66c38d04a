-- How far the lines of a stream were handled: from one piece and one line to the next.
use Rattle.std.proofs.Common.{◌≡◌, ◌∙◌, sym, ap, subst, refl, ℕ, ◌+◌, ◌-◌, ◌^◌, ◌<◌, min, List, [], ◌∷◌, ◌++◌, length, Option, Err, arith, length-append, append_assoc}
use Rattle.std.specs.List.{flat_map}
use Rattle.csi_streams.specs.declared.lines.Lines.{Lines}
use Rattle.csi_streams.specs.declared.lines.LinesFault.{LinesFault}
use Rattle.csi_streams.specs.declared.lines.LinesFault.TheVariants as faults
use Rattle.csi_streams.specs.Public.LinesOf.{HasNoNewline, with_newline, IsShort}
use Rattle.csi_streams.specs.Public.Lining.{no_line, line_handled, lines_flushed, ReachesLines, RestsLines, HasLine, StopsInLines}
use Rattle.csi_streams.specs.Public.State.{State}
use Rattle.csi_streams.specs.Private.Lining.{HandlesNextLine}
use Rattle.csi_streams.proofs.Items.{each-push}
use Rattle.csi_streams.proofs.LineStreams.{lines_few, lines-push}

-- a line and its newline are more than nothing
pub line-less : (old line new : List ℕ) → HasLine old line new → length new < length old
line-less old line new has = omega (arith, ap length has.0, length-append (with_newline line) new, length-append line (10 ∷ []))

module _ {H S O : Type 0} (handles : State H S O → ℕ → List ℕ → State H S O → Type 0) (flushes : State H S O → State H S O → Type 0) (first : State (Lines H) S O) (fed : List ℕ) where
  -- where something is kept, the next line's number is one more than the count
  pub number_is : (buffer : List ℕ) (count number : ℕ) (state : State H S O) → ReachesLines handles flushes first fed (record { own = record { buffer = buffer; count = count; handler = state.own }; store = state.store; out = state.out }) → 0 < length buffer → number ≡ min (count + 1) (2 ^ 64 - 1) → number ≡ count + 1
  number_is buffer count number state p there sum =
      omega (arith, sum, p.counted, p.few, ap length p.whole, length-append (flat_map with_newline p.done) buffer, lines_few p.done)

  -- a piece more
  pub fed_more : (piece buffer : List ℕ) (count : ℕ) (handler : H) (store : S) (out : O)
      → ReachesLines handles flushes first fed (record { own = record { buffer = buffer; count = count; handler = handler }; store = store; out = out }) → length fed + length piece < 2 ^ 64
      → ReachesLines handles flushes first (fed ++ piece) (record { own = record { buffer = buffer ++ piece; count = count; handler = handler }; store = store; out = out })
  fed_more piece buffer count handler store out p few = record {
    few = omega (arith, length-append fed piece, few);
    done = p.done;
    each = p.each;
    whole = ap (λ (bytes : List ℕ). bytes ++ piece) p.whole ∙ append_assoc (flat_map with_newline p.done) buffer piece;
    counted = p.counted;
    runs = p.runs;
  }

  -- a line more
  pub handled_more : (old new line : List ℕ) (count number : ℕ) (before now : State H S O)
      → ReachesLines handles flushes first fed (record { own = record { buffer = old; count = count; handler = before.own }; store = before.store; out = before.out })
      → HasLine old line new → handles before number line now → number ≡ min (count + 1) (2 ^ 64 - 1)
      → ReachesLines handles flushes first fed (record { own = record { buffer = new; count = number; handler = now.own }; store = now.store; out = now.out })
  handled_more old new line count number before now p has did sum =
      let is : number ≡ count + 1 = number_is old count number before p (omega (arith, line-less old line new has)) sum in
      record {
        few = p.few;
        done = p.done ++ line ∷ [];
        each = each-push HasNoNewline p.done line p.each has.1;
        whole = p.whole ∙ ap (λ (bytes : List ℕ). flat_map with_newline p.done ++ bytes) has.0 ∙ sym (lines-push p.done line new);
        counted = omega (arith, is, p.counted, length-append p.done (line ∷ []));
        runs = line_handled p.done before line now p.runs has.2 (subst (λ (n : ℕ). handles before n line now) (is ∙ ap (λ n. n + 1) p.counted) did);
      }

  -- nothing more is there, and what waited was written
  pub rested : (is_flushed : H → Type 0) (old new : List ℕ) (count : ℕ) (before now : State H S O)
      → ReachesLines handles flushes first fed (record { own = record { buffer = old; count = count; handler = before.own }; store = before.store; out = before.out })
      → HasNoNewline old → IsShort old → new ≡ old → flushes before now → is_flushed now.own
      → RestsLines handles flushes is_flushed first fed (record { own = record { buffer = new; count = count; handler = now.own }; store = now.store; out = now.out })
  rested is_flushed old new count before now p waits short same wrote none =
      subst (λ (bytes : List ℕ). RestsLines handles flushes is_flushed first fed (record { own = record { buffer = bytes; count = count; handler = now.own }; store = now.store; out = now.out })) (sym same)
      (record {
        reached = record { few = p.few; done = p.done; each = p.each; whole = p.whole; counted = p.counted; runs = lines_flushed p.done before now p.runs wrote };
        waits = waits;
        short = short;
        flushed = none;
      })

  -- it stopped at the next line, or where none is
  pub stopped : {F : Type 0} (is_flushed : H → Type 0) (stops : State H S O → Option (List ℕ) → State H S O → F → Type 0) (number : ℕ) (old new : List ℕ) (count : ℕ) (before now : State H S O) (fault : LinesFault F)
      → ReachesLines handles flushes first fed (record { own = record { buffer = old; count = count; handler = before.own }; store = before.store; out = before.out })
      → number ≡ min (count + 1) (2 ^ 64 - 1) → HandlesNextLine handles flushes is_flushed stops number old new before now (Err fault)
      → StopsInLines handles flushes is_flushed stops first fed (record { own = record { buffer = new; count = count; handler = now.own }; store = now.store; out = now.out }) fault
  stopped is_flushed stops number old new count before now (faults.Long at) p sum next = record {
    fed = fed;
    before = record { own = record { buffer = old; count = count; handler = before.own }; store = before.store; out = before.out };
    reached = p;
    counted = refl;
    behind = (
      refl,
      next.0,
      next.1 ∙ number_is old count number before p (omega (arith, ap length next.0.2, length-append next.0.0 next.0.1, next.0.4)) sum,
      next.2,
      next.3,
    );
  }
  stopped is_flushed stops number old new count before now faults.NoMemory p sum next = absurd next
  stopped is_flushed stops number old new count before now (faults.Handler fault) p sum next = record {
    fed = fed;
    before = record { own = record { buffer = old; count = count; handler = before.own }; store = before.store; out = before.out };
    reached = p;
    counted = refl;
    behind = (next.0, refl, next.1, next.2);
  }

-- nothing was read yet
pub begun-lines : {H S O : Type 0} (handles : State H S O → ℕ → List ℕ → State H S O → Type 0) (flushes : State H S O → State H S O → Type 0) (is_flushed : H → Type 0) (first : State (Lines H) S O)
    → first.own.buffer ≡ [] → first.own.count ≡ 0 → is_flushed first.own.handler → RestsLines handles flushes is_flushed first [] first
begun-lines handles flushes is_flushed first new none nothing = record {
  reached = record { few = omega arith; done = []; each = tt; whole = sym new; counted = none; runs = no_line };
  waits = subst HasNoNewline (sym new) tt;
  short = omega (arith, ap length new);
  flushed = nothing;
}
