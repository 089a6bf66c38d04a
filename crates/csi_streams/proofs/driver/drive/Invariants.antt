use Rattle.std.proofs.Common.{◌≡◌, ◌<◌, ◌-◌, ◌^◌, ℕ, List, length}
use Rattle.std.specs.Io.KnownBytes.{Consumes}
use Rattle.csi_frames.specs.Public.Bytes.{AreBytes}
use Rattle.csi_streams.specs.Public.State.{State}
use Rattle.csi_streams.proofs.driver.drive.Given as goal

-- all that was read was taken, and no failure was counted
abbrev pub invariant-loop-read : goal.invariant-loop-read
invariant-loop-read g l =
    let first : State g.row.C.Denot g.row.S.Denot g.row.O.Denot = record { own = l.fn.consumer; store = l.fn.store; out = l.fn.out } in
    record {
      taken : (bytes : List ℕ) × AreBytes bytes × Consumes (g.R.Source.remaining l.fn.reader) (g.R.Source.remaining l.reader) bytes × (l.read ≡ length bytes) × (length bytes < 2 ^ 64)
          × g.C.Consumer.rests first bytes (record { own = l.consumer; store = l.store; out = l.out });
      room : length l.piece ≡ length l.fn.piece;
      quiet : g.R.Source.faults l.reader ≡ g.R.Source.faults l.fn.reader;
    }

abbrev pub decreases-loop-read : goal.decreases-loop-read
decreases-loop-read g l = 2 ^ 63 - l.read
