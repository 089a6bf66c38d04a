use Rattle.std.proofs.Common.{◌≡◌, length}
use Rattle.csi_stores.specs.Public.Part.{all_stored_in}
use Rattle.csi_records.proofs.SplittingBytes.{IsSoFar}
use Rattle.csi_records.proofs.splitting.split.Given as goal

-- one part for each turn, and what is left stands behind them
abbrev pub invariant-loop : goal.invariant-loop
invariant-loop l =
    record {
      few : length l.parts.items ≡ l.counter;
      so_far : IsSoFar l.initial.fields.bytes.now (all_stored_in l.parts.items) l.fields.bytes.now;
    }
