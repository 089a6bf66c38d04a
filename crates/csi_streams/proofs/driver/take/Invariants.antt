use Rattle.std.proofs.Common.{◌<◌, ◌+◌, ◌++◌, ◌^◌, ℕ, List, length}
use Rattle.csi_streams.specs.Public.State.{State}
use Rattle.csi_streams.proofs.driver.take.Given as goal

-- the items that were given were handled
abbrev pub invariant-loop : goal.invariant-loop
invariant-loop g l = (first : State g.row.C.Denot g.row.S.Denot g.row.O.Denot) (bytes : List ℕ) → g.C.Consumer.rests first bytes (record { own = l.fn.consumer; store = l.fn.store; out = l.fn.out }) → length bytes + length l.fn.piece < 2 ^ 64
    → g.C.Consumer.reaches first (bytes ++ l.fn.piece) (record { own = l.consumer; store = l.store; out = l.out })

abbrev pub decreases-loop : goal.decreases-loop
decreases-loop g l = g.C.Consumer.kept l.consumer
