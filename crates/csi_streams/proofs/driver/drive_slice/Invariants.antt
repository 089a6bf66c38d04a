use Rattle.std.proofs.Common.{◌≡◌, ◌++◌, ℕ, List, [], length}
use Rattle.csi_streams.specs.Public.State.{State}
use Rattle.csi_streams.proofs.driver.drive_slice.Given as goal

-- what is in front of the rest was taken
abbrev pub invariant-loop-rest : goal.invariant-loop-rest
invariant-loop-rest g l =
    let first : State g.row.C.Denot g.row.S.Denot g.row.O.Denot = record { own = l.fn.consumer; store = l.fn.store; out = l.fn.out } in
    g.C.Consumer.rests first [] first → (fed : List ℕ) × (l.fn.input ≡ fed ++ l.rest) × g.C.Consumer.rests first fed (record { own = l.consumer; store = l.store; out = l.out })

abbrev pub decreases-loop-rest : goal.decreases-loop-rest
decreases-loop-rest g l = length l.rest
