-- How far serving has come.
use Rattle.std.proofs.Common.{◌≡◌, sym, subst, ℕ, List}
use Rattle.std.specs.Prelude.{Option, is_some}
use Rattle.csi_types.specs.Model.Frame.{Frame}
use Rattle.csi_streams.specs.Public.Framing.{Runs, begins, handled, flushed}
use Rattle.csi_streams.specs.declared.waiting.AnswerFault.{AnswerFault}
use Rattle.csi_streams.specs.Public.Waiting.{Settling, StopsAt}
use Rattle.csi_streams.proofs.Groups.{IsFresh, Came, came-begun, came-settles, came-answered, Finished}
use Rattle.csi_stores.specs.Public.Part.{StoredPart}
use Rattle.csi_stores.specs.Public.Stores.{Store}
use Rattle.csi_service.specs.Private.Handling.{Serving, waiting_of, IsHandled, Flushes}
use Rattle.csi_service.specs.Public.Serving.{reply_bytes}

module _ {C K W : Type 0} (answers : C → Frame → Option Frame → C → Type 0) (parts_of : C → List StoredPart) (store : K → Store) (contents : W → Option (List ℕ)) where
  -- this and the next two: a frame was answered; what waits was settled; or it stops
  abbrev pub handles : Serving C K W → ℕ → Frame → Serving C K W → Type 0
  handles old place frame new = IsHandled answers parts_of store contents old frame new

  abbrev pub flushes : Serving C K W → Serving C K W → Type 0
  flushes = Flushes store contents

  abbrev pub stops : Serving C K W → Option Frame → Serving C K W → AnswerFault → Type 0
  stops old frame new = StopsAt store contents (waiting_of old) (waiting_of new)

  module _ (first : Serving C K W) where
    -- how far it came, from a first core
    abbrev pub CameTo : List Frame → C → Settling K W → Type 0
    CameTo = Came answers parts_of reply_bytes is_some store contents first.own.core (waiting_of first)

    -- and where nothing waits
    abbrev pub Done : List Frame → C → Settling K W → Type 0
    Done = Finished answers parts_of reply_bytes is_some store contents first.own.core (waiting_of first)

    -- frames that were handled were answered
    pub came_by : (now : Serving C K W) (frames : List Frame) → IsFresh first.own.waiting → Runs handles flushes first frames now → CameTo frames now.own.core (waiting_of now)
    came_by now frames fresh begins = came-begun answers parts_of reply_bytes is_some store contents first.own.core (waiting_of first) fresh
    came_by now frames fresh (handled fs before frame _ run did) =
        came-answered answers parts_of reply_bytes is_some store contents first.own.core (waiting_of first) fs before.own.core (waiting_of before) frame now.own.core (waiting_of now) (came_by before fs fresh run) did
    came_by now frames fresh (flushed _ before _ run did) =
        subst (λ (c : C). CameTo frames c (waiting_of now)) (sym did.1)
        (came-settles answers parts_of reply_bytes is_some store contents first.own.core (waiting_of first) frames before.own.core (waiting_of before) (waiting_of now) (came_by before frames fresh run) did.0)
