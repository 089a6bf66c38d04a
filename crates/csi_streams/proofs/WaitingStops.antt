-- Where what waits isn't settled.
use Rattle.std.proofs.Common.{refl, inl, List, ℕ}
use Rattle.std.specs.Prelude.{Option}
use Rattle.csi_stores.specs.Public.Stores.{Store}
use Rattle.csi_streams.specs.declared.waiting.AnswerFault.{AnswerFault}
use Rattle.csi_streams.specs.declared.waiting.AnswerFault.TheVariants as why
use Rattle.csi_streams.specs.declared.waiting.Waiting.{Waiting}
use Rattle.csi_streams.specs.Public.Waiting.{Settling, SettleStops, WaitsSame, EndsWaiting, StopsAt}

pub waits-itself : (waiting : Waiting) → WaitsSame waiting waiting
waits-itself waiting = record { out = refl; parts = refl; items = refl; committed = refl; answers = refl }

module _ {K W : Type 0} (store : K → Store) (contents : W → Option (List ℕ)) where
  -- a refusal to settle ends it
  pub ends-so : (old new : Settling K W) (fault : AnswerFault) → SettleStops store contents old new fault → EndsWaiting store contents old new fault
  ends-so old new why.NoMemory stops = absurd stops
  ends-so old new (why.Keep fault) stops = stops
  ends-so old new why.Output stops = stops

  -- at once
  pub stops-at-once : (old new : Settling K W) (fault : AnswerFault) → SettleStops store contents old new fault → StopsAt store contents old new fault
  stops-at-once old new fault stops = (old, old, inl refl, waits-itself old.own, refl, refl, ends-so old new fault stops)
