-- What settles a volume, as the events for which it stands, and runs that are told by these.
use Rattle.std.proofs.Common.{◌≡◌, ℕ, zero, suc, ◌+◌, List, [], ◌∷◌, ◌++◌, length, Bool, true, false, cond, not, ◌||◌, refl, ◌∙◌, ap, arith}
use Rattle.std.specs.Prelude.{is_none}
use Rattle.csi_types.specs.declared.event.Event.{Event}
use Rattle.csi_types.specs.declared.event.Event.TheVariants.{Timeout, Deliver, Settle}
use Rattle.csi_orchestrator.specs.Model.Readings.{has_row}
use Rattle.csi_world.specs.declared.outcomes.Outcome.TheVariants as outcomes
use Rattle.csi_world.specs.Model.World.{World}
use Rattle.csi_world.specs.Model.After.{OnItsWay, frame_numbered, is_at_rest, delivered_on, way_after_timeout, settling_way, occurs, after_from}
use Rattle.csi_world.specs.Public.Settling.{deliveries, settling, settled, spelled, spelled_from}
use Rattle.csi_world.specs.Private.Telling.{counted_deliveries, counted_events}

-- what each delivery keeps, all keep
on-keeps : (P : World → Type 0) → (name : List ℕ) → ((world : World) (number : ℕ) → P world → P (occurs world (Deliver number)).world)
    → (more : ℕ) (way : OnItsWay) (place : ℕ) → P way.world → P (delivered_on more way name place).world
on-keeps P name delivery zero way place p = p
on-keeps P name delivery (suc more) way place p =
    by (is_at_rest way.world name || is_none (frame_numbered way.world (suc place))) (on-keeps P name delivery more next (suc place) (delivery way.world (suc place) p))
  where
    next : OnItsWay
    next = record { world = (occurs way.world (Deliver (suc place))).world; events = way.events + 1 }

    by : (b : Bool) → P (delivered_on more next name (suc place)).world → P (cond b way (delivered_on more next name (suc place))).world
    by true q = p
    by false q = q

-- what a timeout and each delivery keep, an event that settles a volume keeps
pub settled-keeps : (P : World → Type 0) → (name : List ℕ) → ((world : World) → P world → P (occurs world (Timeout name)).world)
    → ((world : World) (number : ℕ) → P world → P (occurs world (Deliver number)).world) → (world : World) → P world → P (occurs world (Settle name)).world
settled-keeps P name timeout delivery world p = by (is_at_rest world name || not (has_row world.history name))
  where
    still : OnItsWay
    still = record { world = world; events = 0 }

    timed : OnItsWay
    timed = record { world = (occurs world (Timeout name)).world; events = 1 }

    by : (b : Bool) → P (cond b still (way_after_timeout world name)).world
    by true = p
    by false = on-keeps P name delivery 12 timed (length world.frames) (timeout world p)

-- the deliveries lead to the world that is on its way
on-world : (more : ℕ) (way : OnItsWay) (name : List ℕ) (place : ℕ) → (after_from way.world (deliveries more way.world name place)).world ≡ (delivered_on more way name place).world
on-world zero way name place = refl
on-world (suc more) way name place = by (is_at_rest way.world name || is_none (frame_numbered way.world (suc place))) (on-world more next name (suc place))
  where
    next : OnItsWay
    next = record { world = (occurs way.world (Deliver (suc place))).world; events = way.events + 1 }

    by : (b : Bool) → (after_from next.world (deliveries more next.world name (suc place))).world ≡ (delivered_on more next name (suc place)).world
        → (after_from way.world (cond b [] (Deliver (suc place) ∷ deliveries more next.world name (suc place)))).world ≡ (cond b way (delivered_on more next name (suc place))).world
    by true rest = refl
    by false rest = rest

-- and they are as many as are counted
on-count : (more : ℕ) (way : OnItsWay) (name : List ℕ) (place : ℕ) → way.events + length (deliveries more way.world name place) ≡ (delivered_on more way name place).events
on-count zero way name place = omega arith
on-count (suc more) way name place = by (is_at_rest way.world name || is_none (frame_numbered way.world (suc place))) (on-count more next name (suc place))
  where
    next : OnItsWay
    next = record { world = (occurs way.world (Deliver (suc place))).world; events = way.events + 1 }

    by : (b : Bool) → (way.events + 1) + length (deliveries more next.world name (suc place)) ≡ (delivered_on more next name (suc place)).events
        → way.events + length (cond b [] (Deliver (suc place) ∷ deliveries more next.world name (suc place))) ≡ (cond b way (delivered_on more next name (suc place))).events
    by true rest = omega arith
    by false rest = omega (arith, rest)

-- the events that settle a volume lead to the same world
pub settled-world : (world : World) (name : List ℕ) → (after_from world (settling world name)).world ≡ (occurs world (Settle name)).world
settled-world world name = by (is_at_rest world name || not (has_row world.history name))
  where
    still : OnItsWay
    still = record { world = world; events = 0 }

    timed : OnItsWay
    timed = record { world = (occurs world (Timeout name)).world; events = 1 }

    by : (b : Bool) → (after_from world (cond b [] (Timeout name ∷ deliveries 12 timed.world name (length world.frames)))).world ≡ (cond b still (way_after_timeout world name)).world
    by true = refl
    by false = on-world 12 timed name (length world.frames)

-- and are as many
pub settled-count : (world : World) (name : List ℕ) → length (settling world name) ≡ (settling_way world name).events
settled-count world name = by (is_at_rest world name || not (has_row world.history name))
  where
    still : OnItsWay
    still = record { world = world; events = 0 }

    timed : OnItsWay
    timed = record { world = (occurs world (Timeout name)).world; events = 1 }

    by : (b : Bool) → length (cond b [] (Timeout name ∷ deliveries 12 timed.world name (length world.frames))) ≡ (cond b still (way_after_timeout world name)).events
    by true = refl
    by false = let rest = on-count 12 timed name (length world.frames) in omega (arith, rest)

-- once the volume is at rest, a schedule's event tells so
pub rest-told : (world : World) (name : List ℕ) → is_at_rest (settled world name) name ≡ true → occurs world (Settle name) ≡ record { world = settled world name; outcome = outcomes.Settled (length (settling world name)) }
rest-told world name rest = grind (arith, settled-count, settled-world, ℕ, Bool)

-- ---- runs

-- the world after events and others
pub after-joined : (world : World) (events more : List Event) → (after_from world (events ++ more)).world ≡ (after_from (after_from world events).world more).world
after-joined world [] more = refl
after-joined world (event ∷ others) more = after-joined (occurs world event).world others more

-- an event, told by events that settle nothing
spelled-world : (world : World) (event : Event) → (after_from world (spelled world event)).world ≡ (occurs world event).world
spelled-world world (Settle name) = settled-world world name
spelled-world world event = refl

-- so are many
pub all-spelled : (world : World) (events : List Event) → (after_from world (spelled_from world events)).world ≡ (after_from world events).world
all-spelled world [] = refl
all-spelled world (event ∷ others) =
    after-joined world (spelled world event) (spelled_from (occurs world event).world others)
    ∙ ap (λ w. (after_from w (spelled_from (occurs world event).world others)).world) (spelled-world world event) ∙ all-spelled (occurs world event).world others

-- ---- told by their numbers

-- deliveries are of frames one behind another
deliveries-counted : (more : ℕ) (way : OnItsWay) (name : List ℕ) (place : ℕ) → deliveries more way.world name place ≡ counted_deliveries place (length (deliveries more way.world name place))
deliveries-counted zero way name place = refl
deliveries-counted (suc more) way name place = by (is_at_rest way.world name || is_none (frame_numbered way.world (suc place))) (deliveries-counted more next name (suc place))
  where
    next : OnItsWay
    next = record { world = (occurs way.world (Deliver (suc place))).world; events = way.events + 1 }

    others : List Event
    others = deliveries more next.world name (suc place)

    by : (b : Bool) → others ≡ counted_deliveries (suc place) (length others) → cond b [] (Deliver (suc place) ∷ others) ≡ counted_deliveries place (length (cond b [] (Deliver (suc place) ∷ others)))
    by true rest = refl
    by false rest = ap (λ es. Deliver (suc place) ∷ es) rest

-- so are the events that settle a volume
pub settling-counted : (world : World) (name : List ℕ) → settling world name ≡ counted_events name (length world.frames) (settling_way world name).events
settling-counted world name = by (is_at_rest world name || not (has_row world.history name))
  where
    still : OnItsWay
    still = record { world = world; events = 0 }

    timed : OnItsWay
    timed = record { world = (occurs world (Timeout name)).world; events = 1 }

    place : ℕ
    place = length world.frames

    others : List Event
    others = deliveries 12 timed.world name place

    counted : suc (length others) ≡ (way_after_timeout world name).events
    counted = let rest = on-count 12 timed name place in omega (arith, rest)

    by : (b : Bool) → cond b [] (Timeout name ∷ others) ≡ counted_events name place (cond b still (way_after_timeout world name)).events
    by true = refl
    by false = ap (λ es. Timeout name ∷ es) (deliveries-counted 12 timed name place) ∙ ap (counted_events name place) counted

-- one delivery more
pub counted-more : (place count : ℕ) → counted_deliveries place (suc count) ≡ counted_deliveries place count ++ Deliver (suc (place + count)) ∷ []
counted-more place zero = let e : suc place ≡ suc (place + 0) = omega arith in ap (λ n. Deliver n ∷ []) e
counted-more place (suc count) =
    let e : suc (suc place + count) ≡ suc (place + suc count) = omega arith in
    ap (λ es. Deliver (suc place) ∷ es) (counted-more (suc place) count ∙ ap (λ n. counted_deliveries (suc place) count ++ Deliver n ∷ []) e)
