-- Events that are told one by one.
use Rattle.csi_world.proofs.Words.{◌≡◌, ℕ, suc, ◌+◌, List, [], ◌∷◌, ◌++◌, sym, ◌∙◌, ap, append-nil, append_assoc}
use Rattle.csi_world.proofs.Words.{arith, Event, Timeout, Deliver, Config, World, empty_world, occurs, after_from}
use Rattle.csi_world.proofs.Words.{after, spelled, spelled_from, spelled_out, WorldParts, IsAt, counted_events}
use Rattle.csi_world.proofs.SimulatedRuns.{after-more}
use Rattle.csi_world.proofs.SettledWorlds.{counted-more, all-spelled}

-- a timeout was told, and the deliveries of frames below this number
pub record HasTold (old : List Event) (name : List ℕ) (first number : ℕ) (new : List Event) : Type 0 where
  pub count : ℕ
  pub numbered : number ≡ suc count
  pub told : new ≡ old ++ counted_events name first (suc count)

-- one more
pub told-more : (old mid new : List Event) (name : List ℕ) (first number : ℕ) → new ≡ mid ++ Deliver (first + number) ∷ [] → HasTold old name first number mid → HasTold old name first (number + 1) new
told-more old mid new name first number told has =
    let numbered = has.numbered in
    let place : first + number ≡ suc (first + has.count) = omega (arith, numbered) in
    record {
      count = suc has.count;
      numbered = omega (arith, numbered);
      told = told ∙ ap (λ n. mid ++ Deliver n ∷ []) place ∙ ap (λ es. es ++ Deliver (suc (first + has.count)) ∷ []) has.told
          ∙ append_assoc old (counted_events name first (suc has.count)) (Deliver (suc (first + has.count)) ∷ [])
          ∙ ap (λ es. old ++ Timeout name ∷ es) (sym (counted-more first has.count));
    }

-- ---- of a run

-- these events were told, and it is the world after them
pub record IsToldTo (config : Config) (events : List Event) (shown : WorldParts) (told : List Event) : Type 0 where
  pub at : IsAt shown (after config events).world
  pub same : told ≡ spelled_out config events

-- one event more
spelled-more : (world : World) (events : List Event) (event : Event) → spelled_from world (events ++ event ∷ []) ≡ spelled_from world events ++ spelled (after_from world events).world event
spelled-more world [] event = append-nil (spelled world event)
spelled-more world (x ∷ xs) event =
    ap (λ es. spelled world x ++ es) (spelled-more (occurs world x).world xs event)
    ∙ sym (append_assoc (spelled world x) (spelled_from (occurs world x).world xs) (spelled (after_from (occurs world x).world xs).world event))

-- an event is told
pub told-next : (config : Config) (events : List Event) (event : Event) (mid new : WorldParts) (before told : List Event) → ((world : World) → IsAt mid world → IsAt new (occurs world event).world)
    → ((world : World) → IsAt mid world → told ≡ before ++ spelled world event) → IsToldTo config events mid before → IsToldTo config (events ++ event ∷ []) new told
told-next config events event mid new before told went more was = grind (arith, after-more, spelled-more)

-- what was told leads to the same world
pub told-same : (config : Config) (events told : List Event) → told ≡ spelled_out config events → (after config told).world ≡ (after config events).world
told-same config events told same = ap (λ es. (after config es).world) same ∙ all-spelled (empty_world config) events
