-- A volume on its way to rest, delivery by delivery.
use Rattle.csi_world.proofs.Words.{◌≡◌, ℕ, zero, suc, ◌+◌, ◌≤◌, ◌<◌, List, length, true, false, cond, not, ◌||◌}
use Rattle.csi_world.proofs.Words.{is_some, refl, sym, ◌∙◌, ap, subst, arith, Timeout, History, goal_of, has_row, Shows}
use Rattle.csi_world.proofs.Words.{Outcome, World, OnItsWay, frame_numbered, delivered, delivered_on, way_after_timeout}
use Rattle.csi_world.proofs.Words.{settling_way, settled_by, occurs, WorldParts, ShowsWorld, CameOn, IsWorldAfter}
use Rattle.csi_world.proofs.Words.{IsSoundWorld}
use Rattle.csi_world.specs.declared.outcomes.Outcome.TheVariants.{Settled, NotSettled}
use Rattle.csi_world.specs.Model.After.{is_at_rest}
use Rattle.csi_world.proofs.SettledEvents.{ends_at, rest-wanted, wanted-row}

-- so far it is this world, after so many events, from which so many deliveries more may be made
pub record IsOn (old : WorldParts) (start : OnItsWay) (name : List ℕ) (first count : ℕ) (shown : WorldParts) : Type 0 where
  pub way : OnItsWay
  pub more : ℕ
  pub place : ℕ
  pub outcomes : shown.outcomes ≡ old.outcomes
  pub own : IsSoundWorld shown
  pub shows : ShowsWorld shown way.world
  pub left : more + count ≡ 12
  pub placed : place ≡ first + count
  pub counted : count + 1 ≡ way.events
  pub rest : delivered_on 12 start name first ≡ delivered_on more way name place

-- at first
pub on-first : (old : WorldParts) (world : World) (name : List ℕ) (first : ℕ) → IsSoundWorld old → ShowsWorld old world → IsOn old (record { world = world; events = 1 }) name first 0 old
on-first old world name first own shows =
    record { way = record { world = world; events = 1 }; more = 12; place = first; outcomes = refl; own = own; shows = shows; left = refl; placed = omega arith; counted = refl; rest = refl }

-- where nothing is to be delivered, nothing changes
none-on : (more : ℕ) (way : OnItsWay) (name : List ℕ) (place : ℕ) → ends_at way.world name place ≡ true → delivered_on more way name place ≡ way
none-on more way name place ends = grind arith

-- all is delivered then
all-on : (old : WorldParts) (start : OnItsWay) (name : List ℕ) (first count : ℕ) (shown : WorldParts) (is : IsOn old start name first count shown) → delivered_on is.more is.way name is.place ≡ is.way
    → CameOn old shown (delivered_on 12 start name first) (count + 1)
all-on old start name first count shown is none =
    let same : is.way ≡ delivered_on 12 start name first = sym (is.rest ∙ none) in
    record { outcomes = is.outcomes; own = is.own; world = subst (λ (w : OnItsWay). ShowsWorld shown w.world) same is.shows; counted = is.counted ∙ ap (λ (w : OnItsWay). w.events) same }

pub on-ended : (old : WorldParts) (start : OnItsWay) (name : List ℕ) (first count : ℕ) (shown : WorldParts) → ((world : World) → ShowsWorld shown world → ends_at world name (first + count) ≡ true)
    → IsOn old start name first count shown → CameOn old shown (delivered_on 12 start name first) (count + 1)
on-ended old start name first count shown ends is =
    all-on old start name first count shown is (none-on is.more is.way name is.place (ap (ends_at is.way.world name) is.placed ∙ ends is.way.world is.shows))

-- so it is once there were twelve
pub on-twelve : (old : WorldParts) (start : OnItsWay) (name : List ℕ) (first count : ℕ) (shown : WorldParts) → 12 ≤ count
    → IsOn old start name first count shown → CameOn old shown (delivered_on 12 start name first) (count + 1)
on-twelve old start name first count shown many is = grind (arith, all-on)

-- one more is delivered
pub on-more : (old : WorldParts) (start : OnItsWay) (name : List ℕ) (first count number : ℕ) (outcome : Outcome) (mid new : WorldParts) → count < 12 → number ≡ first + count + 1
    → ((world : World) → ShowsWorld mid world → ends_at world name (first + count) ≡ false)
    → ((world : World) → IsSoundWorld mid → ShowsWorld mid world → IsWorldAfter mid new outcome (delivered world (frame_numbered world number)))
    → IsOn old start name first count mid → IsOn old start name first (count + 1) new
on-more old start name first count number outcome mid new few numbered goes came is = by is.more is.left is.rest
  where
    world : World
    world = is.way.world

    place : ℕ
    place = is.place

    next : OnItsWay
    next = record { world = (delivered world (frame_numbered world (suc place))).world; events = is.way.events + 1 }

    same : number ≡ suc place
    same = let placed = is.placed in omega (arith, numbered, placed)

    after : IsWorldAfter mid new outcome (delivered world (frame_numbered world (suc place)))
    after = subst (λ n. IsWorldAfter mid new outcome (delivered world (frame_numbered world n))) same (came world is.own is.shows)

    goes_on : ends_at world name place ≡ false
    goes_on = ap (ends_at world name) is.placed ∙ goes world is.shows

    by : (more : ℕ) → more + count ≡ 12 → delivered_on 12 start name first ≡ delivered_on more is.way name place → IsOn old start name first (count + 1) new
    by zero left rest = absurd (none left)
      where
        none : 0 + count ≡ 12 → ⊥
        none left = omega (arith, left, few)
    by (suc more) left rest =
        record {
          way = next;
          more = more;
          place = suc place;
          outcomes = after.outcomes ∙ is.outcomes;
          own = after.own;
          shows = after.world;
          left = omega (arith, left);
          placed = let placed = is.placed in omega (arith, placed);
          counted = let counted = is.counted in omega (arith, counted);
          rest = rest ∙ ap (λ b. cond b is.way (delivered_on more next name (suc place))) goes_on;
        }

-- ---- with the timeout

-- where nothing is wanted, nothing happens
pub nothing-on : (shown : WorldParts) (world : World) (name : List ℕ) → ((history : History) → Shows shown.orchestrator history → false ≡ is_some (goal_of history name)) → IsSoundWorld shown → ShowsWorld shown world
    → CameOn shown shown (settling_way world name) 0
nothing-on shown world name unwanted own shows = grind (arith, rest-wanted)

-- a timeout, and then the deliveries
pub all-went : (old mid new : WorldParts) (world : World) (name : List ℕ) (first count : ℕ) (outcome : Outcome) → ((history : History) → Shows old.orchestrator history → true ≡ is_some (goal_of history name))
    → first ≡ length old.frames → ShowsWorld old world → IsWorldAfter old mid outcome (occurs world (Timeout name))
    → ((timed : World) → IsSoundWorld mid → ShowsWorld mid timed → CameOn mid new (delivered_on 12 (record { world = timed; events = 1 }) name first) (count + 1))
    → CameOn old new (settling_way world name) (count + 1)
all-went old mid new world name first count outcome wanted sent shows timed then =
    subst (λ way. CameOn old new way (count + 1)) (sym all)
    (record { outcomes = went.outcomes ∙ timed.outcomes; own = went.own; world = went.world; counted = went.counted })
  where
    after : OnItsWay
    after = record { world = (occurs world (Timeout name)).world; events = 1 }

    went : CameOn mid new (delivered_on 12 after name first) (count + 1)
    went = then after.world timed.own timed.world

    is_wanted : is_some (goal_of world.history name) ≡ true
    is_wanted = sym (wanted world.history shows.orchestrator)

    still : OnItsWay
    still = record { world = world; events = 0 }

    all : settling_way world name ≡ delivered_on 12 after name first
    all =
        ap (λ b. cond (b || not (has_row world.history name)) still (way_after_timeout world name)) (rest-wanted world name ∙ ap not is_wanted)
        ∙ ap (λ b. cond (not b) still (way_after_timeout world name)) (wanted-row old.orchestrator world.history name shows.orchestrator is_wanted)
        ∙ ap (λ n. delivered_on 12 after name n) (ap length (sym shows.frames) ∙ sym sent)

-- ---- what comes of it

-- something is wanted still
pub told-wanted : (old new : WorldParts) (way : OnItsWay) (name : List ℕ) (count : ℕ) → ((history : History) → Shows new.orchestrator history → true ≡ is_some (goal_of history name)) → CameOn old new way count
    → IsWorldAfter old new (NotSettled count) (settled_by name way)
told-wanted old new way name count wanted came =
    let rest : is_at_rest way.world name ≡ false = rest-wanted way.world name ∙ ap not (sym (wanted way.world.history came.world.orchestrator)) in
    record { outcomes = came.outcomes; own = came.own; world = came.world; came = ap NotSettled came.counted ∙ ap (λ b. cond b (Settled way.events) (NotSettled way.events)) (sym rest) }

-- nothing is
pub told-at-rest : (old new : WorldParts) (way : OnItsWay) (name : List ℕ) (count : ℕ) → ((history : History) → Shows new.orchestrator history → false ≡ is_some (goal_of history name)) → CameOn old new way count
    → IsWorldAfter old new (Settled count) (settled_by name way)
told-at-rest old new way name count unwanted came =
    let rest : is_at_rest way.world name ≡ true = rest-wanted way.world name ∙ ap not (sym (unwanted way.world.history came.world.orchestrator)) in
    record { outcomes = came.outcomes; own = came.own; world = came.world; came = ap Settled came.counted ∙ ap (λ b. cond b (Settled way.events) (NotSettled way.events)) (sym rest) }
