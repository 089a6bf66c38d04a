-- Events by which a volume comes to rest, one after another.
use Rattle.csi_world.proofs.Words.{◌≡◌, ℕ, zero, suc, ◌+◌, ◌≤◌, ◌<◌, List, [], ◌∷◌, ◌++◌, length, map, get_or, set}
use Rattle.csi_world.proofs.Words.{slice_get, Bool, true, false, cond, not, Some, None, ◌||◌, refl, sym, ◌∙◌, ap}
use Rattle.csi_world.proofs.Words.{subst, append-nil, append_assoc, length-append, arith, list_any, is_some, is_none}
use Rattle.csi_world.proofs.Words.{option_and_then, Event, Timeout, Deliver, Config, NodeParts, same_text, History}
use Rattle.csi_world.proofs.Words.{goal_of, has_row, RowShown, OrchestratorParts, row_of, goal_in, goal_shown, Shows}
use Rattle.csi_world.proofs.Words.{World, empty_world, Run, occurs, after, is_at_rest, deliveries, settling, settled}
use Rattle.csi_world.proofs.Words.{WorldParts, ShowsRun, ShowsWorld, WentOn, IsOfOneMake, IsRun, IsLogged}
use Rattle.csi_world.proofs.Words.{IsSoundWorld, has_same_id}
use Rattle.csi_world.proofs.Lemmas.{any-of_map, is_some-map, FirstAt-find, FirstAt-position, find-no_place}
use Rattle.csi_orchestrator.specs.declared.row.Row.{Row}
use Rattle.csi_orchestrator.specs.Public.Changed.{place_by_name}
use Rattle.csi_orchestrator.specs.Public.Shown.{row_shown}
use Rattle.csi_world.proofs.SettledWorlds.{after-joined}
use Rattle.csi_world.proofs.SimulatedRuns.{after-more, run-more}

-- ---- whether something is wanted

-- by the row of the name
pub row-wanted : (parts : OrchestratorParts) (history : History) (name : List ℕ) (rows : List Row) (place : ℕ) (row : Row) → Shows parts history → map row_shown rows ≡ parts.rows → Some place ≡ place_by_name name parts.rows
    → row ≡ get_or rows place row → is_some row.goal ≡ is_some (goal_of history name)
row-wanted parts history name rows place row agrees same there is =
    let p : RowShown → Bool = λ r. same_text r.name name in
    let here : row_shown row ≡ get_or parts.rows place (row_shown row) = ap row_shown is ∙ shown rows place row ∙ ap (λ rs. get_or rs place (row_shown row)) same in
    let found : row_of parts.rows name ≡ Some (row_shown row) = FirstAt-find p parts.rows place (row_shown row) (FirstAt-position p parts.rows place (row_shown row) (sym there) here) in
    sym (is_some-map (goal_shown row.arguments) row.goal) ∙ ap is_some (ap (option_and_then goal_in) (sym found) ∙ agrees.same_goals name)
  where
    shown : (rows : List Row) (place : ℕ) (d : Row) → row_shown (get_or rows place d) ≡ get_or (map row_shown rows) place (row_shown d)
    shown [] place d = refl
    shown (r ∷ rs) zero d = refl
    shown (r ∷ rs) (suc place) d = shown rs place d

-- where the name has no row
pub none-wanted : (parts : OrchestratorParts) (history : History) (name : List ℕ) → Shows parts history → None ≡ place_by_name name parts.rows → false ≡ is_some (goal_of history name)
none-wanted parts history name agrees none =
    ap is_some (ap (option_and_then goal_in) (sym (find-no_place (λ (r : RowShown). same_text r.name name) parts.rows (sym none))) ∙ agrees.same_goals name)

-- what is wanted is wanted of a name that has a row
pub wanted-row : (parts : OrchestratorParts) (history : History) (name : List ℕ) → Shows parts history → is_some (goal_of history name) ≡ true → has_row history name ≡ true
wanted-row parts history name agrees wanted = grind arith

-- nothing is wanted of a volume at rest
pub rest-wanted : (world : World) (name : List ℕ) → is_at_rest world name ≡ not (is_some (goal_of world.history name))
rest-wanted world name = grind arith

-- ---- deliveries

-- so many were made of those that are to be, and these are left
pub record HasDelivered (config : Config) (events : List Event) (name : List ℕ) (first count : ℕ) (shown : WorldParts) : Type 0 where
  pub made : List Event
  pub more : ℕ
  pub place : ℕ
  pub is_run : IsRun config (events ++ made) shown
  pub counted : count ≡ length made
  pub left : more + count ≡ 12
  pub placed : place ≡ first + count
  pub rest : deliveries 12 (after config events).world name first ≡ made ++ deliveries more (after config (events ++ made)).world name place

-- whether one more is to be made
abbrev pub ends_at : World → List ℕ → ℕ → Bool
ends_at world name place = is_at_rest world name || is_none (slice_get world.frames place)

-- none is, where the test says that it doesn't go on
pub ends-there : (world : World) (name : List ℕ) (place : ℕ) → false ≡ not (ends_at world name place) → ends_at world name place ≡ true
ends-there world name place e = grind arith

-- and one is, where it does
pub goes-there : (world : World) (name : List ℕ) (place : ℕ) → true ≡ not (ends_at world name place) → ends_at world name place ≡ false
goes-there world name place e = grind arith

-- at first none was
pub none-delivered : (config : Config) (events : List Event) (name : List ℕ) (first : ℕ) (shown : WorldParts) → IsRun config events shown → HasDelivered config events name first 0 shown
none-delivered config events name first shown run =
    record {
      made = [];
      more = 12;
      place = first;
      is_run = subst (λ es. IsRun config es shown) (sym (append-nil events)) run;
      counted = refl;
      left = refl;
      placed = omega arith;
      rest = ap (λ es. deliveries 12 (after config es).world name first) (sym (append-nil events));
    }

-- where none is to be made, none is left
none-left : (more : ℕ) (world : World) (name : List ℕ) (place : ℕ) → ends_at world name place ≡ true → deliveries more world name place ≡ []
none-left zero world name place ends = refl
none-left (suc more) world name place ends = ap (λ b. cond b [] (Deliver (suc place) ∷ deliveries more (occurs world (Deliver (suc place))).world name (suc place))) ends

-- all are made then
all-made : (config : Config) (events : List Event) (name : List ℕ) (first count : ℕ) (shown : WorldParts) (has : HasDelivered config events name first count shown) → deliveries has.more (after config (events ++ has.made)).world name has.place ≡ []
    → WentOn config events (deliveries 12 (after config events).world name first) shown count
all-made config events name first count shown has none =
    let same = has.rest ∙ ap (λ es. has.made ++ es) none ∙ append-nil has.made in
    record { is_run = subst (λ es. IsRun config (events ++ es) shown) (sym same) has.is_run; counted = has.counted ∙ ap length (sym same) }

pub delivered-all : (config : Config) (events : List Event) (name : List ℕ) (first count : ℕ) (shown : WorldParts) → ((world : World) → ShowsWorld shown world → ends_at world name (first + count) ≡ true)
    → HasDelivered config events name first count shown → WentOn config events (deliveries 12 (after config events).world name first) shown count
delivered-all config events name first count shown ends has =
    all-made config events name first count shown has
    (none-left has.more (after config (events ++ has.made)).world name has.place (ap (ends_at (after config (events ++ has.made)).world name) has.placed ∙ ends (after config (events ++ has.made)).world ((has.is_run).shows).world))

-- so they are once there were twelve
pub delivered-twelve : (config : Config) (events : List Event) (name : List ℕ) (first count : ℕ) (shown : WorldParts) → 12 ≤ count
    → HasDelivered config events name first count shown → WentOn config events (deliveries 12 (after config events).world name first) shown count
delivered-twelve config events name first count shown many has = all-made config events name first count shown has (by has.more has.left)
  where
    by : (more : ℕ) → more + count ≡ 12 → deliveries more (after config (events ++ has.made)).world name has.place ≡ []
    by zero left = refl
    by (suc more) left = absurd (none left)
      where
        none : suc more + count ≡ 12 → ⊥
        none left = omega (arith, left, many)

-- one more is made
pub delivered-more : (config : Config) (events : List Event) (name : List ℕ) (first count number : ℕ) (old new : WorldParts) → count < 12 → number ≡ first + count + 1
    → ((world : World) → ShowsWorld old world → ends_at world name (first + count) ≡ false)
    → ((world : World) → IsSoundWorld old → ShowsWorld old world → IsLogged old new (occurs world (Deliver number)))
    → HasDelivered config events name first count old → HasDelivered config events name first (count + 1) new
delivered-more config events name first count number old new few numbered goes occurred has = by has.more has.left has.rest
  where
    made : List Event
    made = has.made

    world : World
    world = (after config (events ++ made)).world

    event : Event
    event = Deliver (suc has.place)

    same : Deliver number ≡ event
    same = let placed = has.placed in let e : number ≡ suc has.place = omega (arith, numbered, placed) in ap Deliver e

    logged : IsLogged old new (occurs world event)
    logged = subst (λ (e : Event). IsLogged old new (occurs world e)) same (occurred world (has.is_run).own ((has.is_run).shows).world)

    joined : ((events ++ made) ++ event ∷ []) ≡ (events ++ (made ++ event ∷ []))
    joined = append_assoc events made (event ∷ [])

    run : IsRun config (events ++ (made ++ event ∷ [])) new
    run = subst (λ es. IsRun config es new) joined (run-more config (events ++ made) event old new has.is_run logged)

    world_then : (after config (events ++ (made ++ event ∷ []))).world ≡ (occurs world event).world
    world_then = ap (λ es. (after config es).world) (sym joined) ∙ ap (λ (r : Run). r.world) (after-more (empty_world config) (events ++ made) event)

    goes_on : ends_at world name has.place ≡ false
    goes_on = ap (ends_at world name) has.placed ∙ goes world ((has.is_run).shows).world

    by : (more : ℕ) → more + count ≡ 12 → deliveries 12 (after config events).world name first ≡ made ++ deliveries more world name has.place → HasDelivered config events name first (count + 1) new
    by zero left rest = absurd (none left)
      where
        none : 0 + count ≡ 12 → ⊥
        none left = omega (arith, left, few)
    by (suc more) left rest =
        record {
          made = made ++ event ∷ [];
          more = more;
          place = suc has.place;
          is_run = run;
          counted = let own = has.counted in let long = length-append made (event ∷ []) in omega (arith, own, long);
          left = omega (arith, left);
          placed = let placed = has.placed in omega (arith, placed);
          rest = rest
              ∙ ap (λ b. made ++ cond b [] (event ∷ deliveries more (occurs world event).world name (suc has.place))) goes_on
              ∙ sym (append_assoc made (event ∷ []) (deliveries more (occurs world event).world name (suc has.place)))
              ∙ ap (λ w. (made ++ event ∷ []) ++ deliveries more w name (suc has.place)) (sym world_then);
        }

-- ---- with the timeout

-- a timeout, and then the deliveries
pub all-settled : (config : Config) (events : List Event) (name : List ℕ) (first count : ℕ) (old mid new : WorldParts) → ((history : History) → Shows old.orchestrator history → true ≡ is_some (goal_of history name)) → first ≡ length old.frames
    → ((world : World) → IsSoundWorld old → ShowsWorld old world → IsLogged old mid (occurs world (Timeout name)))
    → ((more : List Event) → IsRun config more mid → WentOn config more (deliveries 12 (after config more).world name first) new count)
    → IsRun config events old → WentOn config events (settling (after config events).world name) new (count + 1)
all-settled config events name first count old mid new wanted sent occurred then run =
    subst (λ es. WentOn config events es new (count + 1)) (sym all)
    (record { is_run = subst (λ es. IsRun config es new) (append_assoc events (event ∷ []) others) went.is_run; counted = let own = went.counted in omega (arith, own) })
  where
    world : World
    world = (after config events).world

    event : Event
    event = Timeout name

    shows : ShowsWorld old world
    shows = (run.shows).world

    others : List Event
    others = deliveries 12 (after config (events ++ event ∷ [])).world name first

    went : WentOn config (events ++ event ∷ []) others new count
    went = then (events ++ event ∷ []) (run-more config events event old mid run (occurred world run.own shows))

    is_wanted : is_some (goal_of world.history name) ≡ true
    is_wanted = sym (wanted world.history shows.orchestrator)

    place : length world.frames ≡ first
    place = ap length (sym shows.frames) ∙ sym sent

    all : settling world name ≡ event ∷ others
    all =
        ap (λ b. cond (b || not (has_row world.history name)) [] (event ∷ deliveries 12 (occurs world event).world name (length world.frames))) (rest-wanted world name ∙ ap not is_wanted)
        ∙ ap (λ b. cond (not b) [] (event ∷ deliveries 12 (occurs world event).world name (length world.frames))) (wanted-row old.orchestrator world.history name shows.orchestrator is_wanted)
        ∙ ap (λ w. event ∷ deliveries 12 w name (length world.frames)) (ap (λ (r : Run). r.world) (sym (after-more (empty_world config) events event)))
        ∙ ap (λ n. event ∷ deliveries 12 (after config (events ++ event ∷ [])).world name n) place

-- ---- worlds of one make

pub make-same : (shown : WorldParts) → IsOfOneMake shown shown
make-same shown = record { config = refl; ids = refl }

pub make-then : (first next last : WorldParts) → IsOfOneMake first next → IsOfOneMake next last → IsOfOneMake first last
make-then first next last a b = record { config = b.config ∙ a.config; ids = b.ids ∙ a.ids }

-- a node's parts put in the place of those of its id
pub same-ids : (nodes : List NodeParts) (place : ℕ) (old new : NodeParts) → old ≡ get_or nodes place old → new.id ≡ old.id → map (λ (n : NodeParts). n.id) (set nodes place new) ≡ map (λ (n : NodeParts). n.id) nodes
same-ids [] place old new is same = refl
same-ids (n ∷ ns) zero old new is same = ap (λ i. i ∷ map (λ (x : NodeParts). x.id) ns) (same ∙ ap (λ (x : NodeParts). x.id) is)
same-ids (n ∷ ns) (suc place) old new is same = ap (λ is. n.id ∷ is) (same-ids ns place old new is same)

-- whether a text comes twice
abbrev comes_twice : List (List ℕ) → Bool
comes_twice [] = false
comes_twice (text ∷ others) = list_any (same_text text) others || comes_twice others

by-ids : (nodes : List NodeParts) → has_same_id nodes ≡ comes_twice (map (λ (n : NodeParts). n.id) nodes)
by-ids [] = refl
by-ids (node ∷ others) = (λ i. sym (any-of_map (same_text node.id) (λ (n : NodeParts). n.id) others) i || by-ids others i)

-- stay sound
pub sound-stays : (old new : WorldParts) → IsOfOneMake old new → IsSoundWorld old → IsSoundWorld new
sound-stays old new make sound = grind (arith, by-ids)

-- ---- in a world

-- it is the one that settled
pub settled-is : (config : Config) (events : List Event) (name : List ℕ) → (after config (events ++ settling (after config events).world name)).world ≡ settled (after config events).world name
settled-is config events name = after-joined (empty_world config) events (settling (after config events).world name)

-- whether something is wanted then
pub rest-then : (config : Config) (events : List Event) (name : List ℕ) (shown : WorldParts) (wanted : Bool) → ((history : History) → Shows shown.orchestrator history → wanted ≡ is_some (goal_of history name))
    → ShowsRun shown (after config (events ++ settling (after config events).world name)) → not wanted ≡ is_at_rest (settled (after config events).world name) name
rest-then config events name shown wanted tells shows =
    let world : World = (after config (events ++ settling (after config events).world name)).world in
    ap not (tells world.history (shows.world).orchestrator) ∙ sym (rest-wanted world name) ∙ ap (λ w. is_at_rest w name) (settled-is config events name)
